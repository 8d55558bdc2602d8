-- What follows from a fact by one rule, row by row, with others that cells have.
use Rattle.std.specs.Prelude.{ℕ, ℤ, pos, ◌+◌, ◌-◌, ◌+ℤ◌, int_le, int_lt, Bool as Truth, true, false}
use Rattle.std.specs.Prelude.{◌&&◌, nat_eq, nat_lt}
use Rattle.std.specs.Prelude.{List, [], ◌∷◌, ◌++◌, length, Option, None, Some, if◌then◌else◌}
use Rattle.id_table.specs.declared.row.Node.{Node}
use Rattle.id_table.specs.declared.row.Node.TheVariants as node
use Rattle.id_table.specs.Loops.{index_row, lower_at, upper_at}
use Rattle.id_table.specs.Rows.{at}
use Rattle.id_check.specs.declared.checked.Checked.{Checked}
use Rattle.id_check.specs.Programs.{binder, rows}
use Rattle.id_meaning.specs.declared.calls.OnCall.{OnCall}
use Rattle.id_facts.specs.declared.cells.Cells.{Cells}
use Rattle.id_facts.specs.declared.cells.Point.{Point}
use Rattle.id_facts.specs.declared.facts.RowFact.{RowFact}
use Rattle.id_facts.specs.declared.facts.RowFact.TheVariants.{On, Has, Shape, Put, Ask}
use Rattle.id_facts.specs.declared.facts.RowValue.{RowValue}
use Rattle.id_facts.specs.declared.facts.RowValue.TheVariants.{Int, Bool, Name}
use Rattle.id_facts.specs.declared.facts.Trail.{Trail}
use Rattle.id_facts.specs.declared.facts.Trail.TheVariants.{Outermost, Below}
use Rattle.id_source.specs.declared.links.Links.{Links}
use Rattle.id_meaning.specs.declared.loops.Iteration.{Iteration}
use Rattle.id_meaning.specs.declared.counts.Counting.{Counting}
use Rattle.id_facts.specs.declared.queues.Queues.{Queues}
use Rattle.id_facts.specs.declared.queues.Wait.{Wait}
use Rattle.id_facts.specs.Cells.{asks, find, items, named, next_of, out_of, puts, queue_of}
use Rattle.id_facts.specs.RowFacts.{fact_at, same_trail}
use Rattle.id_facts.specs.Cells.{values}
use Rattle.id_source.specs.Links.{awaited, far_from, some_row, targets, test_of_loop}
use Rattle.id_facts.specs.Firsts.{ons, haves}
use Rattle.id_meaning.specs.Given.{seen, answered, given}
use Rattle.id_facts.specs.Queues.{queue}

-- whether it is this row
abbrev pub is_row : Option ℕ → ℕ → Truth
is_row None n = false
is_row (Some m) n = nat_eq m n

-- ---- calls

-- what stands where the `Enter` at the row has its binder
abbrev pub callee_by : Checked → Option ℕ → Node
callee_by P None = node.Head
callee_by P (Some d) = (at (rows P) d).node

-- what stands where the `Enter` at the row e has its binder, or a `Head` where it has none
abbrev pub callee_of : Checked → ℕ → Node
callee_of P e = callee_by P (binder P e)

-- the body of a procedure that stands so
abbrev pub body_in : Node → Option ℕ
body_in (node.Def x h k b) = Some b
body_in _ = None

-- the call of the `Enter` at the row e that is On by the fact of this number, where its procedure has this node
abbrev pub entered_by : ℕ → Option ℕ → Node → Option OnCall
entered_by e (Some i) (node.Def x h k b) = Some (record { enter = e; path = Below i 0; head = h; body = b })
entered_by e _ _ = None

-- the call at a row of this node at the path, if it is On
abbrev pub entered_of : Checked → Cells → Trail → ℕ → Node → Option OnCall
entered_of P c p n (node.Call e k) = entered_by e (find c p n) (callee_of P e)
entered_of P c p n _ = None

-- the call at the row n at the path, if a call stands there and is On
abbrev pub entered : Checked → Cells → Trail → ℕ → Option OnCall
entered P c p n = entered_of P c p n (at (rows P) n).node

-- the row of the parameter of this index behind its head, if there are so many rows
abbrev pub param_row : ℕ → ℕ → ℕ → Option ℕ
param_row k h i = if nat_lt h k && nat_lt i (k - h - 1) then Some (h + 1 + i) else None

-- the facts that the parameter Has these values, if there is one
abbrev pub param_haves : Trail → Option ℕ → List RowValue → List RowFact
param_haves q None vs = []
param_haves q (Some a) vs = haves q a vs

-- the facts that come by a row of this node, if it is an argument of the call
abbrev pub passed_of : Checked → Cells → RowFact → Trail → OnCall → Node → List RowFact
passed_of P c g p k (node.Arg e i v) =
    if nat_eq e k.enter
    then On p v ∷ param_haves k.path (param_row (length (rows P)) k.head i) (values c g p v) else []
passed_of P c g p k _ = []

-- the facts that come by these rows, as far as they are arguments of the call
abbrev pub all_passed : Checked → Cells → RowFact → Trail → OnCall → List ℕ → List RowFact
all_passed P c g p k [] = []
all_passed P c g p k (m ∷ ms) = passed_of P c g p k (at (rows P) m).node ++ all_passed P c g p k ms

-- the facts that come by the call at the row n at the path, if it is On
abbrev pub call_by : Checked → Links → Cells → RowFact → Trail → ℕ → Option OnCall → List RowFact
call_by P l c g p n None = []
call_by P l c g p n (Some k) =
    On k.path k.body ∷ (haves p n (values c g k.path k.body)
    ++ all_passed P c g p k (targets l.args.rows.items k.enter))

-- the facts that come by the call at the row n at the path, if a call stands there and is On
abbrev pub call_at : Checked → Links → Cells → RowFact → Trail → ℕ → List RowFact
call_at P l c g p n = call_by P l c g p n (entered P c p n)

-- that the parameter of this index Has the value in the call, if it is On and of the `Enter` at the row e
abbrev pub pass_by : Checked → ℕ → ℕ → RowValue → Option OnCall → List RowFact
pass_by P e i v None = []
pass_by P e i v (Some k) =
    if nat_eq k.enter e then param_haves k.path (param_row (length (rows P)) k.head i) (v ∷ []) else []

-- that the parameter of this index Has the value in the calls at these rows that are On and of the `Enter` e
abbrev pub all_passes : Checked → Cells → Trail → RowValue → ℕ → ℕ → List ℕ → List RowFact
all_passes P c p v e i [] = []
all_passes P c p v e i (n ∷ ns) = pass_by P e i v (entered P c p n) ++ all_passes P c p v e i ns

-- the facts that come where the row m Has the value, by a row of this node, if it is an argument of calls that are On
abbrev pub pass_of : Checked → Links → Cells → Trail → ℕ → RowValue → Node → List RowFact
pass_of P l c p m v (node.Arg e i a) =
    if nat_eq a m then all_passes P c p v e i (targets l.reads.rows.items e) else []
pass_of P l c p m v _ = []

-- ---- loops

-- the facts that the variable at the row m of this node Has its first values, of the loop at the row n with the head h
abbrev pub first_of : Checked → Cells → RowFact → Trail → ℕ → Trail → ℕ → ℕ → Node
    → List RowFact
first_of P c g p n q h m (node.Next x k o v) =
    if nat_eq (at (rows P) m).block h
    then haves q m (seen c g (out_of (items c) (far_from P n (binder P o)) p) (binder P o)) else []
first_of P c g p n q h m _ = []

-- the facts that these rows Have their first values, as far as they are variables of the loop with the head h
abbrev pub firsts : Checked → Cells → RowFact → Trail → ℕ → Trail → ℕ → List ℕ → List RowFact
firsts P c g p n q h [] = []
firsts P c g p n q h (m ∷ ms) =
    first_of P c g p n q h m (at (rows P) m).node ++ firsts P c g p n q h ms

-- the facts that come by the loop at the row n of this node, which may be On by the fact of this number
abbrev pub start_by : Checked → Links → Cells → RowFact → Trail → ℕ → Option ℕ → Node → List RowFact
start_by P l c g p n (Some i) (node.Loop h w t) =
    ons (Below i 0) (some_row (test_of_loop (rows P) (at (rows P) w).node))
    ++ firsts P c g p n (Below i 0) h (targets l.args.rows.items h)
start_by P l c g p n _ _ = []

-- the facts that come by the loop at the row n at the path, if a loop stands there and is On
abbrev pub start_at : Checked → Links → Cells → RowFact → Trail → ℕ → List RowFact
start_at P l c g p n = start_by P l c g p n (find c p n) (at (rows P) n).node

-- whether this waits for the row m at the path q
abbrev pub is_awaited_by : Checked → Cells → Trail → ℕ → Wait → Option ℕ → Truth
is_awaited_by P c q m w None = false
is_awaited_by P c q m w (Some b) =
    nat_eq b m && same_trail (out_of (items c) (far_from P w.row (Some b)) w.path) q

-- whether what this waits for is the row m at the path q
abbrev pub is_awaited : Checked → Cells → Trail → ℕ → Wait → Truth
is_awaited P c q m w = is_awaited_by P c q m w (awaited P w.user)

-- the fact that comes where a name or a loop at a row of this node, which may be On, gets the value that it waits for
abbrev pub woken_by : Checked → Wait → RowValue → Option ℕ → Node → Node → List RowFact
woken_by P w v (Some i) (node.Name x) y = if nat_eq w.user w.row then Has w.path w.row v ∷ [] else []
woken_by P w v (Some i) (node.Loop h s t) (node.Next x k o u) =
    if nat_eq (at (rows P) w.user).block h then Has (Below i 0) w.user v ∷ [] else []
woken_by P w v _ _ _ = []

-- the iteration of a loop at a row of this node
abbrev pub iteration_by : Node → Option Iteration
iteration_by (node.Loop h w l) = Some (record { head = h; switches = w; last = l })
iteration_by _ = None

-- the iteration of the loop that is On by the fact
abbrev pub iteration_in : Checked → RowFact → Option Iteration
iteration_in P (On p n) = iteration_by (at (rows P) n).node
iteration_in P _ = None

-- the iteration that the path ends in, if it ends in one
abbrev pub iteration_of : Checked → Cells → Trail → Option Iteration
iteration_of P c Outermost = None
iteration_of P c (Below i k) = iteration_in P (fact_at (items c) i)

-- ---- loops with an index

-- the facts that come where a loop goes on with this value of its index, or does not
abbrev pub goes_on : Links → Counting → ℤ → Truth → List RowFact
goes_on l r v true = Has r.path r.index (Int v) ∷ ons r.path (targets l.turns.rows.items r.switches)
goes_on l r v false = On r.path r.last ∷ []

-- the facts that come by a value, the lower bound of the index or its last value, with this upper bound, if both are
-- numbers
abbrev pub counted_by : Links → Counting → RowValue → RowValue → List RowFact
counted_by l r (Int v) (Int b) =
    if r.first then goes_on l r v (int_le v b) else goes_on l r (v +ℤ pos 1) (int_lt v b)
counted_by l r _ _ = []

-- the facts that come by a value, the lower bound of the index or its last value, with each of these upper bounds
abbrev pub counted_with : Links → Counting → RowValue → List RowValue → List RowFact
counted_with l r v [] = []
counted_with l r v (b ∷ bs) = counted_by l r v b ++ counted_with l r v bs

-- the facts that come by each of these values with each of these upper bounds
abbrev pub counted : Links → Counting → List RowValue → List RowValue → List RowFact
counted l r [] bs = []
counted l r (v ∷ vs) bs = counted_with l r v bs ++ counted l r vs bs

-- the facts that come by the bounds of the loop at the row n of this node, which may be On by the fact of this number
abbrev pub begin_by : Checked → Links → Cells → RowFact → Trail → Option ℕ → Node → List RowFact
begin_by P l c g p (Some i) (node.Loop h w t) =
    counted l (record { path = Below i 0; index = index_row w; switches = w; last = t; first = true })
    (seen c g p (lower_at (rows P) h)) (seen c g p (upper_at (rows P) h))
begin_by P l c g p _ _ = []

-- the facts that come by the bounds of the loop at the row n at the path, if a loop stands there and is On
abbrev pub begin_at : Checked → Links → Cells → RowFact → Trail → ℕ → List RowFact
begin_at P l c g p n = begin_by P l c g p (find c p n) (at (rows P) n).node

-- what comes next where the index at the row x has a value in this iteration, whose next one is at this path
abbrev pub counting_by : Checked → ℕ → Option Iteration → Option Trail → Option Counting
counting_by P x (Some r) (Some q) =
    if nat_eq (at (rows P) x).block r.head
    then Some (record { path = q; index = x; switches = r.switches; last = r.last; first = false }) else None
counting_by P x _ _ = None

-- what comes next where the index at the row x has a value at the path, if its loop may have a next iteration
abbrev pub counting_of : Checked → Cells → Trail → ℕ → Option Counting
counting_of P c p x = counting_by P x (iteration_of P c p) (next_of p)

-- the facts that come by these values of an index with these of its upper bound, if it counts
abbrev pub counted_on : Links → Option Counting → List RowValue → List RowValue → List RowFact
counted_on l None vs bs = []
counted_on l (Some r) vs bs = counted l r vs bs

-- those that come where the row n of this node has the value at the path, if it is an index
abbrev pub index_by : Checked → Links → Cells → Trail → ℕ → RowValue → Node → List RowFact
index_by P l c p n v (node.Index x) =
    counted_on l (counting_of P c p n) (v ∷ [])
    (seen c (Has p n v) (out_of (items c) (far_from P n (awaited P n)) p) (awaited P n))
index_by P l c p n v _ = []

-- the facts that come where the row n has the value at the path, if it is an index
abbrev pub index_at : Checked → Links → Cells → Trail → ℕ → RowValue → List RowFact
index_at P l c p n v = index_by P l c p n v (at (rows P) n).node

-- those that come where what this waits for, by the fact g, has the value, if it is an index at a row of this node
abbrev pub index_woken : Checked → Links → Cells → RowFact → Wait → RowValue → Node → List RowFact
index_woken P l c g w v (node.Index x) =
    if nat_eq w.user w.row
    then counted_on l (counting_of P c w.path w.row) (values c g w.path w.row) (v ∷ []) else []
index_woken P l c g w v _ = []

-- the facts that come where the row m Has the value at the path q, if this waits for it
abbrev pub woken : Checked → Links → Cells → Trail → ℕ → RowValue → Wait → List RowFact
woken P l c q m v w =
    if is_awaited P c q m w
    then woken_by P w v (find c w.path w.row) (at (rows P) w.row).node (at (rows P) w.user).node
    ++ index_woken P l c (Has q m v) w v (at (rows P) w.row).node else []

-- the facts that come where the row m Has the value at the path q, by those of these that wait for it
abbrev pub all_woken : Checked → Links → Cells → Trail → ℕ → RowValue → List Wait → List RowFact
all_woken P l c q m v [] = []
all_woken P l c q m v (w ∷ ws) = woken P l c q m v w ++ all_woken P l c q m v ws

-- ---- iterations

-- the row is On, or Has the value, at the path, if there is one
abbrev pub on_at : Option Trail → ℕ → List RowFact
on_at None n = []
on_at (Some p) n = On p n ∷ []

-- the fact that the row Has the value at the path, if there is one
abbrev pub has_at : Option Trail → ℕ → RowValue → List RowFact
has_at None n v = []
has_at (Some p) n v = Has p n v ∷ []

-- the facts that come by this value of the predicate at the row t in an iteration
abbrev pub turn_by : Links → Trail → Iteration → ℕ → RowValue → List RowFact
turn_by l p r t (Bool true) = on_at (next_of p) t ++ ons p (targets l.turns.rows.items r.switches)
turn_by l p r t (Bool false) = On p r.last ∷ []
turn_by l p r t (Int n) = []
turn_by l p r t (Name s) = []

-- those that come by the switches at the row m, if they are those of the iteration
abbrev pub switches_by : Links → Trail → Option Iteration → ℕ → ℕ → RowValue → List RowFact
switches_by l p None m t v = []
switches_by l p (Some r) m t v = if nat_eq m r.switches then turn_by l p r t v else []

-- those that come by the `next` at the row m, if it is one of the iteration's loop
abbrev pub next_by : Checked → Trail → Option Iteration → ℕ → RowValue → List RowFact
next_by P p None m v = []
next_by P p (Some r) m v = if nat_eq (at (rows P) m).block r.head then has_at (next_of p) m v else []

-- the facts that come where the row n Has the value at the path, by the row m of this node, if that is the switches or
-- a `next` of the iteration that the path ends in
abbrev pub loop_by : Checked → Links → Cells → Trail → ℕ → RowValue → ℕ → Node → List RowFact
loop_by P l c p n v m (node.Switches t) =
    if is_row (test_of_loop (rows P) (node.Switches t)) n
    then switches_by l p (iteration_of P c p) m t v else []
loop_by P l c p n v m (node.Next x k o a) =
    if nat_eq a n then next_by P p (iteration_of P c p) m v else []
loop_by P l c p n v m _ = []

-- ---- where calls and loops end

-- whether the row is the body of the procedure, or the last expression, of the call or loop of this node, whose path
-- has this number: 0 at a call
abbrev pub is_end : Checked → Node → ℕ → ℕ → Truth
is_end P (node.Call e c) k n = nat_eq k 0 && is_row (body_in (callee_of P e)) n
is_end P (node.Loop h w l) k n = nat_eq l n
is_end P _ k n = false

-- the fact that comes by the call or loop that is On by the fact, where the row n is its end and Has the value at the
-- path of this number
abbrev pub exit_by : Checked → ℕ → ℕ → RowValue → RowFact → List RowFact
exit_by P k n v (On p m) = if is_end P (at (rows P) m).node k n then Has p m v ∷ [] else []
exit_by P k n v _ = []

-- the fact that comes by the call or loop in which the path ends, where the row n is its end and Has the value there
abbrev pub exit_at : Checked → Cells → Trail → ℕ → RowValue → List RowFact
exit_at P c Outermost n v = []
exit_at P c (Below i k) n v = exit_by P k n v (fact_at (items c) i)

-- ---- what follows from a fact

-- the facts that come at the row m, which reads the row n that Has the value
abbrev pub gain : Checked → Links → Cells → Trail → ℕ → RowValue → ℕ → List RowFact
gain P l c p n v m =
    let z = (at (rows P) m).node in
    given P c (Has p n v) p m
    ++ (pass_of P l c p n v z ++ (loop_by P l c p n v m z ++ begin_at P l c (Has p n v) p m))

-- the facts that come at these rows, which read the row n that Has the value
abbrev pub gains : Checked → Links → Cells → Trail → ℕ → RowValue → List ℕ → List RowFact
gains P l c p n v [] = []
gains P l c p n v (m ∷ ms) = gain P l c p n v m ++ gains P l c p n v ms

-- the facts that come where the structure, which has new bounds, is a value
abbrev pub reached : Checked → Links → Cells → ℕ → List Point → List RowFact
reached P l c s [] = []
reached P l c s (q ∷ qs) =
    gains P l c q.path q.row (Name s) (targets l.reads.rows.items q.row) ++ reached P l c s qs

-- the facts that follow from this, that the row n is On at the path
abbrev pub turned : Checked → Links → Cells → Trail → ℕ → List RowFact
turned P l c p n =
    ons p (targets l.turns.rows.items n)
    ++ (given P c (On p n) p n ++ (call_at P l c (On p n) p n
    ++ (start_at P l c (On p n) p n ++ begin_at P l c (On p n) p n)))

-- the facts that follow from this one, with others of the cells, by one rule, where this waits
abbrev pub effects : Checked → Links → Queues → Cells → RowFact → List RowFact
effects P l W c (On p n) = turned P l c p n
effects P l W c (Has p n v) =
    gains P l c p n v (targets l.reads.rows.items n)
    ++ (all_woken P l c p n v (queue W.queues.items (queue_of p n)) ++ (exit_at P c p n v ++ index_at P l c p n v))
effects P l W c (Shape s lo hi) = reached P l c s (named c s)
effects P l W c (Put p n s j v) = answered v (asks c s j)
effects P l W c (Ask p n s j) = haves p n (puts c s j)

-- the facts that follow from one of these
abbrev pub all_effects : Checked → Links → Queues → Cells → List RowFact → List RowFact
all_effects P l W c [] = []
all_effects P l W c (f ∷ fs) = effects P l W c f ++ all_effects P l W c fs
