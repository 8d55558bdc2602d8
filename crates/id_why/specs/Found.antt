-- What a thing needs, as it is looked up.
use Rattle.std.specs.Prelude.{◌≡◌, ◌<◌, ◌+◌, ◌-◌, ◌&&◌, ◌||◌, not, ℕ, ℤ, Bool as Truth, true, false}
use Rattle.std.specs.Prelude.{List, [], ◌∷◌, ◌++◌, map, nat_eq, nat_lt, length, Option, None, Some, if◌then◌else◌}
use Rattle.id_table.specs.declared.row.Row.{Row}
use Rattle.id_table.specs.declared.row.Node.{Node}
use Rattle.id_table.specs.declared.row.Node.TheVariants as node
use Rattle.id_check.specs.declared.checked.Checked.{Checked}
use Rattle.id_check.specs.Programs.{binder, rows}
use Rattle.id_source.specs.Links.{arm_of, beyond, far, far_from, parts_turned, some_row, targets, test_of_loop}
use Rattle.id_source.specs.Sources.{main_body}
use Rattle.id_source.specs.declared.links.Links.{Links}
use Rattle.id_facts.specs.declared.cells.Point.{Point}
use Rattle.id_facts.specs.declared.facts.RowFact.{RowFact}
use Rattle.id_facts.specs.declared.facts.RowFact.TheVariants.{On, Has, Put, Ask}
use Rattle.id_facts.specs.declared.facts.RowValue.{RowValue}
use Rattle.id_facts.specs.declared.facts.RowValue.TheVariants.{Int, Bool, Name}
use Rattle.id_facts.specs.declared.facts.Trail.{Trail}
use Rattle.id_facts.specs.declared.facts.Trail.TheVariants.{Outermost, Below}
use Rattle.id_facts.specs.Cells.{find, out_of, told}
use Rattle.id_facts.specs.RowFacts.{fact_at, same_trail, same_value}
use Rattle.id_meaning.specs.Effects.{body_in, callee_of, is_row}
use Rattle.id_why.specs.declared.known.Cell.{Cell}
use Rattle.id_why.specs.declared.known.Known.{Known}
use Rattle.id_why.specs.Known.{asks, is_given, known_facts, values}
use Rattle.id_why.specs.Needs.{node_at, point}

-- the things at these rows at the path
abbrev pub things_at : Trail → List ℕ → List Point
things_at p ns = map (point p) ns

-- the rows whose values a row of this node needs at its own path
abbrev pub wanted : List Row → Node → List ℕ
wanted R (node.Binding x a) = a ∷ []
wanted R z = parts_turned R z

-- those of a store whose address has this node, with its value at a row
abbrev pub stored : Node → ℕ → List ℕ
stored (node.Address t i) x = t ∷ i ∷ x ∷ []
stored _ x = x ∷ []

-- ---- conditionals

-- the arms that these values of the predicate turn on
abbrev pub arm_by : Trail → ℕ → ℕ → RowValue → List Point
arm_by p x y (Bool b) = point p (arm_of b x y) ∷ []
arm_by p x y _ = []

-- for each of these values of the predicate the arm that it turns on
abbrev pub arms : Trail → ℕ → ℕ → List RowValue → List Point
arms p x y [] = []
arms p x y (v ∷ vs) = arm_by p x y v ++ arms p x y vs

-- what the predicate Has at the path, if there is one
abbrev pub tested : Known → Trail → Option ℕ → List RowValue
tested k p None = []
tested k p (Some t) = values k p t

-- ---- calls

-- the body of the procedure that has this node, where the call is On by the fact of this number
abbrev pub body_by : Option ℕ → Option ℕ → List Point
body_by (Some i) (Some b) = point (Below i 0) b ∷ []
body_by _ _ = []

-- the head of a procedure that stands so
abbrev pub head_in : Node → Option ℕ
head_in (node.Def x h k b) = Some h
head_in _ = None

-- the argument for the parameter at the row n of the call with the `Enter` e, of a procedure with the head h, if the
-- node is one
abbrev pub argument_by : Trail → ℕ → ℕ → ℕ → Node → List Point
argument_by q n e h (node.Arg f i v) = if nat_eq f e && nat_eq n (h + 1 + i) then point q v ∷ [] else []
argument_by q n e h _ = []

-- the arguments among these rows for the parameter at the row n of the call with the `Enter` e, of a procedure
-- with the head h
abbrev pub arguments : Checked → Trail → ℕ → ℕ → ℕ → List ℕ → List Point
arguments P q n e h [] = []
arguments P q n e h (m ∷ ms) = argument_by q n e h (node_at P m) ++ arguments P q n e h ms

-- the arguments for the parameter at the row n of the call with the `Enter` e, of a procedure with this head
abbrev pub arguments_of : Checked → Links → Trail → ℕ → ℕ → Option ℕ → List Point
arguments_of P l q n e None = []
arguments_of P l q n e (Some h) = arguments P q n e h (targets l.args.rows.items e)

-- the argument for the parameter at the row n of the call that stands so
abbrev pub passed_at : Checked → Links → Trail → ℕ → Node → List Point
passed_at P l q n (node.Call e c) = arguments_of P l q n e (head_in (callee_of P e))
passed_at P l q n _ = []

-- the argument for the parameter at the row n of the call that is On by the fact
abbrev pub passed_by : Checked → Links → ℕ → RowFact → List Point
passed_by P l n (On q c) = passed_at P l q n (node_at P c)
passed_by P l n _ = []

-- of a path in a call
abbrev pub passed : Checked → Links → List RowFact → ℕ → Trail → List Point
passed P l fs n Outermost = []
passed P l fs n (Below i k) = if nat_eq k 0 then passed_by P l n (fact_at fs i) else []

-- ---- loops

-- the predicate or the last expression of a loop, if the fact turns it on at a path that begins at the fact i
abbrev pub turned_by : ℕ → ℕ → Option ℕ → Trail → ℕ → Option Point
turned_by i l t (Below j k) m =
    if nat_eq j i && (nat_eq m l || is_row t m) then Some (point (Below j k) m) else None
turned_by i l t Outermost m = None

-- the predicate or the last expression of a loop, if it is On by the fact at a path that begins at the fact i
abbrev pub turn_by : ℕ → ℕ → Option ℕ → RowFact → Option Point
turn_by i l t (On p m) = turned_by i l t p m
turn_by i l t _ = None

-- where the predicate or the last expression of a loop is On at paths that begin at this fact, if there is one
abbrev pub turns_at : Known → ℕ → Option ℕ → Option ℕ → List Point
turns_at k l t None = []
turns_at k l t (Some i) = told (turn_by i l t) (known_facts k) (targets k.turns.rows.items i)

-- what a row is seen through, at the path without some steps
abbrev pub seen_at : Trail → Option ℕ → List Point
seen_at p None = []
seen_at p (Some b) = point p b ∷ []

-- what the name of a variable means outside of the loop that is On by the fact
abbrev pub first_by : Checked → List RowFact → ℕ → RowFact → List Point
first_by P fs o (On q c) = seen_at (out_of fs (far_from P c (binder P o)) q) (binder P o)
first_by P fs o _ = []

-- what a variable needs, with the use of its name outside at the row o and the expression of its `next` at v
abbrev pub before : Checked → List RowFact → ℕ → ℕ → Trail → List Point
before P fs o v Outermost = []
before P fs o v (Below i k) = if nat_eq k 0 then first_by P fs o (fact_at fs i) else point (Below i (k - 1)) v ∷ []

-- ---- cells

-- whether one of these values is this one
abbrev pub has_value : RowValue → List RowValue → Truth
has_value v [] = false
has_value v (w ∷ ws) = same_value w v || has_value v ws

-- whether there is none of them, or one is this
abbrev pub may_be : List RowValue → RowValue → Truth
may_be [] v = true
may_be (w ∷ ws) v = has_value v (w ∷ ws)

-- whether the store with this address may fill the cell
abbrev pub may_fill : Known → Trail → Cell → Node → Truth
may_fill k p c (node.Address t i) = may_be (values k p t) (Name c.name) && may_be (values k p i) (Int c.index)
may_fill k p c _ = false

-- the thing, if this is so
abbrev pub some_if : Truth → Point → Option Point
some_if b t = if b then Some t else None

-- the store at the row m of this node at the path, if it is one that may fill the cell
abbrev pub filler_at : Checked → Known → Cell → Trail → ℕ → Node → Option Point
filler_at P k c p m (node.Store a x) = some_if (may_fill k p c (node_at P a)) (point p m)
filler_at P k c p m _ = None

-- the store that is On by the fact, if it is one of one that may fill the cell
abbrev pub filler : Checked → Known → Cell → RowFact → Option Point
filler P k c (On p m) = filler_at P k c p m (node_at P m)
filler P k c _ = None

-- those that may fill one of these cells
abbrev pub fillers : Checked → Known → List Cell → List Point
fillers P k [] = []
fillers P k (c ∷ cs) = told (filler P k c) (known_facts k) k.stores.items ++ fillers P k cs

-- ---- all that is needed

-- what a row of this node needs beyond its own path's rows
abbrev pub others : Checked → Links → Known → Trail → ℕ → Node → List Point
others P l k p n (node.Name x) =
    seen_at (out_of (known_facts k) (far P n (node.Name x)) p) (beyond P n (node.Name x))
others P l k p n (node.If s x y) = arms p x y (tested k p (beyond P n (node.If s x y)))
others P l k p n (node.Call e c) = body_by (find k.cells p n) (body_in (callee_of P e))
others P l k p n (node.Param x z) = passed P l (known_facts k) n p
others P l k p n (node.Loop h w t) = turns_at k t (test_of_loop (rows P) (node_at P w)) (find k.cells p n)
others P l k p n (node.Next x i o v) = before P (known_facts k) o v p
others P l k p n _ = []

-- what a thing needs, of which its cells are these
abbrev pub needs : Checked → Links → Known → Point → List Cell → List Point
needs P l k t cs =
    things_at t.path (wanted (rows P) (node_at P t.row))
    ++ (others P l k t.path t.row (node_at P t.row) ++ fillers P k cs)

-- those of the things that lack a value
abbrev pub lacking : Known → List Point → List Point
lacking k [] = []
lacking k (u ∷ us) = (if is_given k u then [] else u ∷ []) ++ lacking k us
