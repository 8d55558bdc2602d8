-- Which binder a name means. The rows stand behind their parts, so the scopes round a row are met innermost first
-- (docs/LANGUAGE.md, "Names").
use Rattle.std.specs.Prelude.{◌≡◌, ℕ, zero, suc, ◌-◌, ◌<◌, Bool, true, false, ◌&&◌, ◌||◌, not}
use Rattle.std.specs.Prelude.{nat_eq}
use Rattle.std.specs.Prelude.{List, length, get_or}
use Rattle.std.specs.Prelude.{Option, None, Some, if◌then◌else◌}
use Rattle.std.specs.Option.{option_or}
use Rattle.id_table.specs.declared.row.Row.{Row}
use Rattle.id_table.specs.declared.row.Node.{Node}
use Rattle.id_table.specs.declared.row.Node.TheVariants.{Param, Name, Enter, Arg, Call, Block, Binding, Def, Program}
use Rattle.id_table.specs.declared.row.Node.TheVariants.{NextUse, Next, Index, Body, Span}
use Rattle.id_table.specs.Loops.{depth}
use Rattle.id_table.specs.Rows.{at}
use Rattle.id_table.specs.Tables.{around, is_binding, is_def, is_index, is_next, is_param}

-- whether names that are bound in the part are seen in the whole of it
abbrev pub is_scope : Node → Bool
is_scope (Block b) = true
is_scope Body = true
is_scope Span = true
is_scope (Def x h k b) = true
is_scope Program = true
is_scope _ = false

-- whether a `next` statement uses the name outside of its loop, for the first value, at a row of this node
abbrev pub is_next_use : Node → Bool
is_next_use (NextUse x) = true
is_next_use _ = false

-- whether the first part is one in which a binder like the second is seen; the span of a loop has the uses of its first
-- values too
abbrev pub takes : Node → Node → Bool
takes (Block b) n = is_binding n
takes Body n = (is_binding n || is_next n) || is_index n
takes Span n = is_next n || is_next_use n
takes (Def x h k b) n = is_param n
takes Program n = is_def n
takes _ n = false

-- whether the first part is the outermost one in which a binder like the second is seen: a loop's variables are seen
-- outside of its body too
abbrev pub closes : Node → Node → Bool
closes Body n = is_binding n || is_index n
closes s n = takes s n

-- whether a name of a value is used at a row of this node
abbrev pub uses_value : Node → Bool
uses_value (Name x) = true
uses_value (NextUse x) = true
uses_value _ = false

-- whether a name of a procedure is
abbrev pub uses_procedure : Node → Bool
uses_procedure (Enter x) = true
uses_procedure _ = false

-- whether a use like the second looks for its binder in a part like the first: names of values and of procedures
-- are apart
abbrev pub looks : Node → Node → Bool
looks (Block b) n = uses_value n
looks Body n = uses_value n
looks Span n = uses_value n
looks (Def y h k b) n = uses_value n
looks Program n = uses_procedure n
looks _ n = false

-- the name that a node binds, if it does
abbrev pub bound_name : Node → Option ℕ
bound_name (Param x k) = Some x
bound_name (Binding x a) = Some x
bound_name (Next x k o v) = Some x
bound_name (Index x) = Some x
bound_name (Def x h k b) = Some x
bound_name _ = None

-- the name that a node uses, if it does
abbrev pub used_name : Node → Option ℕ
used_name (Name x) = Some x
used_name (Enter x) = Some x
used_name (NextUse x) = Some x
used_name _ = None

-- the row that uses the name which the row i of this node is about: the `Enter` of its call, the `NextUse` of a
-- `next`, or itself
abbrev pub user_of : ℕ → Node → ℕ
user_of i (Arg e k v) = e
user_of i (Call e c) = e
user_of i (Next x k o v) = o
user_of i n = i

-- the first answer of f below n
abbrev pub first_of : (ℕ → Option ℕ) → ℕ → Option ℕ
first_of f zero = None
first_of f (suc n) = option_or (first_of f n) (f n)

-- whether s is a scope round the row b in which what that binds is seen
abbrev pub keeps : List Row → ℕ → ℕ → Bool
keeps R s b = takes (at R s).node (at R b).node && around R s b

-- whether s is the outermost such scope
abbrev pub confines : List Row → ℕ → ℕ → Bool
confines R s b = closes (at R s).node (at R b).node && around R s b

-- whether one of the first n rows is
abbrev pub held : List Row → ℕ → ℕ → Bool
held R b zero = false
held R b (suc s) = held R b s || confines R s b

-- whether the name is this one
abbrev pub is_name : ℕ → Option ℕ → Bool
is_name x None = false
is_name x (Some y) = nat_eq y x

-- whether the row b binds the name x in the scope s: its innermost one, or a loop whose variable x is
abbrev pub binds : List Row → ℕ → ℕ → ℕ → Bool
binds R s x b = (keeps R s b && not (held R b s)) && is_name x (bound_name (at R b).node)

-- the first of the first n rows that binds x in s
abbrev pub binder_in : List Row → ℕ → ℕ → ℕ → Option ℕ
binder_in R s x n = first_of (λ b. if binds R s x b then Some b else None) n

-- whether there is none
abbrev pub is_free : Option ℕ → Bool
is_free None = true
is_free (Some x) = false

-- whether a row of this node sees what is bound in its own scope: it is neither a binder nor the use of a first value
abbrev pub sees_own : Node → Bool
sees_own n = is_free (bound_name n) && not (is_next_use n)

-- whether what s binds is seen at the row i: any other row sees what is bound outside its own scope
abbrev pub sees : List Row → ℕ → ℕ → Bool
sees R s i = (looks (at R s).node (at R i).node && around R s i) && (sees_own (at R i).node || held R i s)

-- what x means at the row i: its binder in the innermost scope that is seen there and binds it, where n rows are
-- looked at
abbrev pub binder_of : List Row → ℕ → ℕ → ℕ → Option ℕ
binder_of R x i n = first_of (λ s. if sees R s i then binder_in R s x s else None) n

-- the binder of the row i, if it uses a name
abbrev pub binder_by : List Row → ℕ → Option ℕ → ℕ → Option ℕ
binder_by R i None n = None
binder_by R i (Some x) n = binder_of R x i n

-- the binder of the name that the row i uses, if there is one, where n rows are looked at
abbrev pub binder_at : List Row → ℕ → ℕ → Option ℕ
binder_at R n i = binder_by R i (used_name (at R i).node) n

-- β gives each row that uses a name its binder
pub record AreBinders (R : List Row) (β : ℕ → Option ℕ) : Type 0 where
  pub each : (i : ℕ) → i < length R → β i ≡ binder_at R (length R) i

-- how many loops of its procedure the row is in
abbrev pub depth_at : List Row → ℕ → ℕ
depth_at R i = depth R i

-- these are the depths of the rows
abbrev pub HasDepths : List Row → List ℕ → Type 0
HasDepths R ds = (i : ℕ) → i < length R → get_or ds i 0 ≡ depth R i

-- what a column of a table has for the row, if anything
abbrev pub column : {A : Type 0} → List (Option A) → ℕ → Option A
column xs i = get_or xs i None

-- how many loops stand between a use and its binder
abbrev pub loops_between : List Row → ℕ → ℕ → ℕ
loops_between R i b = depth_at R i - depth_at R b
