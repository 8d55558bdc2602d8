-- What comes at a row from what it reads, with the facts that cells have.
use Rattle.std.specs.Prelude.{ℕ, ℤ, Bool as Truth, false, ◌||◌}
use Rattle.std.specs.Prelude.{List, [], ◌∷◌, ◌++◌, Option, None, Some, if◌then◌else◌}
use Rattle.id_value.specs.declared.Constant.{Constant}
use Rattle.id_value.specs.declared.Constant.TheVariants as constant
use Rattle.id_value.specs.declared.UnaryOp.{UnaryOp}
use Rattle.id_value.specs.declared.BinaryOp.{BinaryOp}
use Rattle.id_value.specs.declared.Outcome.{Outcome}
use Rattle.id_value.specs.declared.Outcome.TheVariants.{Gives, Fails, Lacks}
use Rattle.id_value.specs.Bounds.{are_good, is_inside}
use Rattle.id_value.specs.Results.{result_of_unary, result_of_binary}
use Rattle.id_table.specs.declared.row.Node.{Node}
use Rattle.id_table.specs.declared.row.Node.TheVariants as node
use Rattle.id_table.specs.Rows.{at}
use Rattle.id_check.specs.declared.checked.Checked.{Checked}
use Rattle.id_check.specs.Programs.{rows}
use Rattle.id_facts.specs.declared.cells.Bounds.{Bounds}
use Rattle.id_facts.specs.declared.cells.Cells.{Cells}
use Rattle.id_facts.specs.declared.cells.Point.{Point}
use Rattle.id_facts.specs.declared.facts.RowFact.{RowFact}
use Rattle.id_facts.specs.declared.facts.RowFact.TheVariants.{On, Has, Shape, Put, Ask}
use Rattle.id_facts.specs.declared.facts.RowValue.{RowValue}
use Rattle.id_facts.specs.declared.facts.RowValue.TheVariants.{Int, Bool, Name}
use Rattle.id_facts.specs.declared.facts.Trail.{Trail}
use Rattle.id_facts.specs.Cells.{find, items, out_of}
use Rattle.id_facts.specs.Cells.{shapes, values}
use Rattle.id_source.specs.Links.{arm_of, beyond, far}
use Rattle.id_facts.specs.Firsts.{row_value, haves}

-- the constant that the value of a row is, if it is one
abbrev pub constant_of : RowValue → Option Constant
constant_of (Int n) = Some (constant.Int n)
constant_of (Bool b) = Some (constant.Bool b)
constant_of (Name s) = None

-- what the row Has at the path, if there is one
abbrev pub seen : Cells → RowFact → Trail → Option ℕ → List RowValue
seen c g p None = []
seen c g p (Some a) = values c g p a

-- ---- operators and conditionals

-- the fact that the row n has what an operator gives, if it gives something
abbrev pub gives : Trail → ℕ → Outcome → List RowFact
gives p n (Gives k) = Has p n (row_value k) ∷ []
gives p n (Fails k) = []
gives p n Lacks = []

-- the fact that the row n has what the operator gives of this operand, if it is a constant
abbrev pub unary_by : Trail → ℕ → UnaryOp → Option Constant → List RowFact
unary_by p n o None = []
unary_by p n o (Some k) = gives p n (result_of_unary o k)

-- the facts that the row n has what the operator gives of each of these operands
abbrev pub unaries : Trail → ℕ → UnaryOp → List RowValue → List RowFact
unaries p n o [] = []
unaries p n o (v ∷ vs) = unary_by p n o (constant_of v) ++ unaries p n o vs

-- the fact that the row n has what the operator gives of a left operand and this right one, if that is a constant
abbrev pub binary_by : Trail → ℕ → BinaryOp → Constant → Option Constant → List RowFact
binary_by p n o k None = []
binary_by p n o k (Some l) = gives p n (result_of_binary o k l)

-- the facts that the row n has what the operator gives of the left operand and each of these right ones
abbrev pub all_rights : Trail → ℕ → BinaryOp → Constant → List RowValue → List RowFact
all_rights p n o k [] = []
all_rights p n o k (w ∷ ws) = binary_by p n o k (constant_of w) ++ all_rights p n o k ws

-- the facts that the row n has what the operator gives of a left operand, if it is a constant, and each right one
abbrev pub rights_of : Trail → ℕ → BinaryOp → Option Constant → List RowValue → List RowFact
rights_of p n o None ws = []
rights_of p n o (Some k) ws = all_rights p n o k ws

-- the facts that the row n has what the operator gives of each of these left operands and each right one
abbrev pub binaries : Trail → ℕ → BinaryOp → List RowValue → List RowValue → List RowFact
binaries p n o [] ws = []
binaries p n o (v ∷ vs) ws = rights_of p n o (constant_of v) ws ++ binaries p n o vs ws

-- the facts that come where this arm of a conditional is chosen
abbrev pub chosen : Cells → RowFact → Trail → ℕ → ℕ → List RowFact
chosen c g p n a = On p a ∷ haves p n (values c g p a)

-- the facts that come by this value of the predicate at a conditional with these arms
abbrev pub arm_by : Cells → RowFact → Trail → ℕ → ℕ → ℕ → RowValue → List RowFact
arm_by c g p n x y (Bool b) = chosen c g p n (arm_of b x y)
arm_by c g p n x y (Int k) = []
arm_by c g p n x y (Name s) = []

-- the facts that come by these values of the predicate at a conditional with these arms
abbrev pub arms : Cells → RowFact → Trail → ℕ → ℕ → ℕ → List RowValue → List RowFact
arms c g p n x y [] = []
arms c g p n x y (v ∷ vs) = arm_by c g p n x y v ++ arms c g p n x y vs

-- ---- structures

-- the facts that come of the lower bound of an `array`, which is On by the fact of number i, with this upper one, if
-- it is a number and they are good bounds
abbrev pub made_by : Trail → ℕ → ℕ → ℤ → RowValue → List RowFact
made_by p n i lo (Int hi) = if are_good lo hi then Shape i lo hi ∷ Has p n (Name i) ∷ [] else []
made_by p n i lo (Bool b) = []
made_by p n i lo (Name s) = []

-- the facts that come of the lower bound of an `array` with each of these upper ones
abbrev pub made : Trail → ℕ → ℕ → ℤ → List RowValue → List RowFact
made p n i lo [] = []
made p n i lo (w ∷ ws) = made_by p n i lo w ++ made p n i lo ws

-- the facts that come of this value as the lower bound of an `array`, if it is a number, with each upper one
abbrev pub array_by : Trail → ℕ → ℕ → RowValue → List RowValue → List RowFact
array_by p n i (Int lo) ws = made p n i lo ws
array_by p n i (Bool b) ws = []
array_by p n i (Name s) ws = []

-- the facts that come of each of these lower bounds of an `array` with each of these upper ones
abbrev pub arrays : Trail → ℕ → ℕ → List RowValue → List RowValue → List RowFact
arrays p n i [] ws = []
arrays p n i (v ∷ vs) ws = array_by p n i v ws ++ arrays p n i vs ws

-- whether the index is inside some of these bounds
abbrev pub is_in_some : List Bounds → ℤ → Truth
is_in_some [] j = false
is_in_some (b ∷ bs) j = is_inside b.low b.high j || is_in_some bs j

-- that the fetch asks for the cell of this index, if it is a number inside some of these bounds of the structure
abbrev pub asked_by : Trail → ℕ → ℕ → List Bounds → RowValue → List RowFact
asked_by p n s bs (Int j) = if is_in_some bs j then Ask p n s j ∷ [] else []
asked_by p n s bs (Bool b) = []
asked_by p n s bs (Name t) = []

-- that the fetch asks for the cells of these indices that are inside some of these bounds of the structure
abbrev pub asked : Trail → ℕ → ℕ → List Bounds → List RowValue → List RowFact
asked p n s bs [] = []
asked p n s bs (w ∷ ws) = asked_by p n s bs w ++ asked p n s bs ws

-- that the fetch asks for the cells of these indices, of the structure that the value is, if it is one
abbrev pub fetch_by : Cells → Trail → ℕ → RowValue → List RowValue → List RowFact
fetch_by c p n (Name s) ws = asked p n s (shapes c s) ws
fetch_by c p n (Int k) ws = []
fetch_by c p n (Bool b) ws = []

-- that the fetch asks for the cells of these indices, of the structures that these values are
abbrev pub fetches : Cells → Trail → ℕ → List RowValue → List RowValue → List RowFact
fetches c p n [] ws = []
fetches c p n (v ∷ vs) ws = fetch_by c p n v ws ++ fetches c p n vs ws

-- that the store puts these values into the cell of this index
abbrev pub put_in : Trail → ℕ → ℕ → ℤ → List RowValue → List RowFact
put_in p n s j [] = []
put_in p n s j (v ∷ vs) = Put p n s j v ∷ put_in p n s j vs

-- that the store puts these values into the cell of this index, if it is inside some of the structure's bounds
abbrev pub stored_by : Trail → ℕ → ℕ → List Bounds → List RowValue → RowValue → List RowFact
stored_by p n s bs vs (Int j) = if is_in_some bs j then put_in p n s j vs else []
stored_by p n s bs vs (Bool b) = []
stored_by p n s bs vs (Name t) = []

-- that the store puts these values into the cells of these indices that are inside some of the structure's bounds
abbrev pub stored : Trail → ℕ → ℕ → List Bounds → List RowValue → List RowValue → List RowFact
stored p n s bs [] vs = []
stored p n s bs (w ∷ ws) vs = stored_by p n s bs vs w ++ stored p n s bs ws vs

-- that the store puts these values into the cells of these indices, of the structure that a value is, if it is one
abbrev pub store_by : Cells → Trail → ℕ → RowValue → List RowValue → List RowValue → List RowFact
store_by c p n (Name s) ws vs = stored p n s (shapes c s) ws vs
store_by c p n (Int k) ws vs = []
store_by c p n (Bool b) ws vs = []

-- that the store puts these values into the cells of these indices, of the structures that the targets are
abbrev pub stores : Cells → Trail → ℕ → List RowValue → List RowValue → List RowValue → List RowFact
stores c p n [] ws vs = []
stores c p n (u ∷ us) ws vs = store_by c p n u ws vs ++ stores c p n us ws vs

-- those of a store whose address has this node
abbrev pub store_at : Cells → RowFact → Trail → ℕ → Node → ℕ → List RowFact
store_at c g p n (node.Address t i) x = stores c p n (values c g p t) (values c g p i) (values c g p x)
store_at c g p n _ x = []

-- that these fetches Have the value
abbrev pub answered : RowValue → List Point → List RowFact
answered v [] = []
answered v (q ∷ qs) = Has q.path q.row v ∷ answered v qs

-- ---- what comes at a row

-- the facts that come at the row n of this node at the path, which is On by the fact of number i, where g is followed
abbrev pub from_on : Checked → Cells → RowFact → Trail → ℕ → ℕ → Node → List RowFact
from_on P c g p n i (node.Literal k) = Has p n (row_value k) ∷ []
from_on P c g p n i (node.Name x) =
    haves p n (seen c g (out_of (items c) (far P n (node.Name x)) p) (beyond P n (node.Name x)))
from_on P c g p n i (node.Unary o a) = unaries p n o (values c g p a)
from_on P c g p n i (node.Binary o a b) = binaries p n o (values c g p a) (values c g p b)
from_on P c g p n i (node.If s x y) = arms c g p n x y (seen c g p (beyond P n (node.If s x y)))
from_on P c g p n i (node.Block b) = haves p n (values c g p b)
from_on P c g p n i (node.Array nested a b) = arrays p n i (values c g p a) (values c g p b)
from_on P c g p n i (node.Fetch t j) = fetches c p n (values c g p t) (values c g p j)
from_on P c g p n i (node.Store a x) = store_at c g p n (at (rows P) a).node x
from_on P c g p n i _ = []

-- the facts that come at the row n of this node at the path, if it is On there by the fact of this number
abbrev pub from_found : Checked → Cells → RowFact → Trail → ℕ → Node → Option ℕ → List RowFact
from_found P c g p n z None = []
from_found P c g p n z (Some i) = from_on P c g p n i z

-- the facts that come at the row n of this node: at a binding what its expression Has, at any other if it is On
abbrev pub given_of : Checked → Cells → RowFact → Trail → ℕ → Node → List RowFact
given_of P c g p n (node.Binding x a) = haves p n (values c g p a)
given_of P c g p n z = from_found P c g p n z (find c p n)

-- the facts that come at the row at the path, where g is followed
abbrev pub given : Checked → Cells → RowFact → Trail → ℕ → List RowFact
given P c g p n = given_of P c g p n (at (rows P) n).node
