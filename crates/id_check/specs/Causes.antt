-- Why a program is refused (docs/LANGUAGE.md, "Refusals").
use Rattle.std.specs.Prelude.{◌≡◌, ◌⊎◌, ◌<◌, ◌≤◌, ◌+◌, ℕ, zero, suc, Bool as Truth, true}
use Rattle.std.specs.Prelude.{false}
use Rattle.std.specs.Prelude.{List, [], ◌∷◌, ◌++◌, length, nat_eq, nat_lt, Option, None, Some}
use Rattle.std.specs.Prelude.{if◌then◌else◌}
use Rattle.id_value.specs.declared.Kind.{Kind}
use Rattle.id_value.specs.declared.Kind.TheVariants.{Int, Bool, Array, Nested}
use Rattle.id_value.specs.Kinds.{is_array, same_kind}
use Rattle.id_value.specs.declared.BinaryOp.{BinaryOp}
use Rattle.id_value.specs.declared.BinaryOp.TheVariants as class
use Rattle.id_value.specs.declared.Comparison.TheVariants.{Eq, Ne}
use Rattle.id_table.specs.declared.row.Row.{Row}
use Rattle.id_table.specs.declared.row.Node.{Node}
use Rattle.id_table.specs.declared.row.Node.TheVariants.{Param, Name, Unary, Binary, Split, If, Enter, Arg, Call, Def}
use Rattle.id_table.specs.declared.row.Node.TheVariants.{Switches, NextUse, Next, Fetch, Address, Store, Bounds}
use Rattle.id_table.specs.declared.row.Node.TheVariants as node
use Rattle.id_value.specs.List.{Among}
use Rattle.id_grammar.specs.Tree.{Tree}
use Rattle.id_tree.specs.Distinct.{HasPlace}
use Rattle.id_table.specs.Rows.{at}
use Rattle.id_table.specs.Turns.{params_at}
use Rattle.id_check.specs.declared.cause.CheckCause.{CheckCause}
use Rattle.id_check.specs.declared.cause.CheckCause.TheVariants.{NoMain, MainKind, Duplicate, Unknown, WrongKind}
use Rattle.id_check.specs.declared.cause.CheckCause.TheVariants.{WrongCount, TooManyParams, Memory}
use Rattle.id_check.specs.Scopes.{AreBinders, binder_in, binds, bound_name, first_of, user_of}
use Rattle.id_check.specs.Kinds.{AreKinds, unary_kind}

-- the cause at a row that binds a name in s, where an earlier one of s is given
abbrev pub repeated : List Row → ℕ → Option ℕ → List CheckCause
repeated R b None = []
repeated R b (Some a) = Duplicate (at R b).place (at R a).place ∷ []

-- the cause at the row b, if it binds this name in s
abbrev pub second : List Row → ℕ → ℕ → Option ℕ → List CheckCause
second R s b None = []
second R s b (Some x) = if binds R s x b then repeated R b (binder_in R s x b) else []

-- the second binders of a name in the scope s, of the first n rows
abbrev pub seconds : List Row → ℕ → ℕ → List CheckCause
seconds R s zero = []
seconds R s (suc b) = seconds R s b ++ second R s b (bound_name (at R b).node)

-- the second binders of a name in one of the first n rows
abbrev pub duplicates : List Row → ℕ → List CheckCause
duplicates R zero = []
duplicates R (suc s) = duplicates R s ++ seconds R s s

-- a name without a binder
abbrev pub unknown : Option ℕ → ℕ → List CheckCause
unknown None place = Unknown place ∷ []
unknown (Some b) place = []

-- the cause where this kind is wanted of the part at a place, and that is found
abbrev pub unless_found : Kind → Option Kind → ℕ → List CheckCause
unless_found wanted None e = []
unless_found wanted (Some found) e = if same_kind found wanted then [] else (WrongKind e wanted found ∷ [])

-- the cause in a row of which this kind is wanted, where κ gives the kinds
abbrev pub wrong : List Row → (ℕ → Option Kind) → Kind → ℕ → List CheckCause
wrong R κ wanted a = unless_found wanted (κ a) (at R a).place

-- the causes in operands of which one kind is wanted
abbrev pub wrong_both : List Row → (ℕ → Option Kind) → Kind → ℕ → ℕ → List CheckCause
wrong_both R κ wanted a b = wrong R κ wanted a ++ wrong R κ wanted b

-- the causes in operands to be compared, of which the left one has this kind: it is to be `int` or `bool`, and the
-- right one of the same kind
abbrev pub wrong_equals : List Row → (ℕ → Option Kind) → Option Kind → ℕ → ℕ → List CheckCause
wrong_equals R κ None a b = []
wrong_equals R κ (Some Int) a b = wrong R κ Int b
wrong_equals R κ (Some Bool) a b = wrong R κ Bool b
wrong_equals R κ (Some Array) a b = WrongKind (at R a).place Int Array ∷ []
wrong_equals R κ (Some Nested) a b = WrongKind (at R a).place Int Nested ∷ []

-- the causes in the operands of an operator
abbrev pub wrong_operands : List Row → (ℕ → Option Kind) → BinaryOp → ℕ → ℕ → List CheckCause
wrong_operands R κ (class.Arithmetic o) a b = wrong_both R κ Int a b
wrong_operands R κ (class.Comparison Eq) a b = wrong_equals R κ (κ a) a b
wrong_operands R κ (class.Comparison Ne) a b = wrong_equals R κ (κ a) a b
wrong_operands R κ (class.Comparison o) a b = wrong_both R κ Int a b
wrong_operands R κ (class.Logic o) a b = wrong_both R κ Bool a b

-- the causes in a row of which the kind of another one is wanted, which has this kind
abbrev pub wrong_like : List Row → (ℕ → Option Kind) → Option Kind → ℕ → List CheckCause
wrong_like R κ None y = []
wrong_like R κ (Some k) y = wrong R κ k y

-- the cause where an array of any kind is wanted of the part at a place, and this is found
abbrev pub unless_array : Option Kind → ℕ → List CheckCause
unless_array None e = []
unless_array (Some found) e = if is_array found then [] else (WrongKind e Array found ∷ [])

-- the causes in the target and the index of a fetch or a store
abbrev pub wrong_cell : List Row → (ℕ → Option Kind) → ℕ → ℕ → List CheckCause
wrong_cell R κ t i = unless_array (κ t) (at R t).place ++ wrong R κ Int i

-- the head of the definition at a row of this node
abbrev pub head_in : Node → Option ℕ
head_in (Def x h k b) = Some h
head_in _ = None

-- the head of the procedure that is defined at this row
abbrev pub callee : List Row → Option ℕ → Option ℕ
callee R None = None
callee R (Some b) = head_in (at R b).node

-- how many arguments the call at a row of this node has, if its `Enter` is at the row e
abbrev pub count_in : ℕ → Node → Option ℕ
count_in e (Call f c) = if nat_eq f e then Some c else None
count_in e _ = None

-- that of the first such call among the first n rows
abbrev pub count_at : List Row → ℕ → ℕ → Option ℕ
count_at R n e = first_of (λ i. count_in e (at R i).node) n

-- the cause in a call at a place, with c arguments, of the procedure with this head
abbrev pub wrong_count : List Row → Option ℕ → ℕ → ℕ → List CheckCause
wrong_count R None c e = []
wrong_count R (Some h) c e = if nat_eq c (length (params_at R h)) then [] else (WrongCount e ∷ [])

-- whether this is the number of the parameters of the procedure with the head h
abbrev pub is_count : List Row → ℕ → Option ℕ → Truth
is_count R h None = false
is_count R h (Some c) = nat_eq c (length (params_at R h))

-- the causes in the argument v of the index k in a call with so many arguments, of the procedure with this head: where
-- their number is right, the kind of the parameter of the index is wanted, which stands right behind the head
abbrev pub wrong_argument : List Row → (ℕ → Option Kind) → Option ℕ → Option ℕ → ℕ → ℕ
    → List CheckCause
wrong_argument R κ None c k v = []
wrong_argument R κ (Some h) c k v = if is_count R h c then wrong_like R κ (κ (h + 1 + k)) v else []

-- whether an array is a parameter at a row of this node
abbrev pub is_array_param : Node → Truth
is_array_param (Param x k) = is_array k
is_array_param _ = false

-- the first of these parameters that is an array
abbrev pub array_param : List Row → List ℕ → List CheckCause
array_param R [] = []
array_param R (x ∷ xs) = if is_array_param (at R x).node then (MainKind (at R x).place ∷ []) else array_param R xs

-- the causes in the parameters of a definition at a place: `main`, the name of number 0, takes no array, and there are
-- at most 16
abbrev pub wrong_params : List Row → ℕ → ℕ → List ℕ → List CheckCause
wrong_params R x e ps =
    (if nat_eq x 0 then array_param R ps else []) ++ (if nat_lt 16 (length ps) then (TooManyParams e ∷ []) else [])

-- the causes in a row at a place, with this binder if it is about a name: of a predicate the kind `bool` is wanted, of
-- an `else` arm that of the `then` arm, of the expression of a `next` that of its variable, of bounds `int`, and of the
-- value of a store that of its address, which is what the cell holds; a definition's are those in its parameters, and
-- of its body the kind of the result is wanted
abbrev pub causes_in : List Row → (ℕ → Option Kind) → Option ℕ → ℕ → Node → List CheckCause
causes_in R κ o e (Name x) = unknown o e
causes_in R κ o e (Unary p a) = wrong R κ (unary_kind p) a
causes_in R κ o e (Binary p a b) = wrong_operands R κ p a b
causes_in R κ o e (Split t) = wrong R κ Bool t
causes_in R κ o e (If s x y) = wrong_like R κ (κ x) y
causes_in R κ o e (Enter x) = unknown o e
causes_in R κ o e (Arg s k v) = wrong_argument R κ (callee R o) (count_at R (length R) s) k v
causes_in R κ o e (Call s c) = wrong_count R (callee R o) c e
causes_in R κ o e (Bounds a b) = wrong_both R κ Int a b
causes_in R κ o e (Switches t) = wrong R κ Bool t
causes_in R κ o e (NextUse x) = unknown o e
causes_in R κ o e (Next x k u v) = wrong_like R κ (κ u) v
causes_in R κ o e (node.Array nested a b) = wrong_both R κ Int a b
causes_in R κ o e (Fetch t i) = wrong_cell R κ t i
causes_in R κ o e (Address t i) = wrong_cell R κ t i
causes_in R κ o e (Store a v) = wrong_like R κ (κ a) v
causes_in R κ o e (Def x h k b) = wrong R κ k b ++ wrong_params R x e (params_at R h)
causes_in R κ o e _ = []

-- the causes in the first n rows
abbrev pub causes_below : List Row → (ℕ → Option ℕ) → (ℕ → Option Kind) → ℕ → List CheckCause
causes_below R β κ zero = []
causes_below R β κ (suc i) =
    causes_below R β κ i ++ causes_in R κ (β (user_of i (at R i).node)) (at R i).place (at R i).node

-- all causes in a program, where β gives the names their binders and κ the rows their kinds
abbrev pub causes : List Row → (ℕ → Option ℕ) → (ℕ → Option Kind) → List CheckCause
causes R β κ = duplicates R (length R) ++ causes_below R β κ (length R)

-- where a cause is
abbrev pub place_of : CheckCause → ℕ
place_of (MainKind e) = e
place_of (Duplicate e first) = e
place_of (Unknown e) = e
place_of (WrongCount e) = e
place_of (WrongKind e wanted found) = e
place_of (TooManyParams e) = e
place_of NoMain = 0
place_of Memory = 0

-- its number among the refusals
abbrev pub number_of : CheckCause → ℕ
number_of NoMain = 7
number_of (MainKind e) = 8
number_of (Duplicate e first) = 9
number_of (Unknown e) = 10
number_of (WrongCount e) = 11
number_of (WrongKind e wanted found) = 12
number_of (TooManyParams e) = 13
number_of Memory = 0

-- the one cause is named before the other: at a smaller place, or at the same with a number no larger
abbrev pub IsBefore : CheckCause → CheckCause → Type 0
IsBefore c d = (place_of c < place_of d) ⊎ ((place_of c ≡ place_of d) × (number_of c ≤ number_of d))

-- the cause is the first of these
pub record IsFirst (c : CheckCause) (cs : List CheckCause) : Type 0 where
  pub among : Among c cs
  pub before : (d : CheckCause) → Among d cs → IsBefore c d

-- the cause is at places of the tree, if it is at one
abbrev pub IsInside : Tree → CheckCause → Type 0
IsInside t NoMain = Unit {0}
IsInside t (MainKind e) = HasPlace t e
IsInside t (Duplicate e first) = HasPlace t e × HasPlace t first
IsInside t (Unknown e) = HasPlace t e
IsInside t (WrongCount e) = HasPlace t e
IsInside t (WrongKind e wanted found) = HasPlace t e
IsInside t (TooManyParams e) = HasPlace t e
IsInside t Memory = Unit {0}

-- whether `main`, the name of number 0, is defined at a row of this node
abbrev pub defines_main : Node → Truth
defines_main (Def x h k b) = nat_eq x 0
defines_main _ = false

-- the row is the definition of `main`
pub record IsMain (R : List Row) (n : ℕ) : Type 0 where
  pub within : n < length R
  pub node : defines_main (at R n).node ≡ true

-- no definition is called `main`
abbrev pub HasNoMain : List Row → Type 0
HasNoMain R = (n : ℕ) → IsMain R n → ⊥

-- the program has no cause to be refused but that it may have no `main`
pub record HasNoCause (R : List Row) : Type 0 where
  pub binders : ℕ → Option ℕ
  pub are_binders : AreBinders R binders
  pub kinds : ℕ → Option Kind
  pub are_kinds : AreKinds R binders kinds
  pub none : causes R binders kinds ≡ []

-- this is the first cause in the program, by place and number
pub record HasFirst (R : List Row) (c : CheckCause) : Type 0 where
  pub binders : ℕ → Option ℕ
  pub are_binders : AreBinders R binders
  pub kinds : ℕ → Option Kind
  pub are_kinds : AreKinds R binders kinds
  pub first : IsFirst c (causes R binders kinds)

-- the program is refused for this cause: the first in it, or where there is none, that it has no `main`
abbrev pub IsRefusedFor : List Row → CheckCause → Type 0
IsRefusedFor R NoMain = HasNoCause R × HasNoMain R
IsRefusedFor R (MainKind e) = HasFirst R (MainKind e)
IsRefusedFor R (Duplicate e first) = HasFirst R (Duplicate e first)
IsRefusedFor R (Unknown e) = HasFirst R (Unknown e)
IsRefusedFor R (WrongCount e) = HasFirst R (WrongCount e)
IsRefusedFor R (WrongKind e wanted found) = HasFirst R (WrongKind e wanted found)
IsRefusedFor R (TooManyParams e) = HasFirst R (TooManyParams e)
IsRefusedFor R Memory = Unit {0}
