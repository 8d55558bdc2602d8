-- Sources: checked programs with their inputs (docs/MEANING.md, "Sources").
use Rattle.std.specs.Prelude.{◌≡◌, ℕ, Bool as Truth, true, List, [], ◌∷◌, Option, Some, slice_get}
use Rattle.id_value.specs.declared.Kind.{Kind}
use Rattle.id_value.specs.declared.Kind.TheVariants as kind
use Rattle.id_value.specs.Kinds.{array_kind}
use Rattle.id_value.specs.declared.Constant.{Constant}
use Rattle.id_value.specs.declared.Constant.TheVariants as constant
use Rattle.id_value.specs.Results.{is_whole}
use Rattle.id_table.specs.declared.row.Node.{Node}
use Rattle.id_table.specs.declared.row.Node.TheVariants.{Param, Def, Array}
use Rattle.id_table.specs.Rows.{at}
use Rattle.id_table.specs.Turns.{params_at}
use Rattle.id_check.specs.declared.checked.Checked.{Checked}
use Rattle.id_check.specs.Programs.{Stands, place, rows}
pub use Rattle.id_check.specs.Kinds.{constant_kind}
use Rattle.id_source.specs.declared.SourceValue.{SourceValue}
use Rattle.id_source.specs.declared.SourceValue.TheVariants.{Int, Bool, Name}

-- a checked program, and values for the parameters of its `main`, in order: numbers and truth values
pub record Source : Type 0 where
  pub checked : Checked
  pub inputs : List Constant

-- the program with these inputs
abbrev pub source : Checked → List Constant → Source
source P vs = record { checked = P; inputs = vs }

-- this is the place of an array expression, and its kind
pub record IsArrayAt (P : Checked) (e : ℕ) (k : Option Kind) : Type 0 where
  pub row : ℕ
  pub nested : Truth
  pub low : ℕ
  pub high : ℕ
  pub stands : Stands P row (Array nested low high)
  pub place : e ≡ place P row
  pub kind : k ≡ Some (array_kind nested)

-- this is the kind of the value in a run of the program: a name has that of the array expression at its place
abbrev pub IsOfKind : Checked → SourceValue → Option Kind → Type 0
IsOfKind P (Int n) k = k ≡ Some kind.Int
IsOfKind P (Bool b) k = k ≡ Some kind.Bool
IsOfKind P (Name s) k = IsArrayAt P s.place k

-- the value that a constant is
abbrev pub value_of : Constant → SourceValue
value_of (constant.Int n) = Int n
value_of (constant.Bool b) = Bool b

-- the constant is no number, or one of the language
abbrev pub IsWhole : Constant → Type 0
IsWhole (constant.Int n) = is_whole n ≡ true
IsWhole (constant.Bool b) = Unit {0}

-- the parameter at a row of this node has the kind of the value, which is one of the language
abbrev pub SuitsParam : Node → Constant → Type 0
SuitsParam (Param x k) c = (constant_kind c ≡ k) × IsWhole c
SuitsParam _ c = ⊥

-- there is one value for each of the parameters at these rows, of its kind
abbrev pub AreFor : Checked → List ℕ → List Constant → Type 0
AreFor P [] [] = Unit {0}
AreFor P [] (v ∷ vs) = ⊥
AreFor P (b ∷ bs) [] = ⊥
AreFor P (b ∷ bs) (v ∷ vs) = SuitsParam (at (rows P) b).node v × AreFor P bs vs

-- the head of the definition at a row of this node
abbrev pub head_of : Node → ℕ
head_of (Def x h k b) = h
head_of _ = 0

-- the body of the definition at a row of this node
abbrev pub body_of : Node → ℕ
body_of (Def x h k b) = b
body_of _ = 0

-- the rows of main's parameters, in order
abbrev pub main_params : Checked → List ℕ
main_params P = params_at (rows P) (head_of (at (rows P) P.main).node)

-- the row of main's body
abbrev pub main_body : Checked → ℕ
main_body P = body_of (at (rows P) P.main).node

-- these are inputs of the program: one for each parameter of `main`, of its kind
abbrev pub AreInputs : Checked → List Constant → Type 0
AreInputs P vs = AreFor P (main_params P) vs

-- the value is the input for main's parameter at the row
pub record IsInput (S : Source) (b : ℕ) (c : Constant) : Type 0 where
  pub number : ℕ
  pub param : slice_get (main_params S.checked) number ≡ Some b
  pub value : slice_get S.inputs number ≡ Some c
