-- That inputs are those of a program can be kept by a type: there is at most one proof of it.
use Rattle.std.specs.Prelude.{ℕ, true, List, [], ◌∷◌}
use Rattle.std.specs.Coded.{×_prop, Coded-set, Unit-prop, coded_bool}
use Rattle.id_value.specs.contracts.Kind as kind
use Rattle.id_value.specs.declared.Constant.{Constant}
use Rattle.id_value.specs.declared.Constant.TheVariants as constant
use Rattle.id_value.specs.Results.{is_whole}
use Rattle.id_table.specs.declared.row.Node.{Node}
use Rattle.id_table.specs.declared.row.Node.TheVariants.{Param}
use Rattle.id_table.specs.Rows.{at}
use Rattle.id_check.specs.declared.checked.Checked.{Checked}
use Rattle.id_check.specs.Programs.{rows}
use Rattle.id_source.specs.Sources.{AreFor, AreInputs, IsWhole, SuitsParam, constant_kind, main_params}

-- there is at most one proof that a constant is one of the language
IsWhole-prop : (c : Constant) → IsProp (IsWhole c)
IsWhole-prop (constant.Int n) = Coded-set coded_bool (is_whole n) true
IsWhole-prop (constant.Bool b) = Unit-prop

-- and that it suits a parameter
SuitsParam-prop : (n : Node) (c : Constant) → IsProp (SuitsParam n c)
SuitsParam-prop (Param x k) c = ×_prop (Coded-set kind.the_row.coded (constant_kind c) k) (IsWhole-prop c)
SuitsParam-prop _ c = λ x y. absurd x

-- and that there is one for each parameter
AreFor-prop : (P : Checked) (bs : List ℕ) (vs : List Constant) → IsProp (AreFor P bs vs)
AreFor-prop P [] [] = Unit-prop
AreFor-prop P [] (v ∷ vs) = λ x y. absurd x
AreFor-prop P (b ∷ bs) [] = λ x y. absurd x
AreFor-prop P (b ∷ bs) (v ∷ vs) = ×_prop (SuitsParam-prop (at (rows P) b).node v) (AreFor-prop P bs vs)

-- there is at most one proof that constants are the inputs of a program
pub AreInputs-prop : (P : Checked) (vs : List Constant) → IsProp (AreInputs P vs)
AreInputs-prop P vs = AreFor-prop P (main_params P) vs
