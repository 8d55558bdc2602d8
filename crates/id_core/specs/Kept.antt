-- That inputs are for a graph can be kept by a type: there is at most one proof of it.
use Rattle.std.specs.Prelude.{ℕ, List, [], ◌∷◌, Some}
use Rattle.std.specs.Coded.{×_prop, Coded-set, Unit-prop, coded_option}
use Rattle.id_value.specs.declared.Constant.{Constant}
use Rattle.id_instr.specs.contracts.instr.Op as op
use Rattle.id_instr.specs.declared.instr.Op.TheVariants.{Merge}
use Rattle.id_instr.specs.Graph.{Parts}
use Rattle.id_ops.specs.Operators.{constant_value}
use Rattle.id_tag.specs.Kinds.{kind_of}
use Rattle.id_valid.specs.Roles.{op_at}
use Rattle.id_core.specs.Machines.{AreTaken, TakesInputs}

-- there is at most one proof that each of these instructions takes its input
AreTaken-prop : (g : Parts) (ns : List ℕ) (vs : List Constant) → IsProp (AreTaken g ns vs)
AreTaken-prop g [] [] = Unit-prop
AreTaken-prop g [] (v ∷ vs) = λ x y. absurd x
AreTaken-prop g (n ∷ ns) [] = λ x y. absurd x
AreTaken-prop g (n ∷ ns) (v ∷ vs) =
    ×_prop (Coded-set (coded_option op.the_row.coded) (op_at g n) (Some (Merge (kind_of (constant_value v)))))
    (AreTaken-prop g ns vs)

-- there is at most one proof that inputs are for a graph
pub TakesInputs-prop : (g : Parts) (vs : List Constant) → IsProp (TakesInputs g vs)
TakesInputs-prop g vs = λ x y i. record {
  taken = λ b main. AreTaken-prop g b.entries vs (x.taken b main) (y.taken b main) i;
}
