-- What is wrong in a row that is about no name, for use inside.
use Rattle.std.specs.Prelude.{ℕ, List, [], Option}
use Rattle.id_value.specs.declared.Kind.{Kind}
use Rattle.id_value.specs.declared.Kind.TheVariants.{Int, Bool}
use Rattle.id_table.specs.declared.row.Row.{Row}
use Rattle.id_table.specs.declared.row.Node.{Node}
use Rattle.id_table.specs.declared.row.Node.TheVariants.{Unary, Binary, Split, If, Switches, Next}
use Rattle.id_table.specs.declared.row.Node.TheVariants.{Fetch, Address, Store, Bounds}
use Rattle.id_table.specs.declared.row.Node.TheVariants as node
use Rattle.id_check.specs.declared.cause.CheckCause.{CheckCause}
use Rattle.id_check.specs.Causes.{wrong, wrong_both, wrong_cell, wrong_like, wrong_operands}
use Rattle.id_check.specs.Kinds.{unary_kind}

-- the causes in the parts of a row of this node: of another kind than is wanted
abbrev pub wrong_parts : List Row → (ℕ → Option Kind) → Node → List CheckCause
wrong_parts R κ (Unary p a) = wrong R κ (unary_kind p) a
wrong_parts R κ (Binary p a b) = wrong_operands R κ p a b
wrong_parts R κ (Split t) = wrong R κ Bool t
wrong_parts R κ (If s x y) = wrong_like R κ (κ x) y
wrong_parts R κ (Bounds a b) = wrong_both R κ Int a b
wrong_parts R κ (Switches t) = wrong R κ Bool t
wrong_parts R κ (Next x k u v) = wrong_like R κ (κ u) v
wrong_parts R κ (node.Array nested a b) = wrong_both R κ Int a b
wrong_parts R κ (Fetch t i) = wrong_cell R κ t i
wrong_parts R κ (Address t i) = wrong_cell R κ t i
wrong_parts R κ (Store a v) = wrong_like R κ (κ a) v
wrong_parts R κ _ = []
