-- The nodes of forms of two expressions, and the sides of switches.
use Rattle.std.specs.Prelude.{ℕ, false}
use Rattle.id_table.specs.declared.node.Pairing.{Pairing}
use Rattle.id_table.specs.declared.node.Pairing.TheVariants.{Binary, Array, Fetch}
use Rattle.id_table.specs.declared.row.Stand.{Stand}
use Rattle.id_table.specs.declared.row.Node.{Node}
use Rattle.id_table.specs.declared.row.Node.TheVariants as node
use Rattle.id_table.specs.Rows.{arm_at}

-- on the other side of the switches on whose true side it is
abbrev pub other_side : Stand → Stand
other_side s = record { block = s.block; region = arm_at s.region.head false }

-- the node of this form with these parts
abbrev pub pair_node : Pairing → ℕ → ℕ → Node
pair_node (Binary o) a b = node.Binary o a b
pair_node (Array nested) a b = node.Array nested a b
pair_node Fetch a b = node.Fetch a b
