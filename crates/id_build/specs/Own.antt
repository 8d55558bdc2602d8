-- The graph of a program: of those that the schemas give it the one that is made row by row (docs/GRAPH.md, "Schemas").
use Rattle.std.specs.Prelude.{◌≡◌, ℕ, ◌+◌, List}
use Rattle.id_check.specs.declared.checked.Checked.{Checked}
use Rattle.id_desugar.specs.Regions.{order_of}
use Rattle.id_instr.specs.Graph.{Parts}
use Rattle.id_build.specs.Made.{AreFirsts, first_in, graph_by}
use Rattle.id_build.specs.Schemas.{Numbered, Schemas}

-- the number of the part k of the row n: k more than what the rows before it make, in the order of the rows
abbrev pub own_number : Checked → ℕ → ℕ → ℕ
own_number P n k = first_in P 0 (order_of P) n + k

-- the graph is the program's own: the schemas give it, with these numbers, and where an instruction sends to stands in
-- the order in which the rows that it feeds are made. So a program has one
pub record IsOwn (P : Checked) (G : Parts) : Type 0 where
  pub numbered : Numbered P G (own_number P)
  pub firsts : List ℕ
  pub are_firsts : AreFirsts P (order_of P) firsts
  pub is : G ≡ graph_by P (order_of P) firsts

-- so it is one that the schemas give
abbrev pub schemas_of : {P : Checked} {G : Parts} → IsOwn P G → Schemas P G
schemas_of {P} {G} h = record { number = own_number P; numbered = h.numbered }
