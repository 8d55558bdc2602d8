-- The code of a compiled program, by which its model tells values apart.
use Rattle.std.specs.Prelude.{ℕ, List, refl}
use Rattle.std.specs.Coded.{Coded, code_by, coded×, coded_list, coded_ℕ}
use Rattle.id_check.specs.declared.checked.Checked.{Checked}
use Rattle.id_check.specs.contracts.checked.Checked as checked
use Rattle.id_instr.specs.Graph.{Parts}
use Rattle.id_valid.specs.contracts.valid.Valid as valid
use Rattle.id_compile.specs.Programs.{CompiledView}

-- a text with its program and a graph, as the three of them
abbrev pub coded_compiled : Coded CompiledView
coded_compiled = code_by (List ℕ × (Checked × Parts))
    (coded× (coded_list coded_ℕ) (coded× checked.the_row.coded valid.the_row.coded))
    (λ c. (c.text, (c.checked, c.graph))) (λ p. record { text = p.0; checked = p.1.0; graph = p.1.1 }) (λ _. refl)
