-- The codes of machines, by which their models tell them apart.
use Rattle.std.specs.Prelude.{ℕ, List, refl}
use Rattle.std.specs.Coded.{Coded, code_by, coded×, coded_ℕ, coded_list}
use Rattle.id_instr.specs.Graph.{Parts}
use Rattle.id_tag.specs.declared.Message.{Message}
use Rattle.id_step.specs.Steps.{State}
use Rattle.id_record.specs.declared.kept.Keeps.{Keeps}
use Rattle.id_step.specs.Codes.{coded_graph, coded_keeps, coded_message, coded_state}
use Rattle.id_core.specs.Machines.{World, MachineView}

-- a machine's world as the pair of its fields
abbrev pub coded_world : Coded World
coded_world =
    code_by (List State × List Message) (coded× (coded_list coded_state) (coded_list coded_message))
    (λ w. (w.elements, w.flight)) (λ p. record { elements = p.0; flight = p.1 }) (λ _. refl)

-- a machine as the tuple of its fields
abbrev pub coded_machine : Coded MachineView
coded_machine =
    code_by (Parts × (ℕ × (Keeps × World)))
    (coded× coded_graph (coded× coded_ℕ (coded× coded_keeps coded_world)))
    (λ m. (m.graph, (m.count, (m.keeps, m.world))))
    (λ p. record { graph = p.0; count = p.1.0; keeps = p.1.1.0; world = p.1.1.1 })
    (λ _. refl)
