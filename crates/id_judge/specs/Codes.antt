-- The codes of machines at work, by which their models tell them apart.
use Rattle.std.specs.Prelude.{List, refl}
use Rattle.std.specs.Coded.{Coded, code_by, coded×, coded_list}
use Rattle.id_instr.specs.Graph.{Parts}
use Rattle.id_tag.specs.declared.Message.{Message}
use Rattle.id_record.specs.declared.kept.Keeps.{Keeps}
use Rattle.id_step.specs.Codes.{coded_element, coded_graph, coded_keeps, coded_message}
use Rattle.id_core.specs.Replays.{ElementView}
use Rattle.id_judge.specs.Benches.{BenchView}

-- a machine at work as the tuple of its fields
abbrev pub coded_bench : Coded BenchView
coded_bench =
    code_by (Parts × (Keeps × (List ElementView × List Message)))
    (coded× coded_graph (coded× coded_keeps (coded× (coded_list coded_element) (coded_list coded_message))))
    (λ b. (b.graph, (b.keeps, (b.elements, b.flight))))
    (λ p. record { graph = p.0; keeps = p.1.0; elements = p.1.1.0; flight = p.1.1.1 })
    (λ _. refl)
