-- The codes of elements, by which their models tell them apart.
use Rattle.std.specs.Prelude.{ℕ, List, refl}
use Rattle.std.specs.Coded.{Coded, code_by, coded×, coded_ℕ, coded_list}
use Rattle.id_instr.specs.Graph.{Parts}
use Rattle.id_valid.specs.contracts.valid.Valid as valid
use Rattle.id_tag.specs.declared.Message.{Message}
use Rattle.id_tag.specs.contracts.Message as message
use Rattle.id_match.specs.Waiting.{Store}
use Rattle.id_match.specs.Codes.{coded_store}
use Rattle.id_bank.specs.Cells.{Cells}
use Rattle.id_bank.specs.Codes.{coded_cells}
use Rattle.id_ops.specs.declared.Fired.{Fired}
use Rattle.id_ops.specs.contracts.Fired as fired
use Rattle.id_record.specs.declared.step.Step.{Step}
use Rattle.id_record.specs.contracts.step.Step as step
use Rattle.id_record.specs.declared.kept.Keeps.{Keeps}
use Rattle.id_record.specs.contracts.kept.Keeps as keeps
use Rattle.id_record.specs.Events.{EventView}
use Rattle.id_step.specs.Steps.{State}
use Rattle.id_step.specs.Replays.{ElementView}

-- a graph has the code of its type
abbrev pub coded_graph : Coded Parts
coded_graph = valid.the_row.coded

-- a message has the code of its type
abbrev pub coded_message : Coded Message
coded_message = message.the_row.coded

-- what was fired has the code of its type
abbrev pub coded_fired : Coded Fired
coded_fired = fired.the_row.coded

-- what an event came to has the code of its type
abbrev pub coded_step : Coded Step
coded_step = step.the_row.coded

-- how much is kept has the code of its type
abbrev pub coded_keeps : Coded Keeps
coded_keeps = keeps.the_row.coded

-- an event as the tuple of its fields
abbrev pub coded_event : Coded EventView
coded_event =
    code_by (ℕ × (ℕ × (Message × (Fired × (List Message × Step)))))
    (coded× coded_ℕ (coded× coded_ℕ
    (coded× coded_message (coded× coded_fired (coded× (coded_list coded_message) coded_step)))))
    (λ e. (e.element, (e.stamp, (e.message, (e.fired, (e.outputs, e.step))))))
    (λ p. record {
      element = p.0;
      stamp = p.1.0;
      message = p.1.1.0;
      fired = p.1.1.1.0;
      outputs = p.1.1.1.1.0;
      step = p.1.1.1.1.1;
    })
    (λ _. refl)

-- a state as the tuple of its fields
abbrev pub coded_state : Coded State
coded_state =
    code_by (Store × (Cells × (ℕ × (ℕ × (ℕ × List EventView)))))
    (coded× coded_store (coded× coded_cells
    (coded× coded_ℕ (coded× coded_ℕ (coded× coded_ℕ (coded_list coded_event))))))
    (λ s. (s.waiting, (s.cells, (s.stamp, (s.contexts, (s.structures, s.events))))))
    (λ p. record {
      waiting = p.0;
      cells = p.1.0;
      stamp = p.1.1.0;
      contexts = p.1.1.1.0;
      structures = p.1.1.1.1.0;
      events = p.1.1.1.1.1;
    })
    (λ _. refl)

-- an element as the tuple of its fields
abbrev pub coded_element : Coded ElementView
coded_element =
    code_by (ℕ × (ℕ × (Parts × (Keeps × State))))
    (coded× coded_ℕ (coded× coded_ℕ (coded× coded_graph (coded× coded_keeps coded_state))))
    (λ e. (e.number, (e.count, (e.graph, (e.keeps, e.state)))))
    (λ p. record { number = p.0; count = p.1.0; graph = p.1.1.0; keeps = p.1.1.1.0; state = p.1.1.1.1 })
    (λ _. refl)
