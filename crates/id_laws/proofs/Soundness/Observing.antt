-- What a machine shows comes from messages that were handled, and these tell.
use Rattle.std.proofs.Common.{◌≡◌, ℕ, Option, List, sym, ◌∙◌, ap, subst}
use Rattle.std.specs.Option.{option_map_or}
use Rattle.id_value.specs.List.{Among}
use Rattle.id_value.proofs.AmongLemmas.{Among-map}
use Rattle.id_check.specs.declared.checked.Checked.{Checked}
use Rattle.id_check.specs.Programs.{place}
use Rattle.id_instr.specs.declared.instr.Instr.{Instr}
use Rattle.id_instr.specs.Graph.{Parts}
use Rattle.id_core.specs.Events.{EventView}
use Rattle.id_core.specs.Machines.{World}
use Rattle.id_core.specs.Observed as shown
use Rattle.id_value.specs.declared.Constant.{Constant}
use Rattle.id_build.specs.Rows.{node}
use Rattle.id_build.specs.Schemas.{Numbered}
use Rattle.id_runs.specs.Events.{Event, payload_of}
use Rattle.id_runs.specs.Runs.{Reach, handled}
use Rattle.id_runs.proofs.RecordsOfRuns.{Shows, from_record, recorded}
use Rattle.id_laws.specs.Laws.{events}
use Rattle.id_laws.specs.Topics.{IsPart}
use Rattle.id_laws.proofs.Rows.Arcs.{doing, place_shown}

-- the place that a part's instruction shows
pub part_place : {P : Checked} {g : Parts} {number : ℕ → ℕ → ℕ} {n part : ℕ} → Numbered P g number → IsPart P n part
    → shown.place_of g (number n part) ≡ place_shown P (place P n) (node P n)
part_place {n = n} {part = part} numbered x =
    let m = numbered.made n part x.form x.place x.makes in
    ap (λ (o : Option Instr). option_map_or (λ (j : Instr). j.place) o 0) m.at ∙ m.place ∙ (doing x.makes).place_is

module _ (g : Parts) (inputs : List Constant) (count : ℕ) (s : World) (run : List Event)
    (r : Reach g inputs count s run) where
  -- an event of a record is one of the run
  pub handled_event : (v : EventView) → Among v (events s) → (e : Event) × Among e run × Shows g v e
  handled_event v among = from_record g inputs count s run r v (recorded s v among)

  -- its message was handled
  pub message_handled : (v : EventView) → Among v (events s) → Among v.message.payload (handled run)
  message_handled v among =
      let known = handled_event v among in
      subst (λ x. Among x (handled run)) (sym (known.2).payload) (Among-map payload_of known.0 run known.1)
