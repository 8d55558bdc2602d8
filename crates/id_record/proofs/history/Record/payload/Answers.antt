-- What the message of an event says, where all are kept.
use Rattle.std.proofs.Common.{◌≡◌, Some, true, length, sym, ap, ◌∙◌, arith}
use Rattle.std.specs.Prelude.{option_map, slice_get}
use Rattle.id_record.specs.Kept.{keeps_all}
use Rattle.id_record.proofs.RecordsLemmas.{events_from-get, length-events_from}
use Rattle.id_record.proofs.history.Record.payload.Goals as goal

pub event-requires : goal.event-requires
event-requires c =
    let r = c.self.inside in
    let all : keeps_all r.kept.keeps ≡ true = ap keeps_all (ap (λ v. v.keeps) c.self.view_is ∙ c.requires.keeps) in
    omega (
      arith,
      c.requires.position,
      ap length (c.self.invariant.events all),
      length-events_from r.graph.now r.element r.replies 0 r.handled,
      ap (λ v. length v.events) c.self.view_is,
    )

pub returns : goal.returns
returns c =
    let r = c.self.inside in
    let k = c.args.position in
    let all : keeps_all r.kept.keeps ≡ true = ap keeps_all (ap (λ v. v.keeps) c.self.view_is ∙ c.requires.keeps) in
    let there : slice_get r.handled k ≡ Some c.event.result = sym (ap (λ hs. slice_get hs k) (c.self.invariant.events all)) ∙ c.event.ensures in
    ap (λ v. option_map (λ e. e.message.payload) (slice_get v.events k)) (sym c.self.view_is)
    ∙ ap (option_map (λ e. e.message.payload)) (events_from-get r.graph.now r.element r.replies 0 r.handled k c.event.result there)
