-- The event at a position is that of what was handled.
use Rattle.std.proofs.Common.{◌≡◌, ◌+◌, Some, true, length, sym, ap, subst, ◌∙◌, arith}
use Rattle.std.specs.Prelude.{slice_get}
use Rattle.id_valid.specs.Validator.{IsValid}
use Rattle.id_record.specs.Handlings.{AreThere}
use Rattle.id_record.specs.Kept.{keeps_all}
use Rattle.id_record.specs.Records.{event_of_handled}
use Rattle.id_record.proofs.EachLemmas.{each-get}
use Rattle.id_record.proofs.SendsLemmas.{HasSecond-valid}
use Rattle.id_record.proofs.RecordsLemmas.{events_from-get, length-events_from}
use Rattle.id_record.specs.Handlings.{HasThere}
use Rattle.id_record.proofs.history.Record.event.Goals as goal

pub event-handled-requires : goal.event-handled-requires
event-handled-requires c =
    let r = c.self.inside in
    let all : keeps_all r.kept.keeps ≡ true = ap keeps_all (ap (λ v. v.keeps) c.self.view_is ∙ c.requires.keeps) in
    omega (
      arith,
      c.requires.position,
      ap length (c.self.invariant.events all),
      length-events_from r.graph.now r.element r.replies 0 r.handled,
      ap (λ v. length v.events) c.self.view_is,
    )

pub new-requires : goal.new-requires
new-requires c =
    let g = c.graph-graph.result.now in
    let valid : IsValid g = subst IsValid (sym c.graph-graph.ensures.value) c.graph-graph.ensures.kept in
    HasSecond-valid g c.tag_of-tag.result.instr c.op_at.result c.op_at.ensures.graph valid (sym c.op_at.ensures.op)

pub replies_in-requires : goal.replies_in-requires
replies_in-requires c =
    let r = c.self.inside in
    let h = c.event-handled.result in
    let all : keeps_all r.kept.keeps ≡ true = ap keeps_all (ap (λ v. v.keeps) c.self.view_is ∙ c.requires.keeps) in
    let there : slice_get r.handled c.args.position ≡ Some h =
    sym (ap (λ hs. slice_get hs c.args.position) (c.self.invariant.events all)) ∙ c.event-handled.ensures in
    subst (λ ts. AreThere ts h.replies) (sym (c.replies.ensures ∙ c.self.invariant.replies all))
    (each-get (HasThere r.replies) r.handled c.args.position h c.self.invariant.there there)

pub returns : goal.returns
returns c =
    let r = c.self.inside in
    let h = c.event-handled.result in
    let all : keeps_all r.kept.keeps ≡ true = ap keeps_all (ap (λ v. v.keeps) c.self.view_is ∙ c.requires.keeps) in
    let there : slice_get r.handled c.args.position ≡ Some h =
    sym (ap (λ hs. slice_get hs c.args.position) (c.self.invariant.events all)) ∙ c.event-handled.ensures in
    let number : 0 + c.args.position ≡ c.args.position = omega arith in
    rw (
      c.full_step.ensures,
      c.new.ensures,
      c.value_of.ensures,
      c.replies_in.ensures,
      c.replies.ensures,
      c.self.invariant.replies all,
      c.op_at.ensures.op,
      c.dests_at.ensures,
      c.graph-graph.ensures.value,
      c.tag_of-tag.ensures,
      ← ap (λ v. v.events) c.self.view_is,
    )
    (
    events_from-get r.graph.now r.element r.replies 0 r.handled c.args.position h there
    ∙ ap (λ k. Some (event_of_handled r.graph.now r.element r.replies k h)) number
    )
