-- There is an event at each place, and the event at a position is that of its place.
use Rattle.std.proofs.Common.{◌≡◌, ◌<◌, length, vec_len, sym, ap, ◌∙◌, arith, refl}
use Rattle.std.proofs.lemmas.Grind.{common_steps}
use Rattle.std.proofs.lemmas.List.Elements.{recursion_from_All}
use Rattle.std.proofs.lemmas.Option.{slice_get_read}
use Rattle.id_observe.specs.Merged.{IsPlace, events_at}
use Rattle.id_observe.proofs.MergedLemmas.{length-events_at, place_record, place_event, place_there, event_there}
use Rattle.id_record.proofs.EachLemmas.{each-get}
use Rattle.id_observe.proofs.merge.Merged.event.Goals as goal

pub index-place-requires : goal.index-place-requires
index-place-requires c =
    let rs = c.self.inside.records.items in
    let ps = c.self.inside.places.items in
    let many : length c.args.self.now ≡ length ps = ap length (sym c.self.view_is) ∙
    length-events_at rs ps (recursion_from_All (IsPlace rs) ps c.self.invariant) in
    let held : vec_len c.self.inside.places ≡ length ps = grind (arith, common_steps) in
    omega (arith, many, held, c.requires)

pub index-events-requires : goal.index-events-requires
index-events-requires c =
    let rs = c.self.inside.records.items in
    let ps = c.self.inside.places.items in
    let are = recursion_from_All (IsPlace rs) ps c.self.invariant in
    let below : c.args.position < length (events_at rs ps) = omega (arith, ap length c.self.view_is) in
    let there = place_there rs ps c.args.position c.index-place.result.now are below c.index-place.ensures in
    let within =
    place_record rs c.index-place.result.now
    (each-get (IsPlace rs) ps c.args.position c.index-place.result.now are there) in
    let held : vec_len c.self.inside.records ≡ length rs = grind (arith, common_steps) in
    omega (arith, within, held)

pub event-requires : goal.event-requires
event-requires c =
    let rs = c.self.inside.records.items in
    let ps = c.self.inside.places.items in
    let are = recursion_from_All (IsPlace rs) ps c.self.invariant in
    let below : c.args.position < length (events_at rs ps) = omega (arith, ap length c.self.view_is) in
    let there = place_there rs ps c.args.position c.index-place.result.now are below c.index-place.ensures in
    let is_place = each-get (IsPlace rs) ps c.args.position c.index-place.result.now are there in
    let log = slice_get_read rs _ _ _ refl (place_record rs c.index-place.result.now is_place) c.index-events.ensures in
    place_event rs c.index-place.result.now c.index-events.result.now is_place log

pub returns : goal.returns
returns c =
    let rs = c.self.inside.records.items in
    let ps = c.self.inside.places.items in
    let are = recursion_from_All (IsPlace rs) ps c.self.invariant in
    let below : c.args.position < length (events_at rs ps) = omega (arith, ap length c.self.view_is) in
    let there = place_there rs ps c.args.position c.index-place.result.now are below c.index-place.ensures in
    let is_place = each-get (IsPlace rs) ps c.args.position c.index-place.result.now are there in
    let log = slice_get_read rs _ _ _ refl (place_record rs c.index-place.result.now is_place) c.index-events.ensures in
    rw (← c.self.view_is)
    (event_there rs ps c.args.position c.index-place.result.now c.index-events.result.now are there log
    ∙ c.event.ensures)
