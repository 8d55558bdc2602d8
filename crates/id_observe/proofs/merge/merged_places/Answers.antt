-- The earliest head's event is merged next, until there is none.
use Rattle.std.proofs.Common.{◌≡◌, ◌<◌, length, vec_len, subst, arith, rules}
use Rattle.std.proofs.lemmas.Grind.{common_steps}
use Rattle.id_observe.specs.Merged.{AreMerged}
use Rattle.id_observe.proofs.MergedLemmas.{IsMerging-start, IsMerging-end, earliest_within, merging_turn, turn_event}
use Rattle.id_observe.proofs.MergedLemmas.{turn_smaller}
use Rattle.id_observe.proofs.merge.merged_places.Goals as goal

pub loop-index-init : goal.loop-index-init
loop-index-init c =
    rw (c.in_ok-heads.ensures, c.in_ok-places.ensures.items) (IsMerging-start c.args.records.now c.requires)

pub index-requires : goal.index-requires
index-requires c =
    let within =
    earliest_within c.args.records.now c.loop-index.heads.items c.as_slice.result.now c.loop-index.places.items
    c.in-Some.index
    c.loop-index.invariant c.as_slice.ensures.value c.in-Some.ensures in
    let held : vec_len c.loop-index.heads ≡ length c.loop-index.heads.items = grind (arith, common_steps) in
    omega (arith, within.0, held)

pub offset_bounds-records-index : goal.offset_bounds-records-index
offset_bounds-records-index c =
    let within =
    earliest_within c.args.records.now c.loop-index.heads.items c.as_slice.result.now c.loop-index.places.items
    c.in-Some.index
    c.loop-index.invariant c.as_slice.ensures.value c.in-Some.ensures in
    let below : c.in-Some.index < length c.args.records.now = within.1 in
    first_of (search rules, omega arith)

pub bounds-records-index : goal.bounds-records-index
bounds-records-index c =
    (earliest_within c.args.records.now c.loop-index.heads.items c.as_slice.result.now c.loop-index.places.items
    c.in-Some.index c.loop-index.invariant
    c.as_slice.ensures.value c.in-Some.ensures).1

pub next_head-requires : goal.next_head-requires
next_head-requires c =
    turn_event c.args.records.now c.loop-index.heads.items c.as_slice.result.now c.loop-index.places.items
    c.in-Some.index c.index-records-index.result
    c.index.result.now c.loop-index.invariant c.as_slice.ensures.value c.in-Some.ensures c.index-records-index.is
    c.index.ensures

pub index_mut-requires : goal.index_mut-requires
index_mut-requires c =
    let within =
    earliest_within c.args.records.now c.loop-index.heads.items c.as_slice.result.now c.loop-index.places.items
    c.in-Some.index
    c.loop-index.invariant c.as_slice.ensures.value c.in-Some.ensures in
    let held : vec_len c.loop-index.heads ≡ length c.loop-index.heads.items = grind (arith, common_steps) in
    omega (arith, within.0, held)

pub loop-index-preserved : goal.loop-index-preserved
loop-index-preserved c =
    rw (c.next_head.ensures, c.in_ok-push-in-Some.ensures.items)
    (merging_turn c.args.records.now c.loop-index.heads.items c.as_slice.result.now c.loop-index.places.items
    c.in-Some.index c.index-records-index.result
    c.index.result.now c.requires c.loop-index.invariant c.as_slice.ensures.value c.in-Some.ensures
    c.index-records-index.is c.index.ensures)

pub loop-index-smaller : goal.loop-index-smaller
loop-index-smaller c =
    rw c.next_head.ensures
    (turn_smaller c.args.records.now c.loop-index.heads.items c.as_slice.result.now c.loop-index.places.items
    c.in-Some.index c.index-records-index.result
    c.index.result.now c.loop-index.invariant c.as_slice.ensures.value c.in-Some.ensures c.index-records-index.is
    c.index.ensures)

pub returns-in-None : goal.returns-in-None
returns-in-None c =
    IsMerging-end c.args.records.now c.loop-index.heads.items c.loop-index.places.items c.loop-index.invariant
    (subst AreMerged c.as_slice.ensures.value c.in-None.ensures)
