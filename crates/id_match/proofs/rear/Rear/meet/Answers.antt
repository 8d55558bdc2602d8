-- what the frames tell, said of the store
use Rattle.std.proofs.Common.{◌∙◌, sym, ap}
use Rattle.std.specs.FinMap.{from_entries, len}
use Rattle.id_tag.specs.Tags.{tag_cmp}
use Rattle.id_match.specs.Halves.{answer_at}
use Rattle.id_match.specs.Rear.{rear_entries, said}
use Rattle.id_match.specs.declared.meeting.Offered.TheVariants.{Kept}
use Rattle.id_match.proofs.CountedLemmas.{after_framed, answer_framed, counted_by, had_room, same_framed}
use Rattle.id_match.proofs.FramedLemmas.{here_said, same_said}
use Rattle.id_match.proofs.FrontLemmas.{if_some}
use Rattle.id_match.proofs.RearLemmas.{err_always}
use Rattle.id_match.proofs.rear.Rear.meet.Goals as goal

pub invariant_of-self : goal.invariant_of-self
invariant_of-self c =
    let same = same_framed c.self.inside.keys.entries c.self.inside.frames _ c.self.view_is c.self.invariant.0 c.args.tag c.args.half.port
    c.args.half.value c.offer_to.new.keys.entries c.offer_to.new.frames c.offer_to.ensures.holds.framed c.offer_to.ensures.holds.there
    c.in_err-came.ensures.holds.here in
    (c.offer_to.ensures.holds.framed, c.self.invariant.1 ∙ ap len (c.self.view_is ∙ sym same), c.self.invariant.2)

pub returns-in_err-came-clause-grows : goal.returns-in_err-came-clause-grows
returns-in_err-came-clause-grows c =
    err_always c.from_residual.result
    (sym (answer_framed c.self.inside.keys.entries c.self.inside.frames _ c.self.view_is c.self.invariant.0 c.args.tag c.args.half.port
    c.args.half.value Kept (sym (ap (λ o. answer_at o c.args.half.port c.args.half.value) c.in_err-came.ensures.tells))))

pub returns-in_err-came-clause-err : goal.returns-in_err-came-clause-err
returns-in_err-came-clause-err c =
    err_always c.from_residual.result
    (same_framed c.self.inside.keys.entries c.self.inside.frames _ c.self.view_is c.self.invariant.0 c.args.tag c.args.half.port
    c.args.half.value c.offer_to.new.keys.entries c.offer_to.new.frames c.offer_to.ensures.holds.framed c.offer_to.ensures.holds.there
    c.in_err-came.ensures.holds.here)

pub returns-clause-answer : goal.returns-clause-answer
returns-clause-answer c =
    if_some (said c.in_ok-came.came c.args.half)
    (λ a e. answer_framed c.self.inside.keys.entries c.self.inside.frames _ c.self.view_is c.self.invariant.0 c.args.tag c.args.half.port
    c.args.half.value a e) c.in_ok-came.ensures.tells.answer

pub returns-clause-after : goal.returns-clause-after
returns-clause-after c =
    if_some (said c.in_ok-came.came c.args.half)
    (λ a e. after_framed c.self.inside.keys.entries c.self.inside.frames _ c.self.view_is c.self.invariant.0 c.args.tag c.args.half.port
    c.args.half.value c.offer_to.new.keys.entries c.offer_to.new.frames c.offer_to.ensures.holds.framed c.offer_to.ensures.holds.there e)
    (here_said (said c.in_ok-came.came c.args.half) c.args.half _ _ c.in_ok-came.ensures.holds.here)

pub returns-clause-apart : goal.returns-clause-apart
returns-clause-apart c = λ none.
    same_framed c.self.inside.keys.entries c.self.inside.frames _ c.self.view_is c.self.invariant.0 c.args.tag c.args.half.port
    c.args.half.value c.offer_to.new.keys.entries c.offer_to.new.frames c.offer_to.ensures.holds.framed c.offer_to.ensures.holds.there
    (same_said (said c.in_ok-came.came c.args.half) c.args.half _ _ c.in_ok-came.ensures.holds.here none)

pub returns-clause-taken : goal.returns-clause-taken
returns-clause-taken c = λ long none.
    sym (answer_framed c.self.inside.keys.entries c.self.inside.frames _ c.self.view_is c.self.invariant.0 c.args.tag c.args.half.port
    c.args.half.value _ (sym (c.in_ok-came.ensures.tells.taken long none)))

pub invariant_of-self-2 : goal.invariant_of-self-2
invariant_of-self-2 c =
    let counts = counted_by c.args.self.now (from_entries {R = tag_cmp} (rear_entries c.offer_to.new.keys.entries c.offer_to.new.frames))
    c.args.tag c.args.half c.self.inside.count c.counted-self-inside.result (c.self.invariant.1 ∙ ap len c.self.view_is) c.self.invariant.2
    c.in_ok-came.came (returns-clause-answer c) (returns-clause-after c) (returns-clause-apart c)
    (had_room c.in_ok-came.came c.self.inside.count 4_611_686_018_427_387_904 c.in_ok-came.ensures.tells.full)
    c.counted-self-inside.ensures.kept c.counted-self-inside.ensures.plain c.counted-self-inside.ensures.partner
    c.counted-self-inside.ensures.apart in
    (c.offer_to.ensures.holds.framed, counts.0, counts.1)
