-- what the rear tells of an offer, said of its entries, and of the pair that tells what stands behind it
use Rattle.std.proofs.Common.{◌≡◌, ◌∙◌, sym}
use Rattle.std.specs.FinMap.{entries}
use Rattle.std.specs.Map.{lookup}
use Rattle.id_tag.specs.Tags.{same_tag}
use Rattle.id_match.specs.Halves.{answer_at}
use Rattle.id_match.specs.declared.meeting.Offered.TheVariants.{Kept}
use Rattle.id_match.proofs.RearLemmas.{answer-lookup, err_always, here_after, others_after, partner_left}
use Rattle.id_match.proofs.offer_to.Goals as goal

-- memory was wanted for a value that would have been kept
pub returns-in_err-answer-clause-grows : goal.returns-in_err-answer-clause-grows
returns-in_err-answer-clause-grows c =
    let grows : answer_at (lookup (same_tag c.args.tag) (entries c.args.rear.now)) c.args.port c.args.value ≡ Kept =
    sym (answer-lookup c.args.rear.now c.args.tag c.args.port c.args.value) ∙ c.in_err-answer.ensures.grows in
    err_always c.from_residual.result grows

-- the value is kept
pub returns-in-Kept-clause-answer : goal.returns-in-Kept-clause-answer
returns-in-Kept-clause-answer c = c.in_ok-answer.ensures.answer ∙ answer-lookup c.args.rear.now c.args.tag c.args.port c.args.value

pub returns-in-Kept-clause-at : goal.returns-in-Kept-clause-at
returns-in-Kept-clause-at c = here_after _ _ _ _ _ c.in_ok-answer.ensures.after

pub returns-in-Kept-clause-others : goal.returns-in-Kept-clause-others
returns-in-Kept-clause-others c = others_after _ _ _ _ _ c.in_ok-answer.ensures.after

pub returns-in-Kept-clause-marked : goal.returns-in-Kept-clause-marked
returns-in-Kept-clause-marked c = λ marked. c.step_behind.ensures.marked _ _ marked (others_after _ _ _ _ _ c.in_ok-answer.ensures.after)

-- the partner leaves
pub returns-in-Pair-clause-answer : goal.returns-in-Pair-clause-answer
returns-in-Pair-clause-answer c = c.in_ok-answer.ensures.answer ∙ answer-lookup c.args.rear.now c.args.tag c.args.port c.args.value

pub returns-in-Pair-clause-at : goal.returns-in-Pair-clause-at
returns-in-Pair-clause-at c = here_after _ _ _ _ _ c.in_ok-answer.ensures.after

pub returns-in-Pair-clause-others : goal.returns-in-Pair-clause-others
returns-in-Pair-clause-others c = others_after _ _ _ _ _ c.in_ok-answer.ensures.after

pub returns-in-Pair-clause-marked : goal.returns-in-Pair-clause-marked
returns-in-Pair-clause-marked c = λ marked.
    let left = partner_left (lookup (same_tag c.args.tag) (entries c.args.rear.now)) c.args.port c.args.value c.in-Pair.field-0 c.in-Pair.field-1
    (sym c.in-Pair.is ∙ c.in_ok-answer.ensures.answer ∙ answer-lookup c.args.rear.now c.args.tag c.args.port c.args.value) in
    c.leave_behind.ensures.marked _ _ marked (others_after _ _ _ _ _ c.in_ok-answer.ensures.after) left.0
    (here_after _ _ _ _ _ c.in_ok-answer.ensures.after ∙ left.1)

-- the port is taken
pub returns-in-Taken-clause-answer : goal.returns-in-Taken-clause-answer
returns-in-Taken-clause-answer c = c.in_ok-answer.ensures.answer ∙ answer-lookup c.args.rear.now c.args.tag c.args.port c.args.value

pub returns-in-Taken-clause-at : goal.returns-in-Taken-clause-at
returns-in-Taken-clause-at c = here_after _ _ _ _ _ c.in_ok-answer.ensures.after
