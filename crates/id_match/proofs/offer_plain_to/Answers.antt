-- what the rear tells of an offer, said of its entries, and of the pair that tells what stands behind it
use Rattle.std.proofs.Common.{◌≡◌, ◌∙◌, None, IsSome, false, sym, subst}
use Rattle.std.specs.FinMap.{entries}
use Rattle.std.specs.Map.{lookup}
use Rattle.id_tag.specs.Plains.{tag_in, whole}
use Rattle.id_tag.specs.Tags.{same_tag}
use Rattle.id_match.proofs.RearLemmas.{answer-lookup, here_after, others_after, partner_left_of}
use Rattle.id_match.proofs.offer_plain_to.Goals as goal

-- the value is kept
pub returns-in-Kept-clause-answer : goal.returns-in-Kept-clause-answer
returns-in-Kept-clause-answer c =
    rw c.in-Kept.is ((rw c.in-Kept.is at c.in_ok-met.ensures.answer)
    ∙ answer-lookup c.args.rear.now (tag_in c.args.token.now) c.args.token.now.port (whole c.args.token.now.value))

pub returns-in-Kept-clause-at : goal.returns-in-Kept-clause-at
returns-in-Kept-clause-at c = rw c.in-Kept.is (here_after _ _ _ _ _ (rw c.in-Kept.is at c.in_ok-met.ensures.after))

pub returns-in-Kept-clause-others : goal.returns-in-Kept-clause-others
returns-in-Kept-clause-others c = others_after _ _ _ _ _ (rw c.in-Kept.is at c.in_ok-met.ensures.after)

pub returns-in-Kept-clause-marked : goal.returns-in-Kept-clause-marked
returns-in-Kept-clause-marked c = λ marked. c.step_behind.ensures.marked _ _ marked
    (λ u apart. returns-in-Kept-clause-others c u (subst (λ w. same_tag w u ≡ false) c.tag.ensures apart))

-- the partner leaves
pub returns-in-Partner-clause-answer : goal.returns-in-Partner-clause-answer
returns-in-Partner-clause-answer c =
    rw c.in-Partner.is ((rw c.in-Partner.is at c.in_ok-met.ensures.answer)
    ∙ answer-lookup c.args.rear.now (tag_in c.args.token.now) c.args.token.now.port (whole c.args.token.now.value))

pub returns-in-Partner-clause-at : goal.returns-in-Partner-clause-at
returns-in-Partner-clause-at c = rw c.in-Partner.is (here_after _ _ _ _ _ (rw c.in-Partner.is at c.in_ok-met.ensures.after))

pub returns-in-Partner-clause-others : goal.returns-in-Partner-clause-others
returns-in-Partner-clause-others c = others_after _ _ _ _ _ (rw c.in-Partner.is at c.in_ok-met.ensures.after)

pub returns-in-Partner-clause-marked : goal.returns-in-Partner-clause-marked
returns-in-Partner-clause-marked c = λ marked.
    let port = c.args.token.now.port in
    let v = whole c.args.token.now.value in
    let left = partner_left_of (lookup (same_tag (tag_in c.args.token.now)) (entries c.args.rear.now)) port v (whole c.in-Partner.field-0)
    ((rw c.in-Partner.is at c.in_ok-met.ensures.answer) ∙ answer-lookup c.args.rear.now (tag_in c.args.token.now) port v) in
    c.leave_behind.ensures.marked _ _ marked
    (λ u apart. returns-in-Partner-clause-others c u (subst (λ w. same_tag w u ≡ false) c.tag-in-Partner.ensures apart))
    (subst (λ w. IsSome (lookup (same_tag w) (entries c.args.rear.now))) (sym c.tag-in-Partner.ensures) left.0)
    (subst (λ w. lookup (same_tag w) (entries c.offer_plain.new.self) ≡ None) (sym c.tag-in-Partner.ensures)
    (here_after _ _ _ _ _ (rw c.in-Partner.is at c.in_ok-met.ensures.after) ∙ left.1))
