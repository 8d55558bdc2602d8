-- what the front says, said of the store
use Rattle.std.proofs.Common.{refl}
use Rattle.id_tag.specs.Plains.{tag_in, whole}
use Rattle.id_match.specs.Meetings.{told}
use Rattle.id_match.proofs.FrontLemmas.{all_of_meeting}
use Rattle.std.specs.FinMap.{entries}
use Rattle.id_match.proofs.Waiting.offer_plain.Goals as goal

pub invariant_of-self : goal.invariant_of-self
invariant_of-self c =
    (all_of_meeting c.self.inside.front.items (entries c.self.inside.rear) _ c.self.view_is c.self.invariant c.args.token.now.port
    (whole c.args.token.now.value) _ (tag_in c.args.token.now) (told c.in-Some.met c.args.token.now) (c.in-Some.ensures.met c.self.invariant.placed)
    c.in-Some.ensures.apart c.meet.ensures.marks (c.in-Some.ensures.alone _ c.self.invariant refl)).0

pub returns-in-Some-clause-answer : goal.returns-in-Some-clause-answer
returns-in-Some-clause-answer c =
    (all_of_meeting c.self.inside.front.items (entries c.self.inside.rear) _ c.self.view_is c.self.invariant c.args.token.now.port
    (whole c.args.token.now.value) _ (tag_in c.args.token.now) (told c.in-Some.met c.args.token.now) (c.in-Some.ensures.met c.self.invariant.placed)
    c.in-Some.ensures.apart c.meet.ensures.marks (c.in-Some.ensures.alone _ c.self.invariant refl)).1

pub returns-in-Some-clause-after : goal.returns-in-Some-clause-after
returns-in-Some-clause-after c =
    (all_of_meeting c.self.inside.front.items (entries c.self.inside.rear) _ c.self.view_is c.self.invariant c.args.token.now.port
    (whole c.args.token.now.value) _ (tag_in c.args.token.now) (told c.in-Some.met c.args.token.now) (c.in-Some.ensures.met c.self.invariant.placed)
    c.in-Some.ensures.apart c.meet.ensures.marks (c.in-Some.ensures.alone _ c.self.invariant refl)).2
