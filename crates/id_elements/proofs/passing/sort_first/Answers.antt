use Rattle.std.proofs.Common.{◌≡◌, refl, subst}
use Rattle.id_tag.specs.Plains.{message_of}
use Rattle.id_tag.specs.Routes.{route_of}
use Rattle.id_step.specs.Fits.{Fits}
use Rattle.id_elements.proofs.PassingLemmas.{for_push}
use Rattle.id_elements.proofs.passing.sort_first.Goals as goal

-- it is for the element
pub returns-then-fits_plain-clause-own : goal.returns-then-fits_plain-clause-own
returns-then-fits_plain-clause-own c =
    let e = c.args.element.now in
    let m = message_of c.in-Some.token.now in
    let mine : route_of m.payload e.count ≡ e.number =
    (let at = c.goal_of.ensures in let home = c.if-goal_of-home.true in let near = c.near.ensures in
    let number = c.requires.number in let count = c.requires.count in cc) in
    for_push e c.args.own.now.messages c.push_plain_reserved.new.self.messages m
    c.push_plain_reserved.ensures.messages mine (subst (λ g. Fits g m) c.graph.ensures (c.if-fits_plain.ensures.0 refl))
