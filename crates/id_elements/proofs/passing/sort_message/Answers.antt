use Rattle.std.proofs.Common.{◌≡◌, refl, subst}
use Rattle.id_tag.specs.Routes.{route_of}
use Rattle.id_step.specs.Fits.{Fits}
use Rattle.id_elements.proofs.PassingLemmas.{for_push}
use Rattle.id_elements.proofs.passing.sort_message.Goals as goal

-- it is for the element
pub returns-then-fits-clause-own : goal.returns-then-fits-clause-own
returns-then-fits-clause-own c =
    let e = c.args.element.now in
    let m = c.message-message.result in
    let mine : route_of m.payload e.count ≡ e.number =
    (let at = c.route.ensures.exact in let home = c.if-route-home.true in
    let number = c.requires.number in let count = c.requires.count in cc) in
    for_push e c.args.own.now.messages c.push_back_reserved.new.self.messages m c.push_back_reserved.ensures.messages mine
    (subst (λ g. Fits g m) c.graph.ensures (c.if-fits.ensures.0 refl))
