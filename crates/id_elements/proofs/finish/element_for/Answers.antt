use Rattle.std.proofs.Common.{◌≡◌, ◌<◌, ℕ, true, length, Some, slice_get, refl, sym, ap, ◌∙◌}
use Rattle.std.proofs.Math.Dec.{ltb}
use Rattle.std.proofs.lemmas.Bool.{ltb-true}
use Rattle.std.proofs.lemmas.Option.{slice_get_read}
use Rattle.id_tag.specs.Routes.{route_of}
use Rattle.id_elements.proofs.FinishLemmas.{element_at}
use Rattle.id_elements.proofs.finish.element_for.Goals as goal

lt_of : (a b : ℕ) → true ≡ ltb a b → a < b
lt_of a b h = ltb-true a b (sym h)

pub returns : goal.returns
returns c =
    let es = c.elements.result.now in
    let e = c.in-Some.element.now in
    let at : slice_get es c.route.result ≡ Some e =
    slice_get_read es _ _ _ refl (lt_of c.route.result (length es) (c.in-Some.ensures.lookup).0)
    (c.in-Some.ensures.lookup).1 in
    element_at c.args.machine.now.world c.args.machine.now.count c.route.result es e c.args.message.now
    c.elements.ensures.world at
    (c.route.ensures.exact ∙ ap (route_of c.args.message.now.payload) c.count-count.ensures)
