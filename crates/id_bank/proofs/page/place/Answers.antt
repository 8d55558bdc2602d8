-- the key that is found is the page
use Rattle.std.proofs.Common.{◌≡◌, ◌∙◌, ap, sym, Some, option_map}
use Rattle.std.proofs.lemmas.Option.{slice_get-map}
use Rattle.id_bank.proofs.SlotsLemmas.{one_page, place_from_position}
use Rattle.id_bank.proofs.page.place.Goals as goal

pub returns-clause-found : goal.returns-clause-found
returns-clause-found c =
    let one : c.in-Some.found.now ≡ c.args.page = one_page c.in-Some.found.now c.args.page (sym c.if-eq.ensures) in
    slice_get-map (λ e. e.0) c.args.pages.now.entries c.place-guess.result
    ∙ ap (option_map (λ e. e.0)) (sym c.in-Some.ensures.entry) ∙ ap Some one

pub returns-2-clause-found : goal.returns-2-clause-found
returns-2-clause-found c =
    place_from_position c.args.page c.args.pages.now.entries c.get_index_of.result c.get_index_of.ensures.index
