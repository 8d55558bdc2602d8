-- no cell of the pages was read or written exactly where the map that they stand for has nothing
use Rattle.std.proofs.Common.{◌∙◌, sym}
use Rattle.std.proofs.lemmas.List.Elements.{recursion_from_All, All-from_recursion}
use Rattle.id_bank.proofs.SlotsLemmas.{empty-from_none, none-from_pages}
use Rattle.id_bank.proofs.Bank.is_empty.Goals as goal

pub returns : goal.returns
returns c =
    let es = c.self.inside.pages.entries in (
      λ yes. sym c.self.view_is ∙ empty-from_none es (recursion_from_All _ es (c.none_held.ensures.0 yes)),
      λ none. c.none_held.ensures.1 (All-from_recursion _ es (none-from_pages es (c.self.view_is ∙ none))),
    )
