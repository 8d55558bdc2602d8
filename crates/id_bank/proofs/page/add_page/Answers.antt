-- the new page comes last
use Rattle.std.proofs.Common.{◌∙◌, ap, slice_get}
use Rattle.std.specs.Map.{keys_of}
use Rattle.id_bank.proofs.SlotsLemmas.{same-new, found-new}
use Rattle.id_bank.proofs.page.add_page.Goals as goal

pub returns-clause-found : goal.returns-clause-found
returns-clause-found c =
    ap (slice_get (keys_of c.insert.new.self.entries)) c.len-i.ensures.len
    ∙ found-new c.args.pages.now c.insert.new.self c.args.page c.new.result c.requires c.in_ok-insert.ensures.entries

pub returns-clause-same : goal.returns-clause-same
returns-clause-same c =
    same-new c.args.pages.now c.insert.new.self c.args.page c.new.result c.requires c.new.ensures.items
    c.in_ok-insert.ensures.updates
