-- what the closure gives of each entry shows it
use Rattle.std.proofs.Common.{◌≡◌, rules, subst, IfOk, map}
use Rattle.std.proofs.lemmas.Iterator.{YieldsList-from_map_by}
use Rattle.std.proofs.lemmas.Iterator.Consumers.{YieldsList-at, YieldsList-from_rest, map_from_collect}
use Rattle.id_bank.proofs.SlotsLemmas.{same_entries}
use Rattle.id_bank.proofs.shown.Goals as goal

pub returns-clause-items : goal.returns-clause-items
returns-clause-items c =
    subst (λ l. IfOk c.collect.result (λ es. map (λ e. (e.0, e.1.now)) es.items ≡ l))
    (same_entries c.args.pages.now.entries)
    (map_from_collect c.collect.result c.collect.ensures.ran
    (YieldsList-from_map_by _ (λ e. (e.0, e.1.now)) (λ e. (e.0, e.1))
    (YieldsList-at c.map.ensures.source (YieldsList-from_rest c.args.pages.now.entries c.iter.ensures.rest))
    c.map.ensures.closure (λ x r q k. search rules)))
