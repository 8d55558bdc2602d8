-- the slot that keeps a value under the tag keeps none any longer
use Rattle.std.proofs.Common.{refl, sym}
use Rattle.id_match.proofs.FrontLemmas.{clear_first, clear_second, clear_none, none_from_test, some_from_test}
use Rattle.id_match.proofs.front.Pair.clear.Goals as goal

pub returns-then-holds-clause-put : goal.returns-then-holds-clause-put
returns-then-holds-clause-put c = λ single. clear_first c.args.self.now c.args.tag _ single (some_from_test _ (sym c.if-holds.ensures)) refl

pub returns-then-holds-2-clause-put : goal.returns-then-holds-2-clause-put
returns-then-holds-2-clause-put c = λ single. clear_second c.args.self.now c.args.tag _ (none_from_test _ (sym c.if-holds.ensures))
    (some_from_test _ (sym c.if-holds-2.ensures)) refl

pub returns-else-holds-2-clause-put : goal.returns-else-holds-2-clause-put
returns-else-holds-2-clause-put c = λ single. clear_none c.args.self.now c.args.tag (none_from_test _ (sym c.if-holds.ensures))
    (none_from_test _ (sym c.if-holds-2.ensures))
