-- no entry, so nothing waits
use Rattle.std.proofs.Common.{◌∙◌, ap}
use Rattle.std.specs.FinMap.{entries, from_entries}
use Rattle.id_match.specs.Front.{all_entries}
use Rattle.id_match.specs.Waiting.{waits}
use Rattle.id_match.proofs.KeyedLemmas.{waits-empty}
use Rattle.id_match.proofs.RearLemmas.{made_back}
use Rattle.id_match.proofs.Waiting.new.Goals as goal

pub returns-clause-empty : goal.returns-clause-empty
returns-clause-empty c =
    ap (λ f. from_entries (all_entries f (entries c.new-2.result))) c.new.ensures.items ∙ made_back c.new-2.result ∙ c.new-2.ensures.empty

pub returns-clause-keyed : goal.returns-clause-keyed
returns-clause-keyed c = λ t p. ap (λ s. waits s t p) (returns-clause-empty c) ∙ waits-empty t p
