-- The facts behind the first are those that are followed.
use Rattle.std.proofs.lemmas.Result.{on_ok_weaker}
use Rattle.id_meaning.specs.Following.{read_of}
use Rattle.id_meaning.proofs.RunLemmas.{goes-behind}
use Rattle.id_meaning.proofs.run.learn_behind.Goals as goal

pub returns : goal.returns
returns c =
    on_ok_weaker c.learn_effects.result
    (λ g. goes-behind (read_of c.args.rules.now) c.args.done c.as_slice.result.now c.args.facts.now
    c.learn_effects.new.facts c.as_slice.ensures.value g)
    c.learn_effects.ensures
