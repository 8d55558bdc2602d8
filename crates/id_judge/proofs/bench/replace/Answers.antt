-- What was sent stands behind what is left in flight.
use Rattle.std.proofs.lemmas.Result.{on_ok_weaker}
use Rattle.id_judge.proofs.DeliverLemmas.{fit_left}
use Rattle.id_judge.proofs.bench.replace.Goals as goal

pub returns-clause-replaces : goal.returns-clause-replaces
returns-clause-replaces c =
    on_ok_weaker c.send.result
    (λ sent m at. record { others = c.take.new.self; out = c.take.ensures m at; flight = sent }) c.send.ensures.flight

pub returns-clause-fit : goal.returns-clause-fit
returns-clause-fit c = λ g fit sent.
    c.send.ensures.fit g (fit_left g c.args.flight.now c.take.new.self c.args.position c.requires c.take.ensures fit)
    sent
