-- The outcome is made of its parts.
use Rattle.id_step.proofs.FiringsLemmas.{reacted}
use Rattle.id_step.proofs.outcome.react.Goals as goal

pub returns-clause-outcome : goal.returns-clause-outcome
returns-clause-outcome c =
    let r = c.react_full.result in
    λ b. reacted c.args.next c.args.instr.now c.args.tag c.args.port c.args.value c.args.waiting.now _ b
    c.in_ok-arrival.arrival r.fired r.verdict
    c.in_ok-arrival.ensures.arrival c.in_ok-arrival.ensures.after c.react_full.ensures.fired
    c.react_full.ensures.verdict
