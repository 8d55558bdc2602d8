use Rattle.std.proofs.Common.{◌≡◌, true, false, ap, subst, sym, ◌∙◌}
use Rattle.id_core.specs.Machines.{MachineView}
use Rattle.id_elements.specs.Runs.{IsRun, MovesOn}
use Rattle.id_elements.proofs.RunsLemmas.{run_from}
use Rattle.id_elements.proofs.running.run_allowed.Goals as goal

pub returns-then-not-moves_on-clause-refused : goal.returns-then-not-moves_on-clause-refused
returns-then-not-moves_on-clause-refused g c = record {
  machine = c.finish.new.machine;
  run = run_from c.args.from.graph.now c.args.from.inputs.now.values c.args.allowed.count.number c.args.allowed.steps
      c.in_ok-machine.machine c.finish.new.machine
      c.orders_are_runs.ensures c.in_ok-machine.ensures.graph c.in_ok-machine.ensures.count
      c.in_ok-machine.ensures.accounted c.in_ok-machine.ensures.stops c.in_ok-finish.ensures c.replay_all.ensures;
  stuck = λ moves. (let k : false ≡ true = sym c.if-not-moves_on.true ∙ c.moves_on.ensures.1 moves in cc);
}

pub returns-clause-run : goal.returns-clause-run
returns-clause-run g c =
    subst (IsRun c.args.from.graph.now c.args.from.inputs.now.values c.args.allowed.count.number c.args.allowed.steps)
    (sym c.of.ensures)
    (run_from c.args.from.graph.now c.args.from.inputs.now.values c.args.allowed.count.number c.args.allowed.steps
    c.in_ok-machine.machine c.finish.new.machine
    c.orders_are_runs.ensures c.in_ok-machine.ensures.graph c.in_ok-machine.ensures.count
    c.in_ok-machine.ensures.accounted c.in_ok-machine.ensures.stops c.in_ok-finish.ensures c.replay_all.ensures)

pub returns-clause-moves : goal.returns-clause-moves
returns-clause-moves g c =
    subst (λ (m : MachineView). MovesOn m.world) (sym c.of.ensures) (c.moves_on.ensures.0 c.if-not-moves_on.false)

pub returns-clause-kept : goal.returns-clause-kept
returns-clause-kept g c =
    ap (λ (m : MachineView). m.keeps) c.of.ensures
    ∙ (c.in_ok-finish.ensures.on.same_keeps ∙ c.in_ok-machine.ensures.kept)
