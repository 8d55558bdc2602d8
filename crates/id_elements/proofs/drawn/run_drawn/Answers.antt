use Rattle.std.proofs.Common.{◌≡◌, true, false, ap, subst, sym, ◌∙◌}
use Rattle.id_core.specs.Machines.{MachineView}
use Rattle.id_elements.specs.Runs.{IsByPositions, IsRun, MovesOn}
use Rattle.id_elements.proofs.DrawnLemmas.{start_accounted, start_delivered, start_few, start_stops, start_went}
use Rattle.id_elements.proofs.RunsLemmas.{run_from}
use Rattle.id_elements.proofs.drawn.run_drawn.Goals as goal

pub deliver_drawn-requires : goal.deliver_drawn-requires
deliver_drawn-requires c =
    let g = c.args.from.graph.now in
    let vs = c.args.from.inputs.now.values in
    let m = c.in_ok-machine.machine in
    record {
      few = start_few g vs c.args.allowed.count.number c.args.allowed.keeps m c.in_ok-machine.ensures
          c.args.allowed.steps;
      went = start_went g vs c.args.allowed.count.number c.args.allowed.keeps m c.in_ok-machine.ensures;
    }

pub returns-then-not-moves_on-clause-refused : goal.returns-then-not-moves_on-clause-refused
returns-then-not-moves_on-clause-refused c = record {
  machine = c.deliver_drawn.new.machine;
  run = run_from c.args.from.graph.now c.args.from.inputs.now.values c.args.allowed.count.number c.args.allowed.steps
      c.in_ok-machine.machine c.deliver_drawn.new.machine
      c.orders_are_runs.ensures (ap (λ (x : MachineView). x.graph) c.in_ok-machine.ensures)
      (ap (λ (x : MachineView). x.count) c.in_ok-machine.ensures)
      (start_accounted c.args.from.graph.now c.args.from.inputs.now.values c.args.allowed.count.number
      c.args.allowed.keeps c.in_ok-machine.machine c.in_ok-machine.ensures)
      (start_stops c.args.from.graph.now c.args.from.inputs.now.values c.args.allowed.count.number c.args.allowed.keeps
      c.in_ok-machine.machine c.in_ok-machine.ensures)
      c.in_ok-deliver_drawn.ensures.finished c.replay_all.ensures;
  stuck = λ moves. (let k : false ≡ true = sym c.if-not-moves_on.true ∙ c.moves_on.ensures.1 moves in cc);
}

pub returns-clause-run : goal.returns-clause-run
returns-clause-run c =
    subst (IsRun c.args.from.graph.now c.args.from.inputs.now.values c.args.allowed.count.number c.args.allowed.steps)
    (sym c.of.ensures)
    (run_from c.args.from.graph.now c.args.from.inputs.now.values c.args.allowed.count.number c.args.allowed.steps
    c.in_ok-machine.machine c.deliver_drawn.new.machine
    c.orders_are_runs.ensures (ap (λ (x : MachineView). x.graph) c.in_ok-machine.ensures)
    (ap (λ (x : MachineView). x.count) c.in_ok-machine.ensures)
    (start_accounted c.args.from.graph.now c.args.from.inputs.now.values c.args.allowed.count.number
    c.args.allowed.keeps c.in_ok-machine.machine c.in_ok-machine.ensures)
    (start_stops c.args.from.graph.now c.args.from.inputs.now.values c.args.allowed.count.number c.args.allowed.keeps
    c.in_ok-machine.machine c.in_ok-machine.ensures)
    c.in_ok-deliver_drawn.ensures.finished c.replay_all.ensures)

pub returns-clause-moves : goal.returns-clause-moves
returns-clause-moves c =
    subst (λ (m : MachineView). MovesOn m.world) (sym c.of.ensures) (c.moves_on.ensures.0 c.if-not-moves_on.false)

pub returns-clause-kept : goal.returns-clause-kept
returns-clause-kept c =
    ap (λ (m : MachineView). m.keeps) c.of.ensures
    ∙ (c.in_ok-deliver_drawn.ensures.finished.on.same_keeps ∙ ap (λ (m : MachineView). m.keeps) c.in_ok-machine.ensures)

pub returns-clause-positions : goal.returns-clause-positions
returns-clause-positions c =
    subst (λ (m : MachineView). IsByPositions c.args.from.graph.now c.args.from.inputs.now.values
    c.args.allowed.count.number m.world) (sym c.of.ensures)
    (start_delivered c.args.from.graph.now c.args.from.inputs.now.values c.args.allowed.count.number
    c.args.allowed.keeps c.in_ok-machine.machine c.in_ok-machine.ensures
    c.deliver_drawn.new.machine.world c.in_ok-deliver_drawn.ensures.delivered)
