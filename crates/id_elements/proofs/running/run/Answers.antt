use Rattle.std.proofs.Common.{◌≢◌, None}
use Rattle.id_core.specs.Machines.{MachineView}
use Rattle.id_elements.specs.Runs.{IsByPositions}
use Rattle.id_elements.proofs.RunsLemmas.{if_never, if_so}
use Rattle.id_elements.proofs.running.run.Goals as goal

pub returns-in-Some-clause-positions : goal.returns-in-Some-clause-positions
returns-in-Some-clause-positions g c =
    if_so (λ (m : MachineView). IsByPositions c.args.graph.now c.args.inputs.now.values c.args.settings.elements
    m.world) (c.args.settings.order ≢ None)
    c.run_in_order.result c.run_in_order.ensures.positions

pub returns-in-None-clause-positions : goal.returns-in-None-clause-positions
returns-in-None-clause-positions g c =
    if_never (λ (m : MachineView). IsByPositions c.args.graph.now c.args.inputs.now.values c.args.settings.elements
    m.world) (c.args.settings.order ≢ None)
    c.run_limited.result (λ some. some c.in-None.is)
