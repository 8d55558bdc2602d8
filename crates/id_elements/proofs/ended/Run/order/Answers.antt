use Rattle.std.proofs.Common.{subst}
use Rattle.std.specs.Prelude.{IfOk}
use Rattle.id_core.specs.Firsts.{AreMergedOf}
use Rattle.id_core.specs.Machines.{MachineView}
use Rattle.id_elements.proofs.RunsLemmas.{merged_of}
use Rattle.id_elements.proofs.ended.Run.order.Goals as goal

pub returns : goal.returns
returns c =
    subst (λ (m : MachineView). IfOk c.merge_records.result (AreMergedOf m.world.elements)) c.self.view_is
    (merged_of c.elements.result.now c.self.inside.machine.world.flight c.self.inside.machine.world
    c.merge_records.result c.elements.ensures.world
    c.merge_records.ensures.all c.merge_records.ensures.sorted)
