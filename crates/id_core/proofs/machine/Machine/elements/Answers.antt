-- each element has its place as its number, and keeps as much as the machine says
use Rattle.std.proofs.Common.{subst}
use Rattle.id_core.specs.Machines.{AllKeep, MachineView}
use Rattle.id_core.proofs.MachinesLemmas.{AreElements-rise}
use Rattle.id_core.proofs.machine.Machine.elements.Goals as goal

pub returns-clause-rise : goal.returns-clause-rise
returns-clause-rise c =
    rw c.as_slice.ensures.value
    (AreElements-rise c.self.inside.graph.now _ c.self.inside.elements.items c.self.invariant.elements)

pub returns-clause-kept : goal.returns-clause-kept
returns-clause-kept c =
    let elements = c.self.inside.elements.items in
    let P : MachineView → Type 0 = λ v. AllKeep v.keeps elements in
    rw c.as_slice.ensures.value (subst P c.self.view_is c.self.invariant.kept)
