-- The elements are of the machine's graph, and keep what it does.
use Rattle.id_core.proofs.MachinesLemmas.{AllKeep-all, AreElements-of}
use Rattle.id_core.proofs.machine.Machine.observe.Goals as goal

pub observe_records-requires-clause-of : goal.observe_records-requires-clause-of
observe_records-requires-clause-of c =
    rw c.as_slice.ensures.value
    (AreElements-of c.self.inside.graph.now _ c.self.inside.elements.items c.self.invariant.elements)

pub observe_records-requires-clause-kept : goal.observe_records-requires-clause-kept
observe_records-requires-clause-kept c =
    rw c.as_slice.ensures.value
    (AllKeep-all c.self.inside.keeps c.self.inside.elements.items c.self.invariant.kept
    (rw (← c.self.view_is) at c.requires))
