-- The elements are of the machine's graph.
use Rattle.std.proofs.Common.{◌∙◌, ap, subst, sym}
use Rattle.id_instr.specs.Graph.{Parts}
use Rattle.id_observe.specs.Elements.{AreOf}
use Rattle.id_core.specs.Machines.{MachineView, World}
use Rattle.id_core.proofs.MachinesLemmas.{AreElements-of}
use Rattle.id_core.proofs.machine.Machine.records.Goals as goal

pub invariant_of-result : goal.invariant_of-result
invariant_of-result c =
    let elements = c.elements.result.now in
    let same = c.graph.ensures.value ∙ ap (λ (v : MachineView). v.graph) c.self.view_is in
    record {
      of =
          subst (λ (g : Parts). AreOf g elements) (sym same) (AreElements-of _ _ elements c.elements.ensures.elements);
    }

pub returns-clause-graph : goal.returns-clause-graph
returns-clause-graph c = c.graph.ensures.value ∙ ap (λ (v : MachineView). v.graph) c.self.view_is

pub returns-clause-elements : goal.returns-clause-elements
returns-clause-elements c = ap (λ (w : World). w.elements) c.elements.ensures.world
