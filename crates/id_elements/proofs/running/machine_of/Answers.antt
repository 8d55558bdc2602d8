use Rattle.std.proofs.Common.{◌≤◌, List, All, length, subst, sym}
use Rattle.id_tag.specs.declared.Message.{Message}
use Rattle.id_core.specs.Machines.{MachineView}
use Rattle.id_core.specs.Steps.{State}
use Rattle.id_step.specs.Fits.{Fits}
use Rattle.id_runs.specs.Accounts.{IsAccounted}
use Rattle.id_elements.specs.Gathered.{states_of}
use Rattle.id_elements.specs.Runs.{StopAtFaults}
use Rattle.id_elements.proofs.RunsLemmas.{few_gathered, machine_gathered, stops_gathered}
use Rattle.id_elements.proofs.running.machine_of.Goals as goal

pub resume-requires : goal.resume-requires
resume-requires g c =
    let start = c.in_ok-start.ensures.messages in
    let es = c.in_ok-elements.field-0.elements.items in
    let left = c.in_ok-elements.field-0.left.messages in
    machine_gathered c.args.from.graph.now c.args.from.inputs.now.values c.args.allowed.count.number
    c.args.allowed.steps c.args.allowed.keeps es left c.args.allowed.count.some c.args.allowed.count.few
    c.in_ok-elements.ensures.len c.in_ok-elements.ensures.elements
    (subst (All (Fits c.args.from.graph.now)) start c.in_ok-start.ensures.fit)
    (subst (λ (ms : List Message). IsAccounted ms (states_of es) left) start c.in_ok-elements.ensures.accounted)

pub returns-clause-few : goal.returns-clause-few
returns-clause-few g c =
    subst (λ (m : MachineView). All (λ (s : State). length s.events ≤ c.args.allowed.steps) m.world.elements)
    (sym c.resume.ensures)
    (few_gathered c.args.from.graph.now c.args.allowed.count.number c.args.allowed.steps c.args.allowed.keeps
    c.in_ok-elements.field-0.elements.items c.in_ok-elements.ensures.elements)

pub returns-clause-stops : goal.returns-clause-stops
returns-clause-stops g c =
    subst (λ (m : MachineView). StopAtFaults m.world) (sym c.resume.ensures)
    (stops_gathered c.args.from.graph.now c.args.allowed.count.number c.args.allowed.steps c.args.allowed.keeps
    c.in_ok-elements.field-0.elements.items c.in_ok-elements.ensures.elements)
