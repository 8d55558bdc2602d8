use Rattle.std.proofs.Common.{◌≡◌, true, false, sym, ◌∙◌}
use Rattle.id_record.specs.declared.step.Step.TheVariants.{Fault, Stuck, Went}
use Rattle.id_elements.proofs.FinishLemmas.{failed_on, step-free, stop_on, went_on}
use Rattle.id_elements.proofs.finish.deliver.Goals as goal

pub returns-in-Ok-Fault-clause-failed : goal.returns-in-Ok-Fault-clause-failed
returns-in-Ok-Fault-clause-failed c =
    λ _. failed_on c.args.steps c.args.position c.args.machine.now c.deliver.new.self c.requires
    c.in-Ok-Fault.ensures.world c.in-Ok-Fault.field-0
    (step-free c.args.machine.now.graph c.args.machine.now.count c.args.steps c.args.machine.now.world c.args.position
    c.requires c.in-Ok-Fault.field-0 c.in-Ok-Fault.ensures.step)
    (λ h. (let k : Fault c.in-Ok-Fault.field-0-0 ≡ Went = sym c.in-Ok-Fault.field-0-is ∙ h in cc))

pub returns-in-Ok-Stuck-clause-failed : goal.returns-in-Ok-Stuck-clause-failed
returns-in-Ok-Stuck-clause-failed c =
    λ _. failed_on c.args.steps c.args.position c.args.machine.now c.deliver.new.self c.requires
    c.in-Ok-Stuck.ensures.world c.in-Ok-Stuck.field-0
    (step-free c.args.machine.now.graph c.args.machine.now.count c.args.steps c.args.machine.now.world c.args.position
    c.requires c.in-Ok-Stuck.field-0 c.in-Ok-Stuck.ensures.step)
    (λ h. (let k : Stuck ≡ Went = sym c.in-Ok-Stuck.field-0-is ∙ h in cc))

pub returns-in-Ok-Went-clause-went : goal.returns-in-Ok-Went-clause-went
returns-in-Ok-Went-clause-went c = λ went. (
  (λ _. went_on c.args.steps c.args.position c.args.machine.now c.deliver.new.self c.in-Ok-Went.field-0 c.requires
      c.in-Ok-Went.ensures.world
      (step-free c.args.machine.now.graph c.args.machine.now.count c.args.steps c.args.machine.now.world c.args.position
      c.requires c.in-Ok-Went.field-0 c.in-Ok-Went.ensures.step) went c.in-Ok-Went.field-0-is),
  stop_on c.args.steps c.args.position c.args.machine.now c.deliver.new.self c.in-Ok-Went.field-0 c.requires
      c.in-Ok-Went.ensures.world
      (step-free c.args.machine.now.graph c.args.machine.now.count c.args.steps c.args.machine.now.world c.args.position
      c.requires c.in-Ok-Went.field-0 c.in-Ok-Went.ensures.step) went,
)

pub returns-in-Ok-Fault-clause-went : goal.returns-in-Ok-Fault-clause-went
returns-in-Ok-Fault-clause-went c = λ went. (
  (λ (h : false ≡ true). absurd cc),
  stop_on c.args.steps c.args.position c.args.machine.now c.deliver.new.self c.in-Ok-Fault.field-0 c.requires
      c.in-Ok-Fault.ensures.world
      (step-free c.args.machine.now.graph c.args.machine.now.count c.args.steps c.args.machine.now.world c.args.position
      c.requires c.in-Ok-Fault.field-0 c.in-Ok-Fault.ensures.step) went,
)

pub returns-in-Ok-Stuck-clause-went : goal.returns-in-Ok-Stuck-clause-went
returns-in-Ok-Stuck-clause-went c = λ went. (
  (λ (h : false ≡ true). absurd cc),
  stop_on c.args.steps c.args.position c.args.machine.now c.deliver.new.self c.in-Ok-Stuck.field-0 c.requires
      c.in-Ok-Stuck.ensures.world
      (step-free c.args.machine.now.graph c.args.machine.now.count c.args.steps c.args.machine.now.world c.args.position
      c.requires c.in-Ok-Stuck.field-0 c.in-Ok-Stuck.ensures.step) went,
)
