-- What became of the message is what the storage says of it, so the record replays, and what is sent fits.
use Rattle.std.proofs.Common.{subst, ◌∙◌, arith}
use Rattle.std.proofs.lemmas.Grind.{common_steps}
use Rattle.std.specs.Prelude.{None, Some}
use Rattle.id_step.specs.Storage.{element_at}
use Rattle.id_step.specs.Replays.{ElementView}
use Rattle.id_step.specs.Takes.{Takes}
use Rattle.id_step.proofs.ElementsLemmas.{sends_fit, stays}
use Rattle.id_step.proofs.element.Element.take_held.Goals as goal

pub invariant_of-self : goal.invariant_of-self
invariant_of-self g c = (
  stays c.args.self.now c.self.inside.storage c.take.new.storage c.args.message.now _ c.args.outputs.now.messages _ None
      _ c.self.view_is c.requires
      c.in_err-verdict.ensures.treats c.self.invariant.0,
  c.self.invariant.1,
)

pub invariant_of-self-2 : goal.invariant_of-self-2
invariant_of-self-2 g c = (
  stays c.args.self.now c.self.inside.storage c.take.new.storage c.args.message.now c.args.outputs.now.messages _ _
      (Some _) _ c.self.view_is c.requires
      c.in_ok-verdict.ensures.treats c.self.invariant.0,
  c.self.invariant.1,
)

pub returns : goal.returns
returns g c = record {
  becomes =
      let done = c.in_ok-verdict.ensures.treats in
      subst (λ (v : ElementView). Takes v (element_at c.take.new.storage) c.args.message.now c.args.outputs.now.messages
      c.take.new.outputs.messages c.full_step.result)
      c.self.view_is (record {
        stamp = done.stamp;
        step = c.full_step.ensures ∙ done.step;
        element = done.element;
        outputs = done.outputs;
      });
  fits = sends_fit c.args.self.now c.self.inside.storage c.args.message.now _ c.self.view_is c.self.invariant.0
      c.requires;
  ended = grind (arith, common_steps);
}
