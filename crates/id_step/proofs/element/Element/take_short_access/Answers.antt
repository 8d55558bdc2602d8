-- What became of it is what the storage says, so the record replays, and what is sent fits.
use Rattle.id_tag.specs.Plains.{tag_in}
use Rattle.id_flight.specs.Accesses.{accessed}
use Rattle.id_step.specs.Shorts.{came_short}
use Rattle.id_step.proofs.ElementsLemmas.{sends_fit, stays}
use Rattle.id_step.proofs.element.Element.take_short_access.Goals as goal

pub invariant_of-self : goal.invariant_of-self
invariant_of-self g c = (
  stays c.args.self.now c.self.inside.storage c.take_access.new.storage (accessed c.args.access.now) _
      c.args.outputs.now.messages _ (came_short (tag_in c.args.access.now.like) c.take_access.result) _ c.self.view_is
      c.requires
      c.take_access.ensures.treats c.self.invariant.0,
  c.self.invariant.1,
)

pub returns-clause-fits : goal.returns-clause-fits
returns-clause-fits g c =
    sends_fit c.args.self.now c.self.inside.storage (accessed c.args.access.now) _ c.self.view_is c.self.invariant.0
    c.requires
