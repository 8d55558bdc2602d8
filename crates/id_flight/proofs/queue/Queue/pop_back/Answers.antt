-- The parcels before the last have their messages where they had them.
use Rattle.std.proofs.Common.{arith}
use Rattle.std.proofs.lemmas.Grind.{common_steps}
use Rattle.id_flight.specs.Parcels.{IsWithin}
use Rattle.id_flight.proofs.ParcelsLemmas.{all-before}
use Rattle.id_flight.proofs.queue.Queue.pop_back.Goals as goal

pub invariant_of-self-else-len-eq0 : goal.invariant_of-self-else-len-eq0
invariant_of-self-else-len-eq0 c = (
  all-before (IsWithin c.self.inside.asides.items) c.pop_back.new.self.items c.self.inside.parcels.items c.in_ok-parcel.parcel c.in_ok-parcel.ensures.items
      c.self.invariant.0,
  grind (arith, common_steps),
  grind (arith, common_steps),
)

pub invariant_of-self : goal.invariant_of-self
invariant_of-self c = grind (arith, common_steps)

pub returns-in_err-parcel-clause-messages : goal.returns-in_err-parcel-clause-messages
returns-in_err-parcel-clause-messages c = grind (arith, common_steps)

pub returns-in_err-parcel-clause-variant : goal.returns-in_err-parcel-clause-variant
returns-in_err-parcel-clause-variant c = grind (arith, common_steps)

pub invariant_of-self-then-len-eq0 : goal.invariant_of-self-then-len-eq0
invariant_of-self-then-len-eq0 c = grind (arith, common_steps)

pub returns-then-len-eq0-clause-messages : goal.returns-then-len-eq0-clause-messages
returns-then-len-eq0-clause-messages c = grind (arith, common_steps)

pub returns-then-len-eq0-clause-variant : goal.returns-then-len-eq0-clause-variant
returns-then-len-eq0-clause-variant c = grind (arith, common_steps)

pub returns-else-len-eq0-clause-messages : goal.returns-else-len-eq0-clause-messages
returns-else-len-eq0-clause-messages c = grind (arith, common_steps)

pub returns-else-len-eq0-clause-variant : goal.returns-else-len-eq0-clause-variant
returns-else-len-eq0-clause-variant c = grind (arith, common_steps)
