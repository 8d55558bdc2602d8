-- The others have their messages where they had them.
use Rattle.std.proofs.Common.{arith}
use Rattle.std.proofs.lemmas.Grind.{common_steps}
use Rattle.id_value.proofs.PlacesLemmas.{map-remove}
use Rattle.id_flight.specs.Parcels.{IsWithin}
use Rattle.id_flight.proofs.ParcelsLemmas.{all-removed}
use Rattle.id_flight.proofs.queue.Queue.remove.Goals as goal

pub invariant_of-self-else-remove : goal.invariant_of-self-else-remove
invariant_of-self-else-remove c =
    let q = c.self.inside in
    let all = all-removed (IsWithin q.asides.items) q.parcels.items c.args.position (grind (arith, common_steps)) c.self.invariant.0 in
    grind (arith, common_steps)

pub returns-else-remove-clause-messages : goal.returns-else-remove-clause-messages
returns-else-remove-clause-messages c = grind (arith, common_steps, map-remove)
