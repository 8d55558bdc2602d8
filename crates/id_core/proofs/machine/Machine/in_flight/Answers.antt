-- What the fields keep is said of the view.
use Rattle.std.proofs.Common.{subst}
use Rattle.std.specs.Prelude.{All}
use Rattle.id_step.specs.Fits.{Fits}
use Rattle.id_core.specs.Machines.{MachineView}
use Rattle.id_core.proofs.machine.Machine.in_flight.Goals as goal

pub returns-clause-fit : goal.returns-clause-fit
returns-clause-fit c =
    let P : MachineView → Type 0 = λ v. All (Fits v.graph) v.world.flight in
    subst P c.self.view_is c.self.invariant.flight_fits
