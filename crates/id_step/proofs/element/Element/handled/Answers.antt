-- What the fields keep is said of the view.
use Rattle.std.proofs.Common.{subst}
use Rattle.id_step.specs.Replays.{Replays}
use Rattle.id_step.proofs.element.Element.handled.Goals as goal

pub returns-clause-kept : goal.returns-clause-kept
returns-clause-kept c = subst Replays c.self.view_is c.self.invariant.0.replays
