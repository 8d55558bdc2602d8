-- Each event takes a message that is in flight, and where it stands is a position.
use Rattle.id_runs.proofs.Legal.{legal}
use Rattle.id_laws.proofs.legal_lists.Goals as goal

pub returns : goal.returns
returns c = legal
