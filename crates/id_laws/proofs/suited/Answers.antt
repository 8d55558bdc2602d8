-- What fires in the runs of a valid graph does so on operands that suit it.
use Rattle.id_runs.proofs.Suited.{suited_at}
use Rattle.id_laws.proofs.suited.Goals as goal

pub returns : goal.returns
returns c = λ g vs count ks valid takes. suited_at g vs count valid takes ks
