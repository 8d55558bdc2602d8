-- Every graph that the schemas give a program is valid.
use Rattle.id_laws.proofs.Rows.Known.{known}
use Rattle.id_laws.proofs.Validity.ValidGraphs.{validity}
use Rattle.id_laws.proofs.valid.Goals as goal

pub returns : goal.returns
returns c = λ P g schemas. validity P (known P) g schemas
