-- The inputs of a program are inputs for each graph that the schemas give it.
use Rattle.id_laws.proofs.InputsFit.{inputs_taken}
use Rattle.id_laws.proofs.Rows.Known.{known}
use Rattle.id_laws.proofs.inputs_fit.Goals as goal

pub returns : goal.returns
returns c = λ P g vs own schemas. inputs_taken P (known P) g vs own schemas
