use Rattle.id_laws.proofs.Rows.Known.{known}
use Rattle.id_laws.proofs.Labelling.LabelsOnce.{are_labels}
use Rattle.id_laws.proofs.labels.Goals as goal

pub returns : goal.returns
returns c = λ P g schemas. are_labels P (known P) g schemas.number schemas.numbered
