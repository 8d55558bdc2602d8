use Rattle.id_laws.proofs.Validity.HasKinds.{Has_kind}
use Rattle.id_laws.proofs.Rows.Known.{known}
use Rattle.id_laws.proofs.kinded.Goals as goal

pub returns : goal.returns
returns c = λ S n p v inputs within thing holds. Has_kind S (known S.checked) inputs n p v within thing holds
