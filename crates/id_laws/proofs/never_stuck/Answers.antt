-- The run is one of `Reached`, whose events are never stuck.
use Rattle.id_runs.proofs.Runs.{reached}
use Rattle.id_laws.proofs.Rows.Known.{known}
use Rattle.id_laws.proofs.Telling.Wholes.{are_whole}
use Rattle.id_laws.proofs.Soundness.SoundRuns.{free_at}
use Rattle.id_laws.proofs.never_stuck.Goals as goal

pub returns : goal.returns
returns c = λ S g count ks inputs schemas.
    let r = reached g S.inputs count ks in
    free_at S (known S.checked) (are_whole S inputs) g schemas.number schemas.numbered count _ r.events r.reach
