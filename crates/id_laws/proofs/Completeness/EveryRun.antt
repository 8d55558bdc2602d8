-- What holds of each run: it is one of `Reached`, so what it shows is sound, and complete where it is quiet.
use Rattle.id_runs.proofs.Runs.{reached}
use Rattle.id_laws.specs.Laws.{QuietIsComplete, Soundness}
use Rattle.id_laws.proofs.Rows.Known.{known}
use Rattle.id_laws.proofs.Telling.Wholes.{are_whole}
use Rattle.id_laws.proofs.Soundness.SoundRuns.{alone, sound_at}
use Rattle.id_laws.proofs.Completeness.QuietRuns.{complete_at}

pub soundness : Soundness
soundness = λ S g count ks inputs schemas.
    let r = reached g S.inputs count ks in
    sound_at S (known S.checked) (are_whole S inputs) g schemas.number schemas.numbered count _ r.events r.reach

pub completeness : QuietIsComplete
completeness = λ S g count ks inputs schemas quiet.
    let r = reached g S.inputs count ks in
    let are = are_whole S inputs in
    complete_at S g schemas.number schemas.numbered (known S.checked) inputs are count
    (alone S (known S.checked) are g schemas.number schemas.numbered count) _ r.events r.reach quiet
