-- *Clear lines*: in each run of a graph that the schemas give a program, a line names one message.
use Rattle.std.proofs.Common.{ℕ, arith}
use Rattle.id_source.specs.Sources.{Source, AreInputs}
use Rattle.id_instr.specs.Graph.{Parts}
use Rattle.id_build.specs.Schemas.{Schemas}
use Rattle.id_runs.proofs.OneMessage.{at_most_one}
use Rattle.id_runs.proofs.Runs.{reached}
use Rattle.id_laws.proofs.Rows.Known.{known}
use Rattle.id_laws.proofs.Soundness.SoundRuns.{alone}
use Rattle.id_laws.proofs.Telling.Wholes.{are_whole}
use Rattle.id_judge.specs.Lines.{AreClear}
use Rattle.id_judge.proofs.FewLemmas.{are_clear}

pub clear_lines : (S : Source) (g : Parts) (count : ℕ) → AreInputs S.checked S.inputs → Schemas S.checked g
    → AreClear g S.inputs count
clear_lines S g count inputs schemas = are_clear g S.inputs count (λ ks k.
    let r = reached g S.inputs count ks in
    omega (
      arith,
      at_most_one g S.inputs count
          (alone S (known S.checked) (are_whole S inputs) g schemas.number schemas.numbered count) _ r.events r.reach k,
    ))
