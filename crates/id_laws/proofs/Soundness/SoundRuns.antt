-- *Sound* and *Never stuck* of a run of a schemas' graph.
use Rattle.std.proofs.Common.{ℕ, List}
use Rattle.id_instr.specs.Graph.{Parts}
use Rattle.id_core.specs.Machines.{World}
use Rattle.id_source.specs.Sources.{Source}
use Rattle.id_build.specs.Schemas.{Numbered}
use Rattle.id_runs.specs.Events.{Event}
use Rattle.id_runs.specs.Runs.{Reach}
use Rattle.id_runs.specs.OneMessage.{Exclusive}
use Rattle.id_laws.specs.Laws.{IsSound, IsNeverStuck}
use Rattle.id_laws.proofs.Rows.Assumed.{IsKnown}
use Rattle.id_laws.proofs.Telling.FiringMeans.{IsBacked}
use Rattle.id_laws.proofs.Telling.Wholes.{AreWhole, wholes}
use Rattle.id_runs.proofs.OneMessage.{fired_once}
use Rattle.id_laws.proofs.Paths.OneSender.{exclusive}
use Rattle.id_laws.proofs.Soundness.NeverStuck.{never_stuck_at}
use Rattle.id_laws.proofs.Paths.PathsApart.{messages_apart}
use Rattle.id_laws.proofs.Telling.StartTells.{all_tell, all_speak}
use Rattle.id_laws.proofs.Soundness.SoundAnswer.{sound_answer}
use Rattle.id_laws.proofs.Soundness.SoundNames.{sound_names, names_differ}
use Rattle.id_laws.proofs.Soundness.SoundFaults.{sound_faults}
use Rattle.id_laws.proofs.Soundness.SoundValues.{sound_values}
use Rattle.id_laws.proofs.Soundness.SoundCells.{sound_structures, structures_differ, sound_cells, cells_differ}
use Rattle.id_laws.proofs.Soundness.SoundCells.{sound_asks, asks_differ, sound_waiting, waiting_differ}

-- in any run one event alone, or the start alone, sends for each key
pub alone : (S : Source) → IsKnown S.checked → AreWhole S → (g : Parts) (number : ℕ → ℕ → ℕ)
    → Numbered S.checked g number → (count : ℕ) → Exclusive g S.inputs count
alone S known are g number numbered count =
    exclusive S g number numbered known count (λ s run r. all_tell S known g number numbered run count s r)
    (λ s run r. all_speak S known g number numbered run count s r) (λ p e i. wholes S are)

module _ (S : Source) (known : IsKnown S.checked) (are : AreWhole S) (g : Parts) (number : ℕ → ℕ
    → ℕ) (numbered : Numbered S.checked g number)
    (count : ℕ) (s : World) (run : List Event) (r : Reach g S.inputs count s run) where
  -- a tag fires once in the run, and each number that a place Has is one of the language
  pub backed : IsBacked S run
  backed = record {
    once = fired_once g S.inputs count (alone S known are g number numbered count) s run r;
    wholes =
        λ p e i. wholes S are;
  }

  -- what is shown is sound
  pub sound_at : IsSound S g number s
  sound_at = record {
    answer = sound_answer S known g number numbered count s run r backed;
    names = sound_names S known g number numbered count s run r backed;
    names_once = names_differ S known g number numbered count s run r backed;
    structures = sound_structures S known g number numbered count s run r backed;
    structures_once = structures_differ S known g number numbered count s run r backed;
    cells = sound_cells S known g number numbered count s run r backed;
    cells_once = cells_differ S known g number numbered count s run r backed;
    asks = sound_asks S known g number numbered count s run r backed;
    asks_once = asks_differ S known g number numbered count s run r backed;
    waiting = sound_waiting S known g number numbered count s run r backed;
    waiting_once = waiting_differ S known g number numbered count s run r backed;
    faults = sound_faults S known g number numbered count s run r backed;
    values = sound_values S known g number numbered count s run r backed;
  }

  -- no event is `Stuck`, each key has at most one message, and each path one context and iteration
  pub free_at : IsNeverStuck g s
  free_at =
      never_stuck_at S g count (alone S known are g number numbered count) s run r
      (messages_apart S known g number numbered count s run r backed)
