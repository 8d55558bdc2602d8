-- *Judged alike*: what judges say of one trace (docs/PROMISES.md, "The judge").
use Rattle.std.specs.Prelude.{◌≡◌, ℕ, Bool, true, List, ◌++◌, length, Result}
use Rattle.id_sink.specs.declared.sink.PrintError.{PrintError}
use Rattle.id_sink.specs.Told.{SinkView}
use Rattle.id_trace.specs.Traces.{trace_text}
use Rattle.id_engine.specs.Commands.{HasShown, Judge}
use Rattle.id_engine.specs.Judged.{legal_text}
use Rattle.id_engine.specs.Runs.{HasRun}

-- *Judged alike*
pub record JudgedAlike : Type 0 where
  -- the trace of a run, as `engine` prints it, is judged one on as many elements: with the number of its events, and
  -- with the report and the status of the run
  pub ran : (text : List ℕ) (words : List (List ℕ)) (count steps : ℕ) (b : Bool) (old new before after : SinkView)
      (status told : ℕ) (result outcome : Result (Unit {0}) PrintError)
      → (h : HasRun text words count true steps b old new status result)
      → (k : HasShown (Judge b words count (trace_text h.events)) text before after told outcome)
      → (told ≡ status) × (k.output ≡ legal_text (length h.events) ++ h.output)
  -- two judges of one trace, of one text, on the same words and as many elements, say the same
  pub same : (text : List ℕ) (words : List (List ℕ)) (count : ℕ) (b : Bool) (trace : List ℕ)
      (old new before after : SinkView) (status told : ℕ) (result outcome : Result (Unit {0}) PrintError)
      → (h : HasShown (Judge b words count trace) text old new status result)
      → (k : HasShown (Judge b words count trace) text before after told outcome)
      → (told ≡ status) × (k.output ≡ h.output)
