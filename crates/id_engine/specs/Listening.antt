-- What comes of a log that is judged, before an error is told (specs/Served.antt).
use Rattle.std.specs.Prelude.{◌≡◌, ℕ, Bool, List, Option, Result, Ok, Err}
use Rattle.id_check.specs.declared.checked.Checked.{Checked}
use Rattle.id_value.specs.declared.Constant.{Constant}
use Rattle.id_sink.specs.Told.{SinkView}
use Rattle.id_log.specs.Logs.{Ahead, Hears, MayBreak}
use Rattle.id_compile.specs.declared.error.EngineError.{EngineError}
use Rattle.id_compile.specs.Refusals.{IsInsideOf, IsRefusedRun}
use Rattle.id_engine.specs.declared.judge.Unjudged.{Unjudged}
use Rattle.id_engine.specs.declared.judge.Unjudged.TheVariants.{Refused, Broken}
use Rattle.id_engine.specs.Judgements.{JudgesSo}
use Rattle.id_engine.specs.Reports.{AreAllowed, IsUnallowed}

-- why a log was not judged: as a run of one step on as many elements is refused; or it broke off so
abbrev pub IsUnjudged : Option Ahead → List ℕ → List (List ℕ) → ℕ → Unjudged → Type 0
IsUnjudged a text words count (Refused e) = IsRefusedRun text words count 1 e
IsUnjudged a text words count (Broken fault) = MayBreak a fault

-- the place of a refusal lies in the text
abbrev pub IsInsideFor : List ℕ → Unjudged → Type 0
IsInsideFor text (Refused e) = IsInsideOf text e
IsInsideFor text (Broken fault) = Unit {0}

-- for use inside

-- why there is no verdict on a log: the number of elements, want of memory, or the log
abbrev pub IsUnheard : Option Ahead → ℕ → Unjudged → Type 0
IsUnheard a count (Refused e) = IsUnallowed count 1 e
IsUnheard a count (Broken fault) = AreAllowed count 1 × MayBreak a fault

-- the same answer, of a judge
abbrev pub refused_so : Result ℕ EngineError → Result ℕ Unjudged
refused_so (Ok status) = Ok status
refused_so (Err e) = Err (Refused e)

-- a program with its inputs judges what a log has, and what comes of that is printed; or it is refused before the first
-- byte, or the log broke off
abbrev pub Listens : Checked → List Constant → List ℕ → Option Ahead → ℕ → Bool → SinkView → SinkView
    → Result ℕ Unjudged → Type 0
Listens P vs text a count b old new (Ok status) =
    Hears a (λ trace. JudgesSo P vs text trace count b old new (Ok status))
Listens P vs text a count b old new (Err (Refused e)) =
    Hears a (λ trace. JudgesSo P vs text trace count b old new (Err e))
Listens P vs text a count b old new (Err (Broken fault)) = AreAllowed count 1 × MayBreak a fault × (new ≡ old)
