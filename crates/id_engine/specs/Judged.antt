-- What `judge` prints before a run's report, or in its place (docs/LANGUAGE.md, "Output").
use Rattle.std.specs.Prelude.{ℕ, ◌+◌, List, ◌++◌, codes, decimal}
use Rattle.id_print.specs.declared.ending.Ending.{Ending}
use Rattle.id_print.specs.declared.ending.Ending.TheVariants.{Quiet, Stopped, Fault}
use Rattle.id_judge.specs.declared.verdict.Cause.{Cause}
use Rattle.id_judge.specs.declared.verdict.Cause.TheVariants.{NotInFlight, OtherElement, NoStamp, OtherStamp}
use Rattle.id_judge.specs.declared.verdict.Cause.TheVariants.{OtherOutcome, NoLine}

-- the status of an ending
abbrev pub status_of : Ending → ℕ
status_of Quiet = 0
status_of Stopped = 3
status_of (Fault f) = 1

-- that a trace is one of a run, with the number of its events
abbrev pub legal_text : ℕ → List ℕ
legal_text n = codes "legal " ++ (decimal n ++ codes "\n")

-- what is said of a cause
abbrev pub cause_text : Cause → List ℕ
cause_text NotInFlight = codes "no such message is in flight"
cause_text OtherElement = codes "its message is for another element"
cause_text NoStamp = codes "no stamp is left for its message"
cause_text OtherStamp = codes "its stamp is not the next"
cause_text OtherOutcome = codes "the element makes another event of its message"
cause_text NoLine = codes "this is no line of an event"

-- that the event at this position, counted from 0, can't follow, and why
abbrev pub other_text : ℕ → List ℕ → List ℕ
other_text k why = codes "event " ++ (decimal (k + 1) ++ (codes ": " ++ (why ++ codes "\n")))
