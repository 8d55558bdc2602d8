-- *One answer*: what the runs of one text have in common (docs/PROMISES.md, "The run").
use Rattle.std.specs.Prelude.{◌≡◌, ℕ, Bool, false, List, Ok, Option, IfSome, Result}
use Rattle.id_source.specs.declared.Ask.{Ask}
use Rattle.id_source.specs.declared.NameValue.{NameValue}
use Rattle.id_source.specs.declared.SourceValue.{SourceValue}
use Rattle.id_sink.specs.declared.sink.PrintError.{PrintError}
use Rattle.id_sink.specs.Told.{SinkView}
use Rattle.id_print.specs.declared.helds.Held.{Held}
use Rattle.id_print.specs.Texts.{quiet_text}
use Rattle.id_print.specs.Reports.{asked}
use Rattle.id_engine.specs.Runs.{HasRun}

-- a run for which `engine` answers with this status, of the text on the inputs that these words give: on any number of
-- elements, in any order, with what names have or without
pub record Answered (text : List ℕ) (words : List (List ℕ)) (b : Bool) (status : ℕ) : Type 0 where
  pub count : ℕ
  pub steps : ℕ
  pub trace : Bool
  pub old : SinkView
  pub new : SinkView
  pub result : Result (Unit {0}) PrintError
  pub ran : HasRun text words count trace steps b old new status result

-- what is printed of the run, behind its trace
abbrev pub report_of : {text : List ℕ} {words : List (List ℕ)} {b : Bool} {status : ℕ}
    → Answered text words b status → List ℕ
report_of h = h.ran.output

-- the two reports have one answer, and the same names, where they are asked for, structures, cells and waiting fetches
pub record ShowOne (text : List ℕ) (b c : Bool) (xs ys : List ℕ) : Type 0 where
  pub answer : Option SourceValue
  pub names : List NameValue
  pub helds : List Held
  pub waits : List Ask
  pub one : xs ≡ quiet_text text answer (asked b names) helds waits
  pub other : ys ≡ quiet_text text answer (asked c names) helds waits

-- two sinks that showed this before show the same after: what they tell, where it told, and their bytes, where those
-- were known
pub record SameLeft (old new other : SinkView) : Type 0 where
  pub told : IfSome old.told (λ _. new.told ≡ other.told)
  pub contents : IfSome old.contents (λ _. new.contents ≡ other.contents)

-- *One answer*: all runs of one text on one list of words that fall quiet have the same report, but that names may be
-- left out; where one falls quiet, none ends at a fault
pub record OneAnswer : Type 0 where
  pub same : (text : List ℕ) (words : List (List ℕ)) (b : Bool) (h k : Answered text words b 0)
      → report_of h ≡ report_of k
  pub shown : (text : List ℕ) (words : List (List ℕ)) (b c : Bool) (h : Answered text words b 0)
      (k : Answered text words c 0) → ShowOne text b c (report_of h) (report_of k)
  pub no_fault : (text : List ℕ) (words : List (List ℕ)) (b c : Bool) → Answered text words b 0
      → Answered text words c 1 → ⊥
  -- so two calls of `engine` that print no trace, with status 0, leave sinks that showed the same showing the same
  pub told : (text : List ℕ) (words : List (List ℕ)) (b : Bool) (count n steps m : ℕ) (old new other : SinkView)
      → HasRun text words count false steps b old new 0 (Ok tt)
      → HasRun text words n false m b old other 0 (Ok tt)
      → SameLeft old new other
