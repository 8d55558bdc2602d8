-- *At once*: how many messages the instructions of a program may have in one iteration of one context, whatever their
-- numbers, and what a reader of its rounds knows by it (docs/PROMISES.md, "The run").
use Rattle.std.specs.Prelude.{◌≡◌, ◌<◌, ◌≤◌, ◌-◌, ◌*◌, ◌^◌, ◌+◌, ℕ, zero, suc, Bool}
use Rattle.std.specs.Prelude.{List, length, Result}
use Rattle.id_check.specs.declared.checked.Checked.{Checked}
use Rattle.id_check.specs.Programs.{rows}
use Rattle.id_instr.specs.Graph.{Parts}
use Rattle.id_build.specs.Schemas.{Schemas}
use Rattle.id_source.specs.declared.Fact.{Fact}
use Rattle.id_source.specs.declared.Path.{Path}
use Rattle.id_source.specs.Sources.{source}
use Rattle.id_laws.specs.Bounded.{messages_at_once}
use Rattle.id_laws.specs.ByBlock.{messages_in_row}
use Rattle.id_laws.specs.Ended.{AreActiveBy}
use Rattle.id_sink.specs.declared.sink.PrintError.{PrintError}
use Rattle.id_sink.specs.Told.{SinkView}
use Rattle.id_print.specs.Texts.{facts_text}
use Rattle.id_engine.specs.Commands.{AreFactsOf}
use Rattle.id_engine.specs.Runs.{HasRun}
use Rattle.id_promises.specs.Status.{TellsFaults}

-- how many messages the instructions of the first n rows may have in one iteration of one context
abbrev pub messages_below : Checked → ℕ → ℕ
messages_below P zero = 0
messages_below P (suc n) = messages_below P n + messages_in_row P n

-- how many those of all rows may have
abbrev pub messages_of_program : Checked → ℕ
messages_of_program P = messages_below P (length (rows P))

-- so many messages a reader of a text's rounds and of its graph finds to be enough: a round adds no bytes to this one,
-- these are the paths at which a run may do something by its facts, and the graph is one that the schemas give
pub record AreFoundEnough (text : List ℕ) (words : List (List ℕ)) (steps : ℕ) : Type 0 where
  pub round : ℕ
  pub facts : List Fact
  pub next : List Fact
  pub are : AreFactsOf text words round facts
  pub are_next : AreFactsOf text words (suc round) next
  pub adds_none : facts_text text facts ≡ facts_text text next
  pub paths : List Path
  pub active : AreActiveBy are.program facts paths
  pub graph : Parts
  pub schemas : Schemas are.program graph
  pub enough : messages_at_once graph * length paths ≤ steps

-- *At once*
pub record AtOnce : Type 0 where
  -- each graph that the schemas give a program may have as many messages at once as its rows say
  pub number : (P : Checked) (g : Parts) → Schemas P g → messages_at_once g ≡ messages_of_program P
  -- so what a reader finds to be enough is enough for each run of the text on the words: its status tells of faults
  pub told : (text : List ℕ) (words : List (List ℕ)) (count steps status : ℕ) (t b : Bool) (old new : SinkView)
      (result : Result (Unit {0}) PrintError) → steps < 2 ^ 64 - 1 → AreFoundEnough text words steps
      → (h : HasRun text words count t steps b old new status result)
      → TellsFaults (source h.program h.inputs) status
  -- and two runs for which it is enough have one status
  pub same : (text : List ℕ) (words : List (List ℕ)) (count steps status : ℕ) (t b : Bool) (old new : SinkView)
      (result : Result (Unit {0}) PrintError) (n m other : ℕ) (u c : Bool) (before after : SinkView)
      (outcome : Result (Unit {0}) PrintError) → steps < 2 ^ 64 - 1 → m < 2 ^ 64 - 1
      → AreFoundEnough text words steps → AreFoundEnough text words m
      → HasRun text words count t steps b old new status result
      → HasRun text words n u m c before after other outcome → status ≡ other
