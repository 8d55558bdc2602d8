-- What a judge has read of a trace, line by line (docs/MACHINE.md, "Judges").
use Rattle.std.specs.Prelude.{◌≡◌, ◌+◌, ◌<◌, ℕ, List, [], ◌++◌, length, if◌then◌else◌}
use Rattle.id_instr.specs.Graph.{Parts}
use Rattle.id_value.specs.declared.Constant.{Constant}
use Rattle.id_record.specs.declared.kept.Keeps.{Keeps}
use Rattle.id_record.specs.Events.{EventView}
use Rattle.id_core.specs.Machines.{World, start}
use Rattle.id_runs.specs.Legal.{LeadTo}
use Rattle.id_trace.specs.Traces.{trace_text}
use Rattle.id_judge.specs.declared.judge.Judge.{Judge}
use Rattle.id_judge.specs.declared.verdict.Cause.{Cause}
use Rattle.id_judge.specs.declared.verdict.Cause.TheVariants.{NoLine}
use Rattle.id_judge.specs.Benches.{world_in}
use Rattle.id_judge.specs.Ends.{IsEnough, IsOfLines, is_line}
use Rattle.id_judge.specs.Lines.{AreSmall, AreStamps, IsFirstLine}

-- what is in flight after each front of these events is what a machine has
abbrev pub IsSmallFrom : Parts → ℕ → World → List EventView → Type 0
IsSmallFrom g count w events =
    (ds es : List EventView) (x : World) → events ≡ ds ++ es → LeadTo g count w ds x → AreSmall x.flight

-- the text is the trace of k events, which lead to this state, and a rest
pub record IsRead (g : Parts) (vs : List Constant) (count : ℕ) (text rest : List ℕ) (k : ℕ) (w : World)
    : Type 0 where
  pub events : List EventView
  pub many : length events ≡ k
  pub parts : text ≡ trace_text events ++ rest
  pub lead : LeadTo g count (start g vs count) events w
  pub small : IsSmallFrom g count (start g vs count) events

-- the judge can read on: it has the last stamps of its elements
abbrev pub IsReady : Judge → Type 0
IsReady j = AreStamps j.stamps.items (world_in j.bench)

-- it judges traces of so many elements of the graph, which keep so much of their events
pub record JudgesOn (g : Parts) (count : ℕ) (keeps : Keeps) (j : Judge) : Type 0 where
  pub on : j.bench.graph ≡ g
  pub many : length j.bench.elements ≡ count
  pub kept : j.bench.keeps ≡ keeps

-- all lines that it has read are this text, the trace of a legal list, from the start with these inputs, of as many
-- events, which leads to its machine
abbrev pub HasRead : List Constant → List ℕ → Judge → Type 0
HasRead vs text j = IsRead j.bench.graph vs (length j.bench.elements) text [] j.lines (world_in j.bench)

-- it judges traces of the same machine
pub record JudgesAlike (old new : Judge) : Type 0 where
  pub graph : new.bench.graph ≡ old.bench.graph
  pub count : length new.bench.elements ≡ length old.bench.elements
  pub keeps : new.bench.keeps ≡ old.bench.keeps

-- it has read the first line of a text, behind which the tail stands
pub record ReadsLine (old : Judge) (text tail : List ℕ) (new : Judge) : Type 0 where
  pub alike : JudgesAlike old new
  pub line : List ℕ
  pub parts : text ≡ line ++ tail
  pub some : 0 < length line
  pub one : new.lines ≡ old.lines + 1
  pub read : (vs : List Constant) (front : List ℕ) → HasRead vs front old → HasRead vs (front ++ line) new

-- for this cause the first line of a text, of which there is enough, is the first from which on all is no trace,
-- whatever stands behind the text
abbrev pub Refuses : Judge → List ℕ → Cause → Type 0
Refuses j text cause =
    (vs : List Constant) (front more : List ℕ) → HasRead vs front j → IsEnough text more
    → IsFirstLine j.bench.graph vs (length j.bench.elements) (front ++ (text ++ more)) j.lines cause

-- it has read all lines of a text
pub record ReadsAll (old : Judge) (text : List ℕ) (new : Judge) : Type 0 where
  pub alike : JudgesAlike old new
  pub read : (vs : List Constant) (front : List ℕ) → HasRead vs front old → HasRead vs (front ++ text) new

-- the line of this number, of those that it has read and then those of a text, is the first from which on all is no
-- trace, whatever stands behind the text
abbrev pub RefusesAt : Judge → List ℕ → ℕ → Cause → Type 0
RefusesAt j text k cause =
    (vs : List Constant) (front more : List ℕ) → HasRead vs front j → IsOfLines text more
    → IsFirstLine j.bench.graph vs (length j.bench.elements) (front ++ (text ++ more)) k cause

-- for use inside

-- the cause, where the first line of the text may be that of an event
abbrev pub cause_for : List ℕ → Cause → Cause
cause_for text cause = if is_line text then cause else NoLine
