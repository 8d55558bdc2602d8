-- What a judge says of a trace (docs/MACHINE.md, "Judges").
use Rattle.std.specs.Prelude.{◌≡◌, ◌<◌, ◌≤◌, ◌^◌, ◌==◌, ℕ, IsTrue, IsFalse, if◌then◌else◌}
use Rattle.std.specs.Prelude.{List, [], ◌∷◌, ◌++◌}
use Rattle.std.specs.Prelude.{Some, codes, decimal, length, map, slice_get}
use Rattle.id_instr.specs.Graph.{Parts}
use Rattle.id_tag.specs.declared.Message.{Message}
use Rattle.id_tag.specs.declared.Tag.{Tag}
use Rattle.id_tag.specs.Routes.{route_of}
use Rattle.id_source.specs.Sources.{Source, AreInputs}
use Rattle.id_build.specs.Schemas.{Schemas}
use Rattle.id_value.specs.declared.Constant.{Constant}
use Rattle.id_value.specs.List.{Among}
use Rattle.id_record.specs.declared.kept.Keeps.{Keeps}
use Rattle.id_record.specs.declared.step.Step.{Step}
use Rattle.id_record.specs.Events.{EventView, tag_of}
use Rattle.id_core.specs.Steps.{State, is_ended, next_stamp, step_of}
use Rattle.id_core.specs.Machines.{World, start}
use Rattle.id_runs.specs.Legal.{IsLegalList, LeadTo}
use Rattle.id_runs.specs.Orders.{IsLegalOrder}
use Rattle.id_trace.specs.Traces.{end_text, line_text, payload_text, trace_text}
use Rattle.id_judge.specs.declared.verdict.Cause.{Cause}
use Rattle.id_judge.specs.declared.verdict.Cause.TheVariants.{NotInFlight, OtherElement, NoStamp, OtherStamp}
use Rattle.id_judge.specs.declared.verdict.Cause.TheVariants.{OtherOutcome, NoLine}
use Rattle.id_judge.specs.declared.verdict.Verdict.{Verdict}
use Rattle.id_judge.specs.declared.verdict.Verdict.TheVariants.{Legal, CannotFollow}
use Rattle.id_judge.specs.Verdicts.{Follows}
use Rattle.id_judge.specs.Ends.{is_line}
use Rattle.id_judge.specs.Benches.{BenchView, world_in}

-- the text begins with the other one
pub record Begins (text front : List ℕ) : Type 0 where
  pub rest : List ℕ
  pub is : text ≡ front ++ rest

-- what stands behind the first space of the first line, and nothing where that has none
abbrev pub behind : List ℕ → List ℕ
behind [] = []
behind (b ∷ bs) = if b == 32 then bs else (if b == 10 then [] else behind bs)

-- the text begins with this number and a space
abbrev pub BeginsAt : List ℕ → ℕ → Type 0
BeginsAt text n = Begins text (decimal n ++ codes " ")

-- behind two words the text says what the message says, and that it came to this
abbrev pub Says : List ℕ → Message → Step → Type 0
Says text m step = Begins (behind (behind text)) (payload_text m.payload ++ end_text step)

-- the message is in flight, the text says it and that it came to this, behind the number of the element that it is for,
-- which is in this state
pub record IsTold (count : ℕ) (w : World) (text : List ℕ) (m : Message) (step : Step) (s : State) : Type 0 where
  pub flying : Among m w.flight
  pub says : Says text m step
  pub element : slice_get w.elements (route_of m.payload count) ≡ Some s
  pub own : BeginsAt (behind text) (route_of m.payload count)

-- why no event with the first line of the text can come next: the first of these causes that there is
abbrev pub IsLineCause : Parts → ℕ → World → List ℕ → Cause → Type 0
IsLineCause g count w text NotInFlight = (m : Message) (step : Step) → Among m w.flight → Says text m step → ⊥
IsLineCause g count w text OtherElement =
    (m : Message) × (step : Step) × Among m w.flight × Says text m step
    × ¬ BeginsAt (behind text) (route_of m.payload count)
IsLineCause g count w text NoStamp =
    (m : Message) × (step : Step) × (s : State) × IsTold count w text m step s × IsTrue (is_ended s m)
IsLineCause g count w text OtherStamp =
    (m : Message) × (step : Step) × (s : State) × IsTold count w text m step s × IsFalse (is_ended s m)
    × ¬ BeginsAt text (next_stamp s m)
IsLineCause g count w text OtherOutcome =
    (m : Message) × (step : Step) × (s : State) × IsTold count w text m step s × IsFalse (is_ended s m)
    × BeginsAt text (next_stamp s m)
    × ¬ (end_text step ≡ end_text (step_of g (route_of m.payload count) s m))
IsLineCause g count w text NoLine = IsFalse (is_line text)

-- the numbers of the tag have at most 64 bits, as those that a machine has
pub record IsSmall (t : Tag) : Type 0 where
  pub element : t.context.element < 2 ^ 64
  pub serial : t.context.serial < 2 ^ 64
  pub iteration : t.iteration < 2 ^ 64
  pub instr : t.instr < 2 ^ 64

-- two such messages in flight that one text says are one
abbrev pub IsClear : World → Type 0
IsClear w = (m n : Message) → Among m w.flight → Among n w.flight → IsSmall (tag_of m.payload)
    → IsSmall (tag_of n.payload) → (text : List ℕ) (a b : Step) → Says text m a → Says text n b → m ≡ n

-- lines are clear in each state that a legal list leads to
abbrev pub AreClear : Parts → List Constant → ℕ → Type 0
AreClear g vs count = (es : List EventView) (w : World) → LeadTo g count (start g vs count) es w → IsClear w

-- *Clear lines*: they are, in the graphs that the schemas give a program with its inputs
abbrev pub ClearLines : Type 0
ClearLines = (S : Source) (g : Parts) (count : ℕ) → AreInputs S.checked S.inputs → Schemas S.checked g
    → AreClear g S.inputs count

-- no legal list has more than the first k lines of the text, and none has the text as its trace
pub record GoesNoFurther (g : Parts) (vs : List Constant) (count : ℕ) (text : List ℕ) (k : ℕ) : Type 0 where
  pub longest : (es : List EventView) → IsLegalList g vs count es → Begins text (trace_text es) → length es ≤ k
  pub no_trace : (es : List EventView) → IsLegalList g vs count es → text ≡ trace_text es → ⊥

-- the text is the lines of k events, a legal list, which lead somewhere, and a rest, with whose first line no event can
-- come next there, for this cause; where lines are clear, no legal list has more of the text's lines, and no other
-- cause is so
pub record IsFirstLine (g : Parts) (vs : List Constant) (count : ℕ) (text : List ℕ) (k : ℕ) (cause : Cause)
    : Type 0 where
  pub events : List EventView
  pub many : length events ≡ k
  pub rest : List ℕ
  pub parts : text ≡ trace_text events ++ rest
  pub some : 0 < length rest
  pub end : World
  pub before : LeadTo g count (start g vs count) events end
  pub why : IsLineCause g count end rest cause
  pub line : IsFalse (is_line rest) → cause ≡ NoLine
  pub never : AreClear g vs count → GoesNoFurther g vs count text k
  pub one : AreClear g vs count → (es : List EventView) (w : World) (tail : List ℕ) (other : Cause)
      → LeadTo g count (start g vs count) es w → length es ≡ k → text ≡ trace_text es ++ tail
      → IsLineCause g count w tail other → (IsFalse (is_line tail) → other ≡ NoLine) → other ≡ cause

-- a text is the trace of a legal list of n events that ends in this state. Where lines are clear, it is that of no
-- other
pub record IsLegalTrace (g : Parts) (vs : List Constant) (count : ℕ) (text : List ℕ) (n : ℕ) (w : World)
    : Type 0 where
  pub events : List EventView
  pub many : length events ≡ n
  pub trace : text ≡ trace_text events
  pub legal : IsLegalOrder g vs count events w
  pub only : AreClear g vs count → (es : List EventView) → IsLegalList g vs count es → text ≡ trace_text es
      → es ≡ events

-- what a judge says of a trace on so many elements of the graph, from its start with these inputs: that of a legal
-- list of so many events, which ends in this machine, whose elements keep so much; or the first line from which on it
-- is none
abbrev pub IsLineVerdict : Parts → List Constant → ℕ → Keeps → List ℕ → Verdict → Type 0
IsLineVerdict g vs count keeps text (Legal m n) =
    (m.graph ≡ g) × (m.count ≡ count) × (m.keeps ≡ keeps) × IsLegalTrace g vs count text n m.world
IsLineVerdict g vs count keeps text (CannotFollow k cause) = IsFirstLine g vs count text k cause

-- for use inside

-- the tags of these messages are those that a machine has
abbrev pub AreSmall : List Message → Type 0
AreSmall ms = (m : Message) → Among m ms → IsSmall (tag_of m.payload)

-- behind what the message says stands the end of a line, with which this begins
pub record IsSaid (body : List ℕ) (m : Message) (past : List ℕ) : Type 0 where
  pub is : body ≡ payload_text m.payload ++ past
  pub end : (step : Step) × Begins past (end_text step)

-- a text says the message at a position
pub record IsFound (flight : List Message) (body : List ℕ) (k : ℕ) (m : Message) (past : List ℕ) : Type 0 where
  pub at : slice_get flight k ≡ Some m
  pub said : IsSaid body m past

-- these are the last stamps of the elements
abbrev pub AreStamps : List ℕ → World → Type 0
AreStamps xs w = xs ≡ map (λ s. s.stamp) w.elements

-- the text begins with the stamp, and behind the message stands the end of the line
pub record Compares (text past : List ℕ) (stamp : ℕ) (step : Step) (tail : List ℕ) : Type 0 where
  pub stamp_is : BeginsAt text stamp
  pub end : past ≡ end_text step ++ tail

-- the text begins with another stamp, or behind the message stands another end
abbrev pub IsOther : List ℕ → List ℕ → ℕ → Step → Cause → Type 0
IsOther text past stamp step OtherStamp = ¬ BeginsAt text stamp
IsOther text past stamp step OtherOutcome = BeginsAt text stamp × ¬ Begins past (end_text step)
IsOther text past stamp step NotInFlight = ⊥
IsOther text past stamp step OtherElement = ⊥
IsOther text past stamp step NoStamp = ⊥
IsOther text past stamp step NoLine = ⊥

-- an event followed that has the first line of the text, behind which stands the tail
pub record Advances (b : BenchView) (text tail : List ℕ) (c : BenchView) : Type 0 where
  pub event : EventView
  pub line : text ≡ line_text event ++ tail
  pub follows : Follows b.graph (length b.elements) (world_in b) event (world_in c)
  pub same_graph : c.graph ≡ b.graph
  pub same_keeps : c.keeps ≡ b.keeps
  pub same_count : length c.elements ≡ length b.elements
