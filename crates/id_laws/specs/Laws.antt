-- The laws that join what a program means to what its graph does (docs/MEANING.md, "Laws").
use Rattle.std.specs.Prelude.{◌≡◌, ◌≢◌, ◌≤◌, ◌<◌, ◌++◌, ◌&&◌, ℕ, ℤ, Bool, true, false}
use Rattle.std.specs.Prelude.{Option, Some, None, List}
use Rattle.std.specs.Prelude.{length, map, count_by}
use Rattle.id_check.specs.declared.checked.Checked.{Checked}
use Rattle.id_instr.specs.declared.dests.Port.{Port}
use Rattle.id_instr.specs.Graph.{Parts}
use Rattle.id_tag.specs.declared.Tag.{Tag}
use Rattle.id_tag.specs.declared.Payload.{Payload}
use Rattle.id_tag.specs.declared.Payload.TheVariants.{Token, Read, Write}
use Rattle.id_tag.specs.declared.Structure.{Structure}
use Rattle.id_tag.specs.declared.Message.{Message}
use Rattle.id_tag.specs.Tags.{same_tag}
use Rattle.id_match.specs.Ports.{same_port}
use Rattle.id_record.specs.declared.step.Step.TheVariants.{Stuck}
use Rattle.id_core.specs.Events.{EventView, tag_of}
use Rattle.id_core.specs.Machines.{World, IsQuiet, TakesInputs, start, run}
use Rattle.id_core.specs.Observed as shown
use Rattle.id_value.specs.declared.Constant.{Constant}
use Rattle.id_source.specs.declared.Ask.{Ask}
use Rattle.id_source.specs.declared.Put.{Put}
use Rattle.id_source.specs.declared.Shape.{Shape}
use Rattle.id_source.specs.declared.Site.{Site}
use Rattle.id_source.specs.declared.SourceValue.{SourceValue}
use Rattle.id_source.specs.declared.SourceFault.{SourceFault}
use Rattle.id_source.specs.declared.Fact.TheVariants.{Has}
use Rattle.id_source.specs.declared.Fact.TheVariants as fact
use Rattle.id_source.specs.declared.NameValue.{NameValue}
use Rattle.id_source.specs.declared.Path.{Path}
use Rattle.id_value.specs.List.{Among, AllDiffer}
use Rattle.id_table.specs.declared.row.Node.{Node}
use Rattle.id_table.specs.declared.row.Node.TheVariants.{Fetch}
use Rattle.id_table.specs.Rows.{at}
use Rattle.id_table.specs.Tables.{is_binder, is_expression, is_thing}
use Rattle.id_check.specs.Programs.{kind, place, rows}
use Rattle.id_source.specs.Sources.{Source, AreInputs, IsOfKind}
use Rattle.id_source.specs.Facts.{site}
use Rattle.id_source.specs.Rounds.{Holds, Faulty, FaultFree, Answers, IsAnswer, IsCoherent, IsWaiting}
use Rattle.id_source.specs.Names.{IsNameValue}
use Rattle.id_build.specs.declared.arc.Form.{Form}
use Rattle.id_build.specs.Rows.{label}
use Rattle.id_build.specs.Schemas.{Makes, Schemas}
use Rattle.id_valid.specs.Validator.{IsValid}
use Rattle.id_runs.specs.Activations.{activation_of}
-- *Suited* speaks of the runs of every valid graph, *Serials* of those of every graph
pub use Rattle.id_runs.specs.Suited.{Suited}
pub use Rattle.id_runs.specs.Serials.{Serials}

-- the events of a machine in this state
abbrev pub events : World → List EventView
events s = shown.events_of s.elements

-- what the messages say that were handled or are in flight
abbrev pub messages : World → List Payload
messages s = map (λ v. v.message.payload) (events s) ++ map (λ m. m.payload) s.flight

-- the value of the source that a message brings, if it brings one, where each structure has this name
abbrev pub value_in : (Structure → Site) → Payload → Option SourceValue
value_in name (Token t p v) = shown.source_value name v
value_in name (Read c t) = None
value_in name (Write c v t) = None

-- whether the message is a token for this port under this tag
abbrev pub is_for : Tag → Port → Payload → Bool
is_for t p (Token u q v) = same_tag u t && same_port q p
is_for t p (Read c u) = false
is_for t p (Write c v u) = false

-- whether the message is a read whose reply comes under this tag
abbrev pub asks_for : Tag → Payload → Bool
asks_for t (Token u q v) = false
asks_for t (Read c u) = same_tag u t
asks_for t (Write c v u) = false

-- whether the message is a write of this origin
abbrev pub stores_from : Tag → Payload → Bool
stores_from t (Token u q v) = false
stores_from t (Read c u) = false
stores_from t (Write c v u) = same_tag u t

-- the part that gives the value of a row of this node: of a fetch the last one, to which the reply comes
abbrev pub giving_part : Node → ℕ
giving_part (Fetch t i) = 2
giving_part _ = 0

-- the message brings a value that the expression at the place Has at the path, where each structure has this name
pub record Carries (S : Source) (name : Structure → Site) (p : Path) (e : ℕ) (m : Message) : Type 0 where
  pub value : SourceValue
  pub brings : value_in name m.payload ≡ Some value
  pub holds : Holds S (Has p e value)

-- a machine in this state has shown facts and faults of the source alone, where the instructions are numbered so
pub record IsSound (S : Source) (g : Parts) (number : ℕ → ℕ → ℕ) (s : World) : Type 0 where
  -- its answer is the source's
  pub answer : (v : SourceValue) → shown.answer g s ≡ Some v → Answers S v
  -- what it shows that binders Have, they Have, and no two of it have one path and place
  pub names : (n : NameValue) → Among n (shown.names g s) → IsNameValue S n
  pub names_once : AllDiffer {A = Site} (map (λ n. site n.path n.place) (shown.names g s))
  -- so it is with its structures, of which no two have one name, with what its cells hold, of which no two have one
  -- structure and index, and with what its fetches ask for, one for each
  pub structures : (x : Shape) → Among x (shown.structures g s) → Holds S (fact.Shape x)
  pub structures_once : AllDiffer (map (λ x. x.name) (shown.structures g s))
  pub cells : (x : Put) → Among x (shown.cells g s) → Holds S (fact.Put x)
  pub cells_once : AllDiffer {A = Site × ℤ} (map (λ x. (x.name, x.index)) (shown.cells g s))
  pub asks : (x : Ask) → Among x (shown.asks g s) → Holds S (fact.Ask x)
  pub asks_once : AllDiffer (map (λ x. x.fetch) (shown.asks g s))
  -- what waits has asked
  pub waiting : (x : Ask) → Among x (shown.waiting g s) → Holds S (fact.Ask x)
  pub waiting_once : AllDiffer (map (λ x. x.fetch) (shown.waiting g s))
  -- each of its faults is one of the source
  pub faults : (f : SourceFault) → Among f (shown.faults g s) → Faulty S f
  -- what the instruction of an expression has sent under a tag brings a value that the expression Has at the tag's path
  pub values : (n : ℕ) (f : Form) (e : ℕ) (v : EventView) (m : Message)
      → Makes S.checked n (giving_part (at (rows S.checked) n).node) f e
      → is_expression (at (rows S.checked) n).node ≡ true → Among v (events s)
      → (tag_of v.message.payload).instr ≡ number n (giving_part (at (rows S.checked) n).node) → Among m v.outputs
      → Carries S (shown.structure_in g s.elements) (shown.path_in g s.elements (tag_of v.message.payload)) e m

-- what was handled or is in flight in this state has one path only under one context at one iteration
abbrev pub ArePathsApart : Parts → World → Type 0
ArePathsApart g s = (x y : Payload) → Among x (messages s) → Among y (messages s)
    → shown.path_in g s.elements (tag_of x) ≡ shown.path_in g s.elements (tag_of y)
    → activation_of (tag_of x) ≡ activation_of (tag_of y)

-- in this state no event was `Stuck`, each port has got at most one token under each tag, each fetch has asked at most
-- once, each store has stored at most once, and different contexts and iterations have different paths
pub record IsNeverStuck (g : Parts) (s : World) : Type 0 where
  pub goes_on : (v : EventView) → Among v (events s) → v.step ≢ Stuck
  pub one_token : (t : Tag) (p : Port) → count_by (is_for t p) (messages s) ≤ 1
  pub one_read : (t : Tag) → count_by (asks_for t) (messages s) ≤ 1
  pub one_write : (t : Tag) → count_by (stores_from t) (messages s) ≤ 1
  pub paths_apart : ArePathsApart g s

-- the answer shown in this state is exactly the source's, so are what binders Have, structures, what is put into cells,
-- what fetches ask for and which of them wait, and the source has no fault
pub record IsComplete (S : Source) (g : Parts) (s : World) : Type 0 where
  pub answer : IsAnswer S (shown.answer g s)
  pub names : (n : NameValue) → IsNameValue S n → Among n (shown.names g s)
  pub structures : (x : Shape) → Holds S (fact.Shape x) → Among x (shown.structures g s)
  pub cells : (x : Put) → Holds S (fact.Put x) → Among x (shown.cells g s)
  pub asks : (x : Ask) → Holds S (fact.Ask x) → Among x (shown.asks g s)
  pub waiting : (x : Ask) → IsWaiting S x → Among x (shown.waiting g s)
  pub only_waiting : (x : Ask) → Among x (shown.waiting g s) → IsWaiting S x
  pub no_fault : FaultFree S

-- *Sound*: of each graph that the schemas give a program, with the program's inputs and any number of elements, every
-- list of deliveries shows facts and faults of the source alone
abbrev pub Soundness : Type 0
Soundness = (S : Source) (g : Parts) (count : ℕ) (ks : List ℕ) → AreInputs S.checked S.inputs
    → (schemas : Schemas S.checked g) → IsSound S g schemas.number (run g count ks (start g S.inputs count))

-- *Never stuck*: of each such graph, every list of deliveries leaves no element stuck, and no two contexts one path
abbrev pub NeverStuck : Type 0
NeverStuck = (S : Source) (g : Parts) (count : ℕ) (ks : List ℕ) → AreInputs S.checked S.inputs
    → Schemas S.checked g → IsNeverStuck g (run g count ks (start g S.inputs count))

-- *Quiet is complete*: of each such graph, a list of deliveries after which the machine is quiet has shown everything
abbrev pub QuietIsComplete : Type 0
QuietIsComplete = (S : Source) (g : Parts) (count : ℕ) (ks : List ℕ) → AreInputs S.checked S.inputs
    → Schemas S.checked g
    → IsQuiet (run g count ks (start g S.inputs count)) → IsComplete S g (run g count ks (start g S.inputs count))

-- *Coherence*: each source without a fault gives each path and place at most one value, each structure one shape, and
-- each cell one value
abbrev pub Coherence : Type 0
Coherence = (S : Source) → FaultFree S → IsCoherent S

-- *Validity*: each graph that the schemas give a program is valid
abbrev pub Validity : Type 0
Validity = (P : Checked) (g : Parts) → Schemas P g → IsValid g

-- *Inputs fit*: each such graph takes the inputs of the program
abbrev pub InputsFit : Type 0
InputsFit = (P : Checked) (g : Parts) (vs : List Constant) → AreInputs P vs → Schemas P g → TakesInputs g vs

-- a value gets its name at the row
pub record IsBinder (P : Checked) (b : ℕ) : Type 0 where
  pub within : b < length (rows P)
  pub binds : is_binder (at (rows P) b).node ≡ true

-- the labels of the graph are the first instructions of the rows that label the program's binders, where the
-- instructions are numbered so
pub record AreLabels (P : Checked) (g : Parts) (number : ℕ → ℕ → ℕ) : Type 0 where
  -- each binder has a label, and it has the binder's place
  pub each : (b : ℕ) → IsBinder P b → shown.is_label g (number (label P b) 0) ≡ true
  pub places : (b : ℕ) → IsBinder P b → shown.place_of g (number (label P b) 0) ≡ place P b
  -- there is no other label, and no two binders have one
  pub only : (n : ℕ) → shown.is_label g n ≡ true → (b : ℕ) × IsBinder P b × (number (label P b) 0 ≡ n)
  pub apart : (b c : ℕ) → IsBinder P b → IsBinder P c → number (label P b) 0 ≡ number (label P c) 0
      → b ≡ c

-- *Labels*: the labels of each such graph are those of the program's binders, one each
abbrev pub Labels : Type 0
Labels = (P : Checked) (g : Parts) → (schemas : Schemas P g) → AreLabels P g schemas.number

-- *Kinded*: what a thing of a source Has is of the thing's kind
abbrev pub Kinded : Type 0
Kinded = (S : Source) (n : ℕ) (p : Path) (v : SourceValue) → AreInputs S.checked S.inputs
    → n < length (rows S.checked) → is_thing (at (rows S.checked) n).node ≡ true
    → Holds S (Has p (place S.checked n) v) → IsOfKind S.checked v (kind S.checked n)
