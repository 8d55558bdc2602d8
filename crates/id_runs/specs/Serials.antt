-- No two events of a run make the same context, or the same structure (docs/MACHINE.md, "Element step").
use Rattle.std.specs.Prelude.{◌≡◌, ℕ, List}
use Rattle.id_instr.specs.Graph.{Parts}
use Rattle.id_tag.specs.declared.Context.{Context}
use Rattle.id_tag.specs.declared.Structure.{Structure}
use Rattle.id_core.specs.Machines.{World}
use Rattle.id_value.specs.declared.Constant.{Constant}
use Rattle.id_value.specs.List.{Among}
use Rattle.id_runs.specs.Activations.{main_context}
use Rattle.id_runs.specs.Events.{Event, Enters, Makes}
use Rattle.id_runs.specs.Runs.{Reach}

-- two events that enter the same context are one event, and none enters main's context
pub record ContextsApart (run : List Event) : Type 0 where
  pub one : (e e' : Event) → Among e run → Among e' run → (c : Context) → Enters e c → Enters e' c
      → e ≡ e'
  pub not_main : (e : Event) → Among e run → Enters e main_context → ⊥

-- two events that make structures of one element with one number are one event
abbrev pub StructuresApart : Parts → List Event → Type 0
StructuresApart g run = (e e' : Event) → Among e run → Among e' run → (s s' : Structure) → Makes g e s
    → Makes g e' s' → s.element ≡ s'.element → s.serial ≡ s'.serial → e ≡ e'

-- contexts and structures are apart
pub record Numbered (g : Parts) (run : List Event) : Type 0 where
  pub contexts : ContextsApart run
  pub structures : StructuresApart g run

-- *Serials*: in every run of every graph, on any number of elements
abbrev pub Serials : Type 0
Serials = (g : Parts) (vs : List Constant) (count : ℕ) (s : World) (run : List Event) → Reach g vs count s run
    → Numbered g run
