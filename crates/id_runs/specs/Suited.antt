-- What fires in the runs of valid graphs (docs/MACHINE.md, "Firing").
use Rattle.std.specs.Prelude.{◌≡◌, ◌≢◌, ℕ, Some, List, slice_get}
use Rattle.id_instr.specs.declared.instr.Instr.{Instr}
use Rattle.id_instr.specs.Graph.{Parts}
use Rattle.id_tag.specs.declared.Tag.{Tag}
use Rattle.id_valid.specs.Validator.{IsValid}
use Rattle.id_ops.specs.declared.Operands.{Operands}
use Rattle.id_ops.specs.declared.Fired.{Fired}
use Rattle.id_ops.specs.declared.Fired.TheVariants.{Nothing}
use Rattle.id_ops.specs.Operands.{Suits}
use Rattle.id_core.specs.Machines.{World, TakesInputs, start, run}
use Rattle.id_value.specs.declared.Constant.{Constant}
use Rattle.id_runs.specs.Events.{Event, FiresAs}
use Rattle.id_runs.specs.Runs.{Reach, Reached}

-- there is an instruction at the tag, the operands suit its operator, and what fires is not `Nothing`
pub record IsSuited (g : Parts) (t : Tag) (ops : Operands) (f : Fired) : Type 0 where
  pub instr : Instr
  pub at : slice_get g.instrs t.instr ≡ Some instr
  pub suits : Suits instr.op ops
  pub fires : f ≢ Nothing

-- some events lead to this state, and in all that do each firing is suited
pub record AreSuited (g : Parts) (vs : List Constant) (count : ℕ) (s : World) : Type 0 where
  pub reached : Reached g vs count s
  pub suited : (events : List Event) → Reach g vs count s events → (t : Tag) (f : Fired) (x : FiresAs events t f)
      → IsSuited g t x.operands f

-- *Suited*: in each run of a valid graph that takes the inputs, operands that meet an operator suit it
abbrev pub Suited : Type 0
Suited = (g : Parts) (vs : List Constant) (count : ℕ) (ks : List ℕ) → IsValid g → TakesInputs g vs
    → AreSuited g vs count (run g count ks (start g vs count))
