-- What a run by hand comes to (docs/LIBRARY.md).
use Rattle.std.specs.Prelude.{◌≡◌, ℕ, List, Option}
use Rattle.id_check.specs.declared.checked.Checked.{Checked}
use Rattle.id_compile.specs.Programs.{IsProgramOf}
use Rattle.id_core.specs.Machines.{MachineView, run}
use Rattle.id_source.specs.Inputs.{AreInputsOf}
use Rattle.id_source.specs.declared.SourceValue.{SourceValue}
use Rattle.id_source.specs.Rounds.{IsAnswer}
use Rattle.id_source.specs.Sources.{source}
use Rattle.id_value.specs.declared.Constant.{Constant}

-- the new machine is the old one after deliveries at these positions, one after another
pub record IsLater (old new : MachineView) : Type 0 where
  pub positions : List ℕ
  pub is : new ≡ record old { world = run old.graph old.count positions old.world }

-- the value is the answer of the text's program on the inputs that the words give
pub record IsAnswerOf (text : List ℕ) (words : List (List ℕ)) (answer : Option SourceValue) : Type 0 where
  pub program : Checked
  pub is_program : IsProgramOf text program
  pub inputs : List Constant
  pub are_inputs : AreInputsOf program words inputs
  pub is : IsAnswer (source program inputs) answer
