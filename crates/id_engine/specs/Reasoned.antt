-- What lacks a value in a round of a text's program (docs/PROMISES.md, "The engine").
use Rattle.std.specs.Prelude.{◌≤◌, ℕ, List}
use Rattle.id_check.specs.declared.checked.Checked.{Checked}
use Rattle.id_value.specs.declared.Constant.{Constant}
use Rattle.id_source.specs.Sources.{source}
use Rattle.id_source.specs.Inputs.{AreInputsOf}
use Rattle.id_why.specs.declared.reasons.Reasons.{Reasons}
use Rattle.id_why.specs.Rounds.{AreReasons}
use Rattle.id_compile.specs.Programs.{HasInputs, IsProgramOf}

-- what lacks a value in a round of a text on these input words is told: it has inputs, and the round is within the
-- limit
pub record AreTakenReasons (text : List ℕ) (words : List (List ℕ)) (round : ℕ) : Type 0 where
  pub inputs : HasInputs text words
  pub few_rounds : round ≤ 10000

-- this is what lacks a value in a round of the text's program P, on the inputs that the words give
pub record AreReasonsOf (text : List ℕ) (words : List (List ℕ)) (round : ℕ) (P : Checked) (r : Reasons) : Type 0
  where
    pub is_program : IsProgramOf text P
    pub inputs : List Constant
    pub are_inputs : AreInputsOf P words inputs
    pub are : AreReasons (source P inputs) round r
