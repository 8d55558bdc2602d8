-- What a judge has read of a log (docs/MACHINE.md, "Judges").
use Rattle.std.specs.Prelude.{◌≡◌, ℕ, Bool, true, List, ◌++◌, Option, length}
use Rattle.id_value.specs.declared.Constant.{Constant}
use Rattle.id_log.specs.Logs.{Ahead, IsHeard, MayFollow}
use Rattle.id_judge.specs.declared.judge.Judge.{Judge}
use Rattle.id_judge.specs.declared.verdict.Cause.{Cause}
use Rattle.id_judge.specs.Judging.{HasRead, ReadsAll}
use Rattle.id_judge.specs.Lines.{IsFirstLine}

-- for use inside

-- the judge has read lines at the front of the text, behind which so many bytes are left
pub record ReadsFront (old : Judge) (text : List ℕ) (left : ℕ) (new : Judge) : Type 0 where
  pub done : List ℕ
  pub rest : List ℕ
  pub parts : text ≡ done ++ rest
  pub many : length rest ≡ left
  pub reads : ReadsAll old done new

-- the line of this number, of those that it has read and then those of the text, is the first from which on all is no
-- trace, whatever may stand behind the text
abbrev pub RefusesBefore : Judge → List ℕ → Bool → ℕ → Cause → Type 0
RefusesBefore j text over k cause =
    (vs : List Constant) (front more : List ℕ) → HasRead vs front j → MayFollow over more
    → IsFirstLine j.bench.graph vs (length j.bench.elements) (front ++ (text ++ more)) k cause

-- the judge has read all lines of a log
pub record HearsAll (a : Option Ahead) (old new : Judge) : Type 0 where
  pub text : List ℕ
  pub heard : IsHeard a text true
  pub reads : ReadsAll old text new

-- it has read a line of a log from which on all is no trace
pub record HearsWrong (a : Option Ahead) (old : Judge) (k : ℕ) (cause : Cause) : Type 0 where
  pub text : List ℕ
  pub over : Bool
  pub heard : IsHeard a text over
  pub wrong : RefusesBefore old text over k cause
