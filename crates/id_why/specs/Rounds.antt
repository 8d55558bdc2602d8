-- What lacks a value in a round of a source (docs/MEANING.md, "Why there is none").
use Rattle.std.specs.Prelude.{◌≡◌, ℕ, suc, true, List, [], ◌∷◌, Option, None, Some}
use Rattle.id_value.specs.List.{Among}
use Rattle.id_source.specs.Sources.{Source, main_body}
use Rattle.id_facts.specs.declared.facts.RowFact.{RowFact}
use Rattle.id_facts.specs.declared.facts.RowFact.TheVariants.{Has}
use Rattle.id_facts.specs.declared.facts.RowValue.{RowValue}
use Rattle.id_facts.specs.declared.facts.Trail.TheVariants.{Outermost}
use Rattle.id_facts.specs.Listed.{IsRound}
use Rattle.id_check.specs.declared.checked.Checked.{Checked}
use Rattle.id_why.specs.declared.reasons.Reasons.{Reasons}
use Rattle.id_why.specs.Lines.{Explain}

-- the answer by the facts: a value that main's body Has at the empty path, or none
abbrev pub IsAnswerIn : Checked → List RowFact → Option RowValue → Type 0
IsAnswerIn P fs (Some v) = Among (Has Outermost (main_body P) v) fs
IsAnswerIn P fs None = (v : RowValue) → Among (Has Outermost (main_body P) v) fs → ⊥

-- the first of these values, if there is one
abbrev pub first_of : List RowValue → Option RowValue
first_of [] = None
first_of (v ∷ vs) = Some v

-- the facts are those of round n, the answer is theirs, and the lines tell what lacks a value; where the rounds have
-- ended, the next one has no more facts
pub record AreReasons (S : Source) (n : ℕ) (w : Reasons) : Type 0 where
  pub facts : IsRound S n w.paths
  pub answer : IsAnswerIn S.checked w.paths w.answer
  pub lines : Explain S.checked w.paths w.lines.items
  pub ended : w.ended ≡ true → IsRound S (suc n) w.paths
