-- From which facts all has been followed, round by round (docs/MEANING.md, "Rounds").
use Rattle.std.specs.Prelude.{◌≡◌, ◌≤◌, ℕ, List, [], length, drop}
use Rattle.id_value.specs.declared.Constant.{Constant}
use Rattle.id_check.specs.declared.checked.Checked.{Checked}
use Rattle.id_facts.specs.declared.facts.RowFact.{RowFact}
use Rattle.id_meaning.specs.Read.{AreRead, Read}
use Rattle.id_meaning.specs.declared.round.RoundsError.{RoundsError}
use Rattle.id_meaning.specs.declared.rules.Rules.{Rules}
use Rattle.id_meaning.specs.declared.round.RoundsError.TheVariants.{BadRounds, TooManyFacts, Memory}
use Rattle.id_source.specs.Sources.{Source}
use Rattle.id_source.specs.Computed.{HasMoreFacts}
use Rattle.id_facts.specs.Cells.{items}
use Rattle.id_facts.specs.RowFacts.{all_learnt}
use Rattle.id_facts.specs.Firsts.{first_facts}
use Rattle.id_facts.specs.Listed.{IsRound}
use Rattle.std.specs.Prelude.{◌⊎◌, ◌<◌, ◌++◌}
use Rattle.id_meaning.specs.Effects.{all_effects}

-- what rules read
abbrev pub read_of : Rules → Read
read_of r = record { checked = r.checked.now; links = r.links.now; waits = r.waits.now; cells = r.cells.now }

-- what follows from the front of these facts has been learnt: from all of them, or more than 1,000,000
pub record Goes (r : Read) (gs fs ds : List RowFact) : Type 0 where
  pub front : List RowFact
  pub rest : List RowFact
  pub parts : gs ≡ front ++ rest
  pub facts : ds ≡ all_learnt fs (all_effects r.checked r.links r.waits r.cells front)
  pub done : (rest ≡ []) ⊎ (1000000 < length ds)

-- the facts are those that follow from none, 1,000,000 at most
pub record AreFirst (P : Checked) (is : List Constant) (fs : List RowFact) : Type 0 where
  pub facts : fs ≡ all_learnt [] (first_facts P is)
  pub few : length fs ≤ 1000000

-- the program, and none has been followed
pub record IsFresh (P : Checked) (a : Read) : Type 0 where
  pub program : a.checked ≡ P
  pub none : items a.cells ≡ []

-- the facts begin with these
abbrev pub StartsWith : List RowFact → List RowFact → Type 0
StartsWith es fs = fs ≡ es ++ drop (length es) fs

-- the program is the old one, and the facts are these
pub record Follows (a : Read) (fs : List RowFact) (b : Read) : Type 0 where
  pub program : b.checked ≡ a.checked
  pub facts : items b.cells ≡ fs

-- those of the facts that have not been followed
abbrev pub news_behind : Read → List RowFact → List RowFact
news_behind a fs = drop (length (items a.cells)) fs

-- all of the facts are followed, those that had been and the news, and what follows from the news is learnt
pub record FollowsNews (a b : Read) (fs ds : List RowFact) : Type 0 where
  pub follows : Follows a fs b
  pub kept : AreRead b
  pub goes : Goes b (news_behind a (items b.cells)) fs ds

-- the facts are those of round n, 1,000,000 at most
pub record IsFewRound (S : Source) (n : ℕ) (fs : List RowFact) : Type 0 where
  pub round : IsRound S n fs
  pub few : length fs ≤ 1000000

-- why the facts of round n are not found: some round up to it has more than 1,000,000, or want of memory
abbrev pub IsStop : Source → ℕ → RoundsError → Type 0
IsStop S n BadRounds = ⊥
IsStop S n TooManyFacts = HasMoreFacts S n 1000000
IsStop S n Memory = Unit {0}
