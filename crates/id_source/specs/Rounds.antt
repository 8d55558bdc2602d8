-- The rounds of a source, what it has, its faults and its answer (docs/MEANING.md, "Rounds", "Faults", "Answer",
-- "Coherence").
use Rattle.std.specs.Prelude.{◌≡◌, ◌⊎◌, ℕ, ℤ, zero, suc, List, [], ◌∷◌, Option, Some, None}
use Rattle.id_source.specs.declared.Path.{Path}
use Rattle.id_source.specs.declared.SourceValue.{SourceValue}
use Rattle.id_source.specs.declared.Fact.{Fact}
use Rattle.id_source.specs.declared.Fact.TheVariants.{Has}
use Rattle.id_source.specs.declared.Ask.{Ask}
use Rattle.id_source.specs.declared.Site.{Site}
use Rattle.id_source.specs.declared.SourceFault.{SourceFault}
use Rattle.id_check.specs.Programs.{place}
use Rattle.id_source.specs.Sources.{Source, main_body}
use Rattle.id_source.specs.Facts.{FaultRule, Rule, ask, outermost, put, shape}

-- all of the facts hold
abbrev pub Every : (Fact → Type 0) → List Fact → Type 0
Every F [] = Unit {0}
Every F (f ∷ fs) = F f × Every F fs

-- the facts of round n: none in round 0, and then those of the round before with all that follows from them by one rule
abbrev pub Rounds : Source → ℕ → Fact → Type 0
Rounds S zero f = ⊥
Rounds S (suc n) f = Rounds S n f ⊎ ((fs : List Fact) × Rule S fs f × Every (Rounds S n) fs)

-- the source has the fact: it is one of some round
pub record Holds (S : Source) (f : Fact) : Type 0 where
  pub round : ℕ
  pub there : Rounds S round f

-- the source has the fault: it follows from facts of the source
pub record Faulty (S : Source) (f : SourceFault) : Type 0 where
  pub premises : List Fact
  pub rule : FaultRule S premises f
  pub hold : Every (Holds S) premises

-- the source has no fault
abbrev pub FaultFree : Source → Type 0
FaultFree S = (f : SourceFault) → Faulty S f → ⊥

-- main's body Has the value at the empty path
abbrev pub Answers : Source → SourceValue → Type 0
Answers S v = Holds S (Has outermost (place S.checked (main_body S.checked)) v)

-- the answer of the source: the value that main's body Has at the empty path, or none
abbrev pub IsAnswer : Source → Option SourceValue → Type 0
IsAnswer S (Some v) = Answers S v
IsAnswer S None = (v : SourceValue) → Answers S v → ⊥

-- the fetch asks for a cell into which nothing is put
pub record IsWaiting (S : Source) (a : Ask) : Type 0 where
  pub asks : Holds S (ask a.fetch a.name a.index)
  pub unfilled : (v : SourceValue) (b : Site) → Holds S (put a.name a.index v b) → ⊥

-- each path and place has at most one value, each structure one shape, and each cell one value and one store
pub record IsCoherent (S : Source) : Type 0 where
  pub values : (p : Path) (e : ℕ) (v w : SourceValue) → Holds S (Has p e v) → Holds S (Has p e w) → v ≡ w
  pub shapes : (s : Site) (lo hi low high : ℤ) → Holds S (shape s lo hi) → Holds S (shape s low high)
      → (lo ≡ low) × (hi ≡ high)
  pub puts : (s : Site) (i : ℤ) (v w : SourceValue) (a b : Site) → Holds S (put s i v a) → Holds S (put s i w b)
      → (v ≡ w) × (a ≡ b)
