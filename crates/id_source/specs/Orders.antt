-- The order of paths, of facts and of names' values (docs/MEANING.md, "Order").
use Rattle.std.specs.Prelude.{◌≡◌, ◌⊎◌, ◌<◌, ℕ, ℤ, true, false, List, [], ◌∷◌}
use Rattle.std.specs.Prelude.{◌<ℤ◌}
use Rattle.std.specs.declared.cmp.Ordering.{Ordering}
use Rattle.std.specs.Ordering.{nat_cmp, ordering_then}
use Rattle.id_source.specs.declared.PathStep.{PathStep}
use Rattle.id_source.specs.declared.Path.{Path}
use Rattle.id_source.specs.declared.SourceValue.{SourceValue}
use Rattle.id_source.specs.declared.SourceValue.TheVariants.{Int, Bool, Name}
use Rattle.id_source.specs.declared.Site.{Site}
use Rattle.id_source.specs.declared.Shape.{Shape}
use Rattle.id_source.specs.declared.Put.{Put}
use Rattle.id_source.specs.declared.Ask.{Ask}
use Rattle.id_source.specs.declared.Fact.{Fact}
use Rattle.id_source.specs.declared.Fact.TheVariants.{On, Has}
use Rattle.id_source.specs.declared.Fact.TheVariants as fact
use Rattle.id_source.specs.declared.NameValue.{NameValue}

-- by place, then by number
abbrev pub StepBefore : PathStep → PathStep → Type 0
StepBefore s t = (s.place < t.place) ⊎ ((s.place ≡ t.place) × (s.number < t.number))

-- by their steps, a prefix first
abbrev pub StepsBefore : List PathStep → List PathStep → Type 0
StepsBefore ss [] = ⊥
StepsBefore [] (t ∷ ts) = Unit {0}
StepsBefore (s ∷ ss) (t ∷ ts) = StepBefore s t ⊎ ((s ≡ t) × StepsBefore ss ts)

-- by path, then by place
abbrev pub PointBefore : Path → ℕ → Path → ℕ → Type 0
PointBefore p e q f = StepsBefore p.steps q.steps ⊎ ((p ≡ q) × (e < f))

-- by path, then by place
abbrev pub SiteBefore : Site → Site → Type 0
SiteBefore s t = PointBefore s.path s.place t.path t.place

-- numbers before truth values, and these before structures; by the number, `false` before `true`, and by the name
abbrev pub ValueBefore : SourceValue → SourceValue → Type 0
ValueBefore (Int m) (Int n) = m <ℤ n
ValueBefore (Int m) (Bool b) = Unit {0}
ValueBefore (Int m) (Name s) = Unit {0}
ValueBefore (Bool false) (Bool true) = Unit {0}
ValueBefore (Bool b) (Name s) = Unit {0}
ValueBefore (Name s) (Name t) = SiteBefore s t
ValueBefore _ _ = ⊥

-- by name, then by the lower bound, then by the upper one
abbrev pub ShapeBefore : Shape → Shape → Type 0
ShapeBefore s t =
    SiteBefore s.name t.name
    ⊎ ((s.name ≡ t.name) × ((s.low <ℤ t.low) ⊎ ((s.low ≡ t.low) × (s.high <ℤ t.high))))

-- by structure and index
abbrev pub CellBefore : Site → ℤ → Site → ℤ → Type 0
CellBefore s i t j = SiteBefore s t ⊎ ((s ≡ t) × (i <ℤ j))

-- by cell, then by the store's path and place, then by value
abbrev pub PutBefore : Put → Put → Type 0
PutBefore p q =
    CellBefore p.name p.index q.name q.index
    ⊎ ((p.name ≡ q.name) × (p.index ≡ q.index)
    × (SiteBefore p.store q.store ⊎ ((p.store ≡ q.store) × ValueBefore p.value q.value)))

-- by the fetch's path and place, then by cell
abbrev pub AskBefore : Ask → Ask → Type 0
AskBefore a b =
    SiteBefore a.fetch b.fetch ⊎ ((a.fetch ≡ b.fetch) × CellBefore a.name a.index b.name b.index)

-- 0 for On, 1 for Has, 2 for Shape, 3 for Put, 4 for Ask
abbrev pub kind_of : Fact → ℕ
kind_of (On p e) = 0
kind_of (Has p e v) = 1
kind_of (fact.Shape s) = 2
kind_of (fact.Put p) = 3
kind_of (fact.Ask a) = 4

-- of two facts of one kind: On by path and place, Has by path, place and value
abbrev pub LikeBefore : Fact → Fact → Type 0
LikeBefore (On p e) (On q f) = PointBefore p e q f
LikeBefore (Has p e v) (Has q f w) = PointBefore p e q f ⊎ ((p ≡ q) × (e ≡ f) × ValueBefore v w)
LikeBefore (fact.Shape s) (fact.Shape t) = ShapeBefore s t
LikeBefore (fact.Put p) (fact.Put q) = PutBefore p q
LikeBefore (fact.Ask a) (fact.Ask b) = AskBefore a b
LikeBefore _ _ = ⊥

-- by their kinds, then as facts of one kind
abbrev pub FactBefore : Fact → Fact → Type 0
FactBefore f g = (kind_of f < kind_of g) ⊎ LikeBefore f g

-- each fact comes before all behind it, so none comes twice
abbrev pub FactsRise : List Fact → Type 0
FactsRise [] = Unit {0}
FactsRise (f ∷ []) = Unit {0}
FactsRise (f ∷ g ∷ fs) = FactBefore f g × FactsRise (g ∷ fs)

-- each name's value comes before the next, by path and place
abbrev pub NamesRise : List NameValue → Type 0
NamesRise [] = Unit {0}
NamesRise (n ∷ []) = Unit {0}
NamesRise (n ∷ m ∷ ns) = PointBefore n.path n.place m.path m.place × NamesRise (m ∷ ns)

-- each is in order before the next one
abbrev pub Rises : {A : Type 0} → (A → A → Type 0) → List A → Type 0
Rises B [] = Unit {0}
Rises B (x ∷ []) = Unit {0}
Rises B (x ∷ y ∷ xs) = B x y × Rises B (y ∷ xs)

-- For use inside.

-- how two steps compare: by place, then by number
abbrev pub step_cmp : PathStep → PathStep → Ordering
step_cmp s t = ordering_then (nat_cmp s.place t.place) (nat_cmp s.number t.number)
