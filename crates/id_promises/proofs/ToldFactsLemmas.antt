-- The facts of a round are told by their lines.
use Rattle.std.proofs.Common.{◌≡◌, ◌⊎◌, ℕ, ℤ, ◌<◌, ◌≤◌, ◌^◌, Bool as Truth, true, false, List, inl, inr, length, get_or}
use Rattle.std.proofs.Common.{refl, sym, ◌∙◌, arith}
use Rattle.std.proofs.lemmas.Bool.{false≢true}
use Rattle.id_value.specs.Results.{is_whole}
use Rattle.id_tree.specs.Distinct.{HasPlace}
use Rattle.id_check.specs.Programs.{tree}
use Rattle.id_source.specs.declared.Path.{Path}
use Rattle.id_source.specs.declared.PathStep.{PathStep}
use Rattle.id_source.specs.declared.Site.{Site}
use Rattle.id_source.specs.declared.SourceValue.{SourceValue}
use Rattle.id_source.specs.declared.SourceValue.TheVariants.{Int, Bool, Name}
use Rattle.id_source.specs.declared.Fact.{Fact}
use Rattle.id_source.specs.declared.Fact.TheVariants.{On, Has, Shape, Put, Ask}
use Rattle.id_source.specs.Facts.{Rule}
use Rattle.id_source.specs.Facts.Rule.{shape_made, asks, puts}
use Rattle.id_source.specs.Rounds.{Every, Holds, Rounds}
use Rattle.id_source.specs.Sources.{Source}
use Rattle.id_source.proofs.Coherence.{because}
use Rattle.id_source.proofs.PlacedLemmas.{IsPoint, IsSite, Placed, PlacedValue, round_placed}
use Rattle.id_sink.specs.Texts.{has_brace}
use Rattle.id_sink.specs.Telling.{IntIsTold, NumberIsTold, PointIsTold, SiteIsTold, ValueIsTold}
use Rattle.id_print.specs.Telling.{FactIsTold}
use Rattle.id_promises.proofs.InputsToldLemmas.{whole_told}
use Rattle.id_promises.proofs.NumbersLemmas.{AreNumbered, IsLoopAt, IsNumbered, Numbered, NumberedValue, round_numbered}

-- each number that a place Has is one of the language
abbrev pub HasWholes : Source → Type 0
HasWholes S = (p : Path) (e : ℕ) (i : ℤ) → Holds S (Has p e (Int i)) → is_whole i ≡ true

-- a number is told, where the value is one
abbrev ToldNumber : SourceValue → Type 0
ToldNumber (Int n) = IntIsTold n
ToldNumber _ = Unit {0}

-- the bounds of a structure and the index of a cell are told
abbrev ToldCell : Fact → Type 0
ToldCell (Shape s) = IntIsTold s.low × IntIsTold s.high
ToldCell (Put p) = IntIsTold p.index × ToldNumber p.value
ToldCell (Ask a) = IntIsTold a.index
ToldCell _ = Unit {0}

module _ (S : Source) (wholes : HasWholes S) where
  told_int : (p : Path) (e : ℕ) (i : ℤ) → Holds S (Has p e (Int i)) → IntIsTold i
  told_int p e i h = whole_told i (wholes p e i h)

  told_number : (p : Path) (e : ℕ) (v : SourceValue) → Holds S (Has p e v) → ToldNumber v
  told_number p e (Int i) h = told_int p e i h
  told_number p e (Bool b) h = tt
  told_number p e (Name s) h = tt

  told_by : {fs : List Fact} {f : Fact} → Rule S fs f → Every (Holds S) fs → ToldCell f
  told_by (shape_made s e) h = (told_int _ _ _ h.1.0, told_int _ _ _ h.1.1.0)
  told_by (asks s e) h = told_int _ _ _ h.1.1.0
  told_by (puts s e) h = (told_int _ _ _ h.1.1.0, told_number _ _ _ h.1.1.1.0)
  told_by _ h = tt

  told_cell : (f : Fact) → Holds S f → ToldCell f
  told_cell f h = let b = because S h.round f h.there in told_by b.rule b.hold

module _ (text : List ℕ) (S : Source) (n : ℕ) (few : n < 2 ^ 64) (placed : (q : ℕ) → HasPlace (tree S.checked) q
    → q ≤ length text)
    (loops : (q : ℕ) → IsLoopAt S.checked q → has_brace text q ≡ true)
    (wholes : HasWholes S) where
  number_is : (s : PathStep) (b : Truth) → has_brace text s.place ≡ b → IsNumbered S.checked n s
      → NumberIsTold b s.number
  number_is s true e h = omega (arith, h.most, few)
  number_is s false e h = by h.only
    where
      by : (s.number ≡ 0) ⊎ IsLoopAt S.checked s.place → s.number ≡ 0
      by (inl z) = z
      by (inr l) = absurd (false≢true (sym e ∙ loops s.place l))

  point_is : (p : Path) (e : ℕ) → IsPoint S.checked p e → AreNumbered S.checked n p → PointIsTold text p e
  point_is p e h k = record {
    path = λ i d l. (let s = get_or p.steps i d in
        record { place = placed s.place (h.path i d l); number = number_is s (has_brace text s.place) refl (k i d l) });
    place = placed e h.place;
  }

  site_is : (s : Site) → IsSite S.checked s → AreNumbered S.checked n s.path → SiteIsTold text s
  site_is s h k = point_is s.path s.place h k

  value_is : (v : SourceValue) → PlacedValue S.checked v → NumberedValue S.checked n v → ToldNumber v
      → ValueIsTold text v
  value_is (Int i) h k t = t
  value_is (Bool b) h k t = tt
  value_is (Name s) h k t = site_is s h k

  fact_is : (f : Fact) → Holds S f → Placed S.checked f → Numbered S.checked n f → FactIsTold text f
  fact_is (On p e) x h k = point_is p e h k
  fact_is (Has p e v) x h k =
      record { point = point_is p e h.0 k.0; value = value_is v h.1 k.1 (told_number S wholes p e v x) }
  fact_is (Shape s) x h k =
      let t = told_cell S wholes (Shape s) x in record { name = site_is s.name h k; low = t.0; high = t.1 }
  fact_is (Put p) x h k = let t = told_cell S wholes (Put p) x in record {
    cell = record { name = site_is p.name h.0 k.0; index = t.0 };
    value = value_is p.value h.1 k.1 t.1;
    store = site_is p.store h.2 k.2;
  }
  fact_is (Ask a) x h k = record {
    fetch = site_is a.fetch h.0 k.0;
    cell = record { name = site_is a.name h.1 k.1; index = told_cell S wholes (Ask a) x };
  }

  -- a fact of round n is told
  pub round_told : (f : Fact) → Rounds S n f → FactIsTold text f
  round_told f h = fact_is f (record { round = n; there = h }) (round_placed S n f h) (round_numbered S n f h)
