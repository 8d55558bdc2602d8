-- Lemmas on specs/Determinate.antt: quiet runs show exactly what the source has, so what two of them show is the same.
use Rattle.std.proofs.Common.{◌≡◌, inl, inr, ℕ, zero, suc, ℤ, List, [], ◌∷◌, Option, None, Some, refl, sym, ap, subst}
use Rattle.std.specs.List.{remove}
use Rattle.std.specs.Prelude.{IsPermutation, slice_get}
use Rattle.std.proofs.lemmas.List.Sorted.{IsPermutation-cons, IsPermutation-refl, IsPermutation-remove}
use Rattle.std.proofs.lemmas.List.Sorted.{IsPermutation-sym, IsPermutation-trans}
use Rattle.std.proofs.lemmas.Option.{slice_get_within, get_or_from_slice_get}
use Rattle.id_core.specs.Machines.{IsQuiet}
use Rattle.id_core.specs.Observed as shown
use Rattle.id_value.specs.List.{AllDiffer, Among}
use Rattle.id_value.proofs.AmongLemmas.{Among-from_at, at-from_Among}
use Rattle.id_value.proofs.DifferLemmas.{AllDiffer-from_map}
use Rattle.id_value.proofs.PlacesLemmas.{Among-from_remove, taken-or-left}
use Rattle.id_source.specs.declared.Ask.{Ask}
use Rattle.id_source.specs.declared.NameValue.{NameValue}
use Rattle.id_source.specs.declared.Put.{Put}
use Rattle.id_source.specs.declared.Shape.{Shape}
use Rattle.id_source.specs.declared.Site.{Site}
use Rattle.id_source.specs.declared.SourceFault.{SourceFault}
use Rattle.id_source.specs.declared.SourceValue.{SourceValue}
use Rattle.id_check.specs.Programs.{place}
use Rattle.id_source.specs.Facts.{outermost, site}
use Rattle.id_source.specs.Rounds.{IsAnswer, IsCoherent}
use Rattle.id_source.specs.Sources.{AreInputs, Source, main_body}
use Rattle.id_source.proofs.Coherence.{coherence}
use Rattle.id_laws.specs.Laws.{IsComplete, IsSound}
use Rattle.id_laws.specs.Determinate.{Determinate, RunOf, ShowTheSame, end_of}
use Rattle.id_laws.proofs.Completeness.EveryRun.{completeness, soundness}

-- where all differ, so does what is left when one is taken out
AllDiffer-remove : {A : Type 0} (xs : List A) (k : ℕ) → AllDiffer xs → AllDiffer (remove xs k)
AllDiffer-remove [] zero d = d
AllDiffer-remove [] (suc k) d = d
AllDiffer-remove (x ∷ xs) zero d = d.1
AllDiffer-remove (x ∷ xs) (suc k) d = (λ h. d.0 (Among-from_remove x xs k h), AllDiffer-remove xs k d.1)

-- and what was taken out is not left
not_left : {A : Type 0} (x : A) (xs : List A) (k : ℕ) → slice_get xs k ≡ Some x → AllDiffer xs → Among x (remove xs k)
    → ⊥
not_left x [] zero e d h = h
not_left x [] (suc k) e d h = h
not_left {A = A} x (y ∷ xs) zero e d h =
    let P : A → Type 0 = λ z. Among z xs in
    let same : x ≡ y = cc in
    d.0 (subst P same h)
not_left {A = A} x (y ∷ xs) (suc k) e d (inl p) =
    let P : A → Type 0 = λ z. Among z xs in
    d.0 (subst P p (Among-from_at x xs k e))
not_left x (y ∷ xs) (suc k) e d (inr h) = not_left x xs k e d.1 h

-- the first of a list stands in the other: the rests have the same members
IsPermutation-taken : {A : Type 0} (x : A) (xs ys : List A) (k : ℕ) → slice_get ys k ≡ Some x
    → IsPermutation xs (remove ys k) → IsPermutation (x ∷ xs) ys
IsPermutation-taken x xs ys k e rest =
    IsPermutation-trans (x ∷ xs) (x ∷ remove ys k) ys
    (IsPermutation-cons x xs (remove ys k) rest)
    (IsPermutation-sym ys (x ∷ remove ys k)
    (IsPermutation-remove ys k x (slice_get_within ys k x e) (sym (get_or_from_slice_get ys k x x e))))

-- two lists in which nothing stands twice and that have the same members are one in two orders
IsPermutation-from_members : {A : Type 0} (xs ys : List A) → AllDiffer xs → AllDiffer ys
    → ((x : A) → Among x xs → Among x ys) → ((x : A) → Among x ys → Among x xs) → IsPermutation xs ys
IsPermutation-from_members [] [] d e to from = IsPermutation-refl []
IsPermutation-from_members [] (y ∷ ys) d e to from = absurd (from y (inl refl))
IsPermutation-from_members {A = A} (x ∷ xs) ys d e to from = IsPermutation-taken x xs ys k at
    (IsPermutation-from_members xs (remove ys k) d.1 (AllDiffer-remove ys k e) there back)
  where
    k : ℕ
    k = (at-from_Among x ys (to x (inl refl))).0

    at : slice_get ys k ≡ Some x
    at = (at-from_Among x ys (to x (inl refl))).1

    there : (z : A) → Among z xs → Among z (remove ys k)
    there z h =
        elim (taken-or-left z x ys k at (to z (inr h)))
        [ inl p ↦ absurd (d.0 (let P : A → Type 0 = λ w. Among w xs in subst P p h)) | inr l ↦ l ]

    behind : (z : A) → Among z (remove ys k) → Among z (x ∷ xs) → Among z xs
    behind z l (inl p) = absurd (not_left x ys k at e (let P : A → Type 0 = λ w. Among w (remove ys k) in subst P p l))
    behind z l (inr h) = h

    back : (z : A) → Among z (remove ys k) → Among z xs
    back z l = behind z l (from z (Among-from_remove z ys k l))

-- a source that gives each path and place one value has one answer
one_answer : (S : Source) → IsCoherent S → (v w : Option SourceValue) → IsAnswer S v → IsAnswer S w → v ≡ w
one_answer S c None None h k = refl
one_answer S c None (Some w) h k = absurd (h w k)
one_answer S c (Some v) None h k = absurd (k v h)
one_answer S c (Some v) (Some w) h k =
    ap (λ z. Some z) (c.values outermost (place S.checked (main_body S.checked)) v w h k)

-- where nothing is among a list it is empty
no_members : {A : Type 0} (xs : List A) → ((x : A) → Among x xs → ⊥) → xs ≡ []
no_members [] none = refl
no_members (x ∷ xs) none = absurd (none x (inl refl))

module _ (S : Source) (inputs : AreInputs S.checked S.inputs) where
  sound_end : (r : RunOf S) → IsSound S r.graph r.schemas.number (end_of S r)
  sound_end r = soundness S r.graph r.count r.positions inputs r.schemas

  complete_end : (r : RunOf S) → IsQuiet (end_of S r) → IsComplete S r.graph (end_of S r)
  complete_end r quiet = completeness S r.graph r.count r.positions inputs r.schemas quiet

  same_shown : (r q : RunOf S) → IsQuiet (end_of S r) → IsQuiet (end_of S q) → ShowTheSame S r q
  same_shown r q quiet still = record {
    answer = one_answer S (coherence S a.no_fault) _ _ a.answer b.answer;
    names = IsPermutation-from_members _ _ (AllDiffer-from_map (λ (n : NameValue). site n.path n.place) _ m.names_once)
        (AllDiffer-from_map (λ (n : NameValue). site n.path n.place) _ n.names_once) (λ x h. b.names x (m.names x h))
        (λ x h. a.names x (n.names x h));
    structures = IsPermutation-from_members _ _ (AllDiffer-from_map (λ (x : Shape). x.name) _ m.structures_once)
        (AllDiffer-from_map (λ (x : Shape). x.name) _ n.structures_once)
        (λ x h. b.structures x (m.structures x h)) (λ x h. a.structures x (n.structures x h));
    cells = IsPermutation-from_members _ _ (AllDiffer-from_map cell_of _ m.cells_once)
        (AllDiffer-from_map cell_of _ n.cells_once)
        (λ x h. b.cells x (m.cells x h)) (λ x h. a.cells x (n.cells x h));
    asks = IsPermutation-from_members _ _ (AllDiffer-from_map (λ (x : Ask). x.fetch) _ m.asks_once)
        (AllDiffer-from_map (λ (x : Ask). x.fetch) _ n.asks_once)
        (λ x h. b.asks x (m.asks x h)) (λ x h. a.asks x (n.asks x h));
    waiting = IsPermutation-from_members _ _ (AllDiffer-from_map (λ (x : Ask). x.fetch) _ m.waiting_once)
        (AllDiffer-from_map (λ (x : Ask). x.fetch) _ n.waiting_once)
        (λ x h. b.waiting x (a.only_waiting x h)) (λ x h. a.waiting x (b.only_waiting x h));
  }
    where
      cell_of : Put → Site × ℤ
      cell_of x = (x.name, x.index)

      m : IsSound S r.graph r.schemas.number (end_of S r)
      m = sound_end r

      n : IsSound S q.graph q.schemas.number (end_of S q)
      n = sound_end q

      a : IsComplete S r.graph (end_of S r)
      a = complete_end r quiet

      b : IsComplete S q.graph (end_of S q)
      b = complete_end q still

  no_fault_shown : (r q : RunOf S) → IsQuiet (end_of S r) → shown.faults q.graph (end_of S q) ≡ []
  no_fault_shown r q quiet = no_members (shown.faults q.graph (end_of S q))
      (λ (f : SourceFault) h. (complete_end r quiet).no_fault f ((sound_end q).faults f h))

pub determined : Determinate
determined = λ S inputs. record { same = same_shown S inputs; no_fault = no_fault_shown S inputs }
