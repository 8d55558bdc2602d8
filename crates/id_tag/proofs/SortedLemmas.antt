-- What a sort by key leaves of a table's entries is what a finite map lists.
use Rattle.std.proofs.Common.{◌≡◌, ℕ, ◌+◌, ◌<◌, Bool, true, false, cond, ◌&&◌, T, List, [], ◌∷◌, map, length, get_or}
use Rattle.std.proofs.Common.{Option, Some, None, refl, sym, ◌∙◌, ap, subst, arith}
use Rattle.std.specs.FinMap.{find, entries, from_entries, from_sorted, is_sorted, get-from_entries, get-from_sorted, entries-from_sorted, same_map}
use Rattle.std.specs.FinMap.Entries.{below_all}
use Rattle.std.specs.List.{IsDistinct, AllByRecursion, Contains, slice_get}
use Rattle.std.specs.List.Sorted.{IsPermutation, IsSortedByKey, IsStrictlySortedBy}
use Rattle.std.specs.Map.{lookup, keys_of}
use Rattle.std.specs.Cmp.{IsTotalOrder, eq_by_cmp_equiv}
use Rattle.std.specs.Ordering.{is_lt, is_eq, ordering_reverse, eq_by_cmp}
use Rattle.std.specs.declared.cmp.Ordering.{Ordering}
use Rattle.std.specs.declared.cmp.Ordering.TheVariants.{Less, Equal, Greater}
use Rattle.std.proofs.lemmas.List.{get_or-map, length-map}
use Rattle.std.proofs.lemmas.List.Sorted.{IsPermutation-map, IsPermutation-sym, Contains-permutation}
use Rattle.std.proofs.lemmas.Map.Entries.{place_from_lookup, lookup_from_place}
use Rattle.std.proofs.lemmas.Map.Keys.{IsDistinct-IsPermutation, apart_from_distinct, sorted_from_all_adjacent, sorted_head, sorted_tail}
use Rattle.std.proofs.lemmas.Map.Lookups.{CmpEqualImpliesEq}
use Rattle.std.proofs.lemmas.Option.{slice_get_within, get_or_from_slice_get, slice_get-get_or}

equal : (r : Ordering) → is_eq r ≡ true → r ≡ Equal
equal Less e = cc
equal Equal e = refl
equal Greater e = cc

rises : (r : Ordering) → is_eq r ≡ false → is_lt (ordering_reverse r) ≡ false → r ≡ Less
rises Less e h = refl
rises Equal e h = cc
rises Greater e h = cc

both : (a b : Bool) → T a → T b → T (a && b)
both true b p q = q
both false b p q = p

same_found : {X : Type 0} (o r : Option X) → ((x : X) → o ≡ Some x → r ≡ Some x) → ((x : X) → r ≡ Some x → o ≡ Some x) → o ≡ r
same_found None None f g = refl
same_found None (Some x) f g = g x refl
same_found (Some x) r f g = sym (f x refl)

rises_at : {K : Type 0} (R : K → K → Ordering) → IsTotalOrder R → (a b : K) → eq_by_cmp R a b ≡ false → is_lt (R b a) ≡ false → R a b ≡ Less
rises_at R total a b apart h = rises (R a b) apart (ap is_lt (sym (total.antisymm b a)) ∙ h)

module _ {K X : Type 0} (R : K → K → Ordering) (total : IsTotalOrder R) (exact : CmpEqualImpliesEq R) where
  find-lookup : (es : List (K × X)) (q : K) → find R q es ≡ lookup (eq_by_cmp R q) es
  find-lookup [] q = refl
  find-lookup (e ∷ es) q = ap (cond (eq_by_cmp R q e.0) (Some e.1)) (find-lookup es q)

  found_in : (es fs : List (K × X)) → IsPermutation es fs → IsDistinct (eq_by_cmp R) (keys_of fs) → (q : K) (x : X)
      → lookup (eq_by_cmp R q) es ≡ Some x → lookup (eq_by_cmp R q) fs ≡ Some x
  found_in es fs perm distinct q x found =
      let place = place_from_lookup (eq_by_cmp R q) es x found in
      let here : Contains es (place.1, x) =
      (place.0, slice_get_within es place.0 (place.1, x) place.2, get_or_from_slice_get es place.0 (place.1, x) (place.1, x) place.2) in
      let there : Contains fs (place.1, x) = Contains-permutation es fs (place.1, x) perm here in
      let at : slice_get fs there.0 ≡ Some (place.1, x) = slice_get-get_or fs there.0 (place.1, x) there.1 ∙ ap Some there.2 in
      let one : q ≡ place.1 = exact q place.1 (equal (R q place.1) place.3) in
      ap (λ k. lookup (eq_by_cmp R k) fs) one ∙ lookup_from_place (eq_by_cmp_equiv total) fs there.0 place.1 x distinct at

  -- entries in another order say the same of each key
  lookup-IsPermutation : (es fs : List (K × X)) → IsPermutation es fs → IsDistinct (eq_by_cmp R) (keys_of es) → IsDistinct (eq_by_cmp R) (keys_of fs)
      → (q : K) → lookup (eq_by_cmp R q) es ≡ lookup (eq_by_cmp R q) fs
  lookup-IsPermutation es fs perm d e q =
      same_found _ _ (found_in es fs perm e q) (found_in fs es (IsPermutation-sym es fs perm) d q)

  below : (k : K) (es : List (K × X)) → AllByRecursion (λ j. R k j ≡ Less) (keys_of es) → T (below_all R k es)
  below k [] all = tt
  below k (e ∷ es) all = subst (λ r. T (is_lt r && below_all R k es)) (sym all.0) (below k es all.1)

  is_sorted-keys_of : (es : List (K × X)) → IsStrictlySortedBy R (keys_of es) → T (is_sorted R es)
  is_sorted-keys_of [] s = tt
  is_sorted-keys_of (e ∷ es) s =
      both _ _ (below e.0 es (sorted_head R e.0 (keys_of es) s)) (is_sorted-keys_of es (sorted_tail R e.0 (keys_of es) s))

  module _ {A : Type 0} (key : A → K) (value : A → X) where
    abbrev pub paired : A → K × X
    paired a = (key a, value a)

    keys_of-paired : (fs : List A) → keys_of (map paired fs) ≡ map key fs
    keys_of-paired [] = refl
    keys_of-paired (a ∷ fs) = ap (λ l. key a ∷ l) (keys_of-paired fs)

    -- neighbours of a list in order, whose keys differ
    adjacent : (a : A) (fs : List A) → IsDistinct (eq_by_cmp R) (map key fs) → IsSortedByKey key R fs
        → (k : ℕ) → k + 1 < length (map key fs) → R (get_or (map key fs) k (key a)) (get_or (map key fs) (k + 1) (key a)) ≡ Less
    adjacent a fs distinct sorted k h =
        let inside : k + 1 < length fs = omega (arith, length-map fs key) in
        let first : k < length fs = omega arith in
        let here : get_or (map key fs) k (key a) ≡ key (get_or fs k a) = get_or-map key fs k a (key a) first in
        let next : get_or (map key fs) (k + 1) (key a) ≡ key (get_or fs (k + 1) a) = get_or-map key fs (k + 1) a (key a) inside in
        let apart = apart_from_distinct (eq_by_cmp R) (map key fs) k (k + 1) (key a) distinct (omega arith) h in
        rises_at R total (get_or (map key fs) k (key a)) (get_or (map key fs) (k + 1) (key a)) apart
        (ap (λ j. is_lt (R j (get_or (map key fs) k (key a)))) next
        ∙ ap (λ j. is_lt (R (key (get_or fs (k + 1) a)) j)) here ∙ sorted k a (omega arith) inside)

    in_order : (fs : List A) → IsDistinct (eq_by_cmp R) (map key fs) → IsSortedByKey key R fs → T (is_sorted R (map paired fs))
    in_order [] distinct sorted = tt
    in_order (a ∷ fs) distinct sorted =
        is_sorted-keys_of (map paired (a ∷ fs))
        (subst (IsStrictlySortedBy R) (sym (keys_of-paired (a ∷ fs)))
        (sorted_from_all_adjacent total (map key (a ∷ fs)) (key a) (adjacent a (a ∷ fs) distinct sorted)))

    -- what a sort by key leaves of entries whose keys differ is what the map that they make lists
    pub entries-from_sort : (es : List (K × X)) (fs : List A) → IsDistinct (eq_by_cmp R) (keys_of es)
        → IsPermutation es (map paired fs) → IsSortedByKey key R fs → map paired fs ≡ entries (from_entries {R = R} es)
    entries-from_sort es fs distinct perm sorted =
        let gs : List (K × X) = map paired fs in
        let apart : IsDistinct (eq_by_cmp R) (keys_of gs) =
        IsDistinct-IsPermutation (eq_by_cmp R) (eq_by_cmp_equiv total).symm (keys_of es) (keys_of gs)
        (IsPermutation-map (λ (e : K × X). e.0) es gs perm) distinct in
        let ordered : T (is_sorted R gs) = in_order fs (subst (IsDistinct (eq_by_cmp R)) (keys_of-paired fs) apart) sorted in
        let one : from_entries {R = R} es ≡ from_sorted gs =
        same_map total exact _ _
        (λ q. get-from_entries total es q ∙ find-lookup es q ∙ lookup-IsPermutation es gs perm distinct apart q
        ∙ sym (get-from_sorted R gs q ordered ∙ find-lookup gs q)) in
        sym (ap entries one ∙ entries-from_sorted R gs ordered)
