-- Lemmas on specs/Merging.antt.
use Rattle.std.proofs.Common.{◌≡◌, ◌∙◌, ◌≤◌, ◌<◌, ◌+◌, ◌⊎◌, ℕ, Bool, true, false, cond, suc, zero, List, [], ◌∷◌, ◌++◌, length, map, set, Option, Some, None, option_map, refl, sym, ap, subst, arith, inl, inr}
use Rattle.std.proofs.Common.{nat_eq, nat_lt}
use Rattle.std.proofs.lemmas.Bool.Decides.{nat_tests}
use Rattle.std.specs.Prelude.{slice_get, get_or, drop, take, not}
use Rattle.std.specs.List.{All}
use Rattle.std.proofs.lemmas.List.{get_or-set_same, set-set}
use Rattle.std.proofs.lemmas.List.Elements.{All-cons, All-head, All-nil, All-tail}
use Rattle.std.proofs.lemmas.Option.{get_or_from_slice_get, slice_get-map}
use Rattle.id_merge.specs.Lines.{line_length, rank}
use Rattle.id_merge.specs.Merging.{first_byte, first_least, inside, least_from, merged, merged_text, or_else, source, text_at, total}
use Rattle.id_merge.proofs.KnownLemmas.{none_some, some_is}
use Rattle.id_merge.proofs.LinesLemmas.{rank_none}

-- ---- bytes in turn

-- a text with a byte is one of the texts
text_within : (ts : List (List ℕ)) (i b : ℕ) (bs : List ℕ) → text_at ts i ≡ b ∷ bs → i < length ts
text_within [] i b bs h = absurd cc
text_within (t ∷ ts) zero b bs h = omega arith
text_within (t ∷ ts) (suc i) b bs h = let within = text_within ts i b bs h in omega (arith, within)

-- without its first byte there is one less
total_less : (ts : List (List ℕ)) (i b : ℕ) (bs : List ℕ) → text_at ts i ≡ b ∷ bs → total ts ≡ suc (total (set ts i bs))
total_less [] i b bs h = absurd cc
total_less (t ∷ ts) zero b bs h = let many : length t ≡ suc (length bs) = ap length h in omega (arith, many)
total_less (t ∷ ts) (suc i) b bs h = let rest = total_less ts i b bs h in omega (arith, rest)

-- the next byte
merged_next : (at : Option ℕ) (ts : List (List ℕ)) (i b : ℕ) (bs : List ℕ) → source at ts ≡ i → text_at ts i ≡ b ∷ bs
    → merged_text at ts ≡ b ∷ merged_text (inside i b) (set ts i bs)
merged_next at ts i b bs is here =
    ap (λ n. merged n at ts) (total_less ts i b bs here) ∙ by (total (set ts i bs)) (source at ts) (sym is)
  where
    on : (n j : ℕ) (text : List ℕ) → text ≡ b ∷ bs
        → first_byte text ∷ merged n (inside j (first_byte text)) (set ts j (drop 1 text)) ≡ b ∷ merged n (inside j b) (set ts j bs)
    on n j text e = ap (λ t. first_byte t ∷ merged n (inside j (first_byte t)) (set ts j (drop 1 t))) e

    by : (n j : ℕ) → i ≡ j
        → first_byte (text_at ts j) ∷ merged n (inside j (first_byte (text_at ts j))) (set ts j (drop 1 (text_at ts j)))
        ≡ b ∷ merged n (inside i b) (set ts i bs)
    by n j e = subst (λ k. first_byte (text_at ts k) ∷ merged n (inside k (first_byte (text_at ts k))) (set ts k (drop 1 (text_at ts k)))
        ≡ b ∷ merged n (inside i b) (set ts i bs)) e (on n i (text_at ts i) here)

-- in a line its text is the source
or_else-some : (i b : ℕ) (text bs : List ℕ) (other : ℕ) → text ≡ b ∷ bs → or_else i text other ≡ i
or_else-some i b text bs other e = ap (λ t. or_else i t other) e

-- the next bytes, up to the end of a line
pub merged_piece : (n : ℕ) (at : Option ℕ) (ts : List (List ℕ)) (i : ℕ) (bs : List ℕ) → source at ts ≡ i → text_at ts i ≡ bs → n < length bs
    → n ≤ line_length bs
    → merged_text at ts ≡ take (suc n) bs ++ merged_text (inside i (get_or bs n 0)) (set ts i (drop (suc n) bs))
merged_piece n at ts i [] is here within line = absurd (omega (arith, within))
merged_piece zero at ts i (b ∷ bs) is here within line = merged_next at ts i b bs is here
merged_piece (suc n) at ts i (b ∷ bs) is here within line =
    by (λ is_on here_on few. merged_piece n (Some i) (set ts i bs) i bs is_on here_on (omega (arith, within)) few) (nat_eq b 10) refl
  where
    first : (bs : List ℕ) → n < length bs → (text : List ℕ) → text ≡ bs → (other : ℕ) → or_else i text other ≡ i
    first [] few text e other = absurd (omega (arith, few))
    first (c ∷ bs) few text e other = or_else-some i c text bs other e

    by : (source (Some i) (set ts i bs) ≡ i → text_at (set ts i bs) i ≡ bs → n ≤ line_length bs
        → merged_text (Some i) (set ts i bs)
        ≡ take (suc n) bs ++ merged_text (inside i (get_or bs n 0)) (set (set ts i bs) i (drop (suc n) bs)))
        → (e : Bool) → nat_eq b 10 ≡ e
        → merged_text at ts ≡ b ∷ (take (suc n) bs ++ merged_text (inside i (get_or bs n 0)) (set ts i (drop (suc n) bs)))
    by rest true feed =
        let none : suc n ≤ 0 = subst (λ e. suc n ≤ cond (not e) (1 + line_length bs) 0) feed line in
        absurd (omega (arith, none))
    by rest false feed =
        let more : suc n ≤ 1 + line_length bs = subst (λ e. suc n ≤ cond (not e) (1 + line_length bs) 0) feed line in
        let few : n < length bs = omega (arith, within) in
        let here_on : text_at (set ts i bs) i ≡ bs = get_or-set_same ts i bs [] (text_within ts i b bs here) in
        let on = rest (first bs few (text_at (set ts i bs) i) here_on (first_least (set ts i bs))) here_on (omega (arith, more)) in
        let stays : inside i b ≡ Some i = ap (λ e. cond e None (Some i)) feed in
        merged_next at ts i b bs is here ∙ ap (λ o. b ∷ merged_text o (set ts i bs)) stays ∙ ap (λ t. b ∷ t)
        (on ∙ ap (λ us. take (suc n) bs ++ merged_text (inside i (get_or bs n 0)) us) (set-set ts i bs (drop (suc n) bs)))

-- of no bytes there is none
pub merged_none : (at : Option ℕ) (ts : List (List ℕ)) → total ts ≡ 0 → merged_text at ts ≡ []
merged_none at ts none = ap (λ n. merged n at ts) none

-- ---- the first least

at_drop : (all : List ℕ) (n r : ℕ) (rs : List ℕ) → drop n all ≡ r ∷ rs → (slice_get all n ≡ Some r) × (drop (n + 1) all ≡ rs)
at_drop [] n r rs h = absurd (nothing n h)
  where
    nothing : (n : ℕ) → drop n [] ≡ r ∷ rs → ⊥
    nothing zero h = cc
    nothing (suc n) h = cc
at_drop (x ∷ all) zero r rs h = (ap (λ l. slice_get l 0) h, ap (drop 1) h)
at_drop (x ∷ all) (suc n) r rs h =
    let rest = at_drop all n r rs h in
    let past : suc n + 1 ≡ suc (n + 1) = omega arith in
    (rest.0, ap (λ k. drop k (x ∷ all)) past ∙ rest.1)

-- a rank below this stands at the place that is found, or there is none
least_found : (most : ℕ) (all : List ℕ) (seen place least : ℕ) (rs : List ℕ) → drop seen all ≡ rs → (least < most → slice_get all place ≡ Some least)
    → ((r : ℕ) × (slice_get all (least_from seen place least rs) ≡ Some r) × (r < most)) ⊎ ((most ≤ least) × All (λ r. most ≤ r) rs)
least_found most all seen place least [] at here = by (nat_lt least most) refl
  where
    by : (e : Bool) → nat_lt least most ≡ e
        → ((r : ℕ) × (slice_get all place ≡ Some r) × (r < most)) ⊎ ((most ≤ least) × All (λ r. most ≤ r) [])
    by true e = let below : least < most = grind (arith, nat_tests, e) in inl (least, here below, below)
    by false e = inr (grind (arith, nat_tests, e), All-nil (λ r. most ≤ r))
least_found most all seen place least (r ∷ rs) at here =
    let on = at_drop all seen r rs at in
    by (least_found most all (seen + 1) seen r rs on.1 (λ below. on.0)) (least_found most all (seen + 1) place least rs on.1 here) (nat_lt r least) refl
  where
    by : (((q : ℕ) × (slice_get all (least_from (seen + 1) seen r rs) ≡ Some q) × (q < most)) ⊎ ((most ≤ r) × All (λ q. most ≤ q) rs))
        → (((q : ℕ) × (slice_get all (least_from (seen + 1) place least rs) ≡ Some q) × (q < most)) ⊎ ((most ≤ least) × All (λ q. most ≤ q) rs))
        → (e : Bool) → nat_lt r least ≡ e
        → ((q : ℕ) × (slice_get all (cond e (least_from (seen + 1) seen r rs) (least_from (seen + 1) place least rs)) ≡ Some q) × (q < most))
        ⊎ ((most ≤ least) × All (λ q. most ≤ q) (r ∷ rs))
    by this old true e = elim this [
      | inl found ↦ inl found
      | inr none ↦
          let below : r < least = grind (arith, nat_tests, e) in
          inr (omega (arith, none.0, below), All-cons (λ q. most ≤ q) r rs none.0 none.1)
    ]
    by this old false e = elim old [
      | inl found ↦ inl found
      | inr none ↦
          let above : least ≤ r = grind (arith, nat_tests, e) in
          inr (none.0, All-cons (λ q. most ≤ q) r rs (omega (arith, none.0, above)) none.1)
    ]

-- where the first least has no bytes none has
pub least_over : (ts : List (List ℕ)) → text_at ts (first_least ts) ≡ [] → All (λ t. t ≡ []) ts
least_over ts empty =
    elim (least_found 79228162514264337593543950338 (map rank ts) 0 0 79228162514264337593543950338 (map rank ts) refl (λ below. absurd (omega (arith, below)))) [
      | inl found ↦ absurd (by (slice_get ts (first_least ts)) refl found.0 (sym (slice_get-map rank ts (first_least ts)) ∙ found.1) found.2)
      | inr none ↦ all_empty ts none.1
    ]
  where
    by : (o : Option (List ℕ)) → slice_get ts (first_least ts) ≡ o → (r : ℕ) → option_map rank (slice_get ts (first_least ts)) ≡ Some r
        → r < 79228162514264337593543950338 → ⊥
    by None at r is below = none_some (sym (ap (option_map rank) at) ∙ is)
    by (Some t) at r is below =
        let nothing : t ≡ [] = sym (get_or_from_slice_get ts (first_least ts) t [] at) ∙ empty in
        let rank_is : rank t ≡ r = some_is (sym (ap (option_map rank) at) ∙ is) in
        let last : rank t ≡ 79228162514264337593543950338 = ap rank nothing in
        omega (arith, rank_is, last, below)

    all_empty : (us : List (List ℕ)) → All (λ r. 79228162514264337593543950338 ≤ r) (map rank us) → All (λ t. t ≡ []) us
    all_empty [] all = All-nil (λ t. t ≡ [])
    all_empty (u ∷ us) all =
        All-cons (λ t. t ≡ []) u us (rank_none u (All-head (λ r. 79228162514264337593543950338 ≤ r) (rank u) (map rank us) all))
        (all_empty us (All-tail (λ r. 79228162514264337593543950338 ≤ r) (rank u) (map rank us) all))

-- one rank more was looked at, and is less than the least, or not
pub least_then : (i place least r new_place new_least : ℕ) (rs : List ℕ) → r < least → new_place ≡ i → new_least ≡ r
    → least_from (i + 1) new_place new_least rs ≡ least_from i place least (r ∷ rs)
least_then i place least r new_place new_least rs below at is =
    let less : nat_lt r least ≡ true = grind (arith, nat_tests, below) in
    ap (λ p. least_from (i + 1) p new_least rs) at ∙ ap (λ l. least_from (i + 1) i l rs) is
    ∙ sym (ap (λ b. cond b (least_from (i + 1) i r rs) (least_from (i + 1) place least rs)) less)

pub least_else : (i place least r new_place new_least : ℕ) (rs : List ℕ) → least ≤ r → new_place ≡ place → new_least ≡ least
    → least_from (i + 1) new_place new_least rs ≡ least_from i place least (r ∷ rs)
least_else i place least r new_place new_least rs above at is =
    let less : nat_lt r least ≡ false = grind (arith, nat_tests, above) in
    ap (λ p. least_from (i + 1) p new_least rs) at ∙ ap (λ l. least_from (i + 1) place l rs) is
    ∙ sym (ap (λ b. cond b (least_from (i + 1) i r rs) (least_from (i + 1) place least rs)) less)
