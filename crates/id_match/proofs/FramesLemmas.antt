-- Lemmas on specs/Frames.antt, and on the number of frames.
use Rattle.std.proofs.Common.{◌≡◌, ℕ, zero, suc, ◌+◌, ◌≤◌, Bool, true, false, not, cond, ◌&&◌, ◌||◌, nat_eq, List, [], ◌∷◌}
use Rattle.std.proofs.Common.{map, Option, Some, None, is_some, refl, sym, ◌∙◌, ap, arith}
use Rattle.std.specs.FinMap.{get, entries, from_entries, contains_key, contains_key-keys}
use Rattle.std.specs.List.{AllByRecursion, IsDistinct, count_by, filter, list_any}
use Rattle.std.specs.Map.{lookup, keys_of}
use Rattle.std.specs.Option.{option_or}
use Rattle.std.specs.Ordering.{eq_by_cmp}
use Rattle.std.specs.Set.{distinct_count}
use Rattle.std.specs.Cmp.{IsEquivalence}
use Rattle.std.proofs.lemmas.Cmp.{nat_eq_equiv}
use Rattle.std.proofs.lemmas.List.{map-append}
use Rattle.std.proofs.lemmas.List.Sums.{length-filter, sum_by-append}
use Rattle.std.proofs.lemmas.Map.Made.{is_some-lookup, length-from_keys}
use Rattle.id_tag.specs.declared.Tag.{Tag}
use Rattle.id_tag.specs.Tags.{same_tag, same_context, tag_cmp}
use Rattle.id_tag.proofs.TagsLemmas.{same_tag_laws, one_from_same_tag, ties-same_tag}
use Rattle.id_match.specs.declared.meeting.Half.{Half}
use Rattle.id_match.specs.declared.front.Pair.{Pair}
use Rattle.id_match.specs.Front.{front_half, front_entries, IsKept, all_entries}
use Rattle.id_match.specs.Frames.{waits_below, is_first}
use Rattle.id_match.specs.Waiting.{Store, entry_at, entries_of, same_frame, frames_of}
use Rattle.id_match.proofs.FrontLemmas.{lookup_all, distinct_all, numbers_one, numbers_apart}
use Rattle.id_match.proofs.RearLemmas.{kept_as, lookup-entries, made_as}
use Rattle.id_match.proofs.WaitingLemmas.{get_half}

-- ---- a look-up

some_or : (o q : Option Half) → is_some o ≡ true → is_some (option_or o q) ≡ true
some_or None q e = cc
some_or (Some h) q e = refl

none_or : (o q : Option Half) → is_some o ≡ false → is_some (option_or o q) ≡ is_some q
none_or None q e = refl
none_or (Some h) q e = cc

module _ (f : List Pair) (es : List (Tag × Half)) (s : Store) (is : from_entries (all_entries f es) ≡ s) (kept : IsKept f es) (t : Tag) where
  waits_in : contains_key s t ≡ is_some (option_or (front_half f t) (lookup (same_tag t) es))
  waits_in = ap (λ r. is_some (get r t)) (sym is) ∙ ap is_some (get_half (all_entries f es) t ∙ lookup_all f es kept.placed t)

  -- what waits in the front waits
  pub in_front : is_some (front_half f t) ≡ true → contains_key s t ≡ true
  in_front e = waits_in ∙ some_or (front_half f t) (lookup (same_tag t) es) e

  -- where it doesn't, what waits behind waits
  pub not_in_front : is_some (front_half f t) ≡ false → contains_key s t ≡ is_some (lookup (same_tag t) es)
  not_in_front e = waits_in ∙ none_or (front_half f t) (lookup (same_tag t) es) e

-- ---- tests

both_first : (a b : Bool) → (a && b) ≡ true → a ≡ true
both_first true b e = refl
both_first false b e = e

both_second : (a b : Bool) → (a && b) ≡ true → b ≡ true
both_second true b e = e
both_second false b e = cc

or_last : (a b : Bool) → b ≡ true → (a || b) ≡ true
or_last true b e = refl
or_last false b e = e

or_neither : (a b : Bool) → (a || b) ≡ false → (a ≡ false) × (b ≡ false)
or_neither true b e = cc
or_neither false b e = (refl, e)

true_from_not : (b : Bool) → not b ≡ true → b ≡ false
true_from_not true e = cc
true_from_not false e = refl

-- two tests that come true together are one
one_test : (a b : Bool) → (a ≡ true → b ≡ true) → (b ≡ true → a ≡ true) → a ≡ b
one_test true b f g = sym (f refl)
one_test false true f g = g refl
one_test false false f g = refl

-- ---- one frame

-- tags of one frame differ in their instructions alone
as_other : (t u : Tag) → same_frame t u ≡ true → record t { instr = u.instr } ≡ u
as_other t u e =
    let contexts : same_context t.context u.context ≡ true = both_first (same_context t.context u.context) (nat_eq t.iteration u.iteration) e in
    let element : nat_eq t.context.element u.context.element ≡ true = both_first _ (nat_eq t.context.serial u.context.serial) contexts in
    let serial : nat_eq t.context.serial u.context.serial ≡ true = both_second (nat_eq t.context.element u.context.element) _ contexts in
    let iteration : nat_eq t.iteration u.iteration ≡ true = both_second (same_context t.context u.context) _ e in
    λ i. record {
      context = record { element = numbers_one _ _ element i; serial = numbers_one _ _ serial i };
      iteration = numbers_one _ _ iteration i;
      instr = u.instr;
    }

frame_refl : (t : Tag) → same_frame t t ≡ true
frame_refl t =
    ap (λ b. (b && (nat_eq t.context.serial t.context.serial)) && nat_eq t.iteration t.iteration) (nat_eq_equiv.refl t.context.element)
    ∙ ap (λ b. b && nat_eq t.iteration t.iteration) (nat_eq_equiv.refl t.context.serial)
    ∙ nat_eq_equiv.refl t.iteration

frame_symm : (t u : Tag) → same_frame t u ≡ same_frame u t
frame_symm t u =
    ap (λ b. (b && (nat_eq t.context.serial u.context.serial)) && nat_eq t.iteration u.iteration) (nat_eq_equiv.symm t.context.element u.context.element)
    ∙ ap (λ b. (nat_eq u.context.element t.context.element && b) && nat_eq t.iteration u.iteration) (nat_eq_equiv.symm t.context.serial u.context.serial)
    ∙ ap (λ b. same_context u.context t.context && b) (nat_eq_equiv.symm t.iteration u.iteration)

-- the test of frames is an equivalence
frame_laws : IsEquivalence same_frame
frame_laws = record {
  refl = frame_refl;
  symm = frame_symm;
  congr = λ t u w e. ap (λ x. same_frame x w) (as_other t u e);
}

-- ---- the first of a frame

module _ (s : Store) where
  -- what waits stands at no smaller instruction than one below which nothing waits
  module _ (t : Tag) (i : ℕ) (has : contains_key s (record t { instr = i }) ≡ true) where
    more_by : (n : ℕ) → n ≤ i → contains_key s (record t { instr = n }) ≡ false → (b : Bool) → nat_eq n i ≡ b → suc n ≤ i
    more_by n least none true e =
        let bad : true ≡ false = sym has ∙ ap (λ k. contains_key s (record t { instr = k })) (sym (numbers_one n i e)) ∙ none in cc
    more_by n least none false e = let away = numbers_apart n i e in omega arith

    least_by : (n : ℕ) → waits_below s t n ≡ false → n ≤ i
    least_by zero e = omega arith
    least_by (suc n) e =
        let none = or_neither (contains_key s (record t { instr = n })) (waits_below s t n) e in
        more_by n (least_by n none.1) none.0 (nat_eq n i) refl

  least : (t u : Tag) → is_first s t ≡ true → same_frame t u ≡ true → contains_key s u ≡ true → t.instr ≤ u.instr
  least t u first same has =
      least_by t u.instr (ap (contains_key s) (as_other t u same) ∙ has) t.instr (true_from_not _ first)

  one_first : (t u : Tag) → is_first s t ≡ true → is_first s u ≡ true → contains_key s t ≡ true → contains_key s u ≡ true
      → same_frame t u ≡ true → t ≡ u
  one_first t u first other here there same =
      let up : t.instr ≤ u.instr = least t u first same there in
      let down : u.instr ≤ t.instr = least u t other (frame_symm u t ∙ same) here in
      let at : t.instr ≡ u.instr = omega arith in
      ap (λ i. record t { instr = i }) at ∙ as_other t u same

  -- two that are the first of a frame are of two frames
  apart_by : (t u : Tag) → is_first s t ≡ true → is_first s u ≡ true → contains_key s t ≡ true → contains_key s u ≡ true
      → same_tag t u ≡ false → (b : Bool) → same_frame t u ≡ b → b ≡ false
  apart_by t u first other here there apart true same =
      let one : t ≡ u = one_first t u first other here there same in
      let bad : true ≡ false = sym (same_tag_laws.refl t) ∙ ap (same_tag t) one ∙ apart in cc
  apart_by t u first other here there apart false same = refl

  below_same : (t : Tag) (i n : ℕ) → waits_below s (record t { instr = i }) n ≡ waits_below s t n
  below_same t i zero = refl
  below_same t i (suc n) = ap (λ b. contains_key s (record t { instr = n }) || b) (below_same t i n)

  abbrev FirstOf : Tag → Tag → Type 0
  FirstOf u t = (same_frame u t ≡ true) × (contains_key s t ≡ true) × (is_first s t ≡ true)

  first_at : (u : Tag) (n : ℕ) → contains_key s (record u { instr = n }) ≡ true → waits_below s u n ≡ false → (t : Tag) × FirstOf u t
  first_at u n has none = (record u { instr = n }, (frame_refl u, has, ap not (below_same u n n ∙ none)))

  first_by : (u : Tag) (n : ℕ) (b : Bool) → waits_below s u n ≡ b → (contains_key s (record u { instr = n }) || b) ≡ true
      → (waits_below s u n ≡ true → (t : Tag) × FirstOf u t) → (t : Tag) × FirstOf u t
  first_by u n true e some rest = rest e
  first_by u n false e some rest = first_at u n (or_false _ some) e
    where
      or_false : (a : Bool) → (a || false) ≡ true → a ≡ true
      or_false true h = refl
      or_false false h = h

  first_below : (u : Tag) (n : ℕ) → waits_below s u n ≡ true → (t : Tag) × FirstOf u t
  first_below u zero e = cc
  first_below u (suc n) e = first_by u n (waits_below s u n) refl e (first_below u n)

  first_from : (u : Tag) → contains_key s u ≡ true → (b : Bool) → waits_below s u u.instr ≡ b → (t : Tag) × FirstOf u t
  first_from u has true e = first_below u u.instr e
  first_from u has false e = first_at u u.instr has e

  -- ---- the firsts of a list

  apart_head : (t u : Tag) (us : List Tag) (b : Bool) → is_first s u ≡ b → (b ≡ true → same_frame t u ≡ false)
      → AllByRecursion (λ w. same_frame t w ≡ false) us → AllByRecursion (λ w. same_frame t w ≡ false) (cond b (u ∷ us) us)
  apart_head t u us true e apart rest = (apart refl, rest)
  apart_head t u us false e apart rest = rest

  apart_firsts : (t : Tag) (us : List Tag) → is_first s t ≡ true → contains_key s t ≡ true
      → AllByRecursion (λ u. contains_key s u ≡ true) us → AllByRecursion (λ u. same_tag t u ≡ false) us
      → AllByRecursion (λ u. same_frame t u ≡ false) (filter (is_first s) us)
  apart_firsts t [] first here has apart = tt
  apart_firsts t (u ∷ us) first here has apart =
      apart_head t u (filter (is_first s) us) (is_first s u) refl
      (λ other. apart_by t u first other here has.0 apart.0 (same_frame t u) refl)
      (apart_firsts t us first here has.1 apart.1)

  distinct_head : (t : Tag) (us : List Tag) (b : Bool) → (b ≡ true → AllByRecursion (λ w. same_frame t w ≡ false) us)
      → IsDistinct same_frame us → IsDistinct same_frame (cond b (t ∷ us) us)
  unfolding IsDistinct
  distinct_head t us true apart rest = (apart refl, rest)
  distinct_head t us false apart rest = rest

  distinct_firsts : (ts : List Tag) → AllByRecursion (λ u. contains_key s u ≡ true) ts → IsDistinct same_tag ts
      → IsDistinct same_frame (filter (is_first s) ts)
  unfolding IsDistinct
  distinct_firsts [] has distinct = tt
  distinct_firsts (t ∷ ts) has distinct =
      distinct_head t (filter (is_first s) ts) (is_first s t)
      (λ first. apart_firsts t ts first has.0 has.1 distinct.0)
      (distinct_firsts ts has.1 distinct.1)

-- ---- members of a list

-- a tag of the list passes where the list is asked for it
finds : (p : Tag → Bool) (t : Tag) → p t ≡ true → (xs : List Tag) → list_any (same_tag t) xs ≡ true → list_any p xs ≡ true
finds p t pass [] e = cc
finds p t pass (x ∷ xs) e = by (same_tag t x) refl e (finds p t pass xs)
  where
    by : (b : Bool) → same_tag t x ≡ b → (b || list_any (same_tag t) xs) ≡ true
        → (list_any (same_tag t) xs ≡ true → list_any p xs ≡ true) → (p x || list_any p xs) ≡ true
    by true same h rest = ap (λ b. b || list_any p xs) (ap p (sym (one_from_same_tag t x same)) ∙ pass)
    by false same h rest = or_last (p x) (list_any p xs) (rest h)

abbrev Found : (Tag → Bool) → List Tag → Type 0
Found p xs = (t : Tag) × (p t ≡ true) × (list_any (same_tag t) xs ≡ true)

-- a test that comes true does so at a tag of the list
found : (p : Tag → Bool) (xs : List Tag) → list_any p xs ≡ true → Found p xs
found p [] e = cc
found p (x ∷ xs) e = by (p x) refl e (found p xs)
  where
    more : Found p xs → Found p (x ∷ xs)
    more h = (h.0, h.1, or_last (same_tag h.0 x) (list_any (same_tag h.0) xs) h.2)

    by : (b : Bool) → p x ≡ b → (b || list_any p xs) ≡ true → (list_any p xs ≡ true → Found p xs) → Found p (x ∷ xs)
    by true pass h rest = (x, pass, ap (λ b. b || list_any (same_tag x) xs) (same_tag_laws.refl x))
    by false fail h rest = more (rest h)

-- a filter leaves what passes both tests
any-filter : (p q : Tag → Bool) (xs : List Tag) → list_any p (filter q xs) ≡ list_any (λ t. q t && p t) xs
any-filter p q [] = refl
any-filter p q (x ∷ xs) = by (q x) ∙ ap (λ b. (q x && p x) || b) (any-filter p q xs)
  where
    by : (b : Bool) → list_any p (cond b (x ∷ filter q xs) (filter q xs)) ≡ ((b && p x) || list_any p (filter q xs))
    by true = refl
    by false = refl

all_has : (s : Store) (ts : List Tag) → ((t : Tag) → list_any (same_tag t) ts ≡ true → contains_key s t ≡ true)
    → AllByRecursion (λ u. contains_key s u ≡ true) ts
all_has s [] f = tt
all_has s (t ∷ ts) f = (
  f t (ap (λ b. b || list_any (same_tag t) ts) (same_tag_laws.refl t)),
  all_has s ts (λ u h. f u (or_last (same_tag u t) (list_any (same_tag u) ts) h)),
)

module _ (s : Store) (ts us : List Tag) (ours : (t : Tag) → list_any (same_tag t) ts ≡ contains_key s t)
    (theirs : (t : Tag) → list_any (same_tag t) us ≡ contains_key s t) where
  up : (q : Tag) → list_any (λ t. is_first s t && same_frame q t) ts ≡ true → list_any (same_frame q) us ≡ true
  up q e =
      let h = found (λ t. is_first s t && same_frame q t) ts e in
      finds (same_frame q) h.0 (both_second _ _ h.1) us (theirs h.0 ∙ sym (ours h.0) ∙ h.2)

  down : (q : Tag) → list_any (same_frame q) us ≡ true → list_any (λ t. is_first s t && same_frame q t) ts ≡ true
  down q e =
      let h = found (same_frame q) us e in
      let first = first_from s h.0 (sym (theirs h.0) ∙ h.2) (waits_below s h.0 h.0.instr) refl in
      let same : same_frame q first.0 ≡ true = frame_laws.congr q h.0 first.0 h.1 ∙ first.1.0 in
      finds (λ t. is_first s t && same_frame q t) first.0 (ap (λ b. b && same_frame q first.0) first.1.2 ∙ same) ts (ours first.0 ∙ first.1.1)

  -- as many values are the first of their frame as there are frames
  firsts_are_frames : IsDistinct same_tag ts → count_by (is_first s) ts ≡ distinct_count same_frame us
  firsts_are_frames distinct =
      sym (length-filter (is_first s) ts)
      ∙ length-from_keys frame_laws (filter (is_first s) ts) us
      (distinct_firsts s ts (all_has s ts (λ t e. sym (ours t) ∙ e)) distinct)
      (λ q. any-filter (same_frame q) (is_first s) ts ∙ one_test _ _ (up q) (down q))

-- ---- the tags of a store

tags_of-entries : (es : List (Tag × Half)) → map (λ e. e.tag) (map entry_at es) ≡ keys_of es
tags_of-entries [] = refl
tags_of-entries (e ∷ es) = ap (λ l. e.0 ∷ l) (tags_of-entries es)

any_by_order : (t : Tag) (xs : List Tag) → list_any (eq_by_cmp tag_cmp t) xs ≡ list_any (same_tag t) xs
any_by_order t [] = refl
any_by_order t (x ∷ xs) =
    ap (λ b. b || list_any (eq_by_cmp tag_cmp t) xs) (ties-same_tag t x) ∙ ap (λ b. same_tag t x || b) (any_by_order t xs)

listed_waits : (s : Store) (t : Tag) → list_any (same_tag t) (map (λ e. e.tag) (entries_of s)) ≡ contains_key s t
listed_waits s t =
    ap (list_any (same_tag t)) (tags_of-entries (entries s)) ∙ sym (any_by_order t (keys_of (entries s))) ∙ sym (contains_key-keys s t)

made_waits : (es : List (Tag × Half)) (s : Store) → from_entries es ≡ s → (t : Tag) → list_any (same_tag t) (keys_of es) ≡ contains_key s t
made_waits es s is t = sym (is_some-lookup (same_tag t) es) ∙ ap is_some (sym (get_half es t)) ∙ ap (λ r. is_some (get r t)) is

-- the values of the front and behind that are the first of their frame are as many as the frames
pub frames_of-firsts : (f : List Pair) (es : List (Tag × Half)) (s : Store) → from_entries (all_entries f es) ≡ s → IsKept f es
    → IsDistinct same_tag (keys_of es)
    → count_by (is_first s) (keys_of (front_entries f)) + count_by (is_first s) (keys_of es) ≡ frames_of s
frames_of-firsts f es s is kept distinct =
    sym (sum_by-append (λ t. cond (is_first s t) 1 0) (keys_of (front_entries f)) (keys_of es))
    ∙ ap (count_by (is_first s)) (sym (map-append (λ e. e.0) (front_entries f) es))
    ∙ firsts_are_frames s (keys_of (all_entries f es)) (map (λ e. e.tag) (entries_of s)) (made_waits (all_entries f es) s is) (listed_waits s)
    (distinct_all f es kept distinct)

-- the same where what is behind is a store of its own
module _ (f : List Pair) (es : List (Tag × Half)) (r s : Store) (rear : from_entries es ≡ r) (is : from_entries (all_entries f (entries r)) ≡ s)
    (kept : IsKept f (entries r)) (distinct : IsDistinct same_tag (keys_of es)) where
  same : (t : Tag) → lookup (same_tag t) es ≡ lookup (same_tag t) (entries r)
  same t = sym (lookup-entries es r rear t)

  pub frames_of-rear : count_by (is_first s) (keys_of (front_entries f)) + count_by (is_first s) (keys_of es) ≡ frames_of s
  frames_of-rear = frames_of-firsts f es s (made_as f (entries r) es same kept s is) (kept_as f (entries r) es same kept) distinct
