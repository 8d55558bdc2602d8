-- Lemmas on specs/Front.antt.
use Rattle.std.proofs.Common.{◌≡◌, ◌≢◌, ℕ, zero, suc, ◌+◌, ◌<◌, Bool, true, false, cond, nat_eq, List, [], ◌∷◌, ◌++◌}
use Rattle.std.proofs.Common.{length, length-append, map, get_or, set, take, replicate, Option, Some, None, is_some}
use Rattle.std.proofs.Common.{IsSome, IfSome, Result, Ok, Err, IfOk, OnOk, OnErr, refl, sym, ◌∙◌, ap, subst, arith}
use Rattle.std.specs.FinMap.{get, from_entries, same_map}
use Rattle.std.specs.List.{cons_option, filter_map, AllByRecursion, IsDistinct}
use Rattle.std.specs.Map.{lookup, keys_of}
use Rattle.std.specs.Option.{option_or, option_map}
use Rattle.std.proofs.lemmas.Bool.Decides.{nat_tests}
use Rattle.std.proofs.lemmas.List.{append-nil, append_assoc, map-append, take_more, length-set, get_or-set_same}
use Rattle.std.proofs.lemmas.List.{get_or-set_other, get_or-replicate, length-replicate}
use Rattle.std.proofs.lemmas.List.Elements.{filter_map-append}
use Rattle.std.proofs.lemmas.Map.Keys.{IsDistinct-cons}
use Rattle.std.proofs.lemmas.Nat.{and_le_r}
use Rattle.id_instr.specs.declared.dests.Port.{Port}
use Rattle.id_tag.specs.declared.Tag.{Tag}
use Rattle.id_tag.specs.declared.Value.{Value}
use Rattle.id_tag.specs.Tags.{same_tag, tag_cmp}
use Rattle.id_tag.proofs.TagsLemmas.{tags_total, exact_tags, same_tag_laws, one_from_same_tag}
use Rattle.id_match.specs.declared.meeting.Entry.{Entry}
use Rattle.id_match.specs.declared.meeting.Half.{Half}
use Rattle.id_match.specs.declared.meeting.Offered.{Offered}
use Rattle.id_match.specs.declared.front.Pair.{Pair}
use Rattle.id_match.specs.declared.front.Slot.{Slot}
use Rattle.id_match.specs.declared.front.Behind.{Behind}
use Rattle.id_match.specs.declared.front.Behind.TheVariants.{Nothing, One, Many}
use Rattle.id_match.specs.Front.{mark_at, slot_half, slot_tag, slot_entry, held, pair_half, pair_entries, empty_pair}
use Rattle.id_match.specs.Front.{place_in, place, front_entries, front_half, IsPlaced, IsSingle, IsKept, Puts, PutsIn}
use Rattle.id_match.specs.Front.{Meets, MeetsIn, MarksSame, HoldsSame, IsMarked, all_entries}
use Rattle.id_match.specs.Halves.{answer_at, half_after}
use Rattle.id_match.specs.Ports.{same_port}
use Rattle.id_match.specs.declared.meeting.Offered.TheVariants.{Kept}
use Rattle.id_match.specs.Waiting.{Store, entry_at, offer_answer, offer_after}
use Rattle.id_match.proofs.WaitingLemmas.{get_half, answer_of-at_port, offer_after-from_get}

pub numbers_one : (m n : ℕ) → nat_eq m n ≡ true → m ≡ n
numbers_one m n e = grind (arith, nat_tests)

pub numbers_apart : (m n : ℕ) → nat_eq m n ≡ false → m ≢ n
numbers_apart m n e = λ same. grind (arith, nat_tests)

none_either : (b : Bool) → ◌≡◌ {A = Option Half} (cond b None None) None
none_either true = refl
none_either false = refl

or_none : (o : Option Half) → option_or o None ≡ o
or_none None = refl
or_none (Some h) = refl

one_of : (b : Bool) (h : Half) (r q : Option Half) → cond b (Some h) (option_or r q) ≡ option_or (cond b (Some h) r) q
one_of true h r q = refl
one_of false h r q = refl

-- ---- a slot

-- a slot that holds nothing under any other tag
abbrev pub IsFor : Tag → Slot → Type 0
IsFor t s = (u : Tag) → same_tag t u ≡ false → held s u ≡ None

pub held_none : (s : Slot) → slot_half s ≡ None → (u : Tag) → held s u ≡ None
held_none s e u = ap (λ o. cond (same_tag u (slot_tag s)) o None) e ∙ none_either (same_tag u (slot_tag s))

pub held_own : (s : Slot) → held s (slot_tag s) ≡ slot_half s
held_own s = ap (λ b. cond b (slot_half s) None) (same_tag_laws.refl (slot_tag s))

pub for_own : (s : Slot) → IsFor (slot_tag s) s
for_own s u apart = ap (λ b. cond b (slot_half s) None) (same_tag_laws.symm u (slot_tag s) ∙ apart)

pub for_tag : (s : Slot) (t : Tag) → slot_tag s ≡ t → IsFor t s
for_tag s t e = subst (λ u. IsFor u s) e (for_own s)

pub for_empty : (s : Slot) → slot_half s ≡ None → (t : Tag) → IsFor t s
for_empty s e t u apart = held_none s e u

held_by : (s : Slot) (t : Tag) (b : Bool) → same_tag t (slot_tag s) ≡ b → (h : Half) → cond b (slot_half s) None ≡ Some h → slot_tag s ≡ t
held_by s t true e h is = sym (one_from_same_tag t (slot_tag s) e)
held_by s t false e h is = cc

-- a slot that holds something under a tag is that tag's
pub tag_from_held : (s : Slot) (t : Tag) (h : Half) → held s t ≡ Some h → slot_tag s ≡ t
tag_from_held s t h is = held_by s t (same_tag t (slot_tag s)) refl h is

-- ---- a pair

pub gone : (o : Option Half) (h : Half) (p : Port) (v : Value) → o ≡ Some h → same_port h.port p ≡ false → half_after o p v ≡ None
gone o h p v e apart = ap (λ q. half_after q p v) e ∙ ap (λ b. cond b (Some h) None) apart

not_none : (o : Option Half) → o ≡ None → IsSome o → ⊥
not_none None e some = cc
not_none (Some h) e some = cc

pub some_of : (o : Option Half) (h : Half) → o ≡ Some h → IsSome o
some_of None h e = cc
some_of (Some g) h e = refl

pub none_from_test : (o : Option Half) → is_some o ≡ false → o ≡ None
none_from_test None e = refl
none_from_test (Some h) e = cc

pub some_from_test : (o : Option Half) → is_some o ≡ true → IsSome o
some_from_test None e = cc
some_from_test (Some h) e = refl

-- a value of t, or none, comes into the first slot, and the second has none under t
module _ (p : Pair) (t : Tag) (x : Slot) (was : IsFor t p.first) (is : IsFor t x) (none : held p.second t ≡ None) where
  first_single : (u : Tag) (b : Bool) → same_tag t u ≡ b → IsSome (held x u) → held p.second u ≡ None
  first_single u true e some = subst (λ w. held p.second w ≡ None) (one_from_same_tag t u e) none
  first_single u false e some = absurd (not_none _ (is u e) some)

  first_under : (u : Tag) (b : Bool) → same_tag t u ≡ b → option_or (held x u) (held p.second u) ≡ cond b (held x t) (pair_half p u)
  first_under u true e =
      subst (λ w. option_or (held x w) (held p.second w) ≡ held x t) (one_from_same_tag t u e)
      (ap (option_or (held x t)) none ∙ or_none (held x t))
  first_under u false e = ap (λ o. option_or o (held p.second u)) (is u e ∙ sym (was u e))

  pub puts_first : PutsIn p (record { first = x; second = p.second }) t (held x t)
  puts_first = record { single = λ _ u some. first_single u (same_tag t u) refl some; under = λ u. first_under u (same_tag t u) refl }

-- or into the second
module _ (p : Pair) (t : Tag) (x : Slot) (was : IsFor t p.second) (is : IsFor t x) (none : held p.first t ≡ None) where
  second_single : (u : Tag) (b : Bool) → same_tag t u ≡ b → IsSome (held p.first u) → held x u ≡ None
  second_single u true e some = absurd (not_none _ (subst (λ w. held p.first w ≡ None) (one_from_same_tag t u e) none) some)
  second_single u false e some = is u e

  second_under : (u : Tag) (b : Bool) → same_tag t u ≡ b → option_or (held p.first u) (held x u) ≡ cond b (held x t) (pair_half p u)
  second_under u true e =
      subst (λ w. option_or (held p.first w) (held x w) ≡ held x t) (one_from_same_tag t u e) (ap (λ o. option_or o (held x t)) none)
  second_under u false e = ap (option_or (held p.first u)) (is u e ∙ sym (was u e))

  pub puts_second : PutsIn p (record { first = p.first; second = x }) t (held x t)
  puts_second = record { single = λ _ u some. second_single u (same_tag t u) refl some; under = λ u. second_under u (same_tag t u) refl }

or_first : (a b : Option Half) → option_or a b ≡ None → a ≡ None
or_first None b e = refl
or_first (Some h) b e = cc

or_second : (a b : Option Half) → option_or a b ≡ None → b ≡ None
or_second None b e = e
or_second (Some h) b e = cc

or_some : (a b : Option Half) → IsSome a → option_or a b ≡ a
or_some None b some = cc
or_some (Some h) b some = refl

some_tag : (s : Slot) (t : Tag) (o : Option Half) → held s t ≡ o → IsSome o → slot_tag s ≡ t
some_tag s t None e some = cc
some_tag s t (Some h) e some = tag_from_held s t h e

unchanged : (b : Bool) (o : Option Half) → (b ≡ true → o ≡ None) → o ≡ cond b None o
unchanged true o none = none refl
unchanged false o none = refl

-- a slot takes the place of the first one, or of the second, where that keeps nothing
pub put_first : (p : Pair) (s x : Slot) → slot_half p.first ≡ None → slot_tag x ≡ slot_tag s → slot_half x ≡ slot_half s → pair_half p (slot_tag s) ≡ None
    → PutsIn p (record { first = x; second = p.second }) (slot_tag s) (slot_half s)
put_first p s x empty own half none =
    subst (PutsIn p (record { first = x; second = p.second }) (slot_tag s)) (subst (λ u. held x u ≡ slot_half x) own (held_own x) ∙ half)
    (puts_first p (slot_tag s) x (for_empty p.first empty (slot_tag s)) (for_tag x (slot_tag s) own) (or_second _ _ none))

pub put_second : (p : Pair) (s : Slot) → slot_half p.second ≡ None → pair_half p (slot_tag s) ≡ None
    → PutsIn p (record { first = p.first; second = s }) (slot_tag s) (slot_half s)
put_second p s empty none =
    subst (PutsIn p (record { first = p.first; second = s }) (slot_tag s)) (held_own s)
    (puts_second p (slot_tag s) s (for_empty p.second empty (slot_tag s)) (for_own s) (or_first _ _ none))

module _ (p : Pair) (t : Tag) where
  -- the first slot's value leaves, or the second's, or there is none
  pub clear_first : (x : Slot) → IsSingle p → IsSome (held p.first t) → slot_half x ≡ None → PutsIn p (record { first = x; second = p.second }) t None
  clear_first x single some empty =
      subst (PutsIn p (record { first = x; second = p.second }) t) (held_none x empty t)
      (puts_first p t x (for_tag p.first t (some_tag p.first t _ refl some)) (for_empty x empty t) (single t some))

  pub clear_second : (x : Slot) → held p.first t ≡ None → IsSome (held p.second t) → slot_half x ≡ None
      → PutsIn p (record { first = p.first; second = x }) t None
  clear_second x none some empty =
      subst (PutsIn p (record { first = p.first; second = x }) t) (held_none x empty t)
      (puts_second p t x (for_tag p.second t (some_tag p.second t _ refl some)) (for_empty x empty t) none)

  pub half_none : held p.first t ≡ None → held p.second t ≡ None → pair_half p t ≡ None
  half_none first second = ap (λ o. option_or o (held p.second t)) first ∙ second

  pub clear_none : held p.first t ≡ None → held p.second t ≡ None → PutsIn p p t None
  clear_none first second = record {
    single = λ single. single;
    under = λ u. unchanged (same_tag t u) (pair_half p u)
        (λ e. subst (λ w. pair_half p w ≡ None) (one_from_same_tag t u e) (half_none first second));
  }

  module _ (port : Port) (v : Value) where
    -- the token meets the value of the first slot, or of the second, or is put
    pub meet_first : (x : Slot) (a : Offered) → IsSingle p → IsSome (held p.first t) → a ≡ answer_at (held p.first t) port v
        → half_after (held p.first t) port v ≡ None → slot_half x ≡ None → MeetsIn p (record { first = x; second = p.second }) t port v a
    meet_first x a single some answer leaves empty =
        let is : pair_half p t ≡ held p.first t = or_some _ _ some in record {
          answer = answer ∙ ap (λ o. answer_at o port v) (sym is);
          after = subst (PutsIn p (record { first = x; second = p.second }) t) (sym (ap (λ o. half_after o port v) is ∙ leaves))
              (clear_first x single some empty);
        }

    pub meet_second : (x : Slot) (a : Offered) → held p.first t ≡ None → IsSome (held p.second t) → a ≡ answer_at (held p.second t) port v
        → half_after (held p.second t) port v ≡ None → slot_half x ≡ None → MeetsIn p (record { first = p.first; second = x }) t port v a
    meet_second x a none some answer leaves empty =
        let is : pair_half p t ≡ held p.second t = ap (λ o. option_or o (held p.second t)) none in record {
          answer = answer ∙ ap (λ o. answer_at o port v) (sym is);
          after = subst (PutsIn p (record { first = p.first; second = x }) t) (sym (ap (λ o. half_after o port v) is ∙ leaves))
              (clear_second x none some empty);
        }

    pub meet_put : (q : Pair) (x : Slot) → slot_tag x ≡ t → slot_half x ≡ Some (record { port = port; value = v }) → pair_half p t ≡ None
        → (pair_half p (slot_tag x) ≡ None → PutsIn p q (slot_tag x) (slot_half x)) → MeetsIn p q t port v Kept
    meet_put q x own half none puts =
        let here : PutsIn p q t (Some (record { port = port; value = v })) =
        subst (PutsIn p q t) half (subst (λ u. PutsIn p q u (slot_half x)) own (puts (ap (pair_half p) own ∙ none))) in record {
          answer = sym (ap (λ o. answer_at o port v) none);
          after = subst (PutsIn p q t) (sym (ap (λ o. half_after o port v) none)) here;
        }

-- ---- a write to the place of a tag

-- tags of two places are two
apart_by_place : (t u : Tag) (n : ℕ) → place u n ≢ place t n → (b : Bool) → same_tag t u ≡ b → b ≡ false
apart_by_place t u n away true e = absurd (away (ap (λ w. place w n) (sym (one_from_same_tag t u e))))
apart_by_place t u n away false e = refl

pub apart_places : (t u : Tag) (n : ℕ) → place u n ≢ place t n → same_tag t u ≡ false
apart_places t u n away = apart_by_place t u n away (same_tag t u) refl

pub place_below : (t : Tag) (n : ℕ) → 0 < n → place t n < n
unfolding place_in
place_below t n some = omega (arith, and_le_r)

module _ (f : List Pair) (t : Tag) (q : Pair) (o : Option Half) (some : 0 < length f)
    (puts : PutsIn (get_or f (place t (length f)) empty_pair) q t o) where
  abbrev at : ℕ
  at = place t (length f)

  within : place t (length f) < length f
  within = place_below t (length f) some

  placed_here : (u : Tag) → place u (length f) ≢ at → IsPlaced f → pair_half q u ≡ None
  placed_here u away placed =
      puts.under u ∙ ap (λ b. cond b o (pair_half (get_or f at empty_pair) u)) (apart_places t u (length f) away)
      ∙ placed.places at empty_pair u within away

  placed_by : (i : ℕ) (d : Pair) (u : Tag) (b : Bool) → nat_eq i at ≡ b → i < length f → place u (length f) ≢ i → IsPlaced f
      → pair_half (get_or (set f at q) i d) u ≡ None
  placed_by i d u true e inside apart placed =
      let same : i ≡ at = numbers_one i at e in
      ap (λ k. pair_half (get_or (set f at q) k d) u) same
      ∙ ap (λ x. pair_half x u) (get_or-set_same f at q d within)
      ∙ placed_here u (subst (λ k. place u (length f) ≢ k) same apart) placed
  placed_by i d u false e inside apart placed =
      ap (λ x. pair_half x u) (get_or-set_other f at i q d (numbers_apart i at e)) ∙ placed.places i d u inside apart

  single_by : (i : ℕ) (d : Pair) (b : Bool) → nat_eq i at ≡ b → i < length f → IsPlaced f → IsSingle (get_or (set f at q) i d)
  single_by i d true e inside placed =
      let same : i ≡ at = numbers_one i at e in
      let is : get_or (set f at q) i d ≡ q = ap (λ k. get_or (set f at q) k d) same ∙ get_or-set_same f at q d within in
      subst IsSingle (sym is) (puts.single (placed.single at empty_pair within))
  single_by i d false e inside placed =
      subst IsSingle (sym (get_or-set_other f at i q d (numbers_apart i at e))) (placed.single i d inside)

  under_by : (u : Tag) (b : Bool) → nat_eq (place u (length f)) at ≡ b
      → pair_half (get_or (set f at q) (place u (length f)) empty_pair) u ≡ cond (same_tag t u) o (front_half f u)
  under_by u true e =
      let same : place u (length f) ≡ at = numbers_one _ _ e in
      ap (λ k. pair_half (get_or (set f at q) k empty_pair) u) same
      ∙ ap (λ x. pair_half x u) (get_or-set_same f at q empty_pair within)
      ∙ puts.under u ∙ ap (λ k. cond (same_tag t u) o (pair_half (get_or f k empty_pair) u)) (sym same)
  under_by u false e =
      ap (λ x. pair_half x u) (get_or-set_other f at (place u (length f)) q empty_pair (numbers_apart _ _ e))
      ∙ sym (ap (λ b. cond b o (front_half f u)) (apart_places t u (length f) (numbers_apart _ _ e)))

  -- what a pair's write brings
  pub puts_set : Puts f (set f (place t (length f)) q) t o
  puts_set = record {
    placed = λ placed. record {
      places = λ i d u inside apart.
          placed_by i d u (nat_eq i at) refl (subst (λ n. i < n) (length-set f at q) inside)
          (subst (λ n. place u n ≢ i) (length-set f at q) apart) placed;
      single = λ i d inside. single_by i d (nat_eq i at) refl (subst (λ n. i < n) (length-set f at q) inside) placed;
    };
    under = λ u.
        ap (λ n. pair_half (get_or (set f at q) (place u n) empty_pair) u) (length-set f at q)
        ∙ under_by u (nat_eq (place u (length f)) at) refl;
  }

same_under : (f : List Pair) (t : Tag) (o : Option Half) → front_half f t ≡ o → (u : Tag) (b : Bool) → same_tag t u ≡ b
    → front_half f u ≡ cond b o (front_half f u)
same_under f t o e u true same = ap (front_half f) (sym (one_from_same_tag t u same)) ∙ e
same_under f t o e u false same = refl

-- where what is put is there already
pub puts_same : (f : List Pair) (t : Tag) (o : Option Half) → front_half f t ≡ o → Puts f f t o
puts_same f t o e = record {
  placed = λ p. p;
  under = λ u. same_under f t o e u (same_tag t u) refl;
}

-- ---- look-ups

entry_first : (t w : Tag) (o : Option Half) (es : List (Tag × Half))
    → lookup (same_tag t) (cons_option (option_map (λ h. (w, h)) o) es) ≡ option_or (cond (same_tag t w) o None) (lookup (same_tag t) es)
entry_first t w None es = ap (λ o. option_or o (lookup (same_tag t) es)) (sym (none_either (same_tag t w)))
entry_first t w (Some h) es = one_of (same_tag t w) h None (lookup (same_tag t) es)

pub lookup-append : (t : Tag) (es fs : List (Tag × Half)) → lookup (same_tag t) (es ++ fs) ≡ option_or (lookup (same_tag t) es) (lookup (same_tag t) fs)
lookup-append t [] fs = refl
lookup-append t (e ∷ es) fs =
    ap (cond (same_tag t e.0) (Some e.1)) (lookup-append t es fs) ∙ one_of (same_tag t e.0) e.1 _ _

lookup_pair : (t : Tag) (p : Pair) → lookup (same_tag t) (pair_entries p) ≡ pair_half p t
lookup_pair t p =
    entry_first t (slot_tag p.first) (slot_half p.first) (cons_option (slot_entry p.second) [])
    ∙ ap (option_or (held p.first t)) (entry_first t (slot_tag p.second) (slot_half p.second) [] ∙ or_none (held p.second t))

pair_first : (t : Tag) (p : Pair) (es : List (Tag × Half))
    → lookup (same_tag t) (pair_entries p ++ es) ≡ option_or (pair_half p t) (lookup (same_tag t) es)
pair_first t p es = lookup-append t (pair_entries p) es ∙ ap (λ o. option_or o (lookup (same_tag t) es)) (lookup_pair t p)

lookup_nowhere : (f : List Pair) (t : Tag) → ((i : ℕ) → i < length f → pair_half (get_or f i empty_pair) t ≡ None)
    → lookup (same_tag t) (front_entries f) ≡ None
lookup_nowhere [] t none = refl
lookup_nowhere (p ∷ f) t none =
    pair_first t p (front_entries f)
    ∙ ap (λ o. option_or o (lookup (same_tag t) (front_entries f))) (none zero (omega arith))
    ∙ lookup_nowhere f t (λ i inside. none (suc i) (omega arith))

lookup_one : (f : List Pair) (j : ℕ) (t : Tag) → j < length f
    → ((i : ℕ) → i < length f → j ≢ i → pair_half (get_or f i empty_pair) t ≡ None)
    → lookup (same_tag t) (front_entries f) ≡ pair_half (get_or f j empty_pair) t
lookup_one [] j t inside others = absurd (omega arith)
lookup_one (p ∷ f) zero t inside others =
    pair_first t p (front_entries f)
    ∙ ap (option_or (pair_half p t)) (lookup_nowhere f t (λ i within. others (suc i) (omega arith) (λ e. absurd (omega arith))))
    ∙ or_none (pair_half p t)
lookup_one (p ∷ f) (suc j) t inside others =
    pair_first t p (front_entries f)
    ∙ ap (λ o. option_or o (lookup (same_tag t) (front_entries f))) (others zero (omega arith) (λ e. absurd (omega arith)))
    ∙ lookup_one f j t (omega arith) (λ i within apart. others (suc i) (omega arith) (λ e. apart (omega arith)))

none_pair : (t : Tag) → pair_half empty_pair t ≡ None
none_pair t = ap (λ o. option_or o (held empty_pair.second t)) (held_none empty_pair.first refl t) ∙ held_none empty_pair.second refl t

-- what the pairs hold under a tag is what its one pair holds
pub lookup_front : (f : List Pair) → IsPlaced f → (t : Tag) → lookup (same_tag t) (front_entries f) ≡ front_half f t
lookup_front [] placed t = sym (none_pair t)
lookup_front (p ∷ f) placed t =
    lookup_one (p ∷ f) (place t (length (p ∷ f))) t (place_below t _ (omega arith)) (λ i inside apart. placed.places i empty_pair t inside apart)

pub lookup_all : (f : List Pair) (es : List (Tag × Half)) → IsPlaced f → (t : Tag)
    → lookup (same_tag t) (all_entries f es) ≡ option_or (front_half f t) (lookup (same_tag t) es)
lookup_all f es placed t =
    lookup-append t (front_entries f) es ∙ ap (λ o. option_or o (lookup (same_tag t) es)) (lookup_front f placed t)

-- ---- the store

-- where all pairs tell the same
pub marks_kept : (f m : List Pair) (es : List (Tag × Half)) → MarksSame f m → IsMarked f es → IsMarked m es
marks_kept f m es same marked = record {
  nothing = λ t some e. marked.nothing t (subst (λ n. 0 < n) same.len some) (sym (same.at t) ∙ e);
  one = λ t u some e at x y.
      marked.one t u (subst (λ n. 0 < n) same.len some) (sym (same.at t) ∙ e) (subst (λ n. place u n ≡ place t n) same.len at) x y;
}

by_some : (o : Option Half) (es : List (Tag × Half)) (t : Tag) → ((h : Half) → o ≡ Some h → lookup (same_tag t) es ≡ None)
    → IsSome o → lookup (same_tag t) es ≡ None
by_some None es t f some = cc
by_some (Some h) es t f some = f h refl

-- no tag of the front is one of the halves
pub none_behind : (f : List Pair) (es : List (Tag × Half)) → IsKept f es → (t : Tag) → IsSome (front_half f t) → lookup (same_tag t) es ≡ None
none_behind f es kept t some = by_some (front_half f t) es t (kept.apart t) some

module _ (f : List Pair) (es : List (Tag × Half)) (s : Store) (is : from_entries (all_entries f es) ≡ s) (kept : IsKept f es) (t : Tag) (p : Port) (v :
    Value) where
  under_all : (u : Tag) → get s u ≡ option_or (front_half f u) (lookup (same_tag u) es)
  under_all u = ap (λ r. get r u) (sym is) ∙ get_half (all_entries f es) u ∙ lookup_all f es kept.placed u

  answer_by : (o : Option Half) → get s t ≡ o → (a : Offered) → a ≡ answer_at o p v → a ≡ offer_answer s t p v
  answer_by o e a h = h ∙ ap (λ x. answer_at x p v) (sym e) ∙ sym (answer_of-at_port (get s t) p v)

  module _ (m : List Pair) (a : Offered) (meets : Meets f m t p v a) (marks : MarksSame f m) (none : lookup (same_tag t) es ≡ None) where
    here : get s t ≡ front_half f t
    here = under_all t ∙ ap (option_or (front_half f t)) none ∙ or_none (front_half f t)

    pub meets_answer : a ≡ offer_answer s t p v
    meets_answer = answer_by (front_half f t) here a meets.answer

    apart_by : (u : Tag) (h : Half) → front_half m u ≡ Some h → (b : Bool) → same_tag t u ≡ b → lookup (same_tag u) es ≡ None
    apart_by u h e true same = subst (λ w. lookup (same_tag w) es ≡ None) (one_from_same_tag t u same) none
    apart_by u h e false same =
        kept.apart u h (ap (λ b. cond b (half_after (front_half f t) p v) (front_half f u)) (sym same) ∙ sym (meets.after.under u) ∙ e)

    pub meets_kept : IsKept m es
    meets_kept = record {
      placed = meets.after.placed kept.placed;
      apart = λ u h e. apart_by u h e (same_tag t u) refl;
      marked = marks_kept f m es marks kept.marked;
    }

    got : (u : Tag) → get (from_entries {R = tag_cmp} (all_entries m es)) u ≡ option_or (front_half m u) (lookup (same_tag u) es)
    got u = get_half (all_entries m es) u ∙ lookup_all m es (meets.after.placed kept.placed) u

    pub meets_after : from_entries (all_entries m es) ≡ offer_after s t p v
    meets_after =
        offer_after-from_get s (from_entries (all_entries m es)) t p v
        (got t
        ∙ ap (λ o. option_or o (lookup (same_tag t) es))
        (meets.after.under t ∙ ap (λ b. cond b (half_after (front_half f t) p v) (front_half f t)) (same_tag_laws.refl t))
        ∙ ap (option_or (half_after (front_half f t) p v)) none
        ∙ or_none (half_after (front_half f t) p v)
        ∙ ap (λ o. half_after o p v) (sym here))
        (λ u apart. got u
        ∙ ap (λ o. option_or o (lookup (same_tag u) es))
        (meets.after.under u ∙ ap (λ b. cond b (half_after (front_half f t) p v) (front_half f u)) apart)
        ∙ sym (under_all u))

  module _ (none : front_half f t ≡ None) where
    behind : get s t ≡ lookup (same_tag t) es
    behind = under_all t ∙ ap (λ o. option_or o (lookup (same_tag t) es)) none

    pub behind_answer : (a : Offered) → a ≡ answer_at (lookup (same_tag t) es) p v → a ≡ offer_answer s t p v
    behind_answer a h = answer_by (lookup (same_tag t) es) behind a h

    module _ (m : List Pair) (holds : HoldsSame f m) (fs : List (Tag × Half))
        (others : (u : Tag) → same_tag t u ≡ false → lookup (same_tag u) fs ≡ lookup (same_tag u) es) where
      behind_apart : (u : Tag) (h : Half) → front_half f u ≡ Some h → (b : Bool) → same_tag t u ≡ b → lookup (same_tag u) fs ≡ None
      behind_apart u h e true same =
          let gone : front_half f u ≡ None = subst (λ w. front_half f w ≡ None) (one_from_same_tag t u same) none in
          let bad : None ≡ Some h = sym gone ∙ e in cc
      behind_apart u h e false same = others u same ∙ kept.apart u h e

      pub behind_kept : IsMarked m fs → IsKept m fs
      behind_kept marked = record {
        placed = holds.placed kept.placed;
        apart = λ u h e. behind_apart u h (sym (holds.under u) ∙ e) (same_tag t u) refl;
        marked = marked;
      }

      behind_got : (u : Tag) → get (from_entries {R = tag_cmp} (all_entries m fs)) u ≡ option_or (front_half f u) (lookup (same_tag u) fs)
      behind_got u =
          get_half (all_entries m fs) u ∙ lookup_all m fs (holds.placed kept.placed) u
          ∙ ap (λ o. option_or o (lookup (same_tag u) fs)) (holds.under u)

      pub behind_after : lookup (same_tag t) fs ≡ half_after (lookup (same_tag t) es) p v → from_entries (all_entries m fs) ≡ offer_after s t p v
      behind_after after =
          offer_after-from_get s (from_entries (all_entries m fs)) t p v
          (behind_got t ∙ ap (λ o. option_or o (lookup (same_tag t) fs)) none ∙ after ∙ ap (λ o. half_after o p v) (sym behind))
          (λ u apart. behind_got u ∙ ap (option_or (front_half f u)) (others u apart) ∙ sym (under_all u))

pub get_or_any : (f : List Pair) (i : ℕ) (a b : Pair) → i < length f → get_or f i a ≡ get_or f i b
get_or_any [] i a b inside = absurd (omega arith)
get_or_any (p ∷ f) zero a b inside = refl
get_or_any (p ∷ f) (suc i) a b inside = get_or_any f i a b (omega arith)

-- ---- a call on the front

module _ (f : List Pair) (at : ℕ) (x : Pair) (same : (u : Tag) → pair_half x u ≡ pair_half (get_or f at empty_pair) u)
    (single : IsSingle (get_or f at empty_pair) → IsSingle x) (within : at < length f) where
  holds_by : (i : ℕ) (d : Pair) (u : Tag) (b : Bool) → nat_eq i at ≡ b → i < length f
      → pair_half (get_or (set f at x) i d) u ≡ pair_half (get_or f i d) u
  holds_by i d u true e inside =
      let one : i ≡ at = numbers_one i at e in
      ap (λ k. pair_half (get_or (set f at x) k d) u) one ∙ ap (λ y. pair_half y u) (get_or-set_same f at x d within) ∙ same u
      ∙ ap (λ y. pair_half y u) (get_or_any f at empty_pair d within) ∙ ap (λ k. pair_half (get_or f k d) u) (sym one)
  holds_by i d u false e inside = ap (λ y. pair_half y u) (get_or-set_other f at i x d (numbers_apart i at e))

  single_kept : (i : ℕ) (d : Pair) (b : Bool) → nat_eq i at ≡ b → i < length f → IsPlaced f → IsSingle (get_or (set f at x) i d)
  single_kept i d true e inside placed =
      let one : i ≡ at = numbers_one i at e in
      let is : get_or (set f at x) i d ≡ x = ap (λ k. get_or (set f at x) k d) one ∙ get_or-set_same f at x d within in
      subst IsSingle (sym is) (single (placed.single at empty_pair within))
  single_kept i d false e inside placed =
      subst IsSingle (sym (get_or-set_other f at i x d (numbers_apart i at e))) (placed.single i d inside)

  under_same : (u : Tag) (b : Bool) → nat_eq (place u (length f)) at ≡ b
      → pair_half (get_or (set f at x) (place u (length f)) empty_pair) u ≡ front_half f u
  under_same u true e =
      let one : place u (length f) ≡ at = numbers_one _ _ e in
      ap (λ k. pair_half (get_or (set f at x) k empty_pair) u) one ∙ ap (λ y. pair_half y u) (get_or-set_same f at x empty_pair within) ∙ same u
      ∙ ap (λ k. pair_half (get_or f k empty_pair) u) (sym one)
  under_same u false e = ap (λ y. pair_half y u) (get_or-set_other f at (place u (length f)) x empty_pair (numbers_apart _ _ e))

  -- a pair is written that holds the same, whatever it tells
  pub holds_set : HoldsSame f (set f at x)
  holds_set = record {
    placed = λ placed. record {
      places = λ i d u inside apart.
          holds_by i d u (nat_eq i at) refl (subst (λ n. i < n) (length-set f at x) inside)
          ∙ placed.places i d u (subst (λ n. i < n) (length-set f at x) inside) (subst (λ n. place u n ≢ i) (length-set f at x) apart);
      single = λ i d inside. single_kept i d (nat_eq i at) refl (subst (λ n. i < n) (length-set f at x) inside) placed;
    };
    under = λ u.
        ap (λ n. pair_half (get_or (set f at x) (place u n) empty_pair) u) (length-set f at x)
        ∙ under_same u (nat_eq (place u (length f)) at) refl;
  }

pub holds_refl : (f : List Pair) → HoldsSame f f
holds_refl f = record { placed = λ p. p; under = λ u. refl }

pub holds_trans : (f m n : List Pair) → HoldsSame f m → HoldsSame m n → HoldsSame f n
holds_trans f m n a b = record { placed = λ p. b.placed (a.placed p); under = λ u. b.under u ∙ a.under u }

-- a slot of the tag's holds under it what it keeps
pub held_as : (s : Slot) (t : Tag) (o : Option Half) → slot_tag s ≡ t → slot_half s ≡ o → held s t ≡ o
held_as s t o own is = subst (λ u. held s u ≡ slot_half s) own (held_own s) ∙ is

-- what a tag by another name is under
pub same_under_tag : (t u : Tag) (es : List (Tag × Half)) (o : Option Half) → t ≡ u → lookup (same_tag u) es ≡ o → lookup (same_tag t) es ≡ o
same_under_tag t u es o e is = ap (λ w. lookup (same_tag w) es) e ∙ is

-- where a pair tells of nothing, or has the tag's value, nothing is behind under that tag
module _ (f : List Pair) (t : Tag) (some : 0 < length f) (es : List (Tag × Half)) (kept : IsKept f es) where
  alone_by : (b : Behind) → mark_at f t ≡ b → (mark_at f t ≢ Nothing → IsSome (front_half f t)) → lookup (same_tag t) es ≡ None
  alone_by Nothing e found = kept.marked.nothing t some e
  alone_by One e found = none_behind f es kept t (found (λ z. let bad : One ≡ Nothing = sym e ∙ z in cc))
  alone_by Many e found = none_behind f es kept t (found (λ z. let bad : Many ≡ Nothing = sym e ∙ z in cc))

  pub alone_in : {A : Type 0} → (r : Option A) → IsSome r → IfSome r (λ _. mark_at f t ≢ Nothing → IsSome (front_half f t)) → lookup (same_tag t) es ≡ None
  alone_in None is found = cc
  alone_in (Some a) is found = alone_by (mark_at f t) refl found

-- ---- whole offers

stored : (f m : List Pair) (t : Tag) (p : Port) (v : Value) → front_half f t ≡ None → Puts f m t (Some (record { port = p; value = v })) → Meets f m t p v Kept
stored f m t p v free puts = record {
  answer = sym (ap (λ o. answer_at o p v) free);
  after = subst (Puts f m t) (sym (ap (λ o. half_after o p v) free)) puts;
}

module _ (f : List Pair) (es : List (Tag × Half)) (s : Store) (is : from_entries (all_entries f es) ≡ s) (kept : IsKept f es) (p : Port) (v : Value) (m :
    List Pair) where
  -- what comes of a value that met its partner in the front, or went there
  pub all_of_meets : (t : Tag) (a : Offered) → Meets f m t p v a → MarksSame f m → lookup (same_tag t) es ≡ None
      → IsKept m es × (a ≡ offer_answer s t p v) × (from_entries (all_entries m es) ≡ offer_after s t p v)
  all_of_meets t a meets marks none = (
    meets_kept f es s is kept t p v m a meets marks none,
    meets_answer f es s is kept t p v m a meets marks none,
    meets_after f es s is kept t p v m a meets marks none,
  )

  pub all_of_put : (t : Tag) → lookup (same_tag t) es ≡ None → front_half f t ≡ None → Puts f m t (Some (record { port = p; value = v }))
      → MarksSame f m → IsKept m es × (Kept ≡ offer_answer s t p v) × (from_entries (all_entries m es) ≡ offer_after s t p v)
  all_of_put t none free puts marks = all_of_meets t Kept (stored f m t p v free puts) marks none

-- the same, where the front may have left the token as it came
pub all_of_meeting : (f : List Pair) (es : List (Tag × Half)) (s : Store) (is : from_entries (all_entries f es) ≡ s) (kept : IsKept f es) (p : Port) (v : Value)
    (m : List Pair) (t : Tag) (o : Option Offered) → IfSome o (λ a. Meets f m t p v a) → (o ≡ None → m ≡ f) → MarksSame f m → lookup (same_tag t) es ≡ None
    → IsKept m es × IfSome o (λ a. a ≡ offer_answer s t p v) × IfSome o (λ a. from_entries (all_entries m es) ≡ offer_after s t p v)
all_of_meeting f es s is kept p v m t None met same marks none = (subst (λ x. IsKept x es) (sym (same refl)) kept, tt, tt)
all_of_meeting f es s is kept p v m t (Some a) met same marks none = all_of_meets f es s is kept p v m t a met marks none

-- the same values in another front
module _ (f m : List Pair) (es : List (Tag × Half)) (s : Store) (is : from_entries (all_entries f es) ≡ s) (kept : IsKept f es)
    (placed : IsPlaced m) (same : (t : Tag) → front_half m t ≡ lookup (same_tag t) (front_entries f)) where
  as_before : (t : Tag) → front_half m t ≡ front_half f t
  as_before t = same t ∙ lookup_front f kept.placed t

  pub moved_kept : IsMarked m es → IsKept m es
  moved_kept marked = record { placed = placed; apart = λ t h e. kept.apart t h (sym (as_before t) ∙ e); marked = marked }

  pub moved_same : from_entries (all_entries m es) ≡ s
  moved_same =
      same_map tags_total exact_tags (from_entries (all_entries m es)) s
      (λ u. get_half (all_entries m es) u ∙ lookup_all m es placed u ∙ ap (λ o. option_or o (lookup (same_tag u) es)) (as_before u)
      ∙ sym (lookup_all f es kept.placed u) ∙ sym (get_half (all_entries f es) u) ∙ ap (λ r. get r u) is)

-- ---- facts of results

pub others_always : {A B : Type 0} → (es fs : List (Tag × Half)) (r : Result A B) (t : Tag)
    → OnOk r ((u : Tag) → same_tag t u ≡ false → lookup (same_tag u) fs ≡ lookup (same_tag u) es) → OnErr r (fs ≡ es)
    → (u : Tag) → same_tag t u ≡ false → lookup (same_tag u) fs ≡ lookup (same_tag u) es
others_always es fs (Ok a) t ok err = ok
others_always es fs (Err e) t ok err = λ u apart. ap (lookup (same_tag u)) err

pub if_ok : {A B : Type 0} {P Q : A → Type 0} → (r : Result A B) → ((a : A) → P a → Q a) → IfOk r P → IfOk r Q
if_ok (Ok a) f h = f a h
if_ok (Err e) f h = tt

pub on_ok : {A B P Q : Type 0} → (r : Result A B) → (P → Q) → OnOk r P → OnOk r Q
on_ok (Ok a) f h = f h
on_ok (Err e) f h = tt

pub on_err : {A B P Q : Type 0} → (r : Result A B) → (P → Q) → OnErr r P → OnErr r Q
on_err (Ok a) f h = tt
on_err (Err e) f h = f h

pub if_some : {A : Type 0} {P Q : A → Type 0} → (o : Option A) → ((a : A) → P a → Q a) → IfSome o P → IfSome o Q
if_some None f h = tt
if_some (Some a) f h = f a h

-- ---- one pair more

put_by : (s : Slot) (o : Option Half) (u : Tag) (b : Bool) → same_tag (slot_tag s) u ≡ b → (b ≡ true → o ≡ None)
    → cond b (slot_half s) o ≡ option_or o (held s u)
put_by s o u true e none =
    sym (held_own s) ∙ ap (held s) (one_from_same_tag (slot_tag s) u e) ∙ ap (λ q. option_or q (held s u)) (sym (none refl))
put_by s o u false e none = sym (or_none o) ∙ ap (option_or o) (sym (for_own s u e))

-- a slot's value is put into the front m, which has none of its tag
pub moved_to : (m n : List Pair) (s : Slot) → front_half m (slot_tag s) ≡ None → Puts m n (slot_tag s) (slot_half s)
    → (t : Tag) → front_half n t ≡ option_or (front_half m t) (held s t)
moved_to m n s free puts t =
    puts.under t
    ∙ put_by s (front_half m t) t (same_tag (slot_tag s) t) refl (λ e. ap (front_half m) (sym (one_from_same_tag (slot_tag s) t e)) ∙ free)

-- or a slot keeps nothing, and is passed over
pub none_moved : (m : List Pair) (s : Slot) → slot_half s ≡ None → (t : Tag) → front_half m t ≡ option_or (front_half m t) (held s t)
none_moved m s empty t = sym (or_none _) ∙ ap (option_or (front_half m t)) (sym (held_none s empty t))

or_or : (a b c : Option Half) → option_or (option_or a b) c ≡ option_or a (option_or b c)
or_or None b c = refl
or_or (Some h) b c = refl

entries-append : (f g : List Pair) → front_entries (f ++ g) ≡ front_entries f ++ front_entries g
entries-append [] g = refl
entries-append (p ∷ f) g = ap (λ l. pair_entries p ++ l) (entries-append f g) ∙ sym (append_assoc (pair_entries p) (front_entries f) (front_entries g))

module _ (f : List Pair) (i : ℕ) (d : Pair) (inside : i < length f) where
  entries_more : front_entries (take (i + 1) f) ≡ front_entries (take i f) ++ pair_entries (get_or f i d)
  entries_more =
      ap front_entries (take_more f i d inside) ∙ entries-append (take i f) (get_or f i d ∷ [])
      ∙ ap (λ l. front_entries (take i f) ++ l) (append-nil (pair_entries (get_or f i d)))

  -- what the pairs up to here hold under a tag
  lookup_more : (t : Tag) → lookup (same_tag t) (front_entries (take (i + 1) f))
      ≡ option_or (lookup (same_tag t) (front_entries (take i f))) (pair_half (get_or f i d) t)
  lookup_more t =
      ap (lookup (same_tag t)) entries_more
      ∙ lookup-append t (front_entries (take i f)) (pair_entries (get_or f i d))
      ∙ ap (option_or (lookup (same_tag t) (front_entries (take i f)))) (lookup_pair t (get_or f i d))

  -- both slots have come to the front n, by way of l, and m has what the pairs before hold
  pub both_moved : (m l n : List Pair) → ((t : Tag) → front_half m t ≡ lookup (same_tag t) (front_entries (take i f)))
      → ((t : Tag) → front_half l t ≡ option_or (front_half m t) (held (get_or f i d).first t))
      → ((t : Tag) → front_half n t ≡ option_or (front_half l t) (held (get_or f i d).second t))
      → (t : Tag) → front_half n t ≡ lookup (same_tag t) (front_entries (take (i + 1) f))
  both_moved m l n before first second t =
      second t ∙ ap (λ o. option_or o (held (get_or f i d).second t)) (first t)
      ∙ or_or (front_half m t) (held (get_or f i d).first t) (held (get_or f i d).second t)
      ∙ ap (λ o. option_or o (pair_half (get_or f i d) t)) (before t) ∙ sym (lookup_more t)

  pub length_more : (n : ℕ) → n ≡ length (pair_entries (get_or f i d)) → length (front_entries (take (i + 1) f)) ≡ length (front_entries (take i f)) + n
  length_more n is =
      ap length entries_more ∙ length-append (front_entries (take i f)) (pair_entries (get_or f i d))
      ∙ ap (λ k. length (front_entries (take i f)) + k) (sym is)

  -- what is listed of both slots
  pub listed_more : map entry_at (front_entries (take (i + 1) f))
      ≡ (map entry_at (front_entries (take i f)) ++ map entry_at (filter_map slot_entry ((get_or f i d).first ∷ [])))
      ++ map entry_at (filter_map slot_entry ((get_or f i d).second ∷ []))
  listed_more =
      ap (map entry_at) entries_more
      ∙ map-append entry_at (front_entries (take i f)) (pair_entries (get_or f i d))
      ∙ ap (λ l. map entry_at (front_entries (take i f)) ++ l)
      (ap (map entry_at) (filter_map-append slot_entry ((get_or f i d).first ∷ []) ((get_or f i d).second ∷ []))
      ∙ map-append entry_at (filter_map slot_entry ((get_or f i d).first ∷ [])) (filter_map slot_entry ((get_or f i d).second ∷ [])))
      ∙ sym (append_assoc (map entry_at (front_entries (take i f))) (map entry_at (filter_map slot_entry ((get_or f i d).first ∷ [])))
      (map entry_at (filter_map slot_entry ((get_or f i d).second ∷ []))))

  -- both slots are listed one after the other
  pub both_listed : (k l m : List Entry) → k ≡ map entry_at (front_entries (take i f))
      → l ≡ k ++ map entry_at (filter_map slot_entry ((get_or f i d).first ∷ []))
      → m ≡ l ++ map entry_at (filter_map slot_entry ((get_or f i d).second ∷ [])) → m ≡ map entry_at (front_entries (take (i + 1) f))
  both_listed k l m before first second =
      second
      ∙ ap (λ x. x ++ map entry_at (filter_map slot_entry ((get_or f i d).second ∷ [])))
      (first ∙ ap (λ x. x ++ map entry_at (filter_map slot_entry ((get_or f i d).first ∷ []))) before)
      ∙ sym listed_more

-- ---- a front with no value

none_front : (i k : ℕ) → get_or (replicate k empty_pair) i empty_pair ≡ empty_pair
none_front i zero = refl
none_front zero (suc k) = refl
none_front (suc i) (suc k) = none_front i k

module _ (n : ℕ) where
  none_at : (i : ℕ) (d : Pair) → i < length (replicate n empty_pair) → get_or (replicate n empty_pair) i d ≡ empty_pair
  none_at i d inside = get_or-replicate n i empty_pair d (omega (arith, length-replicate n empty_pair))

  pub none_placed : IsPlaced (replicate n empty_pair)
  none_placed = record {
    places = λ i d t inside away. ap (λ p. pair_half p t) (none_at i d inside) ∙ none_pair t;
    single = λ i d inside. subst IsSingle (sym (none_at i d inside)) (λ t some. held_none empty_pair.second refl t);
  }

  pub none_held : (t : Tag) → front_half (replicate n empty_pair) t ≡ None
  none_held t = ap (λ p. pair_half p t) (none_front (place t (length (replicate n empty_pair))) n) ∙ none_pair t

-- ---- distinct tags

not_passed_by : (t : Tag) (e : Tag × Half) (es : List (Tag × Half)) (b : Bool) → same_tag t e.0 ≡ b → cond b (Some e.1) (lookup (same_tag t) es) ≡ None
    → (lookup (same_tag t) es ≡ None → AllByRecursion (λ u. same_tag t u ≡ false) (keys_of es)) → AllByRecursion (λ u. same_tag t u ≡ false) (keys_of (e ∷ es))
not_passed_by t e es true same none rest = cc
not_passed_by t e es false same none rest = (same, rest none)

pub not_passed : (t : Tag) (es : List (Tag × Half)) → lookup (same_tag t) es ≡ None → AllByRecursion (λ u. same_tag t u ≡ false) (keys_of es)
not_passed t [] none = tt
not_passed t (e ∷ es) none = not_passed_by t e es (same_tag t e.0) refl none (not_passed t es)

abbrev IsFrom : List Pair → ℕ → ℕ → Type 0
IsFrom f k n = (i : ℕ) (d : Pair) (t : Tag) → i < length f → place t n ≢ i + k → pair_half (get_or f i d) t ≡ None

abbrev AreSingle : List Pair → Type 0
AreSingle f = (i : ℕ) (d : Pair) → i < length f → IsSingle (get_or f i d)

abbrev IsApart : List Pair → List (Tag × Half) → Type 0
IsApart f es = (i : ℕ) (d : Pair) (t : Tag) (h : Half) → i < length f → pair_half (get_or f i d) t ≡ Some h → lookup (same_tag t) es ≡ None

later_none : (p : Pair) (f : List Pair) (k n : ℕ) → IsFrom (p ∷ f) k n → (t : Tag) (h : Half) → pair_half p t ≡ Some h → (i : ℕ) → i < length f
    → (b : Bool) → nat_eq (place t n) (suc i + k) ≡ b → pair_half (get_or f i empty_pair) t ≡ None
later_none p f k n from t h here i inside true e =
    let at : place t n ≡ suc i + k = numbers_one _ _ e in
    let none : pair_half p t ≡ None = from zero empty_pair t (omega arith) (λ z. absurd (omega arith)) in
    let bad : None ≡ Some h = sym none ∙ here in cc
later_none p f k n from t h here i inside false e = from (suc i) empty_pair t (omega arith) (numbers_apart _ _ e)

rest_none : (p : Pair) (f : List Pair) (k n : ℕ) (es : List (Tag × Half)) → IsFrom (p ∷ f) k n → IsApart (p ∷ f) es
    → (t : Tag) (h : Half) → pair_half p t ≡ Some h → lookup (same_tag t) (front_entries f ++ es) ≡ None
rest_none p f k n es from apart t h here =
    lookup-append t (front_entries f) es
    ∙ ap (λ o. option_or o (lookup (same_tag t) es))
    (lookup_nowhere f t (λ i inside. later_none p f k n from t h here i inside (nat_eq (place t n) (suc i + k)) refl))
    ∙ apart zero empty_pair t h (omega arith) here

-- a slot comes before entries that have none of its tag
distinct_slot : (s : Slot) (es : List (Tag × Half)) → IsDistinct same_tag (keys_of es)
    → ((h : Half) → held s (slot_tag s) ≡ Some h → lookup (same_tag (slot_tag s)) es ≡ None) → (o : Option Half) → slot_half s ≡ o
    → IsDistinct same_tag (keys_of (cons_option (option_map (λ h. (slot_tag s, h)) o) es))
distinct_slot s es rest none None e = rest
distinct_slot s es rest none (Some h) e =
    IsDistinct-cons same_tag (slot_tag s) (keys_of es) (not_passed (slot_tag s) es (none h (held_own s ∙ e))) rest

with_second : (p : Pair) (es : List (Tag × Half)) (t : Tag) (h : Half) → IsSingle p → held p.first t ≡ Some h → lookup (same_tag t) es ≡ None
    → lookup (same_tag t) (cons_option (slot_entry p.second) es) ≡ None
with_second p es t h single here none =
    entry_first t (slot_tag p.second) (slot_half p.second) es
    ∙ ap (λ o. option_or o (lookup (same_tag t) es)) (single t (some_of _ h here)) ∙ none

second_held : (p : Pair) (t : Tag) (h : Half) → IsSingle p → held p.second t ≡ Some h → (o : Option Half) → held p.first t ≡ o
    → option_or o (held p.second t) ≡ Some h
second_held p t h single is None e = is
second_held p t h single is (Some g) e = let bad : None ≡ Some h = sym (single t (some_of _ g e)) ∙ is in cc

pair_append : (a b : Option (Tag × Half)) (es fs : List (Tag × Half)) → cons_option a (cons_option b (es ++ fs)) ≡ (cons_option a
    (cons_option b []) ++ es) ++ fs
pair_append None None es fs = refl
pair_append None (Some y) es fs = refl
pair_append (Some x) None es fs = refl
pair_append (Some x) (Some y) es fs = refl

distinct_from : (f : List Pair) (k n : ℕ) (es : List (Tag × Half)) → IsFrom f k n → AreSingle f → IsDistinct same_tag (keys_of es) → IsApart f es
    → IsDistinct same_tag (keys_of (front_entries f ++ es))
distinct_from [] k n es from single distinct apart = distinct
distinct_from (p ∷ f) k n es from single distinct apart =
    let one : IsSingle p = single zero empty_pair (omega arith) in
    let rest : IsDistinct same_tag (keys_of (front_entries f ++ es)) =
    distinct_from f (suc k) n es (λ i d t inside away. from (suc i) d t (omega arith) (λ e. away (omega arith)))
    (λ i d inside. single (suc i) d (omega arith)) distinct (λ i d t h inside e. apart (suc i) d t h (omega arith) e) in
    let second : IsDistinct same_tag (keys_of (cons_option (slot_entry p.second) (front_entries f ++ es))) =
    distinct_slot p.second (front_entries f ++ es) rest
    (λ h e. rest_none p f k n es from apart _ h (second_held p _ h one e (held p.first (slot_tag p.second)) refl)) (slot_half p.second) refl in
    let first : IsDistinct same_tag (keys_of (cons_option (slot_entry p.first) (cons_option (slot_entry p.second) (front_entries f ++ es)))) =
    distinct_slot p.first (cons_option (slot_entry p.second) (front_entries f ++ es)) second
    (λ h e. with_second p (front_entries f ++ es) _ h one e
    (rest_none p f k n es from apart _ h (ap (λ o. option_or o (held p.second (slot_tag p.first))) e))) (slot_half p.first) refl in
    subst (λ l. IsDistinct same_tag (keys_of l)) (pair_append (slot_entry p.first) (slot_entry p.second) (front_entries f) es) first

behind_none : (f : List Pair) (es : List (Tag × Half)) → IsKept f es → (i : ℕ) (d : Pair) (t : Tag) (h : Half) → i < length f
    → pair_half (get_or f i d) t ≡ Some h → (b : Bool) → nat_eq (place t (length f)) i ≡ b → lookup (same_tag t) es ≡ None
behind_none f es kept i d t h inside e true at =
    let there : place t (length f) ≡ i = numbers_one _ _ at in
    let one : get_or f i empty_pair ≡ get_or f i d = get_or_any f i empty_pair d inside in
    kept.apart t h (ap (λ k. pair_half (get_or f k empty_pair) t) there ∙ ap (λ x. pair_half x t) one ∙ e)
behind_none f es kept i d t h inside e false away =
    let none : pair_half (get_or f i d) t ≡ None = kept.placed.places i d t inside (numbers_apart _ _ away) in
    let bad : None ≡ Some h = sym none ∙ e in cc

-- no tag is listed twice
pub distinct_all : (f : List Pair) (es : List (Tag × Half)) → IsKept f es → IsDistinct same_tag (keys_of es) → IsDistinct same_tag (keys_of (all_entries f es))
distinct_all f es kept distinct = distinct_from f zero (length f) es (λ i d t inside apart. kept.placed.places i d t inside (λ e. apart
    (omega arith))) kept.placed.single distinct
    (λ i d t h inside e. behind_none f es kept i d t h inside e (nat_eq (place t (length f)) i) refl)
