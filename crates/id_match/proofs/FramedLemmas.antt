-- Lemmas on specs/Rear.antt.
use Rattle.std.proofs.Common.{◌≡◌, ◌≢◌, ℕ, zero, suc, ◌<◌, drop, drop-cons, Bool, true, false, cond, ◌&&◌, nat_eq, List, [], ◌∷◌, ◌++◌}
use Rattle.std.proofs.Common.{length, get_or, Option, Some, None, IsSome, is_some, IfSome, IsTrue, IsPermutation, Result, swap_remove, insert, refl, sym, ◌∙◌}
use Rattle.std.proofs.Common.{ap, subst, arith}
use Rattle.std.specs.Cmp.{IsEquivalence}
use Rattle.std.specs.List.{IsDistinct, Contains}
use Rattle.std.specs.Map.{lookup, keys_of}
use Rattle.std.specs.Option.{option_or}
use Rattle.std.specs.declared.alloc.AllocError.{AllocError}
use Rattle.std.proofs.lemmas.Bool.Decides.{nat_tests}
use Rattle.std.proofs.lemmas.Cmp.{nat_eq_equiv}
use Rattle.std.proofs.lemmas.Grind.{common_steps}
use Rattle.std.proofs.lemmas.List.{map-append}
use Rattle.std.proofs.lemmas.List.Sorted.{IsPermutation-map, IsPermutation-sym, IsPermutation-swap_remove, Contains-permutation}
use Rattle.std.proofs.lemmas.Map.{lookup-none, none_passes_from_lookup, lookup-insert}
use Rattle.std.proofs.lemmas.Map.Entries.{none_past_head, place_from_lookup, lookup_from_place}
use Rattle.std.proofs.lemmas.Map.Keys.{IsDistinct-cons, IsDistinct-tail, IsDistinct-push, IsDistinct-IsPermutation}
use Rattle.std.proofs.lemmas.Map.Made.{is_some-lookup}
use Rattle.std.proofs.lemmas.Option.{slice_get_within, get_or_from_slice_get, slice_get-get_or}
use Rattle.slab.specs.Slab.{Slab, get, ContainsKey, Updates}
use Rattle.id_tag.specs.declared.Tag.{Tag}
use Rattle.id_tag.specs.Tags.{same_tag, same_context}
use Rattle.id_tag.proofs.TagsLemmas.{same_tag_laws, one_from_same_tag}
use Rattle.id_match.specs.declared.meeting.Half.{Half}
use Rattle.id_match.specs.declared.meeting.Offered.{Offered}
use Rattle.id_match.specs.declared.rear.Came.{Came}
use Rattle.id_match.specs.declared.rear.Frame.{Frame}
use Rattle.id_match.specs.declared.rear.Name.{Name}
use Rattle.id_match.specs.declared.rear.Came.TheVariants.{Kept}
use Rattle.id_match.specs.Halves.{answer_at, half_after}
use Rattle.id_match.specs.Rear.{name_of, same_name, tag_at, halves_in, halves_by, halves_of, rear_half, frame_entries, rear_entries}
use Rattle.id_match.specs.Rear.{IsFramed, IsOffered, IsOfferedAt, Sets, Holds, MakesFrame, Tells, TellsOf, WritesFrame, after_came, after_said}
use Rattle.id_match.proofs.FrontLemmas.{lookup-append, not_passed, numbers_one, numbers_apart}

-- ---- names

and_end : (a b : Bool) → (a && (b && true)) ≡ (a && b)
and_end true true = refl
and_end true false = refl
and_end false b = refl

and_split : (a b c : Bool) → (a && (b && c)) ≡ ((a && b) && c)
and_split true b c = refl
and_split false b c = refl

ties : (m n : Name) → same_tag (tag_at m 0) (tag_at n 0) ≡ same_name m n
ties m n = and_end (same_context m.context n.context) (nat_eq m.iteration n.iteration)

-- tags are one where their frames and instructions are
split : (t u : Tag) → same_tag t u ≡ (same_name (name_of t) (name_of u) && nat_eq t.instr u.instr)
split t u = and_split (same_context t.context u.context) (nat_eq t.iteration u.iteration) (nat_eq t.instr u.instr)

pub name_laws : IsEquivalence same_name
name_laws = record {
  refl = λ n. sym (ties n n) ∙ same_tag_laws.refl (tag_at n 0);
  symm = λ m n. sym (ties m n) ∙ same_tag_laws.symm (tag_at m 0) (tag_at n 0) ∙ ties n m;
  congr = λ m n o e. sym (ties m o) ∙ same_tag_laws.congr (tag_at m 0) (tag_at n 0) (tag_at o 0) (ties m n ∙ e) ∙ ties n o;
}

pub one_name : (m n : Name) → same_name m n ≡ true → m ≡ n
one_name m n e = ap name_of (one_from_same_tag (tag_at m 0) (tag_at n 0) (ties m n ∙ e))

-- ---- what waits under a tag

no_half : (b : Bool) → ◌≡◌ {A = Option Half} None (cond b None None)
no_half true = refl
no_half false = refl

one_step : (b c : Bool) (h : Half) (r s : Option Half) → r ≡ cond b s None → cond (b && c) (Some h) r ≡ cond b (cond c (Some h) s) None
one_step true c h r s e = ap (cond c (Some h)) e
one_step false c h r s e = e

lookup-frame : (n : Name) (hs : List (ℕ × Half)) (t : Tag)
    → lookup (same_tag t) (frame_entries n hs) ≡ cond (same_name (name_of t) n) (lookup (nat_eq t.instr) hs) None
lookup-frame n [] t = no_half (same_name (name_of t) n)
lookup-frame n (h ∷ hs) t =
    ap (λ b. cond b (Some h.1) (lookup (same_tag t) (frame_entries n hs))) (split t (tag_at n h.0))
    ∙ one_step (same_name (name_of t) n) (nat_eq t.instr h.0) h.1 _ _ (lookup-frame n hs t)

or_none : (o : Option Half) → option_or o None ≡ o
or_none None = refl
or_none (Some h) = refl

-- the entries of all frames have under a tag what its frame has
pub lookup-rear : (frames : Slab Frame) (keys : List (Name × ℕ)) (t : Tag) → IsDistinct same_name (keys_of keys)
    → lookup (same_tag t) (rear_entries keys frames) ≡ rear_half keys frames t
lookup-rear frames [] t distinct = refl
lookup-rear frames (e ∷ keys) t distinct =
    lookup-append t (frame_entries e.0 (halves_in (get frames e.1))) (rear_entries keys frames)
    ∙ ap (λ o. option_or o (lookup (same_tag t) (rear_entries keys frames))) (lookup-frame e.0 (halves_in (get frames e.1)) t)
    ∙ ap (option_or (cond (same_name (name_of t) e.0) (lookup (nat_eq t.instr) (halves_in (get frames e.1))) None))
    (lookup-rear frames keys t (IsDistinct-tail same_name e.0 (keys_of keys) distinct))
    ∙ by_name (same_name (name_of t) e.0) refl
  where
    by_name : (b : Bool) → same_name (name_of t) e.0 ≡ b
        → option_or (cond b (lookup (nat_eq t.instr) (halves_in (get frames e.1))) None) (rear_half keys frames t)
        ≡ lookup (nat_eq t.instr) (halves_by frames (cond b (Some e.1) (lookup (same_name (name_of t)) keys)))
    by_name true is =
        ap (λ o. option_or (lookup (nat_eq t.instr) (halves_in (get frames e.1))) (lookup (nat_eq t.instr) (halves_by frames o)))
        (lookup-none (same_name (name_of t)) keys (none_past_head name_laws (name_of t) e keys distinct is))
        ∙ or_none (lookup (nat_eq t.instr) (halves_in (get frames e.1)))
    by_name false is = refl

-- ---- the tags differ

distinct_frame : (n : Name) (hs : List (ℕ × Half)) (es : List (Tag × Half)) → IsDistinct nat_eq (keys_of hs) → IsDistinct same_tag (keys_of es)
    → ((i : ℕ) → lookup (same_tag (tag_at n i)) es ≡ None) → IsDistinct same_tag (keys_of (frame_entries n hs ++ es))
distinct_frame n [] es single distinct none = distinct
distinct_frame n (h ∷ hs) es single distinct none =
    let own : lookup (nat_eq h.0) hs ≡ None =
    lookup-none (nat_eq h.0) hs (none_past_head nat_eq_equiv h.0 h hs single (nat_eq_equiv.refl h.0)) in
    let gone : lookup (same_tag (tag_at n h.0)) (frame_entries n hs ++ es) ≡ None =
    lookup-append (tag_at n h.0) (frame_entries n hs) es
    ∙ ap (λ o. option_or o (lookup (same_tag (tag_at n h.0)) es))
    (lookup-frame n hs (tag_at n h.0) ∙ ap (λ o. cond (same_name n n) o None) own ∙ sym (no_half (same_name n n)))
    ∙ none h.0 in
    IsDistinct-cons same_tag (tag_at n h.0) (keys_of (frame_entries n hs ++ es))
    (not_passed (tag_at n h.0) (frame_entries n hs ++ es) gone)
    (distinct_frame n hs es (IsDistinct-tail nat_eq h.0 (keys_of hs) single) distinct none)

pub distinct_rear : (frames : Slab Frame) (keys : List (Name × ℕ)) → IsDistinct same_name (keys_of keys)
    → ((key : ℕ) → IsDistinct nat_eq (keys_of (halves_in (get frames key)))) → IsDistinct same_tag (keys_of (rear_entries keys frames))
unfolding IsDistinct
distinct_rear frames [] distinct single = tt
distinct_rear frames (e ∷ keys) distinct single =
    let rest : IsDistinct same_name (keys_of keys) = IsDistinct-tail same_name e.0 (keys_of keys) distinct in
    distinct_frame e.0 (halves_in (get frames e.1)) (rear_entries keys frames) (single e.1) (distinct_rear frames keys rest single)
    (λ i. lookup-rear frames keys (tag_at e.0 i) rest
    ∙ ap (λ o. lookup (nat_eq i) (halves_by frames o))
    (lookup-none (same_name e.0) keys (none_past_head name_laws e.0 e keys distinct (name_laws.refl e.0))))

-- ---- one frame

push_is : (p : List (ℕ × Half)) (x : ℕ × Half) → insert p (length p) x ≡ p ++ x ∷ []
push_is p x = grind (arith, common_steps)

-- a value comes to wait
pub sets_push : (p : List (ℕ × Half)) (i : ℕ) (h : Half) → lookup (nat_eq i) p ≡ None → Sets p (p ++ (i, h) ∷ []) i (Some h)
sets_push p i h none = record {
  single = λ distinct.
      subst (IsDistinct nat_eq) (sym (map-append (λ e. e.0) p ((i, h) ∷ [])))
      (IsDistinct-push nat_eq_equiv (keys_of p) i distinct (sym (is_some-lookup (nat_eq i) p) ∙ ap is_some none));
  under = λ distinct j.
      ap (lookup (nat_eq j)) (sym (push_is p (i, h)))
      ∙ lookup-insert nat_eq_equiv i h j p (length p) (none_passes_from_lookup (nat_eq i) p none);
}

found_in : (p q : List (ℕ × Half)) → IsPermutation p q → IsDistinct nat_eq (keys_of q) → (j : ℕ) (h : Half) → lookup (nat_eq j) p ≡ Some h
    → lookup (nat_eq j) q ≡ Some h
found_in p q shuffled distinct j h found =
    let at = place_from_lookup (nat_eq j) p h found in
    let listed : Contains p (at.1, h) = (at.0, slice_get_within p at.0 (at.1, h) at.2, get_or_from_slice_get p at.0 (at.1, h) (at.1, h) at.2) in
    let there : Contains q (at.1, h) = Contains-permutation p q (at.1, h) shuffled listed in
    ap (λ k. lookup (nat_eq k) q) (numbers_one j at.1 at.3)
    ∙ lookup_from_place nat_eq_equiv q there.0 at.1 h distinct (slice_get-get_or q there.0 (at.1, h) there.1 ∙ ap Some there.2)

same_found : (o r : Option Half) → ((h : Half) → o ≡ Some h → r ≡ Some h) → ((h : Half) → r ≡ Some h → o ≡ Some h) → o ≡ r
same_found None None f g = refl
same_found None (Some h) f g = g h refl
same_found (Some h) r f g = sym (f h refl)

-- a shuffle of a frame keeps what waits
shuffle_keeps : (p q : List (ℕ × Half)) → IsPermutation p q → IsDistinct nat_eq (keys_of p) → IsDistinct nat_eq (keys_of q) → (j : ℕ)
    → lookup (nat_eq j) p ≡ lookup (nat_eq j) q
shuffle_keeps p q shuffled one other j =
    same_found _ _ (found_in p q shuffled other j) (found_in q p (IsPermutation-sym p q shuffled) one j)

-- a value leaves
pub sets_taken : (p : List (ℕ × Half)) (at : ℕ) (x : ℕ × Half) (q : List (ℕ × Half)) (i : ℕ) → at < length p → x ≡ get_or p at x → x.0 ≡ i
    → q ≡ swap_remove p at x → Sets p q i None
sets_taken p at x q i within is own left = record { single = λ distinct. IsDistinct-tail nat_eq x.0 (keys_of q) (moved distinct); under = under }
  where
    shuffled : IsPermutation p (x ∷ q)
    shuffled = subst (λ l. IsPermutation p (x ∷ l)) (sym left) (IsPermutation-swap_remove p at x within is)

    moved : IsDistinct nat_eq (keys_of p) → IsDistinct nat_eq (keys_of (x ∷ q))
    moved distinct = IsDistinct-IsPermutation nat_eq nat_eq_equiv.symm (keys_of p) (keys_of (x ∷ q)) (IsPermutation-map (λ e. e.0) p (x ∷ q) shuffled) distinct

    under_by : IsDistinct nat_eq (keys_of p) → (j : ℕ) (b : Bool) → nat_eq j x.0 ≡ b
        → lookup (nat_eq j) q ≡ cond b None (cond b (Some x.1) (lookup (nat_eq j) q))
    under_by distinct j true e = lookup-none (nat_eq j) q (none_past_head nat_eq_equiv j x q (moved distinct) e)
    under_by distinct j false e = refl

    under : IsDistinct nat_eq (keys_of p) → (j : ℕ) → lookup (nat_eq j) q ≡ cond (nat_eq i j) None (lookup (nat_eq j) p)
    under distinct j =
        under_by distinct j (nat_eq j x.0) refl
        ∙ ap (cond (nat_eq j x.0) None) (sym (shuffle_keeps p (x ∷ q) shuffled distinct (moved distinct) j))
        ∙ ap (λ b. cond b None (lookup (nat_eq j) p)) (nat_eq_equiv.symm j x.0 ∙ ap (λ k. nat_eq k j) own)

-- what waits stays
pub sets_same : (p : List (ℕ × Half)) (i : ℕ) → Sets p p i (lookup (nat_eq i) p)
sets_same p i = record { single = λ distinct. distinct; under = λ distinct j. by_number j (nat_eq i j) refl }
  where
    by_number : (j : ℕ) (b : Bool) → nat_eq i j ≡ b → lookup (nat_eq j) p ≡ cond b (lookup (nat_eq i) p) (lookup (nat_eq j) p)
    by_number j true e = ap (λ k. lookup (nat_eq k) p) (sym (numbers_one i j e))
    by_number j false e = refl

-- ---- the table and the slab

-- the table has this at the name n, and what it had at each other, and the slab has that at this key
module _ (keys : List (Name × ℕ)) (frames : Slab Frame) (more : List (Name × ℕ)) (slab : Slab Frame) (n : Name) (key : ℕ)
    (named : Option ℕ) (frame : Option Frame) (was : IsFramed keys frames)
    (tells : (m : Name) → lookup (same_name m) more ≡ cond (same_name n m) named (lookup (same_name m) keys))
    (updates : Updates frames slab key frame)
    (alone : (m : Name) → same_name n m ≡ false → lookup (same_name m) keys ≡ Some key → ⊥) where
  away : (m : Name) (k : ℕ) → same_name n m ≡ false → lookup (same_name m) keys ≡ Some k → k ≢ key
  away m k apart e = λ same. alone m apart (e ∙ ap Some same)

  stays_by : (m : Name) (o : Option ℕ) → lookup (same_name m) keys ≡ o → same_name n m ≡ false → halves_by slab o ≡ halves_by frames o
  stays_by m None e apart = refl
  stays_by m (Some k) e apart = ap halves_in (updates.others k (away m k apart e))

  under_by : (m : Name) (b : Bool) → same_name n m ≡ b
      → halves_by slab (cond b named (lookup (same_name m) keys)) ≡ cond b (halves_by slab named) (halves_of keys frames m)
  under_by m true e = refl
  under_by m false e = stays_by m (lookup (same_name m) keys) refl e

  pub under : (m : Name) → halves_of more slab m ≡ cond (same_name n m) (halves_by slab named) (halves_of keys frames m)
  under m = ap (halves_by slab) (tells m) ∙ under_by m (same_name n m) refl

  module _ (unique : IsDistinct same_name (keys_of more)) (at : (k : ℕ) → named ≡ Some k → (k ≡ key) × ContainsKey slab k)
      (single : IsDistinct nat_eq (keys_of (halves_in frame))) where
    held_by : (m : Name) (k : ℕ) (b : Bool) → same_name n m ≡ b → cond b named (lookup (same_name m) keys) ≡ Some k → ContainsKey slab k
    held_by m k true e is = (at k is).1
    held_by m k false e is = subst IsSome (sym (updates.others k (away m k e is))) (was.held m k is)

    apart_by : (l m : Name) (k : ℕ) (b c : Bool) → same_name n l ≡ b → same_name n m ≡ c → cond b named (lookup (same_name l) keys) ≡ Some k
        → cond c named (lookup (same_name m) keys) ≡ Some k → same_name l m ≡ true
    apart_by l m k true true d e is so = sym (name_laws.congr n l m d) ∙ e
    apart_by l m k true false d e is so = absurd (away m k e so (at k is).0)
    apart_by l m k false true d e is so = absurd (away l k d is (at k so).0)
    apart_by l m k false false d e is so = was.apart l m k is so

    single_by : (k : ℕ) (b : Bool) → nat_eq k key ≡ b → IsDistinct nat_eq (keys_of (halves_in (get slab k)))
    single_by k true e =
        subst (λ o. IsDistinct nat_eq (keys_of (halves_in o))) (sym (ap (get slab) (numbers_one k key e) ∙ updates.changed)) single
    single_by k false e =
        subst (λ o. IsDistinct nat_eq (keys_of (halves_in o))) (sym (updates.others k (numbers_apart k key e))) (was.single k)

    pub framed : IsFramed more slab
    framed = record {
      unique = unique;
      held = λ m k e. held_by m k (same_name n m) refl (sym (tells m) ∙ e);
      apart = λ l m k d e. apart_by l m k (same_name n l) (same_name n m) refl refl (sym (tells l) ∙ d) (sym (tells m) ∙ e);
      single = λ k. single_by k (nat_eq k key) refl;
    }

-- a frame holds other values, and each other what it held
module _ (keys : List (Name × ℕ)) (frames : Slab Frame) (more : List (Name × ℕ)) (slab : Slab Frame) (t : Tag) (n : Name) (own : n ≡ name_of t)
    (p q : List (ℕ × Half)) (o : Option Half) (held : halves_of keys frames n ≡ p)
    (under : (m : Name) → halves_of more slab m ≡ cond (same_name n m) q (halves_of keys frames m))
    (sets : (j : ℕ) → lookup (nat_eq j) q ≡ cond (nat_eq t.instr j) o (lookup (nat_eq j) p)) where
  here : rear_half more slab t ≡ o
  here =
      ap (lookup (nat_eq t.instr)) (under (name_of t) ∙ ap (λ b. cond b q (halves_of keys frames (name_of t)))
      (ap (λ m. same_name m (name_of t)) own ∙ name_laws.refl (name_of t)))
      ∙ sets t.instr ∙ ap (λ b. cond b o (lookup (nat_eq t.instr) p)) (nat_eq_equiv.refl t.instr)

  there_by : (u : Tag) (b : Bool) → same_name n (name_of u) ≡ b → (b && nat_eq t.instr u.instr) ≡ false
      → lookup (nat_eq u.instr) (cond b q (halves_of keys frames (name_of u))) ≡ rear_half keys frames u
  there_by u true e apart =
      sets u.instr ∙ ap (λ b. cond b o (lookup (nat_eq u.instr) p)) apart
      ∙ ap (lookup (nat_eq u.instr)) (sym held ∙ ap (halves_of keys frames) (one_name n (name_of u) e))
  there_by u false e apart = refl

  there : (u : Tag) → same_tag t u ≡ false → rear_half more slab u ≡ rear_half keys frames u
  there u apart =
      ap (lookup (nat_eq u.instr)) (under (name_of u))
      ∙ there_by u (same_name n (name_of u)) refl (ap (λ m. same_name m (name_of u) && nat_eq t.instr u.instr) own ∙ sym (split t u) ∙ apart)

-- room for more frames changes none
pub updates_reserved : (frames room slab : Slab Frame) (c key : ℕ) (o : Option Frame) → room ≡ record frames { capacity = c }
    → Updates room slab key o → Updates frames slab key o
updates_reserved frames room slab c key o same updates = record {
  changed = updates.changed;
  others = λ k away. updates.others k away ∙ ap (λ s. get s k) same;
}

-- a frame that was written is taken
pub updates_twice : (frames mid slab : Slab Frame) (key : ℕ) (o q : Option Frame) → Updates frames mid key o → Updates mid slab key q
    → Updates frames slab key q
updates_twice frames mid slab key o q first last = record {
  changed = last.changed;
  others = λ k away. last.others k away ∙ first.others k away;
}

single_one : (i : ℕ) (h : Half) → IsDistinct nat_eq (keys_of ((i, h) ∷ []))
unfolding IsDistinct
single_one i h = (tt, tt)

no_frame : (o : Option Frame) → o ≡ None → IsSome o → ⊥
no_frame None e some = cc
no_frame (Some f) e some = cc

two_truths : true ≡ false → ⊥
two_truths e = cc

one_key : (a b : ℕ) → ◌≡◌ {A = Option ℕ} (Some a) (Some b) → b ≡ a
one_key a b e = cc

no_key : (k : ℕ) → ◌≡◌ {A = Option ℕ} None (Some k) → ⊥
no_key k e = cc

module _ (keys : List (Name × ℕ)) (frames : Slab Frame) (was : IsFramed keys frames) (t : Tag) (n : Name) (own : n ≡ name_of t) (key : ℕ)
    (more : List (Name × ℕ)) (slab : Slab Frame) where
  -- a frame is made for a value
  pub made : (f : Frame) (h : Half) → lookup (same_name n) keys ≡ None → get frames key ≡ None
      → ((m : Name) → lookup (same_name m) more ≡ cond (same_name n m) (Some key) (lookup (same_name m) keys))
      → IsDistinct same_name (keys_of more) → Updates frames slab key (Some f) → f.halves.items ≡ (t.instr, h) ∷ []
      → Holds keys frames more slab t (Some h)
  made f h absent vacant tells unique updates only =
      let alone : (m : Name) → same_name n m ≡ false → lookup (same_name m) keys ≡ Some key → ⊥ =
      λ m apart e. no_frame (get frames key) vacant (was.held m key e) in
      let at : (k : ℕ) → ◌≡◌ {A = Option ℕ} (Some key) (Some k) → (k ≡ key) × ContainsKey slab k =
      λ k e. (one_key key k e, subst (λ j. ContainsKey slab j) (sym (one_key key k e)) (ap is_some updates.changed)) in
      let holds : halves_in (get slab key) ≡ (t.instr, h) ∷ [] = ap halves_in updates.changed ∙ only in
      let held : halves_of keys frames n ≡ [] = ap (halves_by frames) absent in
      let sets : (j : ℕ) → lookup (nat_eq j) (halves_in (get slab key)) ≡ cond (nat_eq t.instr j) (Some h) (lookup (nat_eq j) []) =
      λ j. ap (lookup (nat_eq j)) holds ∙ ap (λ b. cond b (Some h) None) (nat_eq_equiv.symm j t.instr) in
      let below = under keys frames more slab n key (Some key) (Some f) was tells updates alone in
      record {
        framed = framed keys frames more slab n key (Some key) (Some f) was tells updates alone unique at
            (subst (λ l. IsDistinct nat_eq (keys_of l)) (sym only) (single_one t.instr h));
        here = here keys frames more slab t n own [] (halves_in (get slab key)) (Some h) held below sets;
        there = there keys frames more slab t n own [] (halves_in (get slab key)) (Some h) held below sets;
      }

  module _ (found : lookup (same_name n) keys ≡ Some key) (p : List (ℕ × Half)) (had : halves_in (get frames key) ≡ p) (o : Option Half) where
    alone : (m : Name) → same_name n m ≡ false → lookup (same_name m) keys ≡ Some key → ⊥
    alone m apart e = two_truths (sym (was.apart n m key found e) ∙ apart)

    held : halves_of keys frames n ≡ p
    held = ap (halves_by frames) found ∙ had

    distinct : IsDistinct nat_eq (keys_of p)
    distinct = subst (λ l. IsDistinct nat_eq (keys_of l)) had (was.single key)

    named_by : (m : Name) (b : Bool) → same_name n m ≡ b → lookup (same_name m) keys ≡ cond b (Some key) (lookup (same_name m) keys)
    named_by m true e = ap (λ w. lookup (same_name w) keys) (sym (one_name n m e)) ∙ found
    named_by m false e = refl

    -- a frame that stays is written
    pub wrote : (f : Frame) → more ≡ keys → Updates frames slab key (Some f) → Sets p f.halves.items t.instr o → Holds keys frames more slab t o
    wrote f same updates sets =
        let tells : (m : Name) → lookup (same_name m) more ≡ cond (same_name n m) (Some key) (lookup (same_name m) keys) =
        λ m. ap (lookup (same_name m)) same ∙ named_by m (same_name n m) refl in
        let at : (k : ℕ) → ◌≡◌ {A = Option ℕ} (Some key) (Some k) → (k ≡ key) × ContainsKey slab k =
        λ k e. (one_key key k e, subst (λ j. ContainsKey slab j) (sym (one_key key k e)) (ap is_some updates.changed)) in
        let set : (j : ℕ) → lookup (nat_eq j) (halves_in (get slab key)) ≡ cond (nat_eq t.instr j) o (lookup (nat_eq j) p) =
        λ j. ap (λ f. lookup (nat_eq j) (halves_in f)) updates.changed ∙ sets.under distinct j in
        let below = under keys frames more slab n key (Some key) (Some f) was tells updates alone in
        record {
          framed = framed keys frames more slab n key (Some key) (Some f) was tells updates alone
              (subst (λ l. IsDistinct same_name (keys_of l)) (sym same) was.unique) at (sets.single distinct);
          here = here keys frames more slab t n own p (halves_in (get slab key)) o held below set;
          there = there keys frames more slab t n own p (halves_in (get slab key)) o held below set;
        }

    -- a frame in which nothing waits any longer is given back
    pub left : ((m : Name) → lookup (same_name m) more ≡ cond (same_name n m) None (lookup (same_name m) keys))
        → IsDistinct same_name (keys_of more) → Updates frames slab key None → Sets p [] t.instr o → Holds keys frames more slab t o
    left tells unique updates sets =
        let at : (k : ℕ) → ◌≡◌ {A = Option ℕ} None (Some k) → (k ≡ key) × ContainsKey slab k = λ k e. absurd (no_key k e) in
        let below = under keys frames more slab n key None None was tells updates alone in
        record {
          framed = framed keys frames more slab n key None None was tells updates alone unique at (sets.single distinct);
          here = here keys frames more slab t n own p [] o held below (sets.under distinct);
          there = there keys frames more slab t n own p [] o held below (sets.under distinct);
        }

-- ---- what an offer to the frames comes to

-- a value waits that was offered where nothing waited
pub tells_kept : (h : Half) (short room : Bool) (o : Option Half) → o ≡ None → IsTrue room → Tells Kept h short room o
tells_kept h short room o none roomy = record {
  answer = sym (ap (λ x. answer_at x h.port h.value) none);
  taken = λ long e. cc;
  plain = λ s v e. cc;
  full = λ e. cc;
}

module _ (keys : List (Name × ℕ)) (frames : Slab Frame) (was : IsFramed keys frames) (t : Tag) (n : Name) (own : n ≡ name_of t) where
  -- what waits under a tag whose name the table has not
  pub none_in : lookup (same_name n) keys ≡ None → rear_half keys frames t ≡ None
  none_in absent =
      ap (λ m. lookup (nat_eq t.instr) (halves_of keys frames m)) (sym own) ∙ ap (λ o. lookup (nat_eq t.instr) (halves_by frames o)) absent

  pub made_in : (more : List (Name × ℕ)) (slab : Slab Frame) (key : ℕ) (h : Half) → lookup (same_name n) keys ≡ None
      → ((m : Name) → lookup (same_name m) more ≡ cond (same_name n m) (Some key) (lookup (same_name m) keys))
      → IsDistinct same_name (keys_of more) → MakesFrame frames slab key t.instr h
      → Holds keys frames more slab t (half_after (rear_half keys frames t) h.port h.value)
  made_in more slab key h absent tells unique makes =
      subst (Holds keys frames more slab t) (sym (ap (λ o. half_after o h.port h.value) (none_in absent)))
      (made keys frames was t n own key more slab makes.frame h absent makes.vacant tells unique makes.updates makes.only)

  module _ (key : ℕ) (found : lookup (same_name n) keys ≡ Some key) where
    -- what waits under a tag stands in its frame
    pub half_in : rear_half keys frames t ≡ lookup (nat_eq t.instr) (halves_in (get frames key))
    half_in =
        ap (λ m. lookup (nat_eq t.instr) (halves_of keys frames m)) (sym own) ∙ ap (λ o. lookup (nat_eq t.instr) (halves_by frames o)) found

    -- an offer to the frame of a name, which stays with it or leaves with it
    module _ (more : List (Name × ℕ)) (slab : Slab Frame) (h : Half) (short room : Bool) (r : Result Came AllocError) (left_it : Bool)
        (at : IsOfferedAt frames slab key t.instr h short room r left_it) where
      abbrev came : Option Half
      came = after_came r h (lookup (nat_eq t.instr) (halves_in (get frames key)))

      offered : Holds keys frames more slab t came → IsOffered keys frames more slab t h short room r
      offered holds = record {
        holds = subst (λ q. Holds keys frames more slab t (after_came r h q)) (sym half_in) holds;
        tells = subst (TellsOf r h short room) (sym half_in) at.tells;
      }

      wrote_by : more ≡ keys → (f : Option Frame) → is_some f ≡ true → Updates frames slab key f
          → Sets (halves_in (get frames key)) (halves_in f) t.instr came → Holds keys frames more slab t came
      wrote_by same (Some f) some updates sets =
          wrote keys frames was t n own key more slab found (halves_in (get frames key)) refl came f same updates sets
      wrote_by same None some updates sets = cc

      left_by : ((m : Name) → lookup (same_name m) more ≡ cond (same_name n m) None (lookup (same_name m) keys)) → IsDistinct same_name (keys_of more)
          → (f : Option Frame) → is_some f ≡ false → Updates frames slab key f → Sets (halves_in (get frames key)) (halves_in f) t.instr came
          → Holds keys frames more slab t came
      left_by gone unique (Some f) none updates sets = cc
      left_by gone unique None none updates sets =
          left keys frames was t n own key more slab found (halves_in (get frames key)) refl came gone unique updates sets

      pub wrote_in : more ≡ keys → left_it ≡ false → IsOffered keys frames more slab t h short room r
      wrote_in same stays =
          offered (wrote_by same at.frame (at.stays ∙ ap (λ b. cond b false true) stays) at.updates at.sets)

      pub left_in : ((m : Name) → lookup (same_name m) more ≡ cond (same_name n m) None (lookup (same_name m) keys))
          → IsDistinct same_name (keys_of more) → left_it ≡ true → IsOffered keys frames more slab t h short room r
      left_in gone unique leaves =
          offered (left_by gone unique at.frame (at.stays ∙ ap (λ b. cond b false true) leaves) at.updates at.sets)

-- an offer to a frame, which is given back or not
pub offered_at : (frames mid slab : Slab Frame) (key i : ℕ) (h : Half) (short room : Bool) (r : Result Came AllocError)
    → TellsOf r h short room (lookup (nat_eq i) (halves_in (get frames key)))
    → WritesFrame frames mid key i (after_came r h (lookup (nat_eq i) (halves_in (get frames key)))) → (left_it : Bool)
    → (IsTrue left_it → (halves_in (get mid key) ≡ []) × Updates mid slab key None) → (left_it ≡ false → slab ≡ mid)
    → IsOfferedAt frames slab key i h short room r left_it
offered_at frames mid slab key i h short room r tells writes false gives stays = record {
  tells = tells;
  frame = Some writes.frame;
  sets = writes.sets;
  updates = subst (λ s. Updates frames s key (Some writes.frame)) (sym (stays refl)) writes.updates;
  stays = refl;
}
offered_at frames mid slab key i h short room r tells writes true gives stays =
    let given : (halves_in (get mid key) ≡ []) × Updates mid slab key None = gives refl in
    let empty : writes.frame.halves.items ≡ [] = ap halves_in (sym writes.updates.changed) ∙ given.0 in
    record {
      tells = tells;
      frame = None;
      sets = subst (λ l. Sets (halves_in (get frames key)) l i (after_came r h (lookup (nat_eq i) (halves_in (get frames key))))) empty writes.sets;
      updates = updates_twice frames mid slab key (Some writes.frame) None writes.updates given.1;
      stays = refl;
    }

-- ---- what an offer to a frame sets

pub sets_said : (a : Option Offered) (p q : List (ℕ × Half)) (i : ℕ) (h : Half)
    → IfSome a (λ _. Sets p q i (half_after (lookup (nat_eq i) p) h.port h.value)) → (a ≡ None → q ≡ p)
    → Sets p q i (after_said a h (lookup (nat_eq i) p))
sets_said None p q i h sets same = subst (λ l. Sets p l i (lookup (nat_eq i) p)) (sym (same refl)) (sets_same p i)
sets_said (Some a) p q i h sets same = sets

pub here_said : (a : Option Offered) (h : Half) (was now : Option Half) → now ≡ after_said a h was → IfSome a (λ _. now ≡ half_after was h.port h.value)
here_said None h was now e = tt
here_said (Some a) h was now e = e

pub same_said : (a : Option Offered) (h : Half) (was now : Option Half) → now ≡ after_said a h was → a ≡ None → now ≡ was
same_said None h was now e none = e
same_said (Some a) h was now e none = cc

-- no name has a frame
pub framed_new : (frames : Slab Frame) → frames.slots ≡ [] → IsFramed [] frames
unfolding IsDistinct
framed_new frames none = record {
  unique = tt;
  held = λ n k e. cc;
  apart = λ m n k d e. cc;
  single = λ k. subst (λ l. IsDistinct nat_eq (keys_of (halves_in (get_or l k None)))) (sym none) tt;
}

-- ---- a search

pub any_default : (p : List (ℕ × Half)) (i : ℕ) (a b : ℕ × Half) → i < length p → get_or p i a ≡ get_or p i b
any_default [] i a b within = absurd (omega arith)
any_default (x ∷ p) zero a b within = refl
any_default (x ∷ p) (suc i) a b within = any_default p i a b (omega arith)

-- the value of an instruction stands here, or further on
pub find_here : (p : List (ℕ × Half)) (i k : ℕ) (d : ℕ × Half) → i < length p → (get_or p i d).0 ≡ k
    → lookup (nat_eq k) (drop i p) ≡ Some (get_or p i d).1
find_here p i k d within own =
    ap (lookup (nat_eq k)) (drop-cons p i d within)
    ∙ ap (λ b. cond b (Some (get_or p i d).1) (lookup (nat_eq k) (drop (suc i) p)))
    (ap (nat_eq k) own ∙ nat_eq_equiv.refl k)

pub find_next : (p : List (ℕ × Half)) (i k : ℕ) (d : ℕ × Half) → i < length p → (get_or p i d).0 ≢ k
    → lookup (nat_eq k) (drop (suc i) p) ≡ lookup (nat_eq k) (drop i p)
find_next p i k d within other =
    sym (ap (lookup (nat_eq k)) (drop-cons p i d within)
    ∙ ap (λ b. cond b (Some (get_or p i d).1) (lookup (nat_eq k) (drop (suc i) p))) (differs k (get_or p i d).0 other))
  where
    differs : (m n : ℕ) → n ≢ m → nat_eq m n ≡ false
    differs m n other = grind (arith, nat_tests)
