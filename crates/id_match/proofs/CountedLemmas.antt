-- What an offer to the rear's frames leaves, said of the store.
use Rattle.std.proofs.Common.{◌≡◌, ◌≢◌, ℕ, ◌+◌, ◌-◌, ◌^◌, ◌<◌, ◌≤◌, Bool, true, false, cond, nat_lt, List, Option, Some, None, IfSome, is_some}
use Rattle.std.proofs.Common.{refl, sym, ◌∙◌, ap, arith}
use Rattle.std.specs.FinMap.{contains_key, from_entries, get, len, len-insert, len-remove, same_map}
use Rattle.std.proofs.lemmas.Bool.Decides.{nat_tests}
use Rattle.slab.specs.Slab.{Slab}
use Rattle.id_instr.specs.declared.dests.Port.{Port}
use Rattle.id_instr.specs.declared.dests.Port.TheVariants.{Zero, One}
use Rattle.id_tag.specs.declared.Tag.{Tag}
use Rattle.id_tag.specs.declared.Value.{Value}
use Rattle.id_tag.specs.declared.plain.Plain.{Plain as PlainValue}
use Rattle.id_tag.specs.Plains.{whole}
use Rattle.id_tag.specs.Tags.{same_tag, tag_cmp}
use Rattle.id_tag.proofs.TagsLemmas.{exact_tags, one_from_same_tag, tags_total}
use Rattle.id_match.specs.declared.meeting.Half.{Half}
use Rattle.id_match.specs.declared.meeting.Offered.{Offered}
use Rattle.id_match.specs.declared.meeting.Offered.TheVariants as offered
use Rattle.id_match.specs.declared.rear.Came.{Came}
use Rattle.id_match.specs.declared.rear.Came.TheVariants.{Kept, Plain, Partner, Apart}
use Rattle.id_match.specs.declared.rear.Frame.{Frame}
use Rattle.id_match.specs.declared.rear.Name.{Name}
use Rattle.id_match.specs.Halves.{answer_at, half_after}
use Rattle.id_match.specs.Ports.{same_port}
use Rattle.id_match.specs.Rear.{IsFramed, rear_entries, rear_half, said}
use Rattle.id_match.specs.Waiting.{Store, offer_after, offer_answer, pair_of, store_after}
use Rattle.id_match.proofs.FramedLemmas.{lookup-rear}
use Rattle.id_match.proofs.RearLemmas.{partner_left_of}
use Rattle.id_match.proofs.WaitingLemmas.{answer_of-at_port, get_half, offer_after-from_get}

-- what a store has under a tag is what its frames have
pub get_framed : (keys : List (Name × ℕ)) (frames : Slab Frame) (s : Store) → from_entries {R = tag_cmp} (rear_entries keys frames) ≡ s
    → IsFramed keys frames → (t : Tag) → get s t ≡ rear_half keys frames t
get_framed keys frames s is framed t =
    ap (λ r. get r t) (sym is) ∙ get_half (rear_entries keys frames) t ∙ lookup-rear frames keys t framed.unique

module _ (keys : List (Name × ℕ)) (frames : Slab Frame) (s : Store) (is : from_entries {R = tag_cmp} (rear_entries keys frames) ≡ s)
    (was : IsFramed keys frames) (t : Tag) (p : Port) (v : Value) where
  pub answer_framed : (a : Offered) → a ≡ answer_at (rear_half keys frames t) p v → a ≡ offer_answer s t p v
  answer_framed a e =
      e ∙ ap (λ o. answer_at o p v) (sym (get_framed keys frames s is was t)) ∙ sym (answer_of-at_port (get s t) p v)

  module _ (more : List (Name × ℕ)) (slab : Slab Frame) (framed : IsFramed more slab)
      (others : (u : Tag) → same_tag t u ≡ false → rear_half more slab u ≡ rear_half keys frames u) where
    there : (u : Tag) → same_tag t u ≡ false → get (from_entries {R = tag_cmp} (rear_entries more slab)) u ≡ get s u
    there u apart = get_framed more slab _ refl framed u ∙ others u apart ∙ sym (get_framed keys frames s is was u)

    pub after_framed : rear_half more slab t ≡ half_after (rear_half keys frames t) p v
        → from_entries (rear_entries more slab) ≡ offer_after s t p v
    after_framed e =
        offer_after-from_get s (from_entries (rear_entries more slab)) t p v
        (get_framed more slab _ refl framed t ∙ e ∙ ap (λ o. half_after o p v) (sym (get_framed keys frames s is was t))) there

    same_by : rear_half more slab t ≡ rear_half keys frames t → (u : Tag) (b : Bool) → same_tag t u ≡ b
        → get (from_entries {R = tag_cmp} (rear_entries more slab)) u ≡ get s u
    same_by e u true at =
        ap (get (from_entries {R = tag_cmp} (rear_entries more slab))) (sym (one_from_same_tag t u at))
        ∙ get_framed more slab _ refl framed t ∙ e ∙ sym (get_framed keys frames s is was t) ∙ ap (get s) (one_from_same_tag t u at)
    same_by e u false at = there u at

    pub same_framed : rear_half more slab t ≡ rear_half keys frames t → from_entries (rear_entries more slab) ≡ s
    same_framed e = same_map tags_total exact_tags (from_entries (rear_entries more slab)) s (λ u. same_by e u (same_tag t u) refl)

-- ---- how many wait

kept_by : (p : Port) (v w : Value) (b : Bool) → cond b offered.Taken (pair_of p v w) ≡ offered.Kept → ⊥
kept_by p v w true e = cc
kept_by Zero v w false e = cc
kept_by One v w false e = cc

kept_none : (o : Option Half) (p : Port) (v : Value) → answer_at o p v ≡ offered.Kept → is_some o ≡ false
kept_none None p v e = refl
kept_none (Some h) p v e = absurd (kept_by p v h.value (same_port h.port p) e)

len_kept : (s : Store) (t : Tag) (p : Port) (v : Value) → offered.Kept ≡ offer_answer s t p v → len (offer_after s t p v) ≡ len s + 1
len_kept s t p v e =
    ap (λ a. len (store_after s t p v a)) (sym e)
    ∙ len-insert tags_total s t (record { port = p; value = v })
    ∙ ap (λ b. cond b (len s) (len s + 1)) (kept_none (get s t) p v (sym (answer_of-at_port (get s t) p v) ∙ sym e))

paired_len : (s : Store) (t : Tag) (p : Port) (v w : Value) → len (store_after s t p v (pair_of p v w)) ≡ cond (contains_key s t) (len s - 1) (len s)
paired_len s t Zero v w = len-remove tags_total s t
paired_len s t One v w = len-remove tags_total s t

len_left : (s : Store) (t : Tag) (p : Port) (v w : Value) → pair_of p v w ≡ offer_answer s t p v → len (offer_after s t p v) ≡ len s - 1
len_left s t p v w e =
    ap (λ a. len (store_after s t p v a)) (sym e) ∙ paired_len s t p v w
    ∙ ap (λ b. cond b (len s - 1) (len s)) (partner_left_of (get s t) p v w (e ∙ answer_of-at_port (get s t) p v)).0

-- what was kept had room
pub had_room : (came : Came) (n most : ℕ) → (nat_lt n most ≡ false → came ≢ Kept) → came ≡ Kept → n < most
had_room came n most full e = by (nat_lt n most) refl
  where
    by : (b : Bool) → nat_lt n most ≡ b → n < most
    by true lt = grind (arith, nat_tests)
    by false ge = absurd (full ge e)

module _ (s r : Store) (t : Tag) (h : Half) (n m : ℕ) (was : n ≡ len s) (few : n ≤ 2 ^ 62) where
  -- as many are counted as wait
  pub counted_by : (came : Came) → IfSome (said came h) (λ a. a ≡ offer_answer s t h.port h.value)
      → IfSome (said came h) (λ _. r ≡ offer_after s t h.port h.value) → (said came h ≡ None → r ≡ s) → (came ≡ Kept → n < 2 ^ 62)
      → (came ≡ Kept → n < 2 ^ 64 - 1 → m ≡ n + 1) → ((v : PlainValue) → came ≡ Plain v → m ≡ n - 1)
      → ((v : Value) → came ≡ Partner v → m ≡ n - 1) → (came ≡ Apart → m ≡ n) → (m ≡ len r) × (m ≤ 2 ^ 62)
  counted_by Kept answer after same room kept plain partner apart =
      let few_more : n < 2 ^ 62 = room refl in
      let more : m ≡ n + 1 = kept refl (omega arith) in
      let grown : len r ≡ len s + 1 = ap len after ∙ len_kept s t h.port h.value answer in
      (omega arith, omega arith)
  counted_by (Plain v) answer after same room kept plain partner apart =
      let fewer : m ≡ n - 1 = plain v refl in
      let shrunk : len r ≡ len s - 1 = ap len after ∙ len_left s t h.port h.value (whole v) answer in
      (omega arith, omega arith)
  counted_by (Partner v) answer after same room kept plain partner apart =
      let fewer : m ≡ n - 1 = partner v refl in
      let shrunk : len r ≡ len s - 1 = ap len after ∙ len_left s t h.port h.value v answer in
      (omega arith, omega arith)
  counted_by Apart answer after same room kept plain partner apart =
      let still : m ≡ n = apart refl in
      (still ∙ was ∙ ap len (sym (same refl)), omega arith)
