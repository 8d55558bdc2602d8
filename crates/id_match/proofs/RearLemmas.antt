-- Lemmas on what waits in the rear, by its entries.
use Rattle.std.proofs.Common.{◌≡◌, Bool, true, false, cond, List, Option, Some, None, IsSome, Result, Ok, Err, IfOk, OnErr, refl, sym, ◌∙◌, ap}
use Rattle.std.specs.FinMap.{entries, from_entries, get, same_map}
use Rattle.std.specs.Map.{lookup}
use Rattle.std.specs.Option.{option_or}
use Rattle.id_instr.specs.declared.dests.Port.{Port}
use Rattle.id_instr.specs.declared.dests.Port.TheVariants.{Zero, One}
use Rattle.id_tag.specs.declared.Tag.{Tag}
use Rattle.id_tag.specs.declared.Value.{Value}
use Rattle.id_tag.specs.Tags.{same_tag, tag_cmp}
use Rattle.id_tag.proofs.TagsLemmas.{same_tag_laws, tags_total, exact_tags}
use Rattle.id_match.specs.declared.meeting.Half.{Half}
use Rattle.id_match.specs.declared.meeting.Offered.TheVariants.{Pair, Taken}
use Rattle.id_match.specs.declared.front.Pair as front
use Rattle.id_match.specs.Front.{IsKept, OthersSame, all_entries, front_half}
use Rattle.id_match.specs.Halves.{answer_at, half_after}
use Rattle.id_match.specs.Ports.{same_port}
use Rattle.id_match.specs.Waiting.{Store, offer_after, offer_answer, pair_of, store_after}
use Rattle.id_match.proofs.BehindLemmas.{halves_kept}
use Rattle.id_match.proofs.EntriesLemmas.{get-lookup}
use Rattle.id_match.proofs.FrontLemmas.{lookup_all}
use Rattle.id_match.proofs.WaitingLemmas.{answer_of-at_port, get_half, get-offer_after}

-- what a store has under a tag is what it was made of
pub lookup-entries : (es : List (Tag × Half)) (s : Store) → from_entries {R = tag_cmp} es ≡ s → (t : Tag)
    → lookup (same_tag t) (entries s) ≡ lookup (same_tag t) es
lookup-entries es s is t = sym (get-lookup s t) ∙ ap (λ r. get r t) (sym is) ∙ get_half es t

-- the answer by what the entries have
pub answer-lookup : (s : Store) (t : Tag) (p : Port) (v : Value) → offer_answer s t p v ≡ answer_at (lookup (same_tag t) (entries s)) p v
answer-lookup s t p v = answer_of-at_port (get s t) p v ∙ ap (λ o. answer_at o p v) (get-lookup s t)

-- a store is made of its entries
pub made_back : (s : Store) → from_entries (entries s) ≡ s
made_back s = same_map tags_total exact_tags (from_entries (entries s)) s (λ t. get_half (entries s) t ∙ sym (get-lookup s t))

module _ (s r : Store) (t : Tag) (p : Port) (v : Value) (is : r ≡ offer_after s t p v) where
  has : (u : Tag) → lookup (same_tag u) (entries r) ≡ cond (same_tag t u) (half_after (get s t) p v) (get s u)
  has u = sym (get-lookup r u) ∙ ap (λ x. get x u) is ∙ get-offer_after s t p v u

  -- what the rear has under the tag of an offer
  pub here_after : lookup (same_tag t) (entries r) ≡ half_after (lookup (same_tag t) (entries s)) p v
  here_after =
      has t ∙ ap (λ b. cond b (half_after (get s t) p v) (get s t)) (same_tag_laws.refl t) ∙ ap (λ o. half_after o p v) (get-lookup s t)

  -- and under the others
  pub others_after : OthersSame t (entries s) (entries r)
  others_after u apart = has u ∙ ap (λ b. cond b (half_after (get s t) p v) (get s u)) apart ∙ get-lookup s u

-- what follows from what holds of a value
pub if_ok : {A B : Type 0} → {P Q : A → Type 0} → (r : Result A B) → ((a : A) → P a → Q a) → IfOk r P → IfOk r Q
if_ok (Ok a) f p = f a p
if_ok (Err b) f p = tt

-- what holds in every case holds of an error
pub err_always : {A B Q : Type 0} → (r : Result A B) → Q → OnErr r Q
err_always (Ok a) q = tt
err_always (Err b) q = q

abbrev Leaves : Option Half → Port → Value → Type 0
Leaves o p v = IsSome o × (half_after o p v ≡ None)

leaves_by : (h : Half) (p : Port) (v : Value) (x y : Value) (b : Bool) → same_port h.port p ≡ b → Pair x y ≡ cond b Taken (pair_of p v h.value)
    → Leaves (Some h) p v
leaves_by h p v x y true same e = cc
leaves_by h p v x y false same e = (refl, ap (λ b. cond b (Some h) None) same)

-- where the answer is a pair, the partner waited, and leaves
pub partner_left : (o : Option Half) (p : Port) (v x y : Value) → Pair x y ≡ answer_at o p v → Leaves o p v
partner_left None p v x y e = cc
partner_left (Some h) p v x y e = leaves_by h p v x y (same_port h.port p) refl e

pub partner_left_of : (o : Option Half) (p : Port) (v w : Value) → pair_of p v w ≡ answer_at o p v → Leaves o p v
partner_left_of o Zero v w e = partner_left o Zero v v w e
partner_left_of o One v w e = partner_left o One v w v e

-- where the value's port is taken, nothing changes
pub taken_same : (s r : Store) (t : Tag) (p : Port) (v : Value) → r ≡ offer_after s t p v → Taken ≡ offer_answer s t p v → r ≡ s
taken_same s r t p v is e = is ∙ ap (store_after s t p v) (sym e)

-- entries that have the same under each tag make the same store behind a front
module _ (f : List front.Pair) (es fs : List (Tag × Half)) (same : (t : Tag) → lookup (same_tag t) fs ≡ lookup (same_tag t) es) (kept : IsKept f es) where
  pub kept_as : IsKept f fs
  kept_as = record {
    placed = kept.placed;
    apart = λ t h e. same t ∙ kept.apart t h e;
    marked = halves_kept f es fs same kept.marked;
  }

  pub made_as : (s : Store) → from_entries (all_entries f es) ≡ s → from_entries (all_entries f fs) ≡ s
  made_as s is =
      same_map tags_total exact_tags (from_entries (all_entries f fs)) (from_entries (all_entries f es))
      (λ t. get_half (all_entries f fs) t ∙ lookup_all f fs kept.placed t ∙ ap (option_or (front_half f t)) (same t)
      ∙ sym (get_half (all_entries f es) t ∙ lookup_all f es kept.placed t))
      ∙ is
