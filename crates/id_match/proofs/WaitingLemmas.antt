-- Lemmas on specs/Waiting.antt.
use Rattle.std.proofs.Common.{◌≡◌, Bool, true, false, cond, List, [], ◌∷◌, Option, Some, None, refl, sym, ◌∙◌, ap}
use Rattle.std.specs.FinMap.{get, find, from_entries, get-from_entries, get-insert, get-remove, get_tied, same_map}
use Rattle.std.specs.Map.{lookup}
use Rattle.std.specs.Cmp.{eq_by_cmp_equiv}
use Rattle.std.specs.Ordering.{eq_by_cmp}
use Rattle.id_instr.specs.declared.dests.Port.{Port}
use Rattle.id_instr.specs.declared.dests.Port.TheVariants.{Zero, One}
use Rattle.id_tag.specs.declared.Tag.{Tag}
use Rattle.id_tag.specs.declared.Value.{Value}
use Rattle.id_tag.specs.Tags.{tag_cmp, same_tag}
use Rattle.id_tag.proofs.TagsLemmas.{tags_total, exact_tags, ties-same_tag, ties_from_same_tag}
use Rattle.id_match.specs.declared.meeting.Half.{Half}
use Rattle.id_match.specs.declared.meeting.Offered.TheVariants.{Taken}
use Rattle.id_match.specs.Ports.{other_port, same_port}
use Rattle.id_match.specs.Halves.{answer_at, half_after}
use Rattle.id_match.specs.Waiting.{Store, at_port, pair_of, answer_of, store_after, offer_after}

-- the search of a store's entries is that of a map's
pub find_half : (es : List (Tag × Half)) (t : Tag) → find tag_cmp t es ≡ lookup (same_tag t) es
find_half [] t = refl
find_half (e ∷ es) t =
    ap (λ b. cond b (Some e.1) (find tag_cmp t es)) (ties-same_tag t e.0)
    ∙ ap (cond (same_tag t e.0) (Some e.1)) (find_half es t)

-- what the store that the entries make has at a tag
pub get_half : (es : List (Tag × Half)) (t : Tag) → get (from_entries {R = tag_cmp} es) t ≡ lookup (same_tag t) es
get_half es t = get-from_entries tags_total es t ∙ find_half es t

-- the test that the map makes, the other way round
turned : (t u : Tag) → eq_by_cmp tag_cmp u t ≡ same_tag t u
turned t u = (eq_by_cmp_equiv tags_total).symm u t ∙ ties-same_tag t u

answered : (q : Port) (w : Value) (p : Port) (v : Value)
    → answer_of p v (cond (same_port q p) (Some w) None) (cond (same_port q (other_port p)) (Some w) None) ≡ cond (same_port q p) Taken (pair_of p v w)
answered Zero w Zero v = refl
answered Zero w One v = refl
answered One w Zero v = refl
answered One w One v = refl

-- the answer by what waits under the tag
pub answer_of-at_port : (o : Option Half) (p : Port) (v : Value) → answer_of p v (at_port o p) (at_port o (other_port p)) ≡ answer_at o p v
answer_of-at_port None p v = refl
answer_of-at_port (Some h) p v = answered h.port h.value p v

-- a store has at t what it has at each tag that is t
pub still : (s : Store) (t u : Tag) (b : Bool) → same_tag t u ≡ b → get s u ≡ cond b (get s t) (get s u)
still s t u true e = get_tied tags_total s t u (ties_from_same_tag t u e)
still s t u false e = refl

removed : (s : Store) (t : Tag) (p : Port) (v w : Value) (u : Tag) → get (store_after s t p v (pair_of p v w)) u ≡ cond (same_tag t u) None (get s u)
removed s t Zero v w u = get-remove tags_total s t u ∙ ap (λ b. cond b None (get s u)) (turned t u)
removed s t One v w u = get-remove tags_total s t u ∙ ap (λ b. cond b None (get s u)) (turned t u)

met : (s : Store) (t : Tag) (p : Port) (v : Value) (h : Half) → get s t ≡ Some h → (u : Tag) (b : Bool)
    → get (store_after s t p v (cond b Taken (pair_of p v h.value))) u ≡ cond (same_tag t u) (cond b (Some h) None) (get s u)
met s t p v h e u true = still s t u (same_tag t u) refl ∙ ap (λ o. cond (same_tag t u) o (get s u)) e
met s t p v h e u false = removed s t p v h.value u

after_at : (s : Store) (t : Tag) (p : Port) (v : Value) (o : Option Half) → get s t ≡ o → (u : Tag)
    → get (store_after s t p v (answer_at o p v)) u ≡ cond (same_tag t u) (half_after o p v) (get s u)
after_at s t p v None e u =
    let h : Half = record { port = p; value = v } in
    get-insert tags_total s t h u ∙ ap (λ b. cond b (Some h) (get s u)) (turned t u)
after_at s t p v (Some h) e u = met s t p v h e u (same_port h.port p)

-- what the store has at each tag after an offer
pub get-offer_after : (s : Store) (t : Tag) (p : Port) (v : Value) (u : Tag)
    → get (offer_after s t p v) u ≡ cond (same_tag t u) (half_after (get s t) p v) (get s u)
get-offer_after s t p v u =
    ap (λ a. get (store_after s t p v a) u) (answer_of-at_port (get s t) p v) ∙ after_at s t p v (get s t) refl u

joined : (t u : Tag) (b : Bool) → same_tag t u ≡ b → (s r : Store) (o : Option Half) → get r t ≡ o
    → ((w : Tag) → same_tag t w ≡ false → get r w ≡ get s w) → get r u ≡ cond b o (get s u)
joined t u true e s r o here others = get_tied tags_total r t u (ties_from_same_tag t u e) ∙ here
joined t u false e s r o here others = others u e

-- a store that has what an offer leaves, at its tag and at the others, is the store after it
pub offer_after-from_get : (s r : Store) (t : Tag) (p : Port) (v : Value) → get r t ≡ half_after (get s t) p v
    → ((u : Tag) → same_tag t u ≡ false → get r u ≡ get s u) → r ≡ offer_after s t p v
offer_after-from_get s r t p v here others =
    same_map tags_total exact_tags r (offer_after s t p v)
    (λ u. joined t u (same_tag t u) refl s r _ here others ∙ sym (get-offer_after s t p v u))
