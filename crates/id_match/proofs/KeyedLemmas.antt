-- Lemmas on specs/Keyed.antt.
use Rattle.std.proofs.Common.{◌≡◌, Bool, true, false, cond, ◌&&◌, Option, Some, None, Result, Ok, Err, OnOk, refl, sym, ◌∙◌, ap}
use Rattle.std.specs.FinMap.{get, empty, get-empty}
use Rattle.std.specs.declared.alloc.AllocError.{AllocError}
use Rattle.id_instr.specs.declared.dests.Port.{Port}
use Rattle.id_instr.specs.declared.dests.Port.TheVariants.{Zero, One}
use Rattle.id_tag.specs.declared.Tag.{Tag}
use Rattle.id_tag.specs.declared.Value.{Value}
use Rattle.id_tag.specs.Tags.{tag_cmp, same_tag}
use Rattle.id_match.specs.declared.meeting.Half.{Half}
use Rattle.id_match.specs.declared.meeting.Offered.{Offered}
use Rattle.id_match.specs.declared.meeting.Offered.TheVariants.{Kept, Pair, Taken}
use Rattle.id_match.specs.Ports.{other_port, same_port}
use Rattle.id_match.specs.Halves.{answer_at, half_after}
use Rattle.id_match.specs.Keyed.{Keyed, keyed_by_answer, keyed_after}
use Rattle.id_match.specs.Waiting.{Store, at_port, waits, pair_of, offer_after}
use Rattle.id_match.proofs.WaitingLemmas.{answer_of-at_port, still, get-offer_after}

-- nothing waits at any port of an empty store
pub waits-empty : (t : Tag) (p : Port) → waits empty t p ≡ None
waits-empty t p = ap (λ o. at_port o p) (get-empty tag_cmp t)

-- what an offer leaves at the ports of its own tag, by its answer
abbrev ports_after : Option Half → Port → Value → Offered → Port → Option Value
ports_after o p v Kept q = cond (same_port p q) (Some v) (at_port o q)
ports_after o p v (Pair _ _) q = cond (same_port (other_port p) q) None (at_port o q)
ports_after o p v Taken q = at_port o q

partner_leaves : (r : Port) (w : Value) (p : Port) (v : Value) (q : Port)
    → at_port (cond (same_port r p) (Some (record { port = r; value = w })) None) q
    ≡ ports_after (Some (record { port = r; value = w })) p v (cond (same_port r p) Taken (pair_of p v w)) q
partner_leaves Zero w Zero v q = refl
partner_leaves Zero w One v Zero = refl
partner_leaves Zero w One v One = refl
partner_leaves One w Zero v Zero = refl
partner_leaves One w Zero v One = refl
partner_leaves One w One v q = refl

at_port-half_after : (o : Option Half) (p : Port) (v : Value) (q : Port)
    → at_port (half_after o p v) q ≡ ports_after o p v (answer_at o p v) q
at_port-half_after None p v q = refl
at_port-half_after (Some h) p v q = partner_leaves h.port h.value p v q

here : (m : Keyed) (t : Tag) (p : Port) (v : Value) (a : Offered) (u : Tag) (q : Port) (o : Option Half)
    → same_tag t u ≡ true → m u q ≡ at_port o q → keyed_by_answer m t p v a u q ≡ ports_after o p v a q
here m t p v Kept u q o e is = ap (λ b. cond (b && same_port p q) (Some v) (m u q)) e ∙ ap (cond (same_port p q) (Some v)) is
here m t p v (Pair _ _) u q o e is = ap (λ b. cond (b && same_port (other_port p) q) None (m u q)) e ∙ ap (cond (same_port (other_port p) q) None) is
here m t p v Taken u q o e is = is

elsewhere : (m : Keyed) (t : Tag) (p : Port) (v : Value) (a : Offered) (u : Tag) (q : Port)
    → same_tag t u ≡ false → keyed_by_answer m t p v a u q ≡ m u q
elsewhere m t p v Kept u q e = ap (λ b. cond (b && same_port p q) (Some v) (m u q)) e
elsewhere m t p v (Pair _ _) u q e = ap (λ b. cond (b && same_port (other_port p) q) None (m u q)) e
elsewhere m t p v Taken u q e = refl

at_tag : (s : Store) (t : Tag) (p : Port) (v : Value) (u : Tag) (q : Port) (b : Bool) → same_tag t u ≡ b
    → at_port (cond b (half_after (get s t) p v) (get s u)) q ≡ keyed_by_answer (waits s) t p v (answer_at (get s t) p v) u q
at_tag s t p v u q true e =
    at_port-half_after (get s t) p v q
    ∙ sym (here (waits s) t p v (answer_at (get s t) p v) u q (get s t) e (ap (λ o. at_port o q) (still s t u true e)))
at_tag s t p v u q false e = sym (elsewhere (waits s) t p v (answer_at (get s t) p v) u q e)

-- what waits at each port after an offer is what a map keyed by tag and port has
pub waits-offer_after : (s : Store) (t : Tag) (p : Port) (v : Value) (u : Tag) (q : Port)
    → waits (offer_after s t p v) u q ≡ keyed_after (waits s) t p v u q
waits-offer_after s t p v u q =
    ap (λ o. at_port o q) (get-offer_after s t p v u)
    ∙ at_tag s t p v u q (same_tag t u) refl
    ∙ ap (λ a. keyed_by_answer (waits s) t p v a u q) (sym (answer_of-at_port (get s t) p v))

-- the same, where the store after a call is that after the offer
pub keyed_from_after : (s r : Store) (t : Tag) (p : Port) (v : Value) (answer : Result Offered AllocError)
    → OnOk answer (r ≡ offer_after s t p v) → OnOk answer ((u : Tag) (q : Port) → waits r u q ≡ keyed_after (waits s) t p v u q)
keyed_from_after s r t p v (Ok a) is = λ u q. ap (λ x. waits x u q) is ∙ waits-offer_after s t p v u q
keyed_from_after s r t p v (Err e) is = tt
