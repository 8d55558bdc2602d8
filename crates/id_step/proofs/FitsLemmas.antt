-- Lemmas on specs/Fits.antt: what waits and what is sent fits the graph.
use Rattle.std.proofs.Common.{◌≡◌, ℕ, ◌≤◌, Bool, true, false, cond, ◌&&◌, ◌⊎◌, inl, inr, Some, None, refl, sym, ◌∙◌}
use Rattle.std.proofs.Common.{arith}
use Rattle.id_instr.specs.declared.dests.Port.{Port}
use Rattle.id_instr.specs.declared.dests.Port.TheVariants as port
use Rattle.id_instr.specs.Graph.{Parts}
use Rattle.id_tag.specs.declared.Tag.{Tag}
use Rattle.id_tag.specs.declared.Cell.{Cell}
use Rattle.id_tag.specs.declared.Value.{Value}
use Rattle.id_tag.specs.declared.Value.TheVariants as value
use Rattle.id_tag.specs.Tags.{same_tag}
use Rattle.id_tag.proofs.TagsLemmas.{one_from_same_tag}
use Rattle.id_match.specs.declared.meeting.Offered.{Offered}
use Rattle.id_match.specs.declared.meeting.Offered.TheVariants.{Kept, Pair, Taken}
use Rattle.id_match.specs.Ports.{other_port, same_port}
use Rattle.id_match.specs.Keyed.{Keyed, keyed_by_answer}
use Rattle.id_match.specs.Waiting.{Store, waits, answer_of, offer_after}
use Rattle.id_match.proofs.KeyedLemmas.{waits-offer_after}
use Rattle.id_step.specs.Fits.{TokenFits, ContinuationFits, ReplyFits, WriteFits}

-- what fits at a stamp fits at a later one
pub TokenFits-later : (g : Parts) (a b : ℕ) (t : Tag) (p : Port) (v : Value) → a ≤ b → TokenFits g a t p v
    → TokenFits g b t p v
TokenFits-later g a b t p v later fits = record {
  kind = fits.kind;
  in_time = omega arith;
  continuation = continuation_later v fits.continuation;
  address = fits.address;
} where
  continuation_later : (v : Value) → ContinuationFits g a t p v → ContinuationFits g b t p v
  continuation_later (value.Continuation u) c = (c.0, c.1, omega (arith, c.2))
  continuation_later value.Signal c = tt
  continuation_later (value.Int n) c = tt
  continuation_later (value.Bool x) c = tt
  continuation_later (value.Structure x) c = tt
  continuation_later (value.Address x) c = tt
  continuation_later (value.Context x) c = tt

pub ReplyFits-later : (g : Parts) (a b : ℕ) (c : Cell) (t : Tag) → a ≤ b → ReplyFits g a c t → ReplyFits g b c t
ReplyFits-later g a b c t later fits = record { merge = fits.merge; in_time = omega (arith, later, fits.in_time) }

pub WriteFits-later : (g : Parts) (a b : ℕ) (c : Cell) (v : Value) (t : Tag) → a ≤ b → WriteFits g a c v t
    → WriteFits g b c v t
WriteFits-later g a b c v t later fits =
    record { cell = fits.cell; kind = fits.kind; store = fits.store; in_time = omega (arith, later, fits.in_time) }

same_port-true : (p q : Port) → same_port p q ≡ true → p ≡ q
same_port-true port.Zero port.Zero e = refl
same_port-true port.Zero port.One e = cc
same_port-true port.One port.Zero e = cc
same_port-true port.One port.One e = refl

-- what is at a place afterwards was there before, or has come there
abbrev Came : Keyed → Tag → Port → Value → Tag → Port → Value → Type 0
Came m t p v u q x = (m u q ≡ Some x) ⊎ ((t ≡ u) × (p ≡ q) × (v ≡ x))

kept_came : (m : Keyed) (t : Tag) (p : Port) (v : Value) (u : Tag) (q : Port) (x : Value) (a b : Bool)
    → same_tag t u ≡ a → same_port p q ≡ b →
    cond (a && b) (Some v) (m u q) ≡ Some x → Came m t p v u q x
kept_came m t p v u q x true true e f is = inr (one_from_same_tag t u e, same_port-true p q f, cc)
kept_came m t p v u q x true false e f is = inl is
kept_came m t p v u q x false b e f is = inl is

left_came : (m : Keyed) (t : Tag) (p : Port) (v : Value) (u : Tag) (q : Port) (x : Value) (c : Bool)
    → cond c None (m u q) ≡ Some x → Came m t p v u q x
left_came m t p v u q x true is = cc
left_came m t p v u q x false is = inl is

answer_came : (m : Keyed) (t : Tag) (p : Port) (v : Value) (a : Offered) (u : Tag) (q : Port) (x : Value)
    → keyed_by_answer m t p v a u q ≡ Some x →
    Came m t p v u q x
answer_came m t p v Kept u q x is = kept_came m t p v u q x (same_tag t u) (same_port p q) refl refl is
answer_came m t p v (Pair y z) u q x is = left_came m t p v u q x (same_tag t u && same_port (other_port p) q) is
answer_came m t p v Taken u q x is = inl is

-- what waits after an offer waited before, or is what was offered
pub offer_came : (s : Store) (t : Tag) (p : Port) (v : Value) (u : Tag) (q : Port) (x : Value)
    → waits (offer_after s t p v) u q ≡ Some x →
    Came (waits s) t p v u q x
offer_came s t p v u q x is =
    answer_came (waits s) t p v (answer_of p v (waits s t p) (waits s t (other_port p))) u q x
    (sym (waits-offer_after s t p v u q) ∙ is)
