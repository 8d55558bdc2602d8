-- Lemmas on what a call on the front's pair comes to.
use Rattle.std.proofs.Common.{◌≡◌, ℕ, ◌<◌, Bool, true, false, cond, nat_eq, List, length, get_or, set, Option, Some, None, is_some}
use Rattle.std.proofs.Common.{refl, sym, ◌∙◌, ap, subst}
use Rattle.std.proofs.lemmas.List.{length-set, get_or-set_same, get_or-set_other, set-get_or}
use denote.Enum.Bare.{sameb}
use Rattle.id_instr.specs.contracts.dests.Port.{the_type}
use Rattle.id_instr.specs.declared.dests.Port.{Port}
use Rattle.id_instr.specs.declared.dests.Port.TheVariants.{Zero, One}
use Rattle.id_tag.specs.declared.Tag.{Tag}
use Rattle.id_tag.specs.declared.Value.{Value}
use Rattle.id_match.specs.Ports.{same_port}
use Rattle.id_match.specs.declared.front.Pair.{Pair}
use Rattle.id_match.specs.Front.{mark_at, pair_half, empty_pair, place, front_half, MarksSame, Meets, MeetsIn, Puts, PutsIn}
use Rattle.id_match.specs.Halves.{answer_at, half_after}
use Rattle.id_match.specs.Waiting.{pair_of}
use Rattle.id_match.specs.declared.meeting.Half.{Half}
use Rattle.id_match.specs.declared.meeting.Offered.{Offered}
use Rattle.id_match.specs.declared.meeting.Offered.TheVariants.{Taken}
use Rattle.id_match.proofs.FrontLemmas.{numbers_one, numbers_apart, get_or_any, gone, none_from_test, puts_same, puts_set}

-- the pair that is read at a place
pub read_at : (f : List Pair) (at : ℕ) (p : Pair) → at < length f → p ≡ get_or f at p → get_or f at empty_pair ≡ p
read_at f at p inside is = get_or_any f at empty_pair p inside ∙ sym is

-- two ports that a test tells apart
pub apart_ports : (p q : Port) → sameb the_type p q ≡ false → same_port p q ≡ false
apart_ports Zero Zero e = e
apart_ports Zero One e = refl
apart_ports One Zero e = refl
apart_ports One One e = e

-- or finds to be one
pub one_port : (p q : Port) → sameb the_type p q ≡ true → same_port p q ≡ true
one_port Zero Zero e = refl
one_port Zero One e = e
one_port One Zero e = e
one_port One One e = refl

-- a front that is told to keep nothing under a tag
pub free_from_test : (f g : List Pair) (t u : Tag) → g ≡ f → u ≡ t → is_some (front_half g u) ≡ false → front_half f t ≡ None
free_from_test f g t u same own e = subst (λ k. front_half k t ≡ None) same (subst (λ w. front_half g w ≡ None) own (none_from_test _ e))

-- ---- an answer

pub taken : (o : Option Half) (h : Half) (p : Port) (v : Value) → o ≡ Some h → same_port h.port p ≡ true → answer_at o p v ≡ Taken
taken o h p v e same = ap (λ q. answer_at q p v) e ∙ ap (λ b. cond b Taken (pair_of p v h.value)) same

pub stays : (o : Option Half) (h : Half) (p : Port) (v : Value) → o ≡ Some h → same_port h.port p ≡ true → half_after o p v ≡ o
stays o h p v e same = ap (λ q. half_after q p v) e ∙ ap (λ b. cond b (Some h) None) same ∙ sym e

pub paired : (o : Option Half) (h : Half) (p : Port) (v : Value) → o ≡ Some h → same_port h.port p ≡ false → answer_at o p v ≡ pair_of p v h.value
paired o h p v e apart = ap (λ q. answer_at q p v) e ∙ ap (λ b. cond b Taken (pair_of p v h.value)) apart

module _ (f : List Pair) (t : Tag) (some : 0 < length f) (at : ℕ) (there : at ≡ place t (length f)) (p : Pair) (is : get_or f at empty_pair ≡ p)
    (q : Pair) where
  at_place : get_or f (place t (length f)) empty_pair ≡ p
  at_place = ap (λ k. get_or f k empty_pair) (sym there) ∙ is

  pub here_is : front_half f t ≡ pair_half p t
  here_is = ap (λ x. pair_half x t) at_place

  -- the front has what comes to its pair
  pub puts_here : (o : Option Half) → PutsIn p q t o → Puts f (set f at q) t o
  puts_here o puts =
      subst (λ k. Puts f (set f k q) t o) (sym there) (puts_set f t q o some (subst (λ x. PutsIn x q t o) (sym at_place) puts))

  pub meets_here : (port : Port) (v : Value) (a : Offered) → MeetsIn p q t port v a → Meets f (set f at q) t port v a
  meets_here port v a meets = record {
    answer = meets.answer ∙ ap (λ o. answer_at o port v) (sym here_is);
    after = subst (λ o. Puts f (set f at q) t (half_after o port v)) (sym here_is) (puts_here _ meets.after);
  }

-- the partner leaves its pair
pub partner_leaves : (p q : Pair) (t : Tag) (h : Half) (port : Port) (v : Value) → pair_half p t ≡ Some h → same_port h.port port ≡ false
    → PutsIn p q t None → (a : Offered) → a ≡ pair_of port v h.value → MeetsIn p q t port v a
partner_leaves p q t h port v is apart puts a answer = record {
  answer = answer ∙ sym (paired (pair_half p t) h port v is apart);
  after = subst (PutsIn p q t) (sym (gone (pair_half p t) h port v is apart)) puts;
}

-- the tag has a value at its port already
pub taken_here : (f : List Pair) (t : Tag) (h : Half) (port : Port) (v : Value) → front_half f t ≡ Some h → same_port h.port port ≡ true
    → Meets f f t port v Taken
taken_here f t h port v found same = record {
  answer = sym (taken (front_half f t) h port v found same);
  after = puts_same f t (half_after (front_half f t) port v) (sym (stays (front_half f t) h port v found same));
}

-- ---- a pair that is written

module _ (f : List Pair) (at : ℕ) (within : at < length f) (p : Pair) (is : get_or f at empty_pair ≡ p) (q : Pair) where
  marks_by : (u : Tag) → q.first.behind ≡ p.first.behind → (b : Bool) → nat_eq (place u (length f)) at ≡ b
      → (get_or (set f at q) (place u (length f)) empty_pair).first.behind ≡ mark_at f u
  marks_by u mark true e =
      let one : place u (length f) ≡ at = numbers_one _ _ e in
      ap (λ k. (get_or (set f at q) k empty_pair).first.behind) one ∙ ap (λ x. x.first.behind) (get_or-set_same f at q empty_pair within) ∙ mark
      ∙ ap (λ x. x.first.behind) (sym is) ∙ ap (λ k. (get_or f k empty_pair).first.behind) (sym one)
  marks_by u mark false e = ap (λ x. x.first.behind) (get_or-set_other f at (place u (length f)) q empty_pair (numbers_apart _ _ e))

  -- a pair is written that tells the same, or that is the same
  pub same_marks : q.first.behind ≡ p.first.behind → MarksSame f (set f at q)
  same_marks mark = record {
    len = length-set f at q;
    at = λ u.
        ap (λ n. (get_or (set f at q) (place u n) empty_pair).first.behind) (length-set f at q)
        ∙ marks_by u mark (nat_eq (place u (length f)) at) refl;
  }

  pub same_front : q ≡ p → set f at q ≡ f
  same_front same = ap (set f at) (same ∙ sym is) ∙ set-get_or f at empty_pair
