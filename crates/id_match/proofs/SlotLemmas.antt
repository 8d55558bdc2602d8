-- Lemmas on what an offer of a token does to the slots of its pair.
use Rattle.std.proofs.Common.{◌≡◌, false, Option, Some, None, IsSome, refl, sym, ◌∙◌, ap}
use Rattle.std.specs.Option.{option_or}
use Rattle.id_instr.specs.declared.dests.Port.{Port}
use Rattle.id_instr.specs.declared.dests.Port.TheVariants.{Zero, One}
use Rattle.id_tag.specs.declared.Tag.{Tag}
use Rattle.id_tag.specs.declared.Value.{Value}
use Rattle.id_tag.specs.declared.plain.Plain.{Plain}
use Rattle.id_tag.specs.Plains.{whole}
use Rattle.id_match.specs.declared.front.Pair.{Pair}
use Rattle.id_match.specs.declared.front.Slot.{Slot}
use Rattle.id_match.specs.declared.meeting.Half.{Half}
use Rattle.id_match.specs.declared.meeting.Offered.TheVariants.{Kept}
use Rattle.id_match.specs.Front.{IsSingle, MeetsIn, held, pair_half, slot_half, slot_tag}
use Rattle.id_match.specs.Ports.{other_port, same_port}
use Rattle.id_match.specs.Waiting.{pair_of}
use Rattle.id_match.proofs.CallLemmas.{paired}
use Rattle.id_match.proofs.FrontLemmas.{gone, half_none, held_none, meet_first, meet_put, meet_second, put_first, put_second, some_of}

apart_from_other : (p : Port) → same_port (other_port p) p ≡ false
apart_from_other Zero = refl
apart_from_other One = refl

none_not_some : (o : Option Half) → o ≡ None → IsSome o → ⊥
none_not_some None e some = cc
none_not_some (Some h) e some = cc

none_by : (p : Pair) (t : Tag) (o : Option Half) → held p.first t ≡ o → IsSingle p → IsSome (held p.second t) → held p.first t ≡ None
none_by p t None e single some = e
none_by p t (Some h) e single some = absurd (none_not_some _ (single t (some_of _ h e)) some)

module _ (p : Pair) (t : Tag) (port : Port) (v : Value) (x : Slot) where
  -- the partner leaves the first slot, or the second
  module _ (out : Plain) (empty : slot_half x ≡ None) (single : IsSingle p) where
    pub partner_first : held p.first t ≡ Some (record { port = other_port port; value = whole p.first.value }) → out ≡ p.first.value
        → MeetsIn p (record { first = x; second = p.second }) t port v (pair_of port v (whole out))
    partner_first is own =
        let h : Half = record { port = other_port port; value = whole p.first.value } in
        meet_first p t port v x _ single (some_of _ h is)
        (ap (λ q. pair_of port v (whole q)) own ∙ sym (paired _ h port v is (apart_from_other port)))
        (gone _ h port v is (apart_from_other port)) empty

    pub partner_second : held p.second t ≡ Some (record { port = other_port port; value = whole p.second.value }) → out ≡ p.second.value
        → MeetsIn p (record { first = p.first; second = x }) t port v (pair_of port v (whole out))
    partner_second is own =
        let h : Half = record { port = other_port port; value = whole p.second.value } in
        meet_second p t port v x _ (none_by p t _ refl single (some_of _ h is)) (some_of _ h is)
        (ap (λ q. pair_of port v (whole q)) own ∙ sym (paired _ h port v is (apart_from_other port)))
        (gone _ h port v is (apart_from_other port)) empty

  -- the value comes into the first slot, or into the second
  module _ (own : slot_tag x ≡ t) (half : slot_half x ≡ Some (record { port = port; value = v })) where
    pub kept_first : slot_half p.first ≡ None → held p.second t ≡ None → MeetsIn p (record { first = x; second = p.second }) t port v Kept
    kept_first empty other = meet_put p t port v (record { first = x; second = p.second }) x own half (half_none p t (held_none p.first empty t) other)
        (λ none. put_first p x x empty refl refl none)

    pub kept_second : slot_half p.second ≡ None → held p.first t ≡ None → MeetsIn p (record { first = p.first; second = x }) t port v Kept
    kept_second empty other = meet_put p t port v (record { first = p.first; second = x }) x own half (half_none p t other (held_none p.second empty t))
        (λ none. put_second p x empty none)

some_first : (a b : Option Half) (h : Half) → a ≡ Some h → IsSome (option_or a b)
some_first None b h e = cc
some_first (Some g) b h e = refl

some_second : (a b : Option Half) (h : Half) → b ≡ Some h → IsSome (option_or a b)
some_second None b h e = some_of b h e
some_second (Some g) b h e = refl

-- the pair keeps what one of its slots does
pub found_first : (p : Pair) (t : Tag) (h : Half) → held p.first t ≡ Some h → IsSome (pair_half p t)
found_first p t h is = some_first _ _ h is

pub found_second : (p : Pair) (t : Tag) (h : Half) → held p.second t ≡ Some h → IsSome (pair_half p t)
found_second p t h is = some_second _ _ h is
