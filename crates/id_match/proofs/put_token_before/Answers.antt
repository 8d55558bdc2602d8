-- the slot is that of the token
use Rattle.std.proofs.Common.{◌≡◌, None, Some, subst}
use Rattle.std.specs.FinMap.{entries}
use Rattle.std.specs.Map.{lookup}
use Rattle.id_tag.specs.Plains.{whole}
use Rattle.id_tag.specs.Tags.{same_tag}
use Rattle.id_match.specs.Front.{Puts, front_half, slot_tag}
use Rattle.id_match.proofs.put_token_before.Goals as goal

pub returns-then-has_room-clause-apart : goal.returns-then-has_room-clause-apart
returns-then-has_room-clause-apart c = λ marked put.
    subst (λ t. lookup (same_tag t) (entries c.args.rear.now) ≡ None) c.slot_in.ensures.tag (c.put_before.ensures.apart marked put)

pub returns-then-has_room-clause-free : goal.returns-then-has_room-clause-free
returns-then-has_room-clause-free c = λ put.
    subst (λ t. front_half c.args.front.now.items t ≡ None) c.slot_in.ensures.tag (c.put_before.ensures.free put)

pub returns-then-has_room-clause-put : goal.returns-then-has_room-clause-put
returns-then-has_room-clause-put c = λ put.
    let f = c.args.front.now.items in
    let m = c.put_before.new.front.items in
    subst (λ t. Puts f m t (Some (record { port = c.args.token.now.port; value = whole c.args.token.now.value }))) c.slot_in.ensures.tag
    (subst (Puts f m (slot_tag c.slot_in.result)) c.slot_in.ensures.half (c.put_before.ensures.put put))
