-- the slot is that of the value
use Rattle.std.proofs.Common.{◌≡◌, None, Some, subst}
use Rattle.std.specs.FinMap.{entries}
use Rattle.std.specs.Map.{lookup}
use Rattle.id_tag.specs.Tags.{same_tag}
use Rattle.id_match.specs.Front.{Puts, front_half, slot_tag}
use Rattle.id_match.proofs.put_value_before.Goals as goal

pub returns-in-Some-clause-apart : goal.returns-in-Some-clause-apart
returns-in-Some-clause-apart c = λ marked put.
    subst (λ t. lookup (same_tag t) (entries c.args.rear.now) ≡ None) c.in-Some.ensures.0 (c.put_before.ensures.apart marked put)

pub returns-in-Some-clause-free : goal.returns-in-Some-clause-free
returns-in-Some-clause-free c = λ put.
    subst (λ t. front_half c.args.front.now.items t ≡ None) c.in-Some.ensures.0 (c.put_before.ensures.free put)

pub returns-in-Some-clause-put : goal.returns-in-Some-clause-put
returns-in-Some-clause-put c = λ put.
    let f = c.args.front.now.items in
    let m = c.put_before.new.front.items in
    subst (λ t. Puts f m t (Some (record { port = c.args.port; value = c.args.value }))) c.in-Some.ensures.0
    (subst (Puts f m (slot_tag c.in-Some.slot)) c.in-Some.ensures.1 (c.put_before.ensures.put put))
