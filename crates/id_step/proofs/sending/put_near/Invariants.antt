-- The destinations so far have their tokens, in order, and there is room for the rest.
use Rattle.std.proofs.Common.{◌≡◌, ◌+◌, ◌++◌, length, map, take}
use Rattle.id_tag.specs.Plains.{tag_in, whole}
use Rattle.id_record.specs.Sends.{numbered, token_to}
use Rattle.id_step.proofs.sending.put_near.Given as goal

abbrev pub invariant-loop-number : goal.invariant-loop-number
invariant-loop-number l =
    (l.fn.near.room ≡ l.near.room + l.number)
    × (l.near.messages ≡ l.fn.near.messages ++ numbered l.mark.sender l.mark.position l.mark.stamp 0
    (map (token_to (tag_in l.token) (whole l.value)) (take l.number l.dests)))
    × (length l.near.messages ≡ length l.fn.near.messages + l.number)
