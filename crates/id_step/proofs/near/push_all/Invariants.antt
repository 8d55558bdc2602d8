-- The tokens so far stand at the end of the list, and there is room for the rest.
use Rattle.std.proofs.Common.{◌≡◌, ◌≤◌, ◌+◌, ◌++◌, map, take}
use Rattle.id_tag.specs.Plains.{message_of}
use Rattle.id_step.proofs.near.push_all.Given as goal

abbrev pub invariant-loop-token : goal.invariant-loop-token
invariant-loop-token l =
    (l.list.messages ≡ l.fn.list.messages ++ map message_of (take l.token-index l.tokens))
    × (l.fn.list.room ≤ l.list.room + l.token-index)
