-- The destinations so far have their tokens, in order, and there is room for the rest.
use Rattle.std.proofs.Common.{◌≡◌, ◌≤◌, ◌+◌, ◌++◌, map, take}
use Rattle.id_record.specs.Sends.{numbered, token_to}
use Rattle.id_step.proofs.outcome.send_all.Given as goal

abbrev pub invariant-loop-number : goal.invariant-loop-number
invariant-loop-number l =
    (l.fn.outputs.room ≤ l.outputs.room + l.number)
    × (l.outputs.messages ≡ l.fn.outputs.messages ++ numbered l.envelope.number l.envelope.position l.envelope.stamp 0
    (map (token_to l.tag l.value) (take l.number l.dests)))
