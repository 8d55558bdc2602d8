use Rattle.std.proofs.Common.{◌≡◌, take}
use Rattle.id_judge.proofs.given.are_sent.Given as goal

-- the first messages are the same
abbrev pub invariant-loop-number : goal.invariant-loop-number
invariant-loop-number l = take l.number l.outputs ≡ take l.number l.messages
