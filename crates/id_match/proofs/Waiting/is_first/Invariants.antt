use Rattle.std.proofs.Common.{◌≡◌}
use Rattle.id_match.specs.Frames.{waits_below}
use Rattle.id_match.proofs.Waiting.is_first.Given as goal

-- nothing waits at the instructions looked at so far
abbrev pub invariant-loop-instr : goal.invariant-loop-instr
invariant-loop-instr l = waits_below l.self l.tag l.instr ≡ waits_below l.self l.tag l.tag.instr
