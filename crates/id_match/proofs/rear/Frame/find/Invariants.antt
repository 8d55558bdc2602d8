use Rattle.std.proofs.Common.{◌≡◌, nat_eq, drop}
use Rattle.std.specs.Map.{lookup}
use Rattle.id_match.proofs.rear.Frame.find.Given as goal

-- no value of the instruction stood so far
abbrev pub invariant-loop-i : goal.invariant-loop-i
invariant-loop-i l = lookup (nat_eq l.instr) (drop l.i l.self.halves.items) ≡ lookup (nat_eq l.instr) l.self.halves.items
