use Rattle.std.proofs.Common.{◌≡◌, drop}
use Rattle.id_judge.specs.Lines.{behind}
use Rattle.id_judge.proofs.line.behind.Given as goal

-- no space stands before the place
abbrev pub invariant-loop-at : goal.invariant-loop-at
invariant-loop-at l = behind (drop l.at l.text) ≡ behind l.text
