use Rattle.std.proofs.Common.{◌-◌, ◌≤◌, length}
use Rattle.id_text.proofs.LexesLemmas.{IsReadTo}
use Rattle.id_text.proofs.lexer.read_all.Given as goal

abbrev pub invariant-loop-at : goal.invariant-loop-at
invariant-loop-at l = record { within : l.at ≤ length l.text; read : IsReadTo l.text l.at l.tokens.items }

abbrev pub decreases-loop-at : goal.decreases-loop-at
decreases-loop-at l = length l.initial.text - l.at
