use Rattle.id_check.specs.Causes.{causes_below}
use Rattle.id_check.specs.Firsts.{Notes}
use Rattle.id_check.specs.Typed.{binder, kind, rows}
use Rattle.id_check.proofs.typed.Typed.note_rows.Given as goal

abbrev pub invariant-loop-i : goal.invariant-loop-i
invariant-loop-i l = Notes l.initial.first (causes_below (rows l.self) (binder l.self) (kind l.self) l.i) l.first
