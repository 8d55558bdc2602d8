-- The binders so far are noted.
use Rattle.std.proofs.Common.{◌≡◌, length}
use Rattle.std.specs.Prelude.{take}
use Rattle.id_desugar.specs.Gathering.{AreMarked, with_uses}
use Rattle.id_desugar.proofs.imports.note_all.Given as goal

abbrev pub invariant-loop-binder : goal.invariant-loop-binder
invariant-loop-binder l =
    (l.list.items ≡ with_uses l.span.lo l.span.hi l.initial.list.items (take l.binder-index l.binders))
    × (length l.marks.items ≡ length l.initial.marks.items) × AreMarked l.span.mark l.marks.items l.list.items
