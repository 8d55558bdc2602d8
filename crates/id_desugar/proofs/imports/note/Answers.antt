-- A binder is noted with its mark.
use Rattle.std.proofs.Common.{sym, subst, slice_set}
use Rattle.id_desugar.specs.Gathering.{AreMarked}
use Rattle.id_desugar.proofs.NotesLemmas.{AreMarked-noted}
use Rattle.id_desugar.proofs.imports.note.Goals as goal

pub returns-in_ok-push-clause-marks : goal.returns-in_ok-push-clause-marks
returns-in_ok-push-clause-marks c =
    let s = c.args.span.mark in
    subst (AreMarked s (slice_set c.args.marks.now.items c.args.binder s)) (sym c.in_ok-push.ensures.items)
    (AreMarked-noted s c.args.binder c.args.marks.now.items c.args.list.now.items c.requires.marks c.requires.binder)

pub returns-else-is_outside-clause-marks : goal.returns-else-is_outside-clause-marks
returns-else-is_outside-clause-marks c = c.requires.marks
