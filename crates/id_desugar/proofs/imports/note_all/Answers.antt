-- One more binder is noted.
use Rattle.std.proofs.Common.{◌≡◌, suc, ◌+◌, ap, sym, ◌∙◌, arith, refl}
use Rattle.std.specs.Prelude.{Some, get_or, take}
use Rattle.std.proofs.Common.{take_all}
use Rattle.id_desugar.specs.Gathering.{with_uses}
use Rattle.id_desugar.specs.Regions.{with_use}
use Rattle.id_desugar.proofs.NotesLemmas.{among_at, with_uses-next}
use Rattle.id_desugar.proofs.imports.note_all.Goals as goal

pub loop-binder-init : goal.loop-binder-init
loop-binder-init c = (refl, refl, c.requires.marks)

pub note-requires-clause-marks : goal.note-requires-clause-marks
note-requires-clause-marks c = c.loop-binder.invariant.2

pub note-requires-clause-binder : goal.note-requires-clause-binder
note-requires-clause-binder c =
    let low = c.requires.binders (get_or c.args.binders.now c.loop-binder.binder-index 0)
    (among_at c.args.binders.now c.loop-binder.binder-index c.loop-binder-test.true) in
    omega (arith, low, c.loop-binder.invariant.1)

pub loop-binder-preserved : goal.loop-binder-preserved
loop-binder-preserved c =
    let lo = c.args.span.lo in
    let hi = c.args.span.hi in
    let i = c.loop-binder.binder-index in
    let next : suc i ≡ i + 1 = omega arith in
    let list =
    c.in_ok-note.ensures.list
    ∙ ap (λ z. with_use lo hi z (Some (get_or c.args.binders.now i 0))) c.loop-binder.invariant.0
    ∙ sym (with_uses-next lo hi c.args.list.now.items c.args.binders.now i c.loop-binder-test.true)
    ∙ ap (λ n. with_uses lo hi c.args.list.now.items (take n c.args.binders.now)) next in
    (list, c.in_ok-note.ensures.long ∙ c.loop-binder.invariant.1, c.in_ok-note.ensures.marks)

pub returns-clause-list : goal.returns-clause-list
returns-clause-list c = c.loop-binder.invariant.0
    ∙ ap (with_uses c.args.span.lo c.args.span.hi c.args.list.now.items)
    (take_all c.loop-binder.binder-index c.args.binders.now c.loop-binder-test.false)

pub returns-clause-marks : goal.returns-clause-marks
returns-clause-marks c = c.loop-binder.invariant.2
