-- The next stamp is one more than the larger of two, neither of which is the last.
use Rattle.std.proofs.Common.{arith, ◌≡◌, Some, slice_get, refl}
use Rattle.std.proofs.lemmas.Option.{slice_get_read}
use Rattle.std.specs.Prelude.{length}
use Rattle.id_judge.proofs.StampsLemmas.{room, next_of, next_of_other}
use Rattle.id_judge.proofs.lines.advance.Goals as goal
use Rattle.id_judge.proofs.lines.advance.Goals.{then-last-stamp, else-last-stamp, After-index-last}

read : (c : After-index-last) → slice_get c.args.stamps.now.items c.args.number ≡ Some c.index-last.result.now
read c = slice_get_read c.args.stamps.now.items (length c.args.stamps.now.items) c.args.number c.index-last.result.now
    refl c.requires.there c.index-last.ensures

pub overflow_add-next : goal.overflow_add-next
overflow_add-next c =
    let h = c.requires.left c.index-last.result.now (read (goal.at.overflow_add-next c).After-index-last) in
    let r = room c.index-last.result.now c.args.stamp h (omega (arith, c.type_inv.last))
    (omega (arith, c.ranges.stamp)) in omega (arith, r.1)

pub overflow_add-next-else-last-stamp : goal.overflow_add-next-else-last-stamp
overflow_add-next-else-last-stamp c =
    let h = c.requires.left c.index-last.result.now
    (read (goal.at.overflow_add-next-else-last-stamp c).After-index-last) in
    let r = room c.index-last.result.now c.args.stamp h (omega (arith, c.type_inv.last))
    (omega (arith, c.ranges.stamp)) in omega (arith, r.0)

pub returns-clause-next : goal.returns-clause-next
returns-clause-next c = λ s at. elim c.if-last-stamp.branch [
  | then-last-stamp w ↦ next_of c.args.stamps.now.items c.args.number s c.index-last.result.now c.args.stamp
      c.if-last-stamp.next at
      (read (goal.at.returns-clause-next c).After-index-last) w.if-last-stamp.true w.next-is
  | else-last-stamp w ↦ next_of_other c.args.stamps.now.items c.args.number s c.index-last.result.now c.args.stamp
      c.if-last-stamp.next at
      (read (goal.at.returns-clause-next c).After-index-last) w.if-last-stamp.false w.next-is
]
