use Rattle.std.proofs.Common.{sym, subst, add-one}
use Rattle.id_table.specs.Rows.{at}
use Rattle.id_check.specs.Causes.{causes_below, causes_in}
use Rattle.id_check.specs.Firsts.{Notes}
use Rattle.id_check.specs.Scopes.{user_of}
use Rattle.id_check.proofs.FirstsLemmas.{Notes-append}
use Rattle.id_check.specs.Typed.{binder, kind, rows}
use Rattle.id_check.proofs.typed.Typed.note_rows.Goals as goal

pub loop-i-preserved : goal.loop-i-preserved
loop-i-preserved c =
    let t = c.args.self.now in
    let R = rows t in
    let i = c.loop-i.i in
    subst (λ n. Notes c.args.first.now (causes_below R (binder t) (kind t) n) c.note_row.new.first) (sym (add-one i))
    (Notes-append c.args.first.now c.loop-i.first c.note_row.new.first (causes_below R (binder t) (kind t) i)
    (causes_in R (kind t) (binder t (user_of i (at R i).node)) (at R i).place (at R i).node) c.loop-i.invariant
    c.note_row.ensures)
