use Rattle.std.proofs.Common.{get_or, sym, ◌∙◌}
use Rattle.std.specs.Prelude.{None}
use Rattle.id_table.specs.Lent.{list_of}
use Rattle.id_check.proofs.ParamsLemmas.{callee_def}
use Rattle.id_check.proofs.typed.Typed.note_argument.Goals as goal

pub is_count-requires : goal.is_count-requires
is_count-requires c =
    let t = c.args.self.now in
    callee_def (list_of t.rows.now) (get_or t.binders.now c.args.enter None) c.in-Some.head (sym c.callee.ensures
    ∙ c.in-Some.is)
