use Rattle.std.proofs.Common.{get_or, sym, ◌∙◌}
use Rattle.std.specs.Prelude.{None}
use Rattle.id_table.specs.Lent.{list_of}
use Rattle.id_check.proofs.ParamsLemmas.{callee_def}
use Rattle.id_check.proofs.typed.Typed.note_call.Goals as goal

pub has_params-requires : goal.has_params-requires
has_params-requires c =
    let t = c.args.self.now in
    callee_def (list_of t.rows.now) (get_or t.binders.now c.args.enter None) c.in-Some.head (sym c.callee.ensures
    ∙ c.in-Some.is)
