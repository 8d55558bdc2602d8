use Rattle.std.proofs.Common.{ap, ◌∙◌}
use Rattle.id_grammar.specs.Tree.{params_tree, tree_of}
use Rattle.id_table.specs.Rows.{add}
use Rattle.id_table.specs.Making.{parts}
use Rattle.id_table.proofs.MakingLemmas.{define_row, done_as}
use Rattle.id_table.proofs.walk.add_def.Goals as goal

pub returns : goal.returns
returns c =
    let s = c.in_ok-stand.stand in
    let H = parts c.begin_def.new.self in
    let d = c.args.def.now in
    done_as c.end_def.result (parts c.end_def.new.self) _ _
    (define_row s (parts c.args.maker.now) H (parts c.add_params.new.self) (parts c.add_expr.new.maker) d.name (params_tree d.params) (tree_of d.body)
    d.result d.place c.in_ok-body.body c.in_ok-stand.ensures.stand c.in_ok-stand.ensures.added
    (c.in_ok-add_params.ensures ∙ ap (λ ps. add s H (params_tree ps)) c.as_slice.ensures) c.in_ok-body.ensures)
    c.end_def.ensures
