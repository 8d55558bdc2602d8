use Rattle.std.proofs.Common.{ap, ◌∙◌}
use Rattle.id_grammar.specs.Tree.{def_tree, defs_tree}
use Rattle.id_table.specs.Rows.{add, in_top}
use Rattle.id_table.specs.Making.{parts}
use Rattle.id_table.proofs.MakingLemmas.{def_step}
use Rattle.id_table.proofs.walk.add_defs.Goals as goal

pub loop-def-preserved : goal.loop-def-preserved
loop-def-preserved c =
    let T = parts c.loop-def.maker in
    let xs = c.args.defs.now in
    def_step c.loop-def.def-index T (parts c.add_def.new.maker) (add (in_top 0) (parts c.args.maker.now) (defs_tree xs)) xs c.def-item.result
    c.loop-def-test.true (c.in_ok-add_def.ensures ∙ ap (λ x. add (in_top 0) T (def_tree x)) c.def-item.is) c.loop-def.invariant
