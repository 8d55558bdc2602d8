-- The row of a block's statements, read as their list.
use Rattle.std.proofs.Common.{rules, ap, ◌∙◌}
use Rattle.id_grammar.specs.Tree.{tree_of, block, none}
use Rattle.id_grammar.specs.Readers.{onto}
use Rattle.id_grammar.proofs.StatementLemmas.{tree-block}
use Rattle.id_grammar.proofs.part.block.Goals as goal

pub returns : goal.returns
returns c = (
  search rules,
  tree-block c.args.place c.in_ok-inside.inside
      ∙ ap (λ b. block (onto b.statements.items none) (tree_of b.body) c.args.place) c.in_ok-inside.ensures.ok
      ∙ ap (λ ss. block (onto ss none) (tree_of c.into_expr-body.result) c.args.place) (c.fitted-statements.ensures ∙ ap (λ v. v.items) c.into_list.ensures)
      ∙ ap (λ e. block (onto c.args.statements.list.items none) (tree_of e) c.args.place) c.into_expr-body.ensures,
)
