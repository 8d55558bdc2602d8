-- The row of a loop's statements, read as their list.
use Rattle.std.proofs.Common.{rules, ap, ◌∙◌}
use Rattle.id_grammar.specs.Tree.{tree_of, loop, none}
use Rattle.id_grammar.specs.Readers.{onto}
use Rattle.id_grammar.proofs.StatementLemmas.{tree-loop}
use Rattle.id_grammar.proofs.part.whole_loop.Goals as goal

pub returns : goal.returns
returns c = (
  search rules,
  tree-loop c.args.place c.in_ok-inside.inside
      ∙ ap (λ b. loop (tree_of b.test) (onto b.statements.items none) (tree_of b.last) c.args.place) c.in_ok-inside.ensures.ok
      ∙ ap (λ ss. loop (tree_of c.into_expr-test.result) (onto ss none) (tree_of c.into_expr-last.result) c.args.place)
      (c.fitted-statements.ensures ∙ ap (λ v. v.items) c.into_list.ensures)
      ∙ ap (λ t. loop (tree_of t) (onto c.args.statements.list.items none) (tree_of c.into_expr-last.result) c.args.place) c.into_expr-test.ensures
      ∙ ap (λ e. loop (tree_of c.args.test.expr) (onto c.args.statements.list.items none) (tree_of e) c.args.place) c.into_expr-last.ensures,
)
