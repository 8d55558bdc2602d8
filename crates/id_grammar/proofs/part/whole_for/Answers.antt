-- The row of a `for`'s statements, read as their list.
use Rattle.std.proofs.Common.{rules, ap, ◌∙◌}
use Rattle.id_grammar.specs.Tree.{tree_of, for_loop, none}
use Rattle.id_grammar.specs.Readers.{onto}
use Rattle.id_grammar.proofs.StatementLemmas.{tree-for}
use Rattle.id_grammar.proofs.part.whole_for.Goals as goal

pub returns : goal.returns
returns c =
    let i = c.args.index in
    let p = c.args.place in
    let f = c.into_for.ensures in (
      search rules,
      tree-for p c.in_ok-inside.inside
          ∙ ap (λ b. for_loop b.name b.index (tree_of b.low) (tree_of b.high) (onto b.statements.items none) (tree_of b.last) p) c.in_ok-inside.ensures.ok
          ∙ rw (f.name, f.index, f.low, f.high, f.statements, f.last)
          (ap (λ ss. for_loop i.name i.place (tree_of i.low) (tree_of i.high) (onto ss none) (tree_of c.into_expr-last.result) p)
          (c.fitted-statements.ensures ∙ ap (λ v. v.items) c.into_list.ensures)
          ∙ ap (λ e. for_loop i.name i.place (tree_of i.low) (tree_of i.high) (onto c.args.statements.list.items none) (tree_of e) p) c.into_expr-last.ensures),
    )
