-- The row of a call's arguments, read as their list.
use Rattle.std.proofs.Common.{rules, ap, ◌∙◌}
use Rattle.id_grammar.specs.Tree.{call, none}
use Rattle.id_grammar.specs.Readers.{passed}
use Rattle.id_grammar.proofs.StatementLemmas.{tree-call}
use Rattle.id_grammar.proofs.part.call.Goals as goal

pub returns : goal.returns
returns c = (
  search rules,
  tree-call c.args.place c.in_ok-inside.inside
      ∙ ap (λ b. call b.name (passed b.args.items none) c.args.place) c.in_ok-inside.ensures.ok
      ∙ ap (λ es. call c.args.name (passed es none) c.args.place) (c.fitted-args.ensures ∙ ap (λ v. v.items) c.into_list.ensures),
)
