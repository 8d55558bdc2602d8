-- The facts are those that follow from none.
use Rattle.std.proofs.Common.{◌∙◌, ap, arith}
use Rattle.id_source.specs.Sources.{source}
use Rattle.id_facts.specs.RowFacts.{all_learnt}
use Rattle.id_facts.specs.Firsts.{first_facts}
use Rattle.id_meaning.proofs.RunLemmas.{first-more, stop-memory}
use Rattle.id_source.proofs.TurnsLemmas.{on_ok}
use Rattle.id_meaning.proofs.run.learn_first.Goals as goal

pub returns-in_err-first-clause-first : goal.returns-in_err-first-clause-first
returns-in_err-first-clause-first c = on_ok _ c.from_residual.result c.from_residual.ensures.0

pub returns-in_err-first-clause-stop : goal.returns-in_err-first-clause-stop
returns-in_err-first-clause-stop c =
    stop-memory (source c.args.checked.now c.args.inputs.now) 1 c.from_residual.result c.from_residual.ensures.1

pub returns-in_err-learn_all-clause-first : goal.returns-in_err-learn_all-clause-first
returns-in_err-learn_all-clause-first c = on_ok _ c.from_residual-in_err-learn_all.result
    c.from_residual-in_err-learn_all.ensures.0

pub returns-in_err-learn_all-clause-stop : goal.returns-in_err-learn_all-clause-stop
returns-in_err-learn_all-clause-stop c =
    stop-memory (source c.args.checked.now c.args.inputs.now) 1 c.from_residual-in_err-learn_all.result
    c.from_residual-in_err-learn_all.ensures.1

pub returns-then-len-gt-MAX_FACTS-clause-stop : goal.returns-then-len-gt-MAX_FACTS-clause-stop
returns-then-len-gt-MAX_FACTS-clause-stop c =
    first-more (source c.args.checked.now c.args.inputs.now) c.learn_all.new.self
    (c.in_ok-learn_all.ensures ∙ ap (λ y. all_learnt c.args.facts.now y) (c.as_slice.ensures.value ∙
    c.in_ok-first.ensures)
    ∙ ap (λ y. all_learnt y (first_facts c.args.checked.now c.args.inputs.now)) c.requires)
    (omega arith)

pub returns-clause-first : goal.returns-clause-first
returns-clause-first c = record {
  facts =
      c.in_ok-learn_all.ensures ∙ ap (λ y. all_learnt c.args.facts.now y) (c.as_slice.ensures.value ∙
      c.in_ok-first.ensures)
      ∙ ap (λ y. all_learnt y (first_facts c.args.checked.now c.args.inputs.now)) c.requires;
  few = omega arith;
}
