-- One more empty list.
use Rattle.std.proofs.Common.{◌≡◌, ◌+◌, ◌∙◌, ◌∷◌, ◌++◌, ap, arith, length, get_or, []}
use Rattle.std.proofs.lemmas.List.{length_push}
use Rattle.id_desugar.proofs.FilledLemmas.{none_more}
use Rattle.id_desugar.proofs.imports.none_yet.Goals as goal

pub loop-row-init : goal.loop-row-init
loop-row-init c = (ap length c.in_ok-lists.ensures.items, λ h. ap (λ xs. get_or xs h []) c.in_ok-lists.ensures.items)

pub loop-row-preserved : goal.loop-row-preserved
loop-row-preserved c =
    let old = c.loop-row.lists.items in
    let new : c.push.new.self.items ≡ old ++ [] ∷ [] =
    c.in_ok-push.ensures.items ∙ ap (λ xs. old ++ xs ∷ []) c.none.ensures in (
      ap length new ∙ length_push old [] ∙ ap (λ n. n + 1) c.loop-row.invariant.0,
      λ h. ap (λ xs. get_or xs h []) new ∙ none_more old c.loop-row.invariant.1 h,
    )

pub returns : goal.returns
returns c =
    let end : c.loop-row._row ≡ c.args.count = omega (arith, c.loop-row-test.false, c.loop-row.auto._row-end) in
    (c.loop-row.invariant.0 ∙ end, c.loop-row.invariant.1)
