-- Facts are found one after another.
use Rattle.std.proofs.Common.{◌≡◌, ◌+◌, ◌<◌, ◌++◌, suc, length, ap, sym, ◌∙◌, arith}
use Rattle.id_facts.specs.Cells.{items}
use Rattle.id_facts.specs.RowFacts.{fact_at}
use Rattle.id_why.specs.Known.{known_facts}
use Rattle.id_why.proofs.IndexLemmas.{index-all, index-more, index-none}
use Rattle.id_why.proofs.known.Known.new.Goals as goal

pub loop-number-init : goal.loop-number-init
loop-number-init c =
    let same =
    c.in_ok-add_all.ensures.items ∙ ap (λ fs. fs ++ c.as_slice.result.now) c.in_ok-cells.ensures.none
    ∙ c.as_slice.ensures in
    record {
      facts = same;
      indexed =
          index-none c.args.checked.now _ c.len.result (c.in_ok-add_all.ensures.chained c.in_ok-cells.ensures.chained)
          c.in_ok-new.ensures
          c.in_ok-new-2.ensures (c.len.ensures ∙ ap length (sym same)) c.new-4.ensures.items;
    }

pub loop-number-preserved : goal.loop-number-preserved
loop-number-preserved c =
    let n = c.loop-number.number in
    let next : n + 1 ≡ suc n = omega arith in
    let same = c.loop-number.invariant.facts in
    let long = ap length same in
    let within : n < length (known_facts c.loop-number.known) =
    (let l = c.loop-number-test.true in let q = c.len-number-end.ensures in omega arith) in
    record {
      facts = ap items c.in_ok-add.ensures.cells ∙ same;
      indexed = index-more c.args.checked.now c.loop-number.known c.add.new.self n (n + 1) c.fact.result next within
          (c.fact.ensures.is ∙ ap (λ fs. fact_at fs n) (sym same)) c.loop-number.invariant.indexed c.in_ok-add.ensures;
    }
