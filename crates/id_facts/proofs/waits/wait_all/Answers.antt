-- What one fact more lets wait.
use Rattle.std.proofs.Common.{◌≡◌, ◌+◌, suc, refl, arith}
use Rattle.id_facts.specs.Cells.{items}
use Rattle.id_facts.proofs.WaitsLemmas.{so-end, so-step}
use Rattle.id_facts.proofs.waits.wait_all.Goals as goal

pub loop-fact-preserved : goal.loop-fact-preserved
loop-fact-preserved c =
    let i = c.loop-fact.fact-index in
    let more : i + 1 ≡ suc i = omega arith in
    so-step c.args.checked.now c.args.links.now (items c.args.cells.now) _ _ _ c.args.facts.now i
    (i + 1) _ _ c.loop-fact-test.true more refl c.loop-fact.invariant c.in_ok-wait.ensures

pub returns : goal.returns
returns c =
    so-end c.args.checked.now c.args.links.now (items c.args.cells.now) _ _ c.args.facts.now c.loop-fact.fact-index
    (let h = c.loop-fact-test.false in omega arith) c.loop-fact.invariant
