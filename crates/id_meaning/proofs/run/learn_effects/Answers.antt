-- What follows from one fact more is learnt.
use Rattle.std.proofs.Common.{◌≡◌, ◌+◌, suc, refl, arith}
use Rattle.id_meaning.proofs.LearnLemmas.{gone-all, gone-full, gone-next}
use Rattle.id_meaning.proofs.run.learn_effects.Goals as goal

pub returns-then-len-gt-MAX_FACTS : goal.returns-then-len-gt-MAX_FACTS
returns-then-len-gt-MAX_FACTS c =
    let i = c.loop-fact.fact-index in
    let more : i + 1 ≡ suc i = omega arith in
    gone-full c.args.rules.now.checked.now c.args.rules.now.links.now c.args.rules.now.waits.now
    c.args.rules.now.cells.now c.args.news.now c.args.facts.now (i + 1) _
    (gone-next c.args.rules.now.checked.now c.args.rules.now.links.now c.args.rules.now.waits.now
    c.args.rules.now.cells.now c.args.news.now c.args.facts.now i (i + 1) _ _ _ _ _ _ _
    c.loop-fact-test.true more refl c.loop-fact.invariant c.clear.ensures.items c.in_ok-add_effects.ensures
    c.as_slice.ensures.value
    c.in_ok-learn_all.ensures)
    (omega arith)

pub loop-fact-preserved : goal.loop-fact-preserved
loop-fact-preserved c =
    let i = c.loop-fact.fact-index in
    let more : i + 1 ≡ suc i = omega arith in
    gone-next c.args.rules.now.checked.now c.args.rules.now.links.now c.args.rules.now.waits.now
    c.args.rules.now.cells.now c.args.news.now c.args.facts.now i (i + 1) _ _ _ _ _ _ _
    c.loop-fact-test.true more refl c.loop-fact.invariant c.clear.ensures.items c.in_ok-add_effects.ensures
    c.as_slice.ensures.value
    c.in_ok-learn_all.ensures

pub returns : goal.returns
returns c =
    gone-all c.args.rules.now.checked.now c.args.rules.now.links.now c.args.rules.now.waits.now
    c.args.rules.now.cells.now c.args.news.now c.args.facts.now c.loop-fact.fact-index _
    c.loop-fact.invariant c.loop-fact-test.false
