-- Each round learns what follows from the news of the one before; where nothing is news, no later round has more.
use Rattle.std.proofs.Common.{arith}
use Rattle.id_source.specs.Sources.{source}
use Rattle.id_meaning.proofs.RunLemmas.{first-front, front-more, front-next, front-rest, front-round, front-starts}
use Rattle.id_meaning.proofs.RunLemmas.{stop-later}
use Rattle.id_meaning.proofs.run.learn.Goals as goal

pub returns-in-Err-clause-stop : goal.returns-in-Err-clause-stop
returns-in-Err-clause-stop c =
    stop-later (source c.args.checked.now c.args.inputs.now) 1 c.args.n (omega arith) c.in-Err.error
    c.in-Err.ensures.stop

pub loop-round-init : goal.loop-round-init
loop-round-init c =
    first-front (source c.args.checked.now c.args.inputs.now) c.learn_first.new.facts c.in_ok-followed.followed
    c.in_ok-followed.ensures
    c.in_default.ensures.first

pub returns-then-len-clause-facts : goal.returns-then-len-clause-facts
returns-then-len-clause-facts c =
    let r = c.loop-round in
    let w = c.loop-round-test.true in
    front-rest (source c.args.checked.now c.args.inputs.now) r._round r.followed r.facts r.invariant c.args.n (omega
    arith) (omega arith)

pub learn_next-requires-clause-front : goal.learn_next-requires-clause-front
learn_next-requires-clause-front c =
    let r = c.loop-round in
    front-starts (source c.args.checked.now c.args.inputs.now) r._round r.followed r.facts r.invariant

pub learn_next-requires-clause-before : goal.learn_next-requires-clause-before
learn_next-requires-clause-before c = c.loop-round.invariant.now.found.before

pub returns-then-len-gt-MAX_FACTS-clause-stop : goal.returns-then-len-gt-MAX_FACTS-clause-stop
returns-then-len-gt-MAX_FACTS-clause-stop c =
    let r = c.loop-round in
    let w = c.loop-round-test.true in
    front-more (source c.args.checked.now c.args.inputs.now) r._round r.followed r.facts r.invariant (omega arith)
    c.in_ok-followed-2.followed
    c.learn_next.new.facts c.in_ok-followed-2.ensures c.args.n (omega arith) (omega arith)

pub loop-round-preserved : goal.loop-round-preserved
loop-round-preserved c =
    let r = c.loop-round in
    let w = c.loop-round-test.true in
    front-next (source c.args.checked.now c.args.inputs.now) r._round r.followed r.facts r.invariant (omega arith)
    c.in_ok-followed-2.followed
    c.learn_next.new.facts c.in_ok-followed-2.ensures _ (omega arith) (omega arith)

pub returns-clause-facts : goal.returns-clause-facts
returns-clause-facts c =
    let r = c.loop-round in
    let a = c.loop-round-test.false in
    let b = c.loop-round.auto._round-end in
    let d = c.requires.some in
    front-round (source c.args.checked.now c.args.inputs.now) r._round r.followed r.facts r.invariant c.args.n (omega
    (arith, a, b, d))
