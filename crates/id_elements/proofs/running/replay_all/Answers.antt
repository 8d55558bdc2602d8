use Rattle.std.proofs.Common.{arith}
use Rattle.id_core.specs.Replays.{Replays}
use Rattle.id_elements.proofs.RunsLemmas.{one_more, replayed_of}
use Rattle.id_elements.proofs.running.replay_all.Goals as goal

pub loop-element-preserved : goal.loop-element-preserved
loop-element-preserved c =
    one_more Replays c.elements-elements.result.now c.loop-element.element-index c.element-item.result
    c.loop-element-test.true c.element-item.is
    c.handled-handled.ensures.kept c.loop-element.invariant

pub returns : goal.returns
returns c =
    replayed_of c.args.machine.now c.elements-elements.result.now c.elements-elements.ensures.elements
    c.elements-elements.ensures.world c.elements-elements.ensures.len
    (λ k d lt. c.loop-element.invariant k d (let end = c.loop-element-test.false in omega (arith, lt, end)))
