-- one entry after another stands behind its slot
use Rattle.id_match.proofs.FrontLemmas.{holds_trans}
use Rattle.id_match.proofs.BehindLemmas.{others_more}
use Rattle.id_match.proofs.front.mark.Goals as goal

pub loop-i-preserved : goal.loop-i-preserved
loop-i-preserved c = record {
  holds = holds_trans c.args.front.now.items c.loop-i.front.items _ c.loop-i.invariant.holds c.step_behind.ensures.holds;
  marked = c.step_behind.ensures.marked _ _ c.loop-i.invariant.marked (others_more c.args.entries.now c.loop-i.i _ c.loop-i-test.true);
}
