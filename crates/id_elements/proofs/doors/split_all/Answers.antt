use Rattle.std.proofs.Common.{◌<◌, length, rules}
use Rattle.id_elements.proofs.ListsLemmas.{split_end, split_more}
use Rattle.id_elements.proofs.doors.split_all.Goals as goal

pub loop-number-preserved : goal.loop-number-preserved
loop-number-preserved c =
    let lt : c.loop-number.number < length c.args.doors.now.items = search rules in
    record {
      len = search rules;
      splitting =
          rw c.in_ok-push.ensures.items
          (split_more _ _ _ _ _ _ _ lt c.loop-number.invariant.splitting c.index_mut.ensures.value
          c.in_ok-split.ensures.old c.in_ok-split.ensures.new);
    }

pub returns-clause-cut : goal.returns-clause-cut
returns-clause-cut c = (split_end _ _ _ _ (search rules) c.loop-number.invariant.splitting).0

pub returns-clause-queues : goal.returns-clause-queues
returns-clause-queues c = (split_end _ _ _ _ (search rules) c.loop-number.invariant.splitting).1.0

pub returns-clause-parts : goal.returns-clause-parts
returns-clause-parts c = (split_end _ _ _ _ (search rules) c.loop-number.invariant.splitting).1.1.0

pub returns-clause-unused : goal.returns-clause-unused
returns-clause-unused c = (split_end _ _ _ _ (search rules) c.loop-number.invariant.splitting).1.1.1
