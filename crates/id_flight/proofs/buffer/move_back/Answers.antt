-- The last of the first list is the first of the second.
use Rattle.std.proofs.Common.{◌<◌, ◌-◌, length, ap, arith}
use Rattle.std.proofs.lemmas.Grind.{common_steps}
use Rattle.id_flight.proofs.BuffersLemmas.{last_moves}
use Rattle.id_flight.proofs.buffer.move_back.Goals as goal

pub loop-preserved : goal.loop-preserved
loop-preserved c =
    let some : 0 < length c.loop.before.items = grind (arith, common_steps) in
    let moves = last_moves c.loop.before.items c.loop.after.items c.at-last.result.now _ (ap (λ n. n - 1) c.len.ensures.len) c.at-last.ensures
    c.pop_back.result c.pop_back.new.self.items c.pop_back.ensures.items (c.pop_back.ensures.some.1 some) in
    grind (arith, common_steps)
