use Rattle.std.proofs.Common.{arith, rules}
use Rattle.id_elements.proofs.ListsLemmas.{all_empty}
use Rattle.id_elements.proofs.doors.drain_all.Goals as goal

pub returns : goal.returns
returns g c start es whole f =
    let all = all_empty f c.loop-number.doors.items c.loop-number.number (search rules) c.loop-number.invariant.empty in
    let w = c.loop-number.invariant.whole start es whole f in
    omega (arith, all, w)
