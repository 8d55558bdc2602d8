use Rattle.std.proofs.Common.{◌||◌}
use Rattle.id_valid.specs.Roles.{is_first, is_second, is_entry}
use Rattle.id_valid.proofs.past.least_past.Goals as goal

-- the least of the three
pub returns : goal.returns
returns c =
    let roles = c.earlier-roles.ensures (is_first c.args.graph.now) (is_second c.args.graph.now) _ c.least_first.ensures c.least_second.ensures
    in rw (← c.instrs.ensures.value) (c.earlier.ensures (λ k. is_first c.args.graph.now k || is_second c.args.graph.now k) (is_entry c.args.graph.now) _ roles
    c.least_entry.ensures)
