-- One more has left, or the last.
use Rattle.std.proofs.Common.{◌<◌, ◌+◌, ◌∙◌, length, drop, sym, ap, arith}
use Rattle.std.proofs.lemmas.Grind.{common_steps}
use Rattle.id_flight.proofs.RowsLemmas.{none-left, one-left}
use Rattle.id_flight.proofs.row.Row.drop_front.Goals as goal

pub returns-then-next-len-clause-items : goal.returns-then-next-len-clause-items
returns-then-next-len-clause-items c =
    let r = c.self.inside in
    let there : r.left < length r.parcels.items = grind (arith, common_steps) in
    one-left r.left r.parcels.items there ∙ ap (λ v. drop 1 v.items) c.self.view_is

pub returns-clause-items : goal.returns-clause-items
returns-clause-items c =
    let r = c.self.inside in
    let few : length r.parcels.items < r.left + 2 = grind (arith, common_steps) in
    c.empty.ensures.items ∙ sym (none-left r.left r.parcels.items few) ∙ ap (λ v. drop 1 v.items) c.self.view_is
