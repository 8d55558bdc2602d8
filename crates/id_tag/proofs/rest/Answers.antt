use Rattle.std.proofs.Common.{◌%◌, ◌∙◌, ap}
use Rattle.std.proofs.lemmas.Int.{to_z-of_z}
use Rattle.std.specs.Int.{int_rem_euclid, w128}
use Rattle.std.specs.Int.RustNames.{unsigned_abs}
use Rattle.id_tag.proofs.RoutesLemmas.{rem_from_0}
use Rattle.id_tag.proofs.rest.Goals as goal

pub returns-then-sum-ge0-clause-exact : goal.returns-then-sum-ge0-clause-exact
returns-then-sum-ge0-clause-exact c =
    let same = to_z-of_z w128 c.args.sum c.ranges.sum in
    c.modulo.ensures.exact ∙ ap (λ z. unsigned_abs z % c.args.count) same
    ∙ rem_from_0 c.args.sum c.args.count (rw same at c.if-sum-ge0.true)

pub returns-else-sum-ge0-clause-exact : goal.returns-else-sum-ge0-clause-exact
returns-else-sum-ge0-clause-exact c =
    let sum = to_z-of_z w128 c.args.sum c.ranges.sum in
    let count = to_z-of_z w128 c.from.result (record { sfits = c.from.type_inv }) ∙ c.from.ensures in
    let rest = to_z-of_z w128 c.rem_euclid.result (record { sfits = c.rem_euclid.type_inv }) in
    ap unsigned_abs (rest ∙ c.rem_euclid.ensures.value ∙ (λ i. int_rem_euclid (sum i) (count i)))
