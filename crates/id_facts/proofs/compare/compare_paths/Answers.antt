-- The two that are left are one.
use Rattle.std.proofs.Common.{◌≡◌, rules, true, sym, ◌∙◌}
use Rattle.id_facts.specs.RowFacts.{same_trail}
use Rattle.id_facts.proofs.CompareLemmas.{compared-first, compared-one}
use Rattle.id_facts.proofs.compare.compare_paths.Goals as goal

pub returns : goal.returns
returns c =
    let P = c.args.checked.now in
    let fs = c.args.tree.now in
    let r = c.loop-first in
    let one : same_trail r.first r.second ≡ true = search rules in
    sym (compared-one P fs r.first r.second r.found one) ∙ r.invariant ∙ compared-first P fs c.args.a c.args.b
