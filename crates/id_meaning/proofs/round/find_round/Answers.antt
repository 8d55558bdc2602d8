-- The facts are those of round n, and in order they are the list of these.
use Rattle.std.proofs.Common.{List, length, subst, sym, ap, arith}
use Rattle.id_value.specs.declared.Constant.{Constant}
use Rattle.id_facts.specs.declared.facts.RowFact.{RowFact}
use Rattle.id_source.specs.Sources.{source}
use Rattle.id_facts.specs.Listed.{AreShown, IsRound, facts_in}
use Rattle.id_meaning.proofs.ListedLemmas.{AreFacts-from_rows, shown-count}
use Rattle.id_meaning.proofs.round.find_round.Goals as goal

pub new-requires : goal.new-requires
new-requires c = c.in_ok-facts.ensures.facts.found.before

pub returns-clause-facts : goal.returns-clause-facts
returns-clause-facts c =
    let P = c.args.checked.now in
    let p = c.in_ok-paths.paths in
    let all = c.in_ok-rows.rows.items in
    let R : List Constant → Type 0 = λ vs. IsRound (source P vs) c.args.n c.in_ok-facts.facts in
    let Q : List RowFact → Type 0 = λ fs. IsRound (source P c.args.inputs.now.values) c.args.n fs in
    let A : List RowFact → Type 0 = λ fs. AreShown P fs (facts_in P fs all) in
    AreFacts-from_rows (source P c.args.inputs.now.values) c.args.n p (facts_in P p all)
    (subst Q (sym c.in_ok-paths.ensures) (subst R c.as_slice.ensures c.in_ok-facts.ensures.facts))
    (subst A c.tree.ensures c.in_ok-rows.ensures)

pub returns-clause-few_facts : goal.returns-clause-few_facts
returns-clause-few_facts c =
    let P = c.args.checked.now in
    let p = c.in_ok-paths.paths in
    let all = c.in_ok-rows.rows.items in
    let A : List RowFact → Type 0 = λ fs. AreShown P fs (facts_in P fs all) in
    let shown : A p = subst A c.tree.ensures c.in_ok-rows.ensures in
    let few = c.in_ok-facts.ensures.few in
    let same = shown-count P p (facts_in P p all) shown in
    let e = ap length c.in_ok-paths.ensures in
    omega (arith, few, same, e)
