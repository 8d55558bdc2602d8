-- The sort moves the facts until they go up.
use Rattle.std.proofs.Common.{◌≡◌, rules, List, IsPermutation, ap, subst}
use Rattle.std.specs.Ordering.{is_lt}
use Rattle.std.proofs.lemmas.Fn.{always_returns_same}
use Rattle.std.proofs.lemmas.List.Sorted.{ranks_by}
use Rattle.id_facts.specs.declared.facts.RowFact.{RowFact}
use Rattle.id_facts.specs.Listed.{fact_cmp, fact_of}
use Rattle.id_facts.proofs.OrdersLemmas.{fact_total}
use Rattle.id_facts.proofs.ShownLemmas.{row_lt, shown-sorted}
use Rattle.id_facts.proofs.order.sorted.Goals as goal

pub returns : goal.returns
returns c =
    let P = c.args.checked.now in
    let fs = c.args.tree.now in
    let up = c.sort_unstable_by.ensures.sorted (row_lt P fs) (ranks_by fact_total (λ f. fact_of P fs f))
    (always_returns_same _ (λ a r. is_lt r ≡ row_lt P fs a.0.now a.1.0.now) _ (λ a r f' q. (
      (let e : r ≡ fact_cmp (fact_of P fs a.0.now) (fact_of P fs a.1.0.now) = search rules in ap is_lt e),
      search rules,
    ))) in
    let Q : List RowFact → Type 0 = λ xs. IsPermutation xs c.sort_unstable_by.new.self.items in
    shown-sorted P fs c.sort_unstable_by.new.self.items
    (subst Q c.in_ok-all.ensures c.sort_unstable_by.ensures.permutation) up
