-- The sort moves the asks until they are in order.
use Rattle.std.proofs.Common.{◌≡◌, rules, ap}
use Rattle.std.specs.Ordering.{is_lt}
use Rattle.std.proofs.lemmas.List.Sorted.{ranks_by, answers_always}
use Rattle.id_print.specs.Names.{IsOrderOf, ask_cmp, WaitBefore, OfOneFetch}
use Rattle.id_print.proofs.NamesLemmas.{asks_told, first_lt, in_order-from_sort, Rises-sorted}
use Rattle.id_print.proofs.names.sorted_asks.Goals as goal

sorted : (c : goal.After-new) → IsOrderOf WaitBefore c.new.result c.args.asks
sorted c =
    let up = c.in_ok-sort_by.ensures.sorted (first_lt ask_cmp) (ranks_by asks_told.total (λ x. x))
    (answers_always _ (λ a r. is_lt r ≡ first_lt ask_cmp a.0.now a.1.0.now) _
    (λ f a r f' q. let e : r ≡ ask_cmp a.0.now a.1.0.now = search rules in ap is_lt e)) in
    rw c.new.ensures (record {
      same = rw c.into_vec-asks.ensures at c.in_ok-sort_by.ensures.permutation;
      in_order = in_order-from_sort ask_cmp WaitBefore OfOneFetch asks_told _ up;
    })

pub returns-clause-sorted : goal.returns-clause-sorted
returns-clause-sorted c = sorted c

pub returns-clause-rise : goal.returns-clause-rise
returns-clause-rise c =
    λ apart. Rises-sorted ask_cmp WaitBefore OfOneFetch asks_told c.new.result c.args.asks (sorted c) apart
