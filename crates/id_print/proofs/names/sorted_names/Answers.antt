-- The sort moves the names until they are in order.
use Rattle.std.proofs.Common.{◌≡◌, rules, ap}
use Rattle.std.specs.Ordering.{is_lt}
use Rattle.std.proofs.lemmas.List.Sorted.{ranks_by, answers_always}
use Rattle.id_print.specs.Names.{IsOrderOf, name_cmp, NameBefore, AtOnePoint}
use Rattle.id_print.proofs.NamesLemmas.{names_told, first_lt, in_order-from_sort, Rises-sorted, NamesRise-Rises}
use Rattle.id_print.proofs.names.sorted_names.Goals as goal

sorted : (c : goal.After-new) → IsOrderOf NameBefore c.new.result c.args.names
sorted c =
    let up = c.sort_unstable_by.ensures.sorted (first_lt name_cmp) (ranks_by names_told.total (λ x. x))
    (answers_always _ (λ a r. is_lt r ≡ first_lt name_cmp a.0.now a.1.0.now) _
    (λ f a r f' q. let e : r ≡ name_cmp a.0.now a.1.0.now = search rules in ap is_lt e)) in
    rw c.new.ensures (record {
      same = rw c.into_vec-names.ensures at c.sort_unstable_by.ensures.permutation;
      in_order = in_order-from_sort name_cmp NameBefore AtOnePoint names_told _ up;
    })

pub returns-clause-sorted : goal.returns-clause-sorted
returns-clause-sorted c = sorted c

pub returns-clause-rise : goal.returns-clause-rise
returns-clause-rise c = λ apart. NamesRise-Rises c.new.result
    (Rises-sorted name_cmp NameBefore AtOnePoint names_told c.new.result c.args.names (sorted c) apart)
