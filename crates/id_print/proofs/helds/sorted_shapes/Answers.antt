-- The sort moves the structures until they are in order.
use Rattle.std.proofs.Common.{◌≡◌, rules, ap}
use Rattle.std.specs.Ordering.{is_lt}
use Rattle.std.proofs.lemmas.List.Sorted.{ranks_by, answers_always}
use Rattle.id_print.specs.declared.helds.Held.TheVariants.{Array}
use Rattle.id_print.specs.Names.{held_cmp}
use Rattle.id_print.proofs.NamesLemmas.{helds_told}
use Rattle.id_print.proofs.helds.sorted_shapes.Goals as goal

pub returns-clause-same : goal.returns-clause-same
returns-clause-same c = rw c.new.ensures (rw c.into_vec-shapes.ensures at c.in_ok-sort_by.ensures.permutation)

pub returns-clause-up : goal.returns-clause-up
returns-clause-up c =
    let up = c.in_ok-sort_by.ensures.sorted (λ s t. is_lt (held_cmp (Array s) (Array t)))
    (ranks_by helds_told.total Array)
    (answers_always _ (λ a r. is_lt r ≡ is_lt (held_cmp (Array a.0.now) (Array a.1.0.now))) _
    (λ f a r f' q. let e : r ≡ held_cmp (Array a.0.now) (Array a.1.0.now) = search rules in ap is_lt e)) in
    rw c.new.ensures up
