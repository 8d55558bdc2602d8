-- The records of the elements were merged, and their order is the only one.
use Rattle.std.specs.List.{flat_map}
use Rattle.id_observe.proofs.MergedLemmas.{by_moment_total, joined_map}
use Rattle.id_observe.proofs.OrderedLemmas.{one_order}
use Rattle.id_observe.proofs.merge.merge_records.Goals as goal

pub returns-clause-all : goal.returns-clause-all
returns-clause-all c =
    rw (← joined_map c.args.elements.now, ← c.in_ok-records.ensures.records) c.in_ok-merged.ensures.all

pub returns-clause-only : goal.returns-clause-only
returns-clause-only c =
    λ es sorted all. one_order by_moment_total (flat_map (λ e. e.state.events) c.args.elements.now) es
    c.in_ok-merged.merged all
    (rw (← joined_map c.args.elements.now, ← c.in_ok-records.ensures.records) c.in_ok-merged.ensures.all) sorted
    c.in_ok-merged.ensures.sorted
