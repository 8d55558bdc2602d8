-- The list of places is a merge of the records, so there is an event at each place.
use Rattle.std.proofs.Common.{List, subst}
use Rattle.std.proofs.lemmas.List.Elements.{All-from_recursion}
use Rattle.id_record.specs.Events.{EventView}
use Rattle.id_observe.specs.Merged.{IsMerge, IsPlace}
use Rattle.id_observe.proofs.merge.merge.Goals as goal

merged : (c : goal.In_ok-places) → IsMerge c.args.records.items c.in_ok-places.places.items
merged c =
    let P : List (List EventView) → Type 0 = λ rs. IsMerge rs c.in_ok-places.places.items in
    subst P c.as_slice.ensures.value c.in_ok-places.ensures

pub invariant_of-result : goal.invariant_of-result
invariant_of-result c = All-from_recursion (IsPlace c.args.records.items) c.in_ok-places.places.items (merged c).places

pub returns-clause-sorted : goal.returns-clause-sorted
returns-clause-sorted c = (merged c).sorted

pub returns-clause-all : goal.returns-clause-all
returns-clause-all c = (merged c).all
