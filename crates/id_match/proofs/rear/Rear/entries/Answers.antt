-- the sorted list is the store's
use Rattle.std.proofs.Common.{◌∙◌, ap, subst, IsPermutation}
use Rattle.id_match.specs.Rear.{rear_entries}
use Rattle.id_match.specs.Waiting.{entries_of}
use Rattle.id_match.proofs.EntriesLemmas.{entries_of-from_entries}
use Rattle.id_match.proofs.FramedLemmas.{distinct_rear}
use Rattle.id_match.proofs.rear.Rear.entries.Goals as goal

pub returns : goal.returns
returns c = record {
  items =
      entries_of-from_entries (rear_entries c.self.inside.keys.entries c.self.inside.frames) _
      (distinct_rear c.self.inside.frames c.self.inside.keys.entries c.self.invariant.0.unique c.self.invariant.0.single)
      (subst (λ l. IsPermutation l c.sort_by_tag.new.entries.items) c.in_ok-entries.ensures c.sort_by_tag.ensures.permutation)
      c.sort_by_tag.ensures.sorted
      ∙ ap entries_of c.self.view_is;
}
