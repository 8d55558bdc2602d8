-- the sorted list is the store's, which lists what waits
use Rattle.std.proofs.Common.{◌≡◌, ◌++◌, ◌∙◌, map, sym, ap, subst, IsPermutation, arith}
use Rattle.std.proofs.lemmas.Grind.{common_steps}
use Rattle.std.proofs.lemmas.List.{map-append}
use Rattle.std.specs.FinMap.{entries, entries_sorted}
use Rattle.std.specs.List.{Contains}
use Rattle.id_match.specs.Front.{front_entries, all_entries}
use Rattle.id_match.specs.Waiting.{entries_of, entry_at}
use Rattle.id_match.proofs.EntriesLemmas.{distinct_from_is_sorted, entries_of-from_entries, listed_iff_waits}
use Rattle.id_match.proofs.FrontLemmas.{distinct_all}
use Rattle.id_match.proofs.Waiting.entries.Goals as goal

pub returns : goal.returns
returns c =
    let front : c.deref.result.now ≡ c.self.inside.front.items = grind (arith, common_steps) in
    let all : c.append.new.self.items ≡ map entry_at (all_entries c.self.inside.front.items (entries c.self.inside.rear)) =
    c.in_ok-append.ensures.items
    ∙ ap (λ l. l ++ c.in_ok-entries-2.field-0.items) (c.in_ok-entries.ensures ∙ ap (λ f. map entry_at (front_entries f)) front)
    ∙ ap (λ l. map entry_at (front_entries c.self.inside.front.items) ++ l) c.in_ok-entries-2.ensures.items
    ∙ sym (map-append entry_at (front_entries c.self.inside.front.items) (entries c.self.inside.rear)) in
    let listed : c.sort_by_tag.new.entries.items ≡ entries_of c.args.self.now =
    entries_of-from_entries (all_entries c.self.inside.front.items (entries c.self.inside.rear)) _
    (distinct_all c.self.inside.front.items (entries c.self.inside.rear) c.self.invariant
    (distinct_from_is_sorted (entries c.self.inside.rear) (entries_sorted c.self.inside.rear)))
    (subst (λ l. IsPermutation l c.sort_by_tag.new.entries.items) all c.sort_by_tag.ensures.permutation)
    c.sort_by_tag.ensures.sorted
    ∙ ap entries_of c.self.view_is in
    record {
      items = listed;
      keyed = λ e. (
        (λ has. (listed_iff_waits c.args.self.now e).0 (subst (λ l. Contains l e) listed has)),
        (λ waiting. subst (λ l. Contains l e) (sym listed) ((listed_iff_waits c.args.self.now e).1 waiting)),
      );
    }
