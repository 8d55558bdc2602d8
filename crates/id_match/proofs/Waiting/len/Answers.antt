-- the entries of the front and of the halves have distinct tags
use Rattle.std.proofs.Common.{◌≡◌, ◌+◌, ◌∙◌, length, length-append, sym, ap, arith}
use Rattle.std.proofs.lemmas.Grind.{common_steps}
use Rattle.std.specs.FinMap.{entries, entries_sorted, len}
use Rattle.std.proofs.lemmas.List.{length-map}
use Rattle.id_match.specs.Waiting.{entry_at}
use Rattle.id_match.specs.Front.{front_entries, all_entries}
use Rattle.id_match.proofs.EntriesLemmas.{distinct_from_is_sorted, len-from_entries, length-entries_of}
use Rattle.id_match.proofs.FrontLemmas.{distinct_all}
use Rattle.id_match.proofs.Waiting.len.Goals as goal

pub returns : goal.returns
returns c =
    let front : c.deref.result.now ≡ c.self.inside.front.items = grind (arith, common_steps) in
    let first : c.count.result ≡ length (front_entries c.self.inside.front.items) = c.count.ensures.exact ∙ ap (λ f. length (front_entries f)) front in
    let sum : c.count.result + c.len.result ≡ length (all_entries c.self.inside.front.items (entries c.self.inside.rear)) =
    omega (
      arith,
      length-append (front_entries c.self.inside.front.items) (entries c.self.inside.rear),
      first,
      c.len.ensures.listed,
      length-map (entries c.self.inside.rear) entry_at,
    ) in
    let counted = sum ∙ sym (len-from_entries _ (distinct_all c.self.inside.front.items (entries c.self.inside.rear) c.self.invariant
    (distinct_from_is_sorted (entries c.self.inside.rear) (entries_sorted c.self.inside.rear)))) ∙ ap len c.self.view_is in
    record { len = counted; listed = counted ∙ sym (length-entries_of c.args.self.now) }
