-- There are as many events as places.
use Rattle.std.proofs.Common.{◌≡◌, length, sym, ap, ◌∙◌, arith}
use Rattle.std.proofs.lemmas.Grind.{common_steps}
use Rattle.std.proofs.lemmas.List.Elements.{recursion_from_All}
use Rattle.id_observe.specs.Merged.{IsPlace}
use Rattle.id_observe.proofs.MergedLemmas.{length-events_at}
use Rattle.id_observe.proofs.merge.Merged.len.Goals as goal

pub returns : goal.returns
returns c =
    let rs = c.self.inside.records.items in
    let ps = c.self.inside.places.items in
    let many : c.len.result ≡ length ps = grind (arith, common_steps) in
    many ∙ sym (length-events_at rs ps (recursion_from_All (IsPlace rs) ps c.self.invariant)) ∙ ap length c.self.view_is
