-- The rank of one log more is less than the least so far, or not.
use Rattle.std.proofs.Common.{◌≡◌, ◌∙◌, ◌∷◌, ◌+◌, ap, arith, drop, map, option_map, sym}
use Rattle.std.proofs.lemmas.Option.{slice_get-map}
use Rattle.id_merge.specs.Lines.{rank}
use Rattle.id_merge.specs.Merging.{least_from}
use Rattle.id_merge.proofs.KnownLemmas.{drop_at, read_at}
use Rattle.id_merge.proofs.MergingLemmas.{least_else, least_then}
use Rattle.id_merge.proofs.merged.first_least.Goals as goal
use Rattle.id_merge.proofs.merged.first_least.Goals.{then-rank-least, else-rank-least}

pub loop-i-preserved : goal.loop-i-preserved
loop-i-preserved g c =
    let heads = c.args.heads.now in
    let i = c.loop-i.i in
    let x = c.index-heads-i.result in
    let at = read_at heads i x c.loop-i-test.true c.index-heads-i.is in
    let ranks = map rank (map (λ h. drop h.from h.bytes.items) heads) in
    let r = rank (drop x.from x.bytes.items) in
    let here : drop i ranks ≡ r ∷ drop (i + 1) ranks =
    drop_at ranks i r (slice_get-map rank (map (λ h. drop h.from h.bytes.items) heads) i
    ∙ ap (option_map rank) (slice_get-map (λ h. drop h.from h.bytes.items) heads i ∙ ap (option_map (λ h. drop h.from h.bytes.items)) at)) in
    let before = sym (ap (least_from i c.loop-i.place c.loop-i.least) here) ∙ c.loop-i.invariant in
    elim c.if-rank-least.branch [
      | then-rank-least w ↦
          least_then i c.loop-i.place c.loop-i.least r c.if-rank-least.place c.if-rank-least.least (drop (i + 1) ranks)
          (omega (arith, w.if-rank-least.true, c.rank-rank.ensures)) w.place-is (w.least-is ∙ c.rank-rank.ensures) ∙ before
      | else-rank-least w ↦
          least_else i c.loop-i.place c.loop-i.least r c.if-rank-least.place c.if-rank-least.least (drop (i + 1) ranks)
          (omega (arith, w.if-rank-least.false, c.rank-rank.ensures)) w.place-is w.least-is ∙ before
    ]
