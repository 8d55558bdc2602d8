-- One more head is compared.
use Rattle.std.proofs.Common.{◌≡◌, ◌+◌, ◌∷◌, ◌++◌, [], None, length, take, get_or, arith}
use Rattle.std.proofs.lemmas.List.{take_more, length-take}
use Rattle.id_observe.specs.declared.merge.Head.{Head}
use Rattle.id_observe.proofs.MergedLemmas.{IsCandidate-push}
use Rattle.id_observe.proofs.merge.earliest.Goals as goal

pub loop-index-preserved : goal.loop-index-preserved
loop-index-preserved c =
    let hs = c.args.heads.now in
    let i = c.loop-index.index in
    let h : Head = get_or hs i (record { position = 0; stamp = None }) in
    let more : take (i + 1) hs ≡ take i hs ++ h ∷ [] = take_more hs i _ c.loop-index-test.true in
    let count : length (take i hs) ≡ i = omega (arith, length-take i hs) in
    rw (
      c.earlier-first.ensures,
      more,
    ) (rw count at (IsCandidate-push (take i hs) c.loop-index.first h c.loop-index.invariant))
