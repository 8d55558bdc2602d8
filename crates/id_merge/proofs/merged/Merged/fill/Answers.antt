-- A log more is read on in.
use Rattle.std.proofs.Common.{drop}
use Rattle.id_merge.proofs.KnownLemmas.{IsLost-still, read_at, some_within, still_then}
use Rattle.id_merge.proofs.GivenLemmas.{lost_read, still_read}
use Rattle.id_merge.proofs.merged.Merged.fill.Goals as goal

pub returns-in-Err-clause-lost : goal.returns-in-Err-clause-lost
returns-in-Err-clause-lost g c =
    let xs = c.loop.self.heads.items in
    let x = c.index_mut.result.now in
    let at = read_at xs c.in-Some.i x (some_within xs c.in-Some.i _ c.in-Some.ensures.some) c.index_mut.ensures.value in
    IsLost-still _ _ c.in-Err.fault c.loop.invariant
    (lost_read (λ h. g.L.Log.ahead h.log) (λ h. drop h.from h.bytes.items) (λ h. h.over) c.loop.self.inside xs c.in-Some.i x c.in-Err.fault at
    c.in-Err.ensures.lost)

pub loop-preserved : goal.loop-preserved
loop-preserved g c =
    let xs = c.loop.self.heads.items in
    let x = c.index_mut.result.now in
    let at = read_at xs c.in-Some.i x (some_within xs c.in-Some.i _ c.in-Some.ensures.some) c.index_mut.ensures.value in
    still_then _ _ _ c.loop.invariant (still_read _ c.loop.self.inside xs c.in-Some.i x c.read_on.new.self at c.in-Ok.ensures.still)
