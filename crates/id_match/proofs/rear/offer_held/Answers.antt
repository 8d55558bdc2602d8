-- the frame is given back, or stays
use Rattle.std.proofs.Common.{refl}
use Rattle.id_match.proofs.FramedLemmas.{left_in, wrote_in}
use Rattle.id_match.proofs.rear.offer_held.Goals as goal

pub returns-then-is_left : goal.returns-then-is_left
returns-then-is_left c =
    let came = c.offer_at-came in
    left_in c.args.keys.now.entries c.args.frames.now c.requires.framed c.args.tag c.args.name c.requires.own c.args.key c.requires.found _
    came.new.frames c.args.half c.args.short c.args.room came.result.0 came.result.1 came.ensures c.remove.ensures.updates.0 c.remove.ensures.unique
    c.if-is_left.true

pub returns-else-is_left : goal.returns-else-is_left
returns-else-is_left c =
    let came = c.offer_at-came in
    wrote_in c.args.keys.now.entries c.args.frames.now c.requires.framed c.args.tag c.args.name c.requires.own c.args.key c.requires.found _
    came.new.frames c.args.half c.args.short c.args.room came.result.0 came.result.1 came.ensures refl c.if-is_left.false
