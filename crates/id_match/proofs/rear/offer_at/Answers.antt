-- the frame is given back, or stays
use Rattle.id_match.proofs.FramedLemmas.{offered_at}
use Rattle.id_match.proofs.rear.offer_at.Goals as goal

pub returns : goal.returns
returns c =
    offered_at c.args.frames.now c.offer_in-came.new.frames c.give_back-is_left.new.frames c.args.key c.args.instr c.args.half c.args.short c.args.room
    c.offer_in-came.result c.offer_in-came.ensures.tells c.offer_in-came.ensures.writes c.give_back-is_left.result c.give_back-is_left.ensures.left
    c.give_back-is_left.ensures.stays
