use Rattle.std.proofs.Common.{arith}
use Rattle.id_text.proofs.SignsLemmas.{signs_at, front_two}
use Rattle.id_text.proofs.signs.pair_at.Goals as goal

pub returns-else-bytes-lt2 : goal.returns-else-bytes-lt2
returns-else-bytes-lt2 c =
    signs_at 2 c.args.bytes.now c.pair_of.result (omega arith) (rw (front_two c.args.bytes.now 0 0 (omega arith)) c.pair_of.ensures)
