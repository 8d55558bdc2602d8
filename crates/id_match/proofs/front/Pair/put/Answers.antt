-- one slot is free, so the value is put there
use Rattle.std.proofs.Common.{refl}
use Rattle.id_match.proofs.FrontLemmas.{put_first, put_second}
use Rattle.id_match.proofs.front.Pair.put.Goals as goal

pub returns-then-is_empty-clause-put : goal.returns-then-is_empty-clause-put
returns-then-is_empty-clause-put c = λ none free. put_first c.args.self.now c.args.slot _ (c.if-is_empty.ensures.0 refl) refl refl none

pub returns-then-is_empty-2-clause-put : goal.returns-then-is_empty-2-clause-put
returns-then-is_empty-2-clause-put c = λ none free. put_second c.args.self.now c.args.slot (c.if-is_empty-2.ensures.0 refl) none
