-- A short text is its own front.
use Rattle.std.proofs.Common.{sym, arith}
use Rattle.std.proofs.lemmas.List.{take_all}
use Rattle.id_judge.proofs.judge.front.Goals as goal

pub returns-then-text-lt-MAX_LINE : goal.returns-then-text-lt-MAX_LINE
returns-then-text-lt-MAX_LINE c = sym (take_all 4096 c.args.text.now (omega arith))
