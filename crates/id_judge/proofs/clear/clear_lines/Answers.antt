-- At most one message in flight is for a key, and a line tells the key of its message.
use Rattle.id_judge.proofs.ClearLines as lines
use Rattle.id_judge.proofs.clear.clear_lines.Goals as goal

pub returns : goal.returns
returns c = lines.clear_lines
