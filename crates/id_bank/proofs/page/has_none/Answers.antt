use Rattle.std.proofs.Common.{rules}
use Rattle.id_bank.specs.Slots.{HasNone}
use Rattle.id_bank.proofs.page.has_none.Goals as goal

pub returns-then-not-is_absent_in : goal.returns-then-not-is_absent_in
unfolding HasNone
returns-then-not-is_absent_in c = search rules

pub returns : goal.returns
unfolding HasNone
returns c = search rules
