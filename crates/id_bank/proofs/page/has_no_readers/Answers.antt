use Rattle.std.proofs.Common.{rules}
use Rattle.id_bank.specs.Slots.{HasNoReaders}
use Rattle.id_bank.proofs.page.has_no_readers.Goals as goal

pub returns-then-readers_in-gt0 : goal.returns-then-readers_in-gt0
unfolding HasNoReaders
returns-then-readers_in-gt0 c = search rules

pub returns : goal.returns
unfolding HasNoReaders
returns c = search rules
