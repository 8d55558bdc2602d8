-- Each definition takes a token at least.
use Rattle.std.proofs.Common.{length}
use Rattle.id_grammar.specs.Readers.{Amasses}
use Rattle.id_tree.proofs.program.parse_program.Given as goal

-- definitions have come, and more may
abbrev pub invariant-defs : goal.invariant-defs
invariant-defs l = Amasses l.fn.tokens.list.now l.rest.list.now l.defs.items

abbrev pub decreases-defs : goal.decreases-defs
decreases-defs l = length l.rest.list.now
