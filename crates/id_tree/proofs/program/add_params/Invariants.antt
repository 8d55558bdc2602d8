-- Each parameter takes a token at least.
use Rattle.std.proofs.Common.{length}
use Rattle.id_grammar.specs.Readers.{IsBehind, Counts}
use Rattle.id_tree.proofs.program.add_params.Given as goal

-- parameters have come, and more may
abbrev pub invariant-params : goal.invariant-params
invariant-params l = IsBehind l.rest.list.now l.fn.tokens.list.now × Counts l.fn.tokens.list.now l.rest.list.now l.params.items

abbrev pub decreases-params : goal.decreases-params
decreases-params l = length l.rest.list.now
