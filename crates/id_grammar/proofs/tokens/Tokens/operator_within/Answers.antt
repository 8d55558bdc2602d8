-- The token there is the first one.
use Rattle.std.proofs.Common.{◌∙◌, ap}
use Rattle.id_grammar.specs.Readers.{kept_within, operator_in}
use Rattle.id_grammar.proofs.tokens.Tokens.operator_within.Goals as goal

pub returns : goal.returns
returns c = c.kept_within.ensures ∙ ap (kept_within c.args.inner c.args.outer) (c.operator_in.ensures ∙ ap operator_in c.first.ensures.kind)
