-- Bytes that are digits are digits each.
use Rattle.std.proofs.Common.{sym, ◌∙◌}
use Rattle.id_source.proofs.InputsLemmas.{are_digits-each}
use Rattle.id_source.proofs.inputs.digits_number.Goals as goal

pub capped_number-requires : goal.capped_number-requires
capped_number-requires c = are_digits-each c.args.bytes.now (sym c.are_digits.ensures ∙ c.if-are_digits.true)
