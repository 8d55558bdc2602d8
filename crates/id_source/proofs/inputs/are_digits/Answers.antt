-- Bytes are digits where each is one and there are some.
use Rattle.std.proofs.Common.{sym, ◌∙◌, arith}
use Rattle.id_source.proofs.InputsLemmas.{are_digits-not, are_digits-end}
use Rattle.id_source.proofs.inputs.are_digits.Goals as goal

pub returns-then-not-is_ascii_digit : goal.returns-then-not-is_ascii_digit
returns-then-not-is_ascii_digit c =
    sym (are_digits-not c.args.digits.now c.loop-b.b-index 0 c.loop-b-test.true (sym c.is_ascii_digit.ensures.value
    ∙ c.if-not-is_ascii_digit.true))

pub returns : goal.returns
returns c = let end = are_digits-end c.args.digits.now (λ k d l. c.loop-b.invariant k d (omega arith)) in cc
