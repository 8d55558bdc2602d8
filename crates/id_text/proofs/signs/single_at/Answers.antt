use Rattle.std.proofs.Common.{◌≤◌, length, arith, false-eqb, sym, ◌∙◌}
use Rattle.id_text.proofs.SignsLemmas.{signs_at, front_one}
use Rattle.id_text.proofs.signs.single_at.Goals as goal

pub returns-else-is_empty : goal.returns-else-is_empty
returns-else-is_empty c =
    let some : 1 ≤ length c.args.bytes.now = omega (arith, false-eqb (length c.args.bytes.now) 0 (sym c.if-is_empty.false ∙ c.is_empty.ensures)) in
    signs_at 1 c.args.bytes.now c.single_of.result some (rw (front_one c.args.bytes.now 0 some) c.single_of.ensures)
