use Rattle.std.proofs.Common.{rules, w64}
use mir.Val.{SFits}
use Rattle.std.specs.Char.{is_ascii_digit}
use Rattle.std.proofs.lemmas.Int.{to_z-of_z}
use Rattle.id_text.proofs.PieceLemmas.{opens_by_first, begins_number, run_passes}
use Rattle.id_text.proofs.lexer.read_number.Goals as goal

pub number_of-requires : goal.number_of-requires
number_of-requires c = run_passes is_ascii_digit c.args.rest.now c.digits_len-len.result c.digits_len-len.ensures

pub returns-in-Some : goal.returns-in-Some
returns-in-Some c =
    let opens = opens_by_first is_ascii_digit c.args.rest.now c.requires.before_end c.requires.digit in
    let small : SFits w64 c.in-Some.value = search rules in
    rw (to_z-of_z w64 c.in-Some.value small)
    (begins_number c.args.rest.now c.digits_len-len.result c.in-Some.value opens c.digits_len-len.ensures c.in-Some.ensures.0 c.in-Some.ensures.1)
