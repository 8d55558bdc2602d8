use Rattle.id_text.proofs.PieceLemmas.{begins_sign}
use Rattle.id_text.proofs.lexer.read_sign.Goals as goal

pub returns-in-Some : goal.returns-in-Some
returns-in-Some c = begins_sign c.args.rest.now c.in-Some.sign c.in-Some.len c.in-Some.ensures.sign c.in-Some.ensures.len
