use Rattle.std.proofs.Common.{arith}
use Rattle.std.proofs.lemmas.Result.{err_from_is_err_and}
use Rattle.id_text.proofs.LexesLemmas.{read_on, read_on_fits, read_end, refusal_at}
use Rattle.id_text.proofs.lexer.read_all.Goals as goal

pub returns-in_err-at : goal.returns-in_err-at
returns-in_err-at c =
    let p = err_from_is_err_and c.from_residual-in_err-at.result c.from_residual-in_err-at.ensures.1 in
    rw (p.1, p.2) (refusal_at c.args.text.now c.loop-at.at c.loop-at.tokens.items c.in_err-at.field-0.0 c.loop-at.invariant.read c.in_err-at.ensures)

pub loop-at-smaller : goal.loop-at-smaller
loop-at-smaller c = omega (arith, read_on_fits c.args.text.now c.loop-at.at c.in_ok-at.at _ _ c.loop-at.invariant.within c.in_ok-at.ensures)

pub loop-at-preserved : goal.loop-at-preserved
loop-at-preserved c =
    record {
      within = (read_on_fits c.args.text.now c.loop-at.at c.in_ok-at.at _ _ c.loop-at.invariant.within c.in_ok-at.ensures).1;
      read = read_on c.args.text.now c.loop-at.at c.in_ok-at.at _ _ c.loop-at.invariant.read c.in_ok-at.ensures;
    }

-- the tokens are the whole text's
pub returns : goal.returns
returns c = rw c.in_ok-push.ensures.items (read_end c.args.text.now c.loop-at.at c.loop-at.tokens.items (omega arith) c.loop-at.invariant.read)
