-- The pen has the text, the program and the facts.
use Rattle.std.proofs.Common.{◌++◌}
use Rattle.id_sink.proofs.SinkLemmas.{Prints-stop, Prints-then}
use Rattle.id_print.specs.Pens.{PenView}
use Rattle.id_print.specs.Reasons.{end_text, lines_text}
use Rattle.id_print.proofs.reasons.write_reasons.Goals as goal

pub returns-in_err-put_answer : goal.returns-in_err-put_answer
returns-in_err-put_answer g c =
    let v : PenView = record { text = c.args.text.now; checked = c.args.checked.now; facts = c.args.reasons.paths } in
    let answer = rw (c.new.ensures, c.into_parts-tree.ensures.facts) at c.in_err-put_answer.ensures.prints in
    Prints-stop _ _ _ (lines_text v c.args.reasons.lines.items ++ end_text c.args.reasons.ended c.args.n) _ _ answer
    c.from_residual.ensures.0

pub returns-in_err-put_lines : goal.returns-in_err-put_lines
returns-in_err-put_lines g c =
    let answer = rw (c.new.ensures, c.into_parts-tree.ensures.facts) at c.in_ok-put_answer.ensures.prints in
    let lines =
    rw (c.in_ok-put_answer.ensures.same, c.new.ensures, c.into_parts-tree.ensures.facts, c.as_slice.ensures.value)
    at c.in_err-put_lines.ensures.prints in
    Prints-then _ _ _ _ _ _ _ answer
    (Prints-stop _ _ _ (end_text c.args.reasons.ended c.args.n) _ _ lines c.from_residual-in_err-put_lines.ensures.0)

pub returns : goal.returns
returns g c =
    let answer = rw (c.new.ensures, c.into_parts-tree.ensures.facts) at c.in_ok-put_answer.ensures.prints in
    let lines =
    rw (c.in_ok-put_answer.ensures.same, c.new.ensures, c.into_parts-tree.ensures.facts, c.as_slice.ensures.value)
    at c.in_ok-put_lines.ensures.prints in
    Prints-then _ _ _ _ _ _ _ answer (Prints-then _ _ _ _ _ _ _ lines c.put_end.ensures)
