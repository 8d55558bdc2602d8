-- The event of the line follows, or why none can.
use Rattle.std.proofs.Common.{length, subst, sym, arith}
use Rattle.std.specs.Prelude.{IfErr, IfOk}
use Rattle.id_judge.specs.declared.verdict.Cause.{Cause}
use Rattle.id_judge.specs.Benches.{world_in}
use Rattle.id_judge.specs.Judging.{Refuses}
use Rattle.id_judge.specs.Lines.{Advances, IsLineCause}
use Rattle.id_judge.proofs.JudgeLemmas.{line_read, line_refused}
use Rattle.id_judge.proofs.judge.Judge.line.Goals as goal

pub returns-in-Ok-clause-reads : goal.returns-in-Ok-clause-reads
returns-in-Ok-clause-reads c =
    let b = c.args.self.now.bench in
    let new = c.follow_line.new.bench in
    let adv : Advances b c.args.text.now c.in-Ok.tail.now new =
    subst (λ r. IfOk r (λ t. Advances b c.args.text.now t.now new)) c.in-Ok.is c.in_ok-tail.ensures.follows in
    line_read c.args.self.now _ c.args.text.now c.in-Ok.tail.now adv c.tell_small.ensures
    (omega (arith, c.in-Some.ensures))

pub returns-in-Err-clause-refuses : goal.returns-in-Err-clause-refuses
returns-in-Err-clause-refuses c =
    let j = c.args.self.now in
    let why : IsLineCause j.bench.graph (length j.bench.elements) (world_in j.bench) c.args.text.now c.in-Err.cause =
    subst (λ r. IfErr r (IsLineCause j.bench.graph (length j.bench.elements) (world_in j.bench) c.args.text.now))
    c.in-Err.is
    c.in_ok-tail.ensures.cause in
    subst (λ (x : Cause). Refuses j c.args.text.now x) (sym c.cause_for.ensures)
    (line_refused j c.args.text.now c.in-Err.cause c.requires.some why)
