-- All lines were read, or the first that can't follow is told.
use Rattle.std.proofs.Common.{sym, ap, subst, Ok}
use Rattle.std.specs.Prelude.{IfSome}
use Rattle.id_judge.specs.declared.verdict.Verdict.TheVariants.{Legal}
use Rattle.id_judge.specs.Judging.{RefusesAt}
use Rattle.id_judge.specs.Lines.{IsFirstLine, IsLineVerdict}
use Rattle.id_judge.proofs.JudgeLemmas.{trace_read, trace_refused}
use Rattle.id_judge.proofs.judge.judge_lines.Goals as goal

pub returns-in-None-clause-verdict : goal.returns-in-None-clause-verdict
returns-in-None-clause-verdict c =
    let g = c.args.graph.now in
    let vs = c.args.inputs.now.values in
    let h = c.in_ok-judge.ensures in
    let new = c.read_lines.new.judge in
    let reads = c.in_ok-read_lines.ensures.reads (ap (λ o. Ok o) c.in-None.is) in
    let r = trace_read c.in_ok-judge.judge new g vs c.args.count c.args.keeps c.args.text.now h.judges h.read reads in
    subst (λ k. IsLineVerdict g vs c.args.count c.args.keeps c.args.text.now (Legal c.in_ok-machine-in-None.machine k))
    (sym c.lines-lines.ensures)
    (c.in_ok-machine-in-None.ensures g vs c.args.count c.args.keeps c.args.text.now r.0 r.1)

pub returns-clause-verdict : goal.returns-clause-verdict
returns-clause-verdict c =
    let g = c.args.graph.now in
    let vs = c.args.inputs.now.values in
    let h = c.in_ok-judge.ensures in
    let j = c.in_ok-judge.judge in
    let text = c.args.text.now in
    let k = c.read_lines.new.judge.lines in
    let why : RefusesAt j text k c.in-Some.cause =
    subst (λ o. IfSome o (RefusesAt j text k)) c.in-Some.is c.in_ok-read_lines.ensures.refuses in
    subst (λ n. IsFirstLine g vs c.args.count text n c.in-Some.cause) (sym c.lines.ensures)
    (trace_refused j g vs c.args.count c.args.keeps text k c.in-Some.cause h.judges h.read why)
