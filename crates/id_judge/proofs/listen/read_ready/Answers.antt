-- One line more is read, or it is the first that can't follow.
use Rattle.std.proofs.Common.{◌≡◌, subst}
use Rattle.std.specs.Prelude.{IfErr, IfOk}
use Rattle.id_judge.specs.Judging.{IsReady, ReadsLine, Refuses}
use Rattle.id_judge.proofs.JudgeLemmas.{more_read}
use Rattle.id_judge.proofs.HearLemmas.{line_wrong}
use Rattle.id_judge.proofs.listen.read_ready.Goals as goal

pub loop-judge-preserved : goal.loop-judge-preserved
loop-judge-preserved c =
    let mid = c.loop-judge.judge in
    let new = c.line.new.self in
    let ready : IsReady new = subst (λ r. IfOk r (λ t. IsReady new)) c.in-Ok.is c.in_ok-tail.ensures.ready in
    let reads : ReadsLine mid c.loop-judge.rest.now c.in-Ok.tail.now new =
    subst (λ r. IfOk r (λ t. ReadsLine mid c.loop-judge.rest.now t.now new)) c.in-Ok.is c.in_ok-tail.ensures.reads in (
      ready,
      more_read c.args.judge.now mid new c.args.text.now c.loop-judge.rest.now c.in-Ok.tail.now
          c.loop-judge.invariant.1 reads,
    )

pub returns-in-Err-clause-refuses : goal.returns-in-Err-clause-refuses
returns-in-Err-clause-refuses c =
    let mid = c.loop-judge.judge in
    let rest = c.loop-judge.rest.now in
    let why : Refuses mid rest c.in-Err.cause =
    subst (λ r. IfErr r (Refuses mid rest)) c.in-Err.is c.in_ok-tail.ensures.refuses in
    line_wrong c.args.judge.now mid c.args.text.now rest c.args.over c.line.new.self.lines c.in-Err.cause
    c.loop-judge.invariant.1
    (c.is_ready.ensures.enough c.loop-judge-test.true)
    (subst (λ r. IfErr r (λ x. c.line.new.self.lines ≡ mid.lines)) c.in-Err.is c.in_ok-tail.ensures.lines) why
