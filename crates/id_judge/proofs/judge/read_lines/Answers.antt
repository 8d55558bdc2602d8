-- One line more is read, or it is the first that can't follow.
use Rattle.std.proofs.Common.{◌≡◌, subst}
use Rattle.std.specs.Prelude.{IfErr, IfOk}
use Rattle.id_judge.specs.Judging.{IsReady, ReadsLine, Refuses}
use Rattle.id_judge.proofs.JudgeLemmas.{more_read, rest_refused}
use Rattle.id_judge.proofs.SmallLemmas.{some_text}
use Rattle.id_judge.proofs.judge.read_lines.Goals as goal

pub loop-rest-preserved : goal.loop-rest-preserved
loop-rest-preserved c =
    let mid = c.loop-rest.judge in
    let new = c.line.new.self in
    let ready : IsReady new = subst (λ r. IfOk r (λ t. IsReady new)) c.in-Ok.is c.in_ok-tail.ensures.ready in
    let reads : ReadsLine mid c.loop-rest.rest.now c.in-Ok.tail.now new =
    subst (λ r. IfOk r (λ t. ReadsLine mid c.loop-rest.rest.now t.now new)) c.in-Ok.is c.in_ok-tail.ensures.reads in (
      ready,
      more_read c.args.judge.now mid new c.args.text.now c.loop-rest.rest.now c.in-Ok.tail.now
          c.loop-rest.invariant.1 reads,
    )

pub returns-in-Err-clause-refuses : goal.returns-in-Err-clause-refuses
returns-in-Err-clause-refuses c =
    let mid = c.loop-rest.judge in
    let rest = c.loop-rest.rest.now in
    let why : Refuses mid rest c.in-Err.cause =
    subst (λ r. IfErr r (Refuses mid rest)) c.in-Err.is c.in_ok-tail.ensures.refuses in
    rest_refused c.args.judge.now mid c.args.text.now rest c.line.new.self.lines c.in-Err.cause c.loop-rest.invariant.1
    (some_text rest c.is_empty.result c.is_empty.ensures c.loop-rest-test.true)
    (subst (λ r. IfErr r (λ x. c.line.new.self.lines ≡ mid.lines)) c.in-Err.is c.in_ok-tail.ensures.lines) why
