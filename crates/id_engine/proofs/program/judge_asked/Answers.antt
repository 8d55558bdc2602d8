use Rattle.std.proofs.Common.{Err, ap}
use Rattle.id_engine.specs.declared.judge.Unjudged.TheVariants.{Refused}
use Rattle.id_engine.proofs.ServedLemmas.{DrivesBy-broken, DrivesBy-heard, DrivesBy-refused}
use Rattle.id_engine.proofs.program.judge_asked.Goals as goal

pub returns-in-Ok : goal.returns-in-Ok
returns-in-Ok g c =
    DrivesBy-heard c.args.text.now _ c.args.request.now _ _ _ c.in-Ok.status
    (rw c.in-Judge.is (rw c.as_slice.ensures.value at c.in-Ok.ensures.shown))
    (rw c.in-Judge.is (rw c.as_slice.ensures.value at c.in-Ok.ensures.taken)) (rw c.in-Judge.is tt)

pub returns-in-Err-Refused : goal.returns-in-Err-Refused
returns-in-Err-Refused g c =
    DrivesBy-refused c.args.text.now _ c.args.request.now _ _ _ _ c.in-Err-Refused.error c.tell.result
    (rw c.in-Judge.is
    (λ e. rw c.as_slice.ensures.value at c.in-Err-Refused.ensures.cut
    (rw c.in-Err-Refused.field-0-is (ap (λ x. Err (Refused x)) e))))
    (rw c.in-Judge.is (λ e. tt)) (λ no. rw c.in-Err-Refused.field-0-is at c.in-Err-Refused.ensures.silent (λ e. no cc))
    (rw c.in-Judge.is
    (rw c.as_slice.ensures.value at (rw c.in-Err-Refused.field-0-is at c.in-Err-Refused.ensures.refused)))
    c.tell.ensures

pub returns-in-Err-Broken : goal.returns-in-Err-Broken
returns-in-Err-Broken g c =
    DrivesBy-broken c.args.text.now _ c.args.request.now _ _ _ _ c.in-Err-Broken.fault c.log_fault.result
    c.of_source_fault.result c.refuse_plainly.result
    (rw c.in-Err-Broken.field-0-is at c.in-Err-Broken.ensures.refused) c.log_fault.ensures c.of_source_fault.ensures
    c.refuse_plainly.ensures.status
    (rw c.in-Err-Broken.field-0-is at c.in-Err-Broken.ensures.silent (λ e. absurd cc)) c.refuse_plainly.ensures.printed
