use Rattle.std.proofs.Common.{◌≡◌, refl}
use Rattle.id_engine.proofs.ServedLemmas.{DrivesBy-broken}
use Rattle.id_engine.proofs.program.judge_opened.Goals as goal

pub returns-in-Ok : goal.returns-in-Ok
returns-in-Ok g c = λ a opened lost.
    let is : g.L.Log.ahead c.in-Ok.log ≡ a = rw c.in-Ok.is at opened in rw is at c.judge_asked.ensures

pub returns-in-Err : goal.returns-in-Err
returns-in-Err g c = λ a opened lost.
    DrivesBy-broken c.args.text.now a c.args.request.now _ _ _ _ c.in-Err.fault c.log_fault.result
    c.of_source_fault.result c.refuse_plainly.result
    (rw c.in-Err.is at lost) c.log_fault.ensures c.of_source_fault.ensures c.refuse_plainly.ensures.status refl
    c.refuse_plainly.ensures.printed
