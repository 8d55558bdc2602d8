use Rattle.std.proofs.Common.{ℕ, List, subst}
use Rattle.id_print.specs.Reports.{asked}
use Rattle.id_print.specs.Texts.{quiet_text, stopped_text}
use Rattle.id_sink.specs.Told.{Prints}
use Rattle.id_print.proofs.reports.write_report.Goals as goal

pub returns-in-Quiet : goal.returns-in-Quiet
returns-in-Quiet g c =
    let r = c.args.report.now in
    let P : List ℕ → Type 0 = λ k.
    Prints (g.W.Sink.told c.args.sink.now) (g.W.Sink.told c.put_quiet.new.sink)
    (quiet_text k r.answer (asked c.args.names r.names) r.structures r.waiting) c.put_quiet.result in
    rw c.in-Quiet.is
    (subst P c.new-cursor.ensures (rw (c.asked-shown.ensures, c.as_slice.ensures) at c.put_quiet.ensures.prints))

pub returns-in-Stopped : goal.returns-in-Stopped
returns-in-Stopped g c =
    let r = c.args.report.now in
    let P : List ℕ → Type 0 = λ k.
    Prints (g.W.Sink.told c.args.sink.now) (g.W.Sink.told c.put_stopped.new.sink)
    (stopped_text k r.answer (asked c.args.names r.names) r.structures) c.put_stopped.result in
    rw c.in-Stopped.is
    (subst P c.new-cursor.ensures (rw (c.asked-shown.ensures, c.as_slice.ensures) at c.put_stopped.ensures.prints))

pub returns-in-Fault : goal.returns-in-Fault
returns-in-Fault g c = rw c.in-Fault.is c.write_fault.ensures
