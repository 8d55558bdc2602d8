use Rattle.std.proofs.Common.{ℕ, List, ap}
use Rattle.id_print.specs.Reports.{report_text}
use Rattle.id_sink.proofs.SinkLemmas.{Prints-stop, Prints-then}
use Rattle.id_engine.proofs.PrintedLemmas.{Prints-same}
use Rattle.id_engine.proofs.judge.write_legal.Goals as goal

pub returns-in_err-put_legal : goal.returns-in_err-put_legal
returns-in_err-put_legal g c =
    Prints-stop _ _ _ (report_text c.args.prepared.now.compiled.text c.args.names c.args.report.now) _ _
    c.in_err-put_legal.ensures c.from_residual.ensures.0

pub returns : goal.returns
returns g c = Prints-then _ _ _ _ _ _ _ c.in_ok-put_legal.ensures (Prints-same
    (ap (λ (t : List ℕ). report_text t c.args.names c.args.report.now) c.text.ensures.value) c.write_report.ensures)
