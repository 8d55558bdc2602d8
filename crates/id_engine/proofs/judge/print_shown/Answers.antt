use Rattle.std.proofs.Common.{false, refl, sym, ◌∙◌}
use Rattle.id_engine.specs.Judgements.PrintsLegal.{reported, unreported}
use Rattle.id_engine.proofs.JudgedLemmas.{IsOutput-from}
use Rattle.id_engine.proofs.KeepsLemmas.{keeps_names}
use Rattle.id_engine.proofs.judge.print_shown.Goals as goal

pub run_report-requires : goal.run_report-requires
run_report-requires g c = λ asked is. keeps_names false c.args.names asked (sym c.requires ∙ is)

pub returns-in-Ok : goal.returns-in-Ok
returns-in-Ok g c = reported _ c.in-Ok.ensures
    (IsOutput-from c.args.prepared.now.compiled.text c.args.names c.in-Ok.report _ _ c.args.events c.status_of.result
    c.write_legal-written.result
    c.printed.result c.status_of.ensures c.write_legal-written.ensures c.printed.ensures)

pub returns-in-Err : goal.returns-in-Err
returns-in-Err g c = unreported refl
