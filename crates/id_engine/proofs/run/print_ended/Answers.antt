use Rattle.std.proofs.Common.{refl, sym, ap, ◌∙◌}
use Rattle.id_core.specs.Machines.{MachineView}
use Rattle.id_engine.proofs.KeepsLemmas.{keeps_names, keeps_trace}
use Rattle.id_engine.proofs.PrintedLemmas.{PrintsMachine-memory, PrintsMachine-reported}
use Rattle.id_engine.proofs.run.print_ended.Goals as goal

pub returns-in-Err : goal.returns-in-Err
returns-in-Err g c = PrintsMachine-memory _ _ _ _ _ _ _ refl c.in-Err.ensures.memory

pub report_of-requires-clause-kept : goal.report_of-requires-clause-kept
report_of-requires-clause-kept g c =
    λ asked is. keeps_names c.args.asked.trace c.args.asked.names asked (sym c.requires.kept ∙ is)

pub print_run-requires : goal.print_run-requires
print_run-requires g c =
    λ asked. ap (λ (m : MachineView). m.keeps) c.report_of.ensures.same
    ∙ (c.requires.kept ∙ keeps_trace c.args.asked.trace c.args.asked.names asked)

pub returns-in-Ok : goal.returns-in-Ok
returns-in-Ok g c =
    PrintsMachine-reported _ _ _ _ _ _ _ _ _ c.report_of.ensures.same c.in-Ok.ensures.report c.print_run.ensures
