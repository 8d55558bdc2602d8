use Rattle.id_compile.specs.Refusals.IsRefusedText.{by_text}
use Rattle.id_engine.proofs.commands.accept_text.Goals as goal

pub returns-in-Err-clause-refused : goal.returns-in-Err-clause-refused
returns-in-Err-clause-refused c = by_text _ c.in-Err.ensures.refused

pub returns-in-Err-clause-inside : goal.returns-in-Err-clause-inside
returns-in-Err-clause-inside c = c.in-Err.ensures.inside

pub returns-in-Err-clause-not_write : goal.returns-in-Err-clause-not_write
returns-in-Err-clause-not_write c = λ h. absurd cc

pub returns-in-Err-clause-program : goal.returns-in-Err-clause-program
returns-in-Err-clause-program c = tt

pub returns-in-Ok : goal.returns-in-Ok
returns-in-Ok c = record { program = c.in-Ok.ensures.program; refused = tt; inside = tt; not_write = tt }
