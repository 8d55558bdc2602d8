-- The tokens of a text are one list, and their tree is one; all else is made of it.
use Rattle.id_promises.proofs.OneProgramLemmas.{OneProgram-text}
use Rattle.id_promises.proofs.one_program.Goals as goal

pub returns : goal.returns
returns c = OneProgram-text
