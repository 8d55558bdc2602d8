-- The graph made is one that the schemas give the program.
use Rattle.std.proofs.Common.{subst}
use Rattle.id_check.specs.declared.checked.Checked.{Checked}
use Rattle.id_instr.specs.Graph.{parts}
use Rattle.id_build.specs.Own.{IsOwn}
use Rattle.id_build.proofs.program.build_parts.Goals as goal

pub returns-clause-parts : goal.returns-clause-parts
returns-clause-parts c =
    let g = c.in_ok-parts.parts in
    subst (λ (P : Checked). IsOwn P (parts g.0.items g.1.items)) c.in_ok-slots.ensures c.in_ok-parts.ensures.parts
