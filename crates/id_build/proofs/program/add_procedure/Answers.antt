-- The block of a procedure.
use Rattle.std.proofs.Common.{◌∙◌, ◌++◌, ◌∷◌, [], ap}
use Rattle.std.proofs.lemmas.Result.{on_ok_weaker}
use Rattle.id_build.specs.Made.{number_by}
use Rattle.id_build.proofs.program.add_procedure.Goals as goal

pub returns : goal.returns
returns c =
    let F = c.args.slots.now.firsts.items in
    on_ok_weaker c.add_block.result (λ new. new
    ∙ ap (λ z. c.args.blocks.now.items ++ record { first = number_by F c.args.head 0; entries = z } ∷ [])
    c.in_ok-entries.ensures)
    c.add_block.ensures
