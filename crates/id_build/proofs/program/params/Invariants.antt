-- The entries so far.
use Rattle.std.proofs.Common.{◌≡◌, map}
use Rattle.id_check.specs.Programs.{rows}
use Rattle.id_table.specs.Turns.{params_below}
use Rattle.id_build.specs.Made.{number_by}
use Rattle.id_build.proofs.program.params.Given as goal

abbrev pub invariant-loop-n : goal.invariant-loop-n
invariant-loop-n l =
    l.entries.items
    ≡ map (λ x. number_by l.slots.firsts.items x 0) (params_below (rows l.slots.kernel.now.checked.now) l.head l.n)
