-- The instructions with the arcs so far get those of the rows that are left.
use Rattle.std.proofs.Common.{◌≡◌, [], drop, length}
use Rattle.std.specs.Prelude.{All, fold}
use Rattle.id_build.specs.Made.{arcs_in, connected, instrs_from, IsBetween, pieces_in}
use Rattle.id_build.specs.Passes.{firsts_of, program_of}
use Rattle.id_build.proofs.program.with_arcs.Given as goal

abbrev pub invariant-loop-n : goal.invariant-loop-n
invariant-loop-n l = record {
  list : l.arcs.items ≡ [];
  instrs : fold connected l.instrs.items (arcs_in (program_of l.slots) (firsts_of l.slots) (drop l.n-index l.order))
      ≡ instrs_from (firsts_of l.slots) 0 (pieces_in (program_of l.slots) l.order)
      (arcs_in (program_of l.slots) (firsts_of l.slots) l.order);
  long : length l.instrs.items ≡ length (pieces_in (program_of l.slots) l.order);
  between : All (IsBetween (length (pieces_in (program_of l.slots) l.order)))
      (arcs_in (program_of l.slots) (firsts_of l.slots) (drop l.n-index l.order));
}
