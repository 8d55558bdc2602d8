-- The blocks of the procedures, and then those of the loops.
use Rattle.std.proofs.Common.{◌≡◌, ◌∙◌, ◌++◌, ap, arith, length, map, sym}
use Rattle.std.proofs.lemmas.List.{map-append}
use Rattle.id_check.specs.Programs.{rows}
use Rattle.id_table.specs.Turns.{heads_below}
use Rattle.id_build.specs.Made.{number_by}
use Rattle.id_desugar.specs.Regions.{loop_heads}
use Rattle.id_build.specs.Schemas.{block_of}
use Rattle.id_build.proofs.program.blocks.Goals as goal

pub returns : goal.returns
returns c =
    let P = c.args.slots.now.kernel.now.checked.now in
    let f = block_of P (number_by c.args.slots.now.firsts.items) in
    let n = c.loop-head.head in
    let end : n ≡ length (rows P) =
    omega (arith, c.loop-head.auto.head-end, c.loop-head-test.false, c.len-head-end.ensures) in
    c.in_ok-push_loops.ensures
    ∙ ap (λ l. l ++ map f (loop_heads P)) c.loop-head.invariant
    ∙ sym (map-append f (heads_below (rows P) n) (loop_heads P))
    ∙ ap (λ k. map f (heads_below (rows P) k ++ loop_heads P)) end
