-- One more row may be one more head.
use Rattle.std.proofs.Common.{◌≡◌, ◌∙◌, true, ap, map, sym}
use Rattle.std.proofs.lemmas.Result.{on_ok_weaker}
use Rattle.id_table.specs.declared.row.Row.{Row}
use Rattle.id_table.specs.Tables.{is_head}
use Rattle.id_check.specs.Programs.{rows}
use Rattle.id_table.specs.Turns.{heads_below}
use Rattle.id_build.specs.Made.{number_by}
use Rattle.id_build.specs.Rows.{node}
use Rattle.id_build.specs.Schemas.{block_of}
use Rattle.id_build.proofs.BlocksLemmas.{blocks_push, heads_next}
use Rattle.id_build.proofs.program.add_head.Goals as goal

pub returns-then-is_head : goal.returns-then-is_head
returns-then-is_head c =
    let P = c.args.slots.now.kernel.now.checked.now in
    let F = c.args.slots.now.firsts.items in
    let h = c.args.head in
    let test : is_head (node P h) ≡ true =
    ap (λ (r : Row). is_head r.node) (sym c.row_at.ensures) ∙ sym c.is_head.ensures ∙ c.if-is_head.true in
    on_ok_weaker c.add_procedure.result (λ new.
    blocks_push P F (heads_below (rows P) h) c.args.blocks.now.items c.add_procedure.new.blocks.items h c.requires new
    ∙ ap (map (block_of P (number_by F))) (sym (heads_next P h test))) c.add_procedure.ensures
