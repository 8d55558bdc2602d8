-- Each row in order is one of the table.
use Rattle.std.proofs.Common.{◌≡◌, ◌∙◌, ◌++◌, ℕ, List, [], ap, arith, get_or, sym, take, take_all}
use Rattle.id_instr.specs.declared.instr.Instr.{Instr}
use Rattle.id_desugar.specs.Regions.{order_of}
use Rattle.id_build.specs.declared.arc.Piece.{Piece}
use Rattle.id_build.specs.Made.{instrs_from, pieces_in}
use Rattle.id_build.specs.Rows.{made}
use Rattle.id_build.proofs.FillLemmas.{pieces_in-next}
use Rattle.id_build.proofs.JoinedLemmas.{bare-append}
use Rattle.id_build.proofs.program.bare_instrs.Goals as goal

pub loop-n-preserved : goal.loop-n-preserved
loop-n-preserved c =
    let P = c.args.slots.now.kernel.now.checked.now in
    let order = c.as_slice-order.result.now in
    let F = c.args.slots.now.firsts.items in
    let i = c.loop-n.n-index in
    let n = get_or order i 0 in
    record {
      pieces = c.in_ok-add_bare.ensures.empty;
      instrs = c.in_ok-add_bare.ensures.bare
          ∙ ap (λ (x : List Instr). x ++ instrs_from F 0 (made P n) []) c.loop-n.invariant.instrs
          ∙ sym (bare-append F 0 (pieces_in P (take i order)) (made P n))
          ∙ ap (λ (x : List Piece). instrs_from F 0 x []) (sym (pieces_in-next P order i (omega arith)));
    }

pub returns : goal.returns
returns c =
    let k = c.args.slots.now.kernel.now in
    let P = k.checked.now in
    let order = c.as_slice-order.result.now in
    let is : order ≡ order_of P = c.as_slice-order.ensures.value ∙ k.ordered in
    c.loop-n.invariant.instrs
    ∙ ap (λ (z : List ℕ). instrs_from c.args.slots.now.firsts.items 0 (pieces_in P z) [])
    (take_all c.loop-n.n-index order c.loop-n-test.false ∙ is)
