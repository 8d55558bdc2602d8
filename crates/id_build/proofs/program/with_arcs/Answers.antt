-- Each row in order is one of the table, and its arcs go between two of the instructions.
use Rattle.std.proofs.Common.{◌≡◌, ◌∙◌, ◌+◌, List, [], ℕ, ap, sym, arith, drop, get_or, length, map, subst}
use Rattle.std.specs.Prelude.{All, fold}
use Rattle.std.proofs.lemmas.List.{drop_all}
use Rattle.std.proofs.lemmas.List.Sums.{fold-append}
use Rattle.id_instr.specs.declared.instr.Instr.{Instr}
use Rattle.id_desugar.specs.Regions.{order_of}
use Rattle.id_build.specs.Made.{arc_of, arcs_in, connected, instrs_from, IsBetween, pieces_in}
use Rattle.id_build.specs.Rows.{feeds}
use Rattle.id_build.proofs.BuildableLemmas.{IsBuildable-checked, is_order}
use Rattle.id_build.proofs.PushedLemmas.{arcs_in-at}
use Rattle.id_build.proofs.JoinedLemmas.{AreBetween-left, AreBetween-right, instrs_from-append, length-connected}
use Rattle.id_build.proofs.JoinedLemmas.{length-instrs_from}
use Rattle.id_build.proofs.PassesLemmas.{few_in, firsts_in}
use Rattle.id_build.proofs.SchemasLemmas.{IsFrom-arcs_in}
use Rattle.id_build.proofs.program.with_arcs.Goals as goal

pub loop-n-init : goal.loop-n-init
loop-n-init c =
    let S = c.args.slots.now in
    let P = S.kernel.now.checked.now in
    let F = S.firsts.items in
    let order = c.as_slice-order.result.now in
    let is : order ≡ order_of P = c.as_slice-order.ensures.value ∙ S.kernel.now.ordered in
    let ps = pieces_in P order in
    let vs = arcs_in P F order in
    let bare = c.requires ∙ ap (λ (o : List ℕ). instrs_from F 0 (pieces_in P o) []) (sym is) in
    record {
      list = c.new-arcs.ensures.items;
      instrs = ap (λ (is : List Instr). fold connected is vs) bare ∙ instrs_from-append F ps [] vs;
      long = ap length bare ∙ length-instrs_from F 0 ps [];
      between = IsFrom-arcs_in P order F (IsBuildable-checked P) (is_order P order is) (firsts_in S order is);
    }

pub connect_row-requires-clause-few : goal.connect_row-requires-clause-few
connect_row-requires-clause-few c =
    let S = c.args.slots.now in
    let order = c.as_slice-order.result.now in
    omega (arith, c.loop-n.invariant.long, few_in S order (c.as_slice-order.ensures.value ∙ S.kernel.now.ordered))

pub connect_row-requires-clause-between : goal.connect_row-requires-clause-between
connect_row-requires-clause-between c =
    let P = c.args.slots.now.kernel.now.checked.now in
    let F = c.args.slots.now.firsts.items in
    let order = c.as_slice-order.result.now in
    let i = c.loop-n.n-index in
    let n = get_or order i 0 in
    let m = length (pieces_in P order) in
    let own = map (arc_of F n) (feeds P n) in
    let both = subst (All (IsBetween m)) (arcs_in-at P F order i (omega arith)) c.loop-n.invariant.between in
    let mine = AreBetween-left m own (arcs_in P F (drop (i + 1) order)) both in
    subst (λ (k : ℕ). All (IsBetween k) own) (sym c.loop-n.invariant.long) mine

pub loop-n-preserved : goal.loop-n-preserved
loop-n-preserved c =
    let P = c.args.slots.now.kernel.now.checked.now in
    let F = c.args.slots.now.firsts.items in
    let order = c.as_slice-order.result.now in
    let i = c.loop-n.n-index in
    let n = get_or order i 0 in
    let own = map (arc_of F n) (feeds P n) in
    let rest = arcs_in P F (drop (i + 1) order) in
    let is = c.loop-n.instrs.items in
    let made = c.in_ok-connect_row.ensures.instrs in
    let here = arcs_in-at P F order i (omega arith) in
    record {
      list = c.in_ok-connect_row.ensures.empty;
      instrs = ap (λ (z : List Instr). fold connected z rest) made
          ∙ sym (fold-append connected is own rest) ∙ ap (fold connected is) (sym here) ∙ c.loop-n.invariant.instrs;
      long = ap length made ∙ length-connected is own ∙ c.loop-n.invariant.long;
      between =
          AreBetween-right (length (pieces_in P order)) own rest
          (subst (All (IsBetween (length (pieces_in P order)))) here c.loop-n.invariant.between);
    }

pub returns : goal.returns
returns c =
    let k = c.args.slots.now.kernel.now in
    let P = k.checked.now in
    let F = c.args.slots.now.firsts.items in
    let order = c.as_slice-order.result.now in
    let is : order ≡ order_of P = c.as_slice-order.ensures.value ∙ k.ordered in
    let rest = drop_all c.loop-n.n-index order (omega arith) in
    ap (λ (z : List ℕ). fold connected c.loop-n.instrs.items (arcs_in P F z)) (sym rest) ∙ c.loop-n.invariant.instrs
    ∙ ap (λ (o : List ℕ). instrs_from F 0 (pieces_in P o) (arcs_in P F o)) is
