-- The graph made is the program's own.
use Rattle.std.proofs.Common.{◌≡◌, ◌≤◌, List, ap, arith, length, refl, sym, subst}
use Rattle.id_desugar.specs.Regions.{order_of}
use Rattle.id_instr.specs.declared.instr.Block.{Block}
use Rattle.id_instr.specs.declared.instr.Instr.{Instr}
use Rattle.id_instr.specs.Graph.{parts}
use Rattle.id_build.specs.Made.{graph_by}
use Rattle.id_build.specs.Own.{IsOwn}
use Rattle.id_build.proofs.BuildableLemmas.{IsBuildable-checked, is_order}
use Rattle.id_build.proofs.OwnLemmas.{IsOwn-made}
use Rattle.id_build.proofs.PassesLemmas.{few_in, firsts_in}
use Rattle.id_build.proofs.SchemasLemmas.{length-graph_by}
use Rattle.id_build.proofs.program.parts_by.Goals as goal

pub returns : goal.returns
returns c =
    let S = c.args.slots.now in
    let P = S.kernel.now.checked.now in
    let F = S.firsts.items in
    let order = order_of P in
    let G = graph_by P order F in
    let whole = IsOwn-made P order F (IsBuildable-checked P) refl (is_order P order refl) (firsts_in S order refl) in
    let bs : c.in_ok-blocks.blocks.items ≡ G.blocks = c.in_ok-blocks.ensures in
    let is : c.in_ok-instrs.instrs.items ≡ G.instrs = c.in_ok-instrs.ensures in
    let A : List Block → Type 0 = λ x. IsOwn P (parts x c.in_ok-instrs.instrs.items) in
    let B : List Instr → Type 0 = λ x. IsOwn P (parts G.blocks x) in
    let few : length c.in_ok-instrs.instrs.items ≤ 1000000 =
    omega (arith, ap length is, length-graph_by P order F, few_in S order refl) in
    record { parts = subst A (sym bs) (subst B (sym is) whole); few = few }
