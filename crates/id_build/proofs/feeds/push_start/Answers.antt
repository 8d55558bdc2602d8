-- A `Start` begins the loop whose head is the next row, and its sends are those of what the loop carries on, of the
-- variables
-- and of the imports.
use Rattle.std.proofs.Common.{◌≡◌, ◌+◌, ap, arith, length, refl}
use Rattle.std.proofs.lemmas.Result.{on_ok_weaker}
use Rattle.id_desugar.specs.Regions.{carried, is_loop_head}
use Rattle.id_build.proofs.PushedLemmas.{start_arcs}
use Rattle.id_build.proofs.LoopsLemmas.{rows_few, start_head, start_inside}
use Rattle.id_build.proofs.feeds.push_start.Goals as goal

pub nexts_at-nexts-requires : goal.nexts_at-nexts-requires
nexts_at-nexts-requires c =
    let P = c.args.slots.now.kernel.now.checked.now in
    ap is_loop_head (start_head P c.args.n (start_inside P c.args.n c.requires) c.requires).1

pub overflow_add-head : goal.overflow_add-head
overflow_add-head c =
    let P = c.args.slots.now.kernel.now.checked.now in
    omega (arith, start_inside P c.args.n c.requires, rows_few P)

pub returns : goal.returns
returns c =
    let P = c.args.slots.now.kernel.now.checked.now in
    let F = c.args.slots.now.firsts.items in
    let n = c.args.n in
    let first : 1 + c.carried_count-first.result ≡ 1 + length (carried P (n + 1)) =
    omega (arith, c.carried_count-first.ensures.count) in
    on_ok_weaker c.push_imports.result
    (λ e. start_arcs P F _ _ _ n (1 + c.carried_count-first.result) _ _ c.args.region _ _ c.nexts_at-nexts.result.now
    c.imports_at-imports.result.now c.args.arcs.now.items _ _ _ _
    refl refl refl
    refl c.trigger_of.ensures c.output.ensures first refl c.imports_at-imports.ensures c.nexts_at-nexts.ensures.nexts
    c.in_ok-push_first.ensures
    c.in_ok-push_bounds_sends.ensures c.in_ok-push_firsts.ensures e) c.push_imports.ensures
