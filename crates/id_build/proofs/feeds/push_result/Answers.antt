-- The last expression's arc is pushed.
use Rattle.std.proofs.Common.{◌≡◌, ◌∙◌, ◌+◌, ap, arith, refl}
use Rattle.std.proofs.lemmas.Result.{on_ok_weaker}
use Rattle.id_instr.specs.declared.dests.Port.TheVariants.{One}
use Rattle.id_desugar.specs.Ends.{end_of}
use Rattle.id_build.specs.Made.{number_by}
use Rattle.id_build.specs.Rows.{body_of, node, origin}
use Rattle.id_build.proofs.PushedLemmas.{one_arc}
use Rattle.id_build.proofs.feeds.push_result.Goals as goal

pub returns : goal.returns
returns c =
    let P = c.args.slots.now.kernel.now.checked.now in
    let F = c.args.slots.now.firsts.items in
    let n = c.args.n in
    let xs = c.args.arcs.now.items in
    let first : c.number_at-first.result ≡ number_by F n 0 =
    c.number_at-first.ensures.number in
    let second : c.number_at-first.result + 1 ≡ number_by F n 1 = omega (arith, first) in
    let body =
    c.body_of-body.ensures ∙ ap (λ r. body_of r.node) c.row_at.ensures
    ∙ ap (λ m. body_of (node P m)) c.end_of.ensures in
    let from = c.origin.ensures.origin ∙ ap (origin P) body in
    on_ok_weaker c.push_arc.result
    (one_arc F F n 1 _ (origin P (body_of (node P (end_of P n)))) _ One xs _ refl second from) c.push_arc.ensures
