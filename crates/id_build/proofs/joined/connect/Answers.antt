-- The instruction with one more destination is written back.
use Rattle.std.proofs.Common.{◌∙◌, ap, arith}
use Rattle.std.proofs.Math.ListN.{set}
use Rattle.std.proofs.lemmas.Result.{on_ok_weaker}
use Rattle.id_build.proofs.JoinedLemmas.{connected_at-set}
use Rattle.id_build.specs.Made.{dest_of}
use Rattle.id_build.proofs.joined.connect.Goals as goal

pub returns : goal.returns
returns c =
    let w = c.args.arc.now in
    let is = c.args.instrs.now.items in
    let at = connected_at-set is w.from w.side c.index_mut.result.now (dest_of w) c.index_mut.ensures.value
    (omega (arith, c.requires.from, c.args.instrs.now.ok.0)) in
    on_ok_weaker c.add_dest.result (λ new. ap (set is w.from) new ∙ at) c.add_dest.ensures
