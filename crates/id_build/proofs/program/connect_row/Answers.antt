-- The arcs of the row are its own, since there were none.
use Rattle.std.proofs.Common.{◌∙◌, ◌++◌, List, ap, length, map, subst, sym}
use Rattle.std.specs.Prelude.{All, fold}
use Rattle.id_build.specs.declared.arc.Arc.{Arc}
use Rattle.id_build.specs.Made.{IsBetween, arc_of, connected}
use Rattle.id_build.specs.Rows.{feeds}
use Rattle.id_build.proofs.program.connect_row.Goals as goal

pub connect_all-requires-clause-from : goal.connect_all-requires-clause-from
connect_all-requires-clause-from c =
    let S = c.args.slots.now in
    let own = map (arc_of S.firsts.items c.args.n) (feeds S.kernel.now.checked.now c.args.n) in
    let vs = c.as_slice.ensures.value ∙ c.in_ok-push_feeds.ensures ∙ ap (λ (z : List Arc). z ++ own) c.requires.empty in
    subst (All (IsBetween (length c.args.instrs.now.items))) (sym vs) c.requires.between

pub returns-clause-instrs : goal.returns-clause-instrs
returns-clause-instrs c =
    let S = c.args.slots.now in
    let own = map (arc_of S.firsts.items c.args.n) (feeds S.kernel.now.checked.now c.args.n) in
    let vs = c.as_slice.ensures.value ∙ c.in_ok-push_feeds.ensures ∙ ap (λ (z : List Arc). z ++ own) c.requires.empty in
    c.in_ok-connect_all.ensures ∙ ap (fold connected c.args.instrs.now.items) vs
