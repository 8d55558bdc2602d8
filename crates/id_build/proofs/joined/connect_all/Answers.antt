-- Each arc goes between two of the instructions, and is joined to the first.
use Rattle.std.proofs.Common.{◌∙◌, ap, arith, false, get_or, length, sym, take}
use Rattle.std.proofs.lemmas.List.Sums.{fold_more}
use Rattle.id_build.specs.Made.{connected}
use Rattle.id_build.specs.declared.arc.Arc.{Arc}
use Rattle.id_instr.specs.declared.dests.Port.TheVariants.{Zero}
use Rattle.id_build.proofs.JoinedLemmas.{length-connected}
use Rattle.id_build.proofs.joined.connect_all.Goals as goal

-- what the list is read with past its end
abbrev none : Arc
none = record { from = 0; side = false; to = 0; port = Zero }

pub loop-arc-preserved : goal.loop-arc-preserved
loop-arc-preserved c =
    let i = c.loop-arc.arc-index in
    c.in_ok-connect.ensures
    ∙ ap (λ is. connected is (get_or c.args.arcs.now i none)) c.loop-arc.invariant
    ∙ sym (fold_more connected c.args.instrs.now.items c.args.arcs.now i none (omega arith))

pub connect-requires-clause-from : goal.connect-requires-clause-from
connect-requires-clause-from c =
    let i = c.loop-arc.arc-index in
    let h = c.requires.from i none (omega arith) in
    omega (
      arith,
      h.0,
      ap length c.loop-arc.invariant,
      length-connected c.args.instrs.now.items (take i c.args.arcs.now),
    )

pub connect-requires-clause-to : goal.connect-requires-clause-to
connect-requires-clause-to c =
    let h = c.requires.from c.loop-arc.arc-index none (omega arith) in
    omega (arith, h.1, c.requires.few)
