use Rattle.std.proofs.Common.{ℕ, ◌<◌, length, All, count_by, subst, sym}
use Rattle.id_instr.specs.declared.dests.Dest.{Dest}
use Rattle.id_instr.specs.Graph.{false_arcs}
use Rattle.id_instr.proofs.GraphLemmas.{All-true_arcs, All-false_arcs}
use Rattle.id_valid.specs.Roles.{is_dest}
use Rattle.id_valid.specs.Survey.{Adds}
use Rattle.id_valid.proofs.SurveyLemmas.{Adds-arcs}
use Rattle.id_valid.proofs.survey.feed_from.Goals as goal

-- the destination's instruction is below the number
abbrev Below : ℕ → Dest → Type 0
Below n d = d.instr < n

pub feed-requires : goal.feed-requires
feed-requires c =
    subst (λ ds. All (Below (length c.args.counts.now)) ds) (sym c.as_slice.ensures)
    (All-true_arcs (Below (length c.args.counts.now)) c.args.instr.now c.requires)

pub feed-requires-2 : goal.feed-requires-2
feed-requires-2 c =
    let within : All (Below (length c.feed.new.counts)) (false_arcs c.args.instr.now) =
    subst (λ n. All (Below n) (false_arcs c.args.instr.now)) (sym c.feed.ensures.len)
    (All-false_arcs (Below (length c.args.counts.now)) c.args.instr.now c.requires)
    in subst (λ ds. All (Below (length c.feed.new.counts)) ds) (sym c.false_arcs.ensures) within

pub returns : goal.returns
returns c =
    let test : ℕ → Dest → _ = λ k d. is_dest k c.args.port d in
    Adds-arcs c.args.counts.now c.feed.new.counts c.feed-2.new.counts c.args.instr.now test
    (subst (λ ds. Adds c.args.counts.now c.feed.new.counts (λ k. count_by (test k) ds)) c.as_slice.ensures c.feed.ensures)
    (subst (λ ds. Adds c.feed.new.counts c.feed-2.new.counts (λ k. count_by (test k) ds)) c.false_arcs.ensures c.feed-2.ensures)
