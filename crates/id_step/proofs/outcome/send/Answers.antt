-- The context goes to each destination, and what starts the block comes behind.
use Rattle.std.proofs.Common.{◌≡◌, ◌+◌, ◌++◌, length, map, refl, sym, ap, ◌∙◌, Some, append_assoc, arith}
use Rattle.std.proofs.lemmas.List.{length-map}
use Rattle.id_instr.specs.Graph.{arcs_on}
use Rattle.id_ops.specs.Operators.{side_of}
use Rattle.id_ops.specs.declared.Fired.TheVariants.{Entered}
use Rattle.id_tag.specs.declared.Value.TheVariants as value
use Rattle.id_record.specs.Sends.{numbered, sent, started, token_to}
use Rattle.id_record.proofs.SendsLemmas.{numbered-append}
use Rattle.id_step.proofs.outcome.send.Goals as goal

pub returns-in-Entered : goal.returns-in-Entered
returns-in-Entered c =
    let e = c.args.envelope in
    let x = c.in-Entered.context in
    let o = Some c.args.instr.now.op in
    let ds = c.chosen-dests.result.now in
    let tokens = map (token_to c.args.tag (value.Context x)) ds in
    let starts = started o c.args.tag x in
    let many : 0 + length tokens ≡ length ds = omega (arith, length-map ds (token_to c.args.tag (value.Context x))) in
    let apart : numbered e.number e.position e.stamp 0 (tokens ++ starts)
    ≡ numbered e.number e.position e.stamp 0 tokens ++
    numbered e.number e.position e.stamp (length ds) starts =
    numbered-append e.number e.position e.stamp 0 tokens starts
    ∙ ap (λ k. numbered e.number e.position e.stamp 0 tokens ++ numbered e.number e.position e.stamp k starts) many in
    let whole : sent o ds c.args.tag (Entered x)
    ≡ sent o (arcs_on (side_of c.args.fired.now) c.args.instr.now) c.args.tag c.args.fired.now =
    ap (λ xs. sent o xs c.args.tag (Entered x)) c.chosen-dests.ensures
    ∙ ap (λ f. sent o (arcs_on (side_of c.args.fired.now) c.args.instr.now) c.args.tag f) (sym c.in-Entered.is) in
    rw (c.send_start.ensures, c.send_all-in-Entered.ensures.messages, append_assoc, ← whole, apart) refl
