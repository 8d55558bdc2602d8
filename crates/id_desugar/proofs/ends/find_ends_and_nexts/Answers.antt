-- Each row is noted as an end, and as a `next`.
use Rattle.std.proofs.Common.{ap, arith, sym, ◌∙◌, if◌then◌else◌, ◌≡◌, length, subst}
use Rattle.std.specs.Prelude.{Some, None}
use Rattle.id_desugar.specs.Ends.{begun_at, end_at, is_row, next_at, AreFirst}
use Rattle.id_desugar.proofs.EndsLemmas.{AreFirst-next, AreFirst-none}
use Rattle.id_check.specs.Programs.{rows}
use Rattle.id_desugar.proofs.ends.find_ends_and_nexts.Goals as goal

pub loop-n-init : goal.loop-n-init
loop-n-init c =
    let P = c.args.checked.now in
    record {
      ends = AreFirst-none P (end_at P) c.len-count.result c.in_ok-column.column (omega (arith, c.len-count.ensures))
          c.in_ok-column.ensures;
      nexts = AreFirst-none P (next_at P) c.len-count.result c.in_ok-nexts.nexts (omega (arith, c.len-count.ensures))
          c.in_ok-nexts.ensures;
    }

pub loop-n-preserved : goal.loop-n-preserved
loop-n-preserved c =
    let P = c.args.checked.now in
    let n = c.loop-n.n in
    let begun = c.begun_at.ensures ∙ ap (λ r. begun_at r.node) c.row_at.ensures in
    record {
      ends = AreFirst-next P (end_at P) n c.begun_at.result c.loop-n.column c.note.new.noted
          (λ h. ap (λ b. if is_row h b then Some n else None) (sym begun)) c.note.ensures.long c.loop-n.invariant.ends
          c.note.ensures.each;
      nexts = AreFirst-next P (next_at P) n c.variable_at.result c.loop-n.nexts c.note-in-loop-n.new.noted
          (λ h. ap (λ b. if is_row h b then Some n else None) (sym c.variable_at.ensures)) c.note-in-loop-n.ensures.long
          c.loop-n.invariant.nexts
          c.note-in-loop-n.ensures.each;
    }

pub note-requires : goal.note-requires
note-requires c = omega (arith, c.loop-n-test.true, c.if-count-gt-MOST.false)

pub note-requires-in-loop-n : goal.note-requires-in-loop-n
note-requires-in-loop-n c = omega (arith, c.loop-n-test.true, c.if-count-gt-MOST.false)

pub invariant_of-ends : goal.invariant_of-ends
invariant_of-ends c =
    let P = c.args.checked.now in
    let end : c.loop-n.n ≡ length (rows P) =
    omega (arith, c.loop-n-test.false, c.loop-n.auto.n-end, c.len-count.ensures) in
    record {
      few = omega (arith, c.if-count-gt-MOST.false, c.len-count.ensures);
      ended = subst (λ n. AreFirst P (end_at P) n c.loop-n.column) end c.loop-n.invariant.ends;
    }

pub invariant_of-result : goal.invariant_of-result
invariant_of-result c =
    let P = c.args.checked.now in
    let end : c.loop-n.n ≡ length (rows P) =
    omega (arith, c.loop-n-test.false, c.loop-n.auto.n-end, c.len-count.ensures) in
    record { nexted = subst (λ n. AreFirst P (next_at P) n c.loop-n.nexts) end c.loop-n.invariant.nexts }
