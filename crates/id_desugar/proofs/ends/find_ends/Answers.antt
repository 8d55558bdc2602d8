-- Each row is noted as an end.
use Rattle.std.proofs.Common.{ap, arith, sym, ◌∙◌, if◌then◌else◌, ◌≡◌, length, subst}
use Rattle.std.specs.Prelude.{Some, None}
use Rattle.id_desugar.specs.Ends.{begun_at, end_at, is_row, AreFirst}
use Rattle.id_desugar.proofs.EndsLemmas.{AreFirst-next, AreFirst-none}
use Rattle.id_check.specs.Programs.{rows}
use Rattle.id_desugar.proofs.ends.find_ends.Goals as goal

pub loop-n-init : goal.loop-n-init
loop-n-init c =
    AreFirst-none c.args.checked.now (end_at c.args.checked.now) c.len-count.result c.in_ok-column.column
    (omega (arith, c.len-count.ensures)) c.in_ok-column.ensures

pub loop-n-preserved : goal.loop-n-preserved
loop-n-preserved c =
    let n = c.loop-n.n in
    let begun = c.begun_at.ensures ∙ ap (λ r. begun_at r.node) c.row_at.ensures in
    AreFirst-next c.args.checked.now (end_at c.args.checked.now) n c.begun_at.result c.loop-n.column c.note.new.noted
    (λ h. ap (λ b. if is_row h b then Some n else None) (sym begun)) c.note.ensures.long c.loop-n.invariant
    c.note.ensures.each

pub note-requires : goal.note-requires
note-requires c = omega (arith, c.loop-n-test.true, c.if-count-gt-MOST.false)

pub invariant_of-result : goal.invariant_of-result
invariant_of-result c =
    let end : c.loop-n.n ≡ length (rows c.args.checked.now) =
    omega (arith, c.loop-n-test.false, c.loop-n.auto.n-end, c.len-count.ensures) in
    record {
      few = omega (arith, c.if-count-gt-MOST.false, c.len-count.ensures);
      ended = subst (λ n. AreFirst c.args.checked.now (end_at c.args.checked.now) n c.loop-n.column) end
          c.loop-n.invariant;
    }
