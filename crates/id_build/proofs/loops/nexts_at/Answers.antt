-- The switches of a loop hand on its variables, behind the bound of its index.
use Rattle.std.proofs.Common.{◌≡◌, ◌∙◌, true, false, ap, sym, length}
use Rattle.id_desugar.specs.Regions.{bound_of, imports_of, nexts_of}
use Rattle.id_build.proofs.LoopsLemmas.{bound_count, middle_is, nexts_first}
use Rattle.id_build.proofs.loops.nexts_at.Goals.{then-has_index, else-has_index}
use Rattle.id_build.proofs.loops.nexts_at.Goals as goal

pub overflow_sub-result : goal.overflow_sub-result
overflow_sub-result c =
    let P = c.args.kernel.now.checked.now in
    let h = c.args.head in
    let all = c.imports_at-handed.ensures ∙ ap (imports_of P) c.switches_row.ensures ∙ nexts_first P h c.requires in
    let first : c.if-has_index.first ≡ length (bound_of P h) = elim c.if-has_index.branch [
      | then-has_index w ↦ w.first-is ∙ sym (bound_count P h true (sym c.has_index.ensures ∙ w.if-has_index.true))
      | else-has_index w ↦ w.first-is ∙ sym (bound_count P h false (sym c.has_index.ensures ∙ w.if-has_index.false))
    ] in
    (middle_is c.if-has_index.first (bound_of P h) (nexts_of P h) (imports_of P h) _ _ all c.imports_at-inner.ensures
    first).0

pub slice_bounds-result-start : goal.slice_bounds-result-start
slice_bounds-result-start c =
    let P = c.args.kernel.now.checked.now in
    let h = c.args.head in
    let all = c.imports_at-handed.ensures ∙ ap (imports_of P) c.switches_row.ensures ∙ nexts_first P h c.requires in
    let first : c.if-has_index.first ≡ length (bound_of P h) = elim c.if-has_index.branch [
      | then-has_index w ↦ w.first-is ∙ sym (bound_count P h true (sym c.has_index.ensures ∙ w.if-has_index.true))
      | else-has_index w ↦ w.first-is ∙ sym (bound_count P h false (sym c.has_index.ensures ∙ w.if-has_index.false))
    ] in
    (middle_is c.if-has_index.first (bound_of P h) (nexts_of P h) (imports_of P h) _ _ all c.imports_at-inner.ensures
    first).1

pub slice_bounds-result-count : goal.slice_bounds-result-count
slice_bounds-result-count c =
    let P = c.args.kernel.now.checked.now in
    let h = c.args.head in
    let all = c.imports_at-handed.ensures ∙ ap (imports_of P) c.switches_row.ensures ∙ nexts_first P h c.requires in
    let first : c.if-has_index.first ≡ length (bound_of P h) = elim c.if-has_index.branch [
      | then-has_index w ↦ w.first-is ∙ sym (bound_count P h true (sym c.has_index.ensures ∙ w.if-has_index.true))
      | else-has_index w ↦ w.first-is ∙ sym (bound_count P h false (sym c.has_index.ensures ∙ w.if-has_index.false))
    ] in
    (middle_is c.if-has_index.first (bound_of P h) (nexts_of P h) (imports_of P h) _ _ all c.imports_at-inner.ensures
    first).1

pub returns-clause-nexts : goal.returns-clause-nexts
returns-clause-nexts c =
    let P = c.args.kernel.now.checked.now in
    let h = c.args.head in
    let all = c.imports_at-handed.ensures ∙ ap (imports_of P) c.switches_row.ensures ∙ nexts_first P h c.requires in
    let first : c.if-has_index.first ≡ length (bound_of P h) = elim c.if-has_index.branch [
      | then-has_index w ↦ w.first-is ∙ sym (bound_count P h true (sym c.has_index.ensures ∙ w.if-has_index.true))
      | else-has_index w ↦ w.first-is ∙ sym (bound_count P h false (sym c.has_index.ensures ∙ w.if-has_index.false))
    ] in
    (middle_is c.if-has_index.first (bound_of P h) (nexts_of P h) (imports_of P h) _ _ all c.imports_at-inner.ensures
    first).2
