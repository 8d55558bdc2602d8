-- each step takes one place of the page at hand, or goes to the next page
use Rattle.std.proofs.Common.{◌∙◌, ◌-◌, ◌<◌, ap, arith, length, sym}
use Rattle.std.specs.List.{flat_map}
use Rattle.id_bank.specs.Cells.{filled_at}
use Rattle.id_bank.specs.Slots.{cell_in, filled_by, state_in}
use Rattle.id_bank.proofs.LeftLemmas.{some_at, none_at, next_page, one_fewer}
use Rattle.id_bank.proofs.Cells.next.Goals as goal

pub returns-in-Some-clause-some : goal.returns-in-Some-clause-some
returns-in-Some-clause-some c =
    let s = c.loop-self.self-inside in
    let inside : s.page < length s.pages.items = omega (arith, c.len.ensures, s.pages.ok.0, c.loop-self-test.true) in
    let here =
    ap (λ ss. filled_by (cell_in c.index-entry.result.now.0 (8 - s.left)) (state_in ss (8 - s.left)))
    (sym c.deref.ensures.value) ∙
    sym c.filled_in.ensures ∙ c.in-Some.is in
    sym c.loop-self.invariant.same
    ∙ some_at (λ e. (e.0, e.1.now)) s.pages.items s.page s.left (8 - s.left) c.index-entry.result.now c.in-Some.filled
    inside (sym c.index-entry.ensures)
    c.if-self-gt0.true (λ i. 8 - s.left) here

pub loop-self-preserved-in_default : goal.loop-self-preserved-in_default
loop-self-preserved-in_default c =
    let s = c.loop-self.self-inside in
    let inside : s.page < length s.pages.items = omega (arith, c.len.ensures, s.pages.ok.0, c.loop-self-test.true) in
    let here =
    ap (λ ss. filled_by (cell_in c.index-entry.result.now.0 (8 - s.left)) (state_in ss (8 - s.left)))
    (sym c.deref.ensures.value) ∙
    sym c.filled_in.ensures ∙ c.in_default.is in
    record {
      left = omega (arith, c.loop-self.invariant.left);
      count = c.loop-self.invariant.count;
      same = sym
          (none_at (λ e. (e.0, e.1.now)) s.pages.items s.page s.left (8 - s.left) c.index-entry.result.now inside
          (sym c.index-entry.ensures)
          c.if-self-gt0.true (λ i. 8 - s.left) here) ∙ c.loop-self.invariant.same;
    }

pub loop-self-preserved : goal.loop-self-preserved
loop-self-preserved c =
    let s = c.loop-self.self-inside in
    let inside : s.page < length s.pages.items = omega (arith, c.len.ensures, s.pages.ok.0, c.loop-self-test.true) in
    record {
      left = omega arith;
      count = c.loop-self.invariant.count;
      same = sym
          (ap (flat_map filled_at)
          (next_page (λ e. (e.0, e.1.now)) s.pages.items s.page s.left inside (omega (arith, c.if-self-gt0.false)))) ∙
          c.loop-self.invariant.same;
    }

pub invariant_of-self : goal.invariant_of-self
invariant_of-self c =
    let known = c.loop-self.invariant in
    (known.left, known.count ∙ ap length (sym known.same))

-- the cell that is given was one of those to come
pub overflow_sub-self-in-Some : goal.overflow_sub-self-in-Some
overflow_sub-self-in-Some c =
    let s = c.loop-self.self-inside in
    let known = c.loop-self.invariant in
    let inside : s.page < length s.pages.items = omega (arith, c.len.ensures, s.pages.ok.0, c.loop-self-test.true) in
    let here =
    ap (λ ss. filled_by (cell_in c.index-entry.result.now.0 (8 - s.left)) (state_in ss (8 - s.left)))
    (sym c.deref.ensures.value) ∙
    sym c.filled_in.ensures ∙ c.in-Some.is in
    (one_fewer s.count _ _ _
    (some_at (λ e. (e.0, e.1.now)) s.pages.items s.page s.left (8 - s.left) c.index-entry.result.now c.in-Some.filled
    inside (sym c.index-entry.ensures)
    c.if-self-gt0.true (λ i. 8 - s.left) here)
    (known.count ∙ ap length (sym known.same))).0

pub invariant_of-self-in-Some : goal.invariant_of-self-in-Some
invariant_of-self-in-Some c =
    let s = c.loop-self.self-inside in
    let known = c.loop-self.invariant in
    let inside : s.page < length s.pages.items = omega (arith, c.len.ensures, s.pages.ok.0, c.loop-self-test.true) in
    let here =
    ap (λ ss. filled_by (cell_in c.index-entry.result.now.0 (8 - s.left)) (state_in ss (8 - s.left)))
    (sym c.deref.ensures.value) ∙
    sym c.filled_in.ensures ∙ c.in-Some.is in (
      omega (arith, known.left),
      (one_fewer s.count _ _ _
          (some_at (λ e. (e.0, e.1.now)) s.pages.items s.page s.left (8 - s.left) c.index-entry.result.now
          c.in-Some.filled inside (sym c.index-entry.ensures)
          c.if-self-gt0.true (λ i. 8 - s.left) here)
          (known.count ∙ ap length (sym known.same))).1,
    )
