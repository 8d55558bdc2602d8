-- Rows without imports make what their nodes say.
use Rattle.std.proofs.Common.{◌≡◌, ◌∙◌, true, inl, inr, refl, ap, sym, arith, length}
use Rattle.std.proofs.lemmas.Bool.{cases_lt}
use Rattle.id_check.specs.Programs.{place, rows}
use Rattle.id_build.specs.Rows.{is_plain, made, made_of, node, size_below}
use Rattle.id_build.proofs.SizeLemmas.{size_below-next, size_below-within}
use Rattle.id_build.proofs.size.is_small_and_plain.Goals as goal

pub loop-n-preserved : goal.loop-n-preserved
loop-n-preserved c =
    let P = c.args.checked.now in
    let n = c.loop-n.n in
    let e = place P n in
    let makes : c.in-Some.count ≡ length (made P n) =
    sym (c.in-Some.ensures.some P n e) ∙ ap (λ r. length (made_of P n e r.node)) c.row_at.ensures in
    let here : is_plain (node P n) ≡ true =
    ap (λ r. is_plain r.node) (sym c.row_at.ensures) ∙ c.in-Some.ensures.exact.0 refl in
    record {
      is = omega (arith, makes, size_below-next P n, c.loop-n.invariant.is);
      small = omega (arith, c.if-size-gt1000000.false);
      plain = λ i l. elim (cases_lt i n) [
        | inl k ↦ c.loop-n.invariant.plain i k
        | inr k ↦ (let same : i ≡ n = omega (arith, k, l) in ap (λ j. is_plain (node P j)) same ∙ here)
      ];
    }

pub returns-then-size-gt1000000 : goal.returns-then-size-gt1000000
returns-then-size-gt1000000 c =
    let P = c.args.checked.now in
    let n = c.loop-n.n in
    let makes : c.in-Some.count ≡ length (made P n) = sym (c.in-Some.ensures.some P n (place P n)) ∙
    ap (λ r. length (made_of P n (place P n) r.node)) c.row_at.ensures in
    let more = size_below-within P n (omega (arith, c.loop-n-test.true, c.len-n-end.ensures)) in (
      (λ h. cc),
      λ both. (let no : ⊥ = omega (arith, both.1, more, c.loop-n.invariant.is, makes, c.if-size-gt1000000.true) in
          absurd no),
    )

pub returns : goal.returns
returns c =
    let P = c.args.checked.now in
    let end : c.loop-n.n ≡ length (rows P) =
    omega (arith, c.loop-n.auto.n-end, c.loop-n-test.false, c.len-n-end.ensures) in
    let all = c.loop-n.invariant.is ∙ ap (size_below P) end in (
      (λ h. (
        (λ i l. c.loop-n.invariant.plain i (omega (arith, l, end))),
        omega (arith, all, c.loop-n.invariant.small),
      )),
      λ h. search,
    )
