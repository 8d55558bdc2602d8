use Rattle.std.proofs.Common.{◌≡◌, ◌+◌, ◌<◌, ℕ, Option, None, ap, sym, ◌∙◌, subst, get_or, length, arith}
use Rattle.std.proofs.lemmas.List.{get_or_default, length_push}
use Rattle.std.proofs.lemmas.Result.{IfOk-from_err}
use Rattle.id_table.specs.Lent.{list_of}
use Rattle.id_check.specs.Kinds.{Link, Nowhere, link_at}
use Rattle.id_check.specs.Chains.{IsKind, ends, endless, IsGoing, kind_of}
use Rattle.id_check.proofs.ChainsLemmas.{IsKind-once, IsKind-push, kind_settled, targets_state}
use Rattle.id_check.proofs.LinksLemmas.{link_below}
use Rattle.id_check.proofs.kinds.find_kinds.Goals as goal

pub loop-i-init : goal.loop-i-init
loop-i-init c =
    let R = list_of c.args.rows.now in
    let β : ℕ → Option ℕ = λ i. get_or c.args.binders.now i None in
    let going = c.in_ok-links.ensures in
    record {
      passed = c.new-passed.ensures.items;
      targets = λ i j b e.
          let less = subst (λ n. i < n) going.long b in
          subst (λ n. j < n) (sym going.long)
          (link_below R β c.args.rows.now.table.now.formed c.requires i j less
          (targets_state (link_at R β) 0 i j (get_or c.in_ok-links.links.items i Nowhere) (going.states i less) e));
      going = going;
      long = ap length c.in_ok-kinds.ensures.items;
      kinds = λ i b. absurd (omega arith);
    }

pub loop-i-preserved : goal.loop-i-preserved
loop-i-preserved c =
    let R = list_of c.args.rows.now in
    let l : ℕ → Link = link_at R (λ i. get_or c.args.binders.now i None) in
    let i = c.loop-i.i in
    let h = c.loop-i.invariant in
    let long = h.going.long in
    let step = c.in_ok-settle.ensures in
    let ks = c.settle.new.links.items in
    let less = subst (λ n. i < n) c.len-i-end.ensures c.loop-i-test.true in
    let going : IsGoing l (length R) (i + 1) ks =
    subst (λ n. IsGoing l n (i + 1) ks) long
    (step.going l (subst (λ n. IsGoing l n i c.loop-i.links.items) (sym long) h.going)) in
    let read : c.index.result.now ≡ get_or ks i Nowhere = c.index.ensures ∙
    get_or_default ks i c.index.result.now Nowhere (subst (λ n. i < n) (sym going.long) less) in
    let kind : IsKind l i c.kind_of.result = subst (IsKind l i) (sym (c.kind_of.ensures ∙ ap kind_of read))
    (kind_settled l i (get_or ks i Nowhere) (going.states i less)) in
    record {
      passed = step.passed;
      targets = step.targets;
      going = going;
      long = ap length c.in_ok-push.ensures.items ∙ length_push c.loop-i.kinds.items c.kind_of.result
          ∙ ap (λ n. n + 1) h.long;
      kinds = IsKind-push l i c.loop-i.kinds.items c.push.new.self.items c.kind_of.result h.long
          c.in_ok-push.ensures.items kind h.kinds;
    }

pub returns-clause-kinds : goal.returns-clause-kinds
returns-clause-kinds c =
    let R = list_of c.args.rows.now in
    let l : ℕ → Link = link_at R (λ i. get_or c.args.binders.now i None) in
    let h = c.loop-i.invariant in
    let end : c.loop-i.i ≡ length R = omega (arith, c.loop-i.auto.i-end, c.loop-i-test.false) in
    let kind : (i : ℕ) → i < length R → IsKind l i (get_or c.loop-i.kinds.items i None) =
    λ i b. h.kinds i (subst (λ n. i < n) (sym end) b) in
    record { ends = λ i o b g. IsKind-once (kind i b) (ends g); endless = λ i b g. IsKind-once (kind i b) (endless g) }

pub returns-in_err-links-clause-long : goal.returns-in_err-links-clause-long
returns-in_err-links-clause-long c = IfOk-from_err _ _ c.from_residual.ensures.0

pub returns-in_err-links-clause-kinds : goal.returns-in_err-links-clause-kinds
returns-in_err-links-clause-kinds c = IfOk-from_err _ _ c.from_residual.ensures.0

pub returns-in_err-kinds-clause-long : goal.returns-in_err-kinds-clause-long
returns-in_err-kinds-clause-long c = IfOk-from_err _ _ c.from_residual-in_err-kinds.ensures.0

pub returns-in_err-kinds-clause-kinds : goal.returns-in_err-kinds-clause-kinds
returns-in_err-kinds-clause-kinds c = IfOk-from_err _ _ c.from_residual-in_err-kinds.ensures.0

pub returns-in_err-settle-clause-long : goal.returns-in_err-settle-clause-long
returns-in_err-settle-clause-long c = IfOk-from_err _ _ c.from_residual-in_err-settle.ensures.0

pub returns-in_err-settle-clause-kinds : goal.returns-in_err-settle-clause-kinds
returns-in_err-settle-clause-kinds c = IfOk-from_err _ _ c.from_residual-in_err-settle.ensures.0

pub returns-in_err-push-clause-long : goal.returns-in_err-push-clause-long
returns-in_err-push-clause-long c = IfOk-from_err _ _ c.from_residual-in_err-push.ensures.0

pub returns-in_err-push-clause-kinds : goal.returns-in_err-push-clause-kinds
returns-in_err-push-clause-kinds c = IfOk-from_err _ _ c.from_residual-in_err-push.ensures.0

pub settle-requires-clause-passed : goal.settle-requires-clause-passed
settle-requires-clause-passed c = c.loop-i.invariant.passed

pub settle-requires-clause-targets : goal.settle-requires-clause-targets
settle-requires-clause-targets c = c.loop-i.invariant.targets
