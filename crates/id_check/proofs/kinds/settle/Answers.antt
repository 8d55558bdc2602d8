use Rattle.std.proofs.Common.{◌≡◌, ◌⊎◌, ◌+◌, ◌<◌, ℕ, List, [], ◌++◌, ◌∷◌, inl, inr, refl, sym, ◌∙◌, ap, subst, get_or}
use Rattle.std.proofs.Common.{set, length, Some, None}
use Rattle.std.proofs.lemmas.Result.{IfOk-from_err}
use Rattle.std.proofs.lemmas.Bool.{cases_eq}
use Rattle.std.proofs.lemmas.List.{length-set, get_or_default, get_or-set_same, get_or-set_other}
use Rattle.id_value.specs.declared.Kind.TheVariants.{Int}
use Rattle.id_value.specs.List.{Among}
use Rattle.id_check.specs.Kinds.{Link, Fixed, To, Within, Nowhere}
use Rattle.id_check.specs.Chains.{IsEnd, IsFilling, IsPassing, goes_to, link_of_pass, rows_of}
use Rattle.id_check.specs.declared.kinds.Pass.{Pass}
use Rattle.id_check.proofs.ChainsLemmas.{ends_not, filling_end, filling_start, row_either, passing_start, passing_step}
use Rattle.id_check.proofs.kinds.settle.Goals as goal

-- what was read is what stands there
stands : (ks : List Link) (q : ℕ) (k : Link) → q < length ks → k ≡ get_or ks q k → get_or ks q Nowhere ≡ k
stands ks q k less e = get_or_default ks q Nowhere k less ∙ sym e

targets_set : (ks : List Link) (q n : ℕ) → ((i j : ℕ) → i < n → goes_to (get_or ks i Nowhere) ≡ Some j → j < n)
    → q < length ks → (i j : ℕ) → i < n → (i ≡ q) ⊎ (i ≡ q → ⊥)
    → goes_to (get_or (set ks q (Fixed Int)) i Nowhere) ≡ Some j → j < n
targets_set ks q n h less i j b (inl c) e =
    let d : None ≡ Some j =
    sym (ap goes_to (ap (λ z. get_or (set ks q (Fixed Int)) z Nowhere) c
    ∙ get_or-set_same ks q (Fixed Int) Nowhere less)) ∙ e in cc
targets_set ks q n h less i j b (inr c) e =
    h i j b (sym (ap goes_to (get_or-set_other ks q i (Fixed Int) Nowhere c)) ∙ e)

below_push : (qs ps : List Pass) (r : Pass) (p n : ℕ) → qs ≡ ps ++ r ∷ [] → ((z : ℕ) → Among z (rows_of ps) → z < n)
    → r.row < n → Among p (rows_of qs) → p < n
below_push qs ps r p n e h less a =
    elim (row_either p qs ps r e a) [ inl b ↦ h p b | inr b ↦ subst (λ z. z < n) (sym b) less ]

is_end : (k : Link) → ((j : ℕ) → goes_to k ≡ Some j → ⊥) → IsEnd k
is_end (Fixed k) h = tt
is_end (To j) h = h j refl
is_end (Within j) h = h j refl
is_end Nowhere h = tt

targets_fill : (ks js : List Link) (n i j : ℕ) → ((i j : ℕ) → i < n → goes_to (get_or js i Nowhere) ≡ Some j → j < n)
    → i < n → IsEnd (get_or ks i Nowhere) ⊎ (get_or ks i Nowhere ≡ get_or js i Nowhere)
    → goes_to (get_or ks i Nowhere) ≡ Some j → j < n
targets_fill ks js n i j h b (inl c) e = absurd (ends_not (get_or ks i Nowhere) j e c)
targets_fill ks js n i j h b (inr c) e = h i j b (sym (ap goes_to c) ∙ e)

pub loop-next-preserved : goal.loop-next-preserved
loop-next-preserved c =
    let ks = c.loop-next.links.items in
    let q = c.loop-next.at in
    let next = c.in-Some.next in
    let h = c.loop-next.invariant in
    let e : goes_to (get_or ks q Nowhere) ≡ Some next =
    ap goes_to (stands ks q c.index.result.now h.at c.index.ensures) ∙ sym c.next_of.ensures ∙ c.in-Some.is in
    let read = stands ks q c.index-in-Some.result.now h.at c.index-in-Some.ensures in
    let on : get_or ks q Nowhere ≡ link_of_pass (record { row = q; within = c.is_within.result }) next =
    read ∙ c.is_within.ensures next (sym (ap goes_to read) ∙ e) q in
    let less : next < length ks = h.targets q next h.at e in
    let same = length-set ks q (Fixed Int) in
    record {
      long = same ∙ h.long;
      at = subst (λ n. next < n) (sym same) less;
      below = λ p a. subst (λ n. p < n) (sym same)
          (below_push c.push.new.self.items c.loop-next.passed.items (record { row = q; within = c.is_within.result }) p
          (length ks) c.in_ok-push.ensures.items
          h.below h.at a);
      targets =
          λ i j b g. subst (λ n. j < n) (sym same)
          (targets_set ks q (length ks) h.targets h.at i j (subst (λ n. i < n) same b) (cases_eq i q) g);
      passing =
          λ f g. subst (λ ps. IsPassing f (length c.args.links.now.items) c.args.start ps next (set ks q (Fixed Int)))
          (sym c.in_ok-push.ensures.items)
          (passing_step f (length c.args.links.now.items) c.args.start c.loop-next.passed.items c.is_within.result q
          next ks (h.passing f g) e on
          (subst (λ n. next < n) h.long less));
    }

pub returns : goal.returns
returns c =
    let ks = c.loop-next.links.items in
    let q = c.loop-next.at in
    let h = c.loop-next.invariant in
    let n = length c.args.links.now.items in
    let read = stands ks q c.index.result.now h.at c.index.ensures in
    let t : IsEnd (get_or ks q Nowhere) = is_end (get_or ks q Nowhere)
    (λ j e. c.in_default.not-Some j (c.next_of.ensures ∙ sym (ap goes_to read) ∙ e)) in
    let e : get_or ks q Nowhere ≡ c.index-end.result.now =
    stands ks q c.index-end.result.now h.at c.index-end.ensures in
    record {
      passed = c.fill.ensures.passed;
      long = c.fill.ensures.long ∙ h.long;
      targets = λ i j b g. subst (λ m. j < m) (sym c.fill.ensures.long)
          (targets_fill c.fill.new.links.items ks (length ks) i j h.targets (subst (λ m. i < m) c.fill.ensures.long b)
          (c.fill.ensures.same i) g);
      going = λ f g.
          let w = c.fill.ensures.filling f n (c.args.start + 1) q
          (subst (λ k. IsFilling f n (c.args.start + 1) c.loop-next.passed.items q k ks) e
          (filling_start f n c.args.start c.loop-next.passed.items q ks (h.passing f g) t)) in
          filling_end f n (c.args.start + 1) w.0 w.1 c.fill.new.links.items w.2;
    }

pub loop-next-init : goal.loop-next-init
loop-next-init c =
    record {
      long = refl;
      at = c.requires.start;
      below = λ p a. absurd (subst (λ ps. Among p (rows_of ps)) c.requires.passed a);
      targets = c.requires.targets;
      passing =
          λ f g. subst
          (λ ps. IsPassing f (length c.args.links.now.items) c.args.start ps c.args.start c.args.links.now.items)
          (sym c.requires.passed)
          (passing_start f (length c.args.links.now.items) c.args.start c.args.links.now.items c.requires.start g);
    }

pub returns-in_err-push-clause-passed : goal.returns-in_err-push-clause-passed
returns-in_err-push-clause-passed c = IfOk-from_err _ _ c.from_residual.ensures.0

pub returns-in_err-push-clause-long : goal.returns-in_err-push-clause-long
returns-in_err-push-clause-long c = IfOk-from_err _ _ c.from_residual.ensures.0

pub returns-in_err-push-clause-targets : goal.returns-in_err-push-clause-targets
returns-in_err-push-clause-targets c = IfOk-from_err _ _ c.from_residual.ensures.0

pub returns-in_err-push-clause-going : goal.returns-in_err-push-clause-going
returns-in_err-push-clause-going c = IfOk-from_err _ _ c.from_residual.ensures.0
