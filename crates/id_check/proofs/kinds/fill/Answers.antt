use Rattle.std.proofs.Common.{rules, ◌≡◌, ◌⊎◌, ◌<◌, ◌≢◌, inl, inr, ℕ, List, [], ◌++◌, ◌∷◌, Bool, true, false}
use Rattle.std.proofs.Common.{if◌then◌else◌, sym, ◌∙◌, ap, subst, get_or, set, length, arith}
use Rattle.std.proofs.lemmas.Bool.{cases_eq}
use Rattle.std.proofs.lemmas.List.{nil_from_length, length-set, get_or-set_same, get_or-set_other}
use Rattle.id_check.specs.Kinds.{Link, Nowhere}
use Rattle.id_check.specs.declared.kinds.Pass.{Pass}
use Rattle.id_check.specs.Chains.{IsEnd, IsFilling, link_through, link_within, rows_of}
use Rattle.id_value.specs.List.{Among}
use Rattle.id_check.proofs.ChainsLemmas.{filling_step, row_last, row_left}
use Rattle.id_check.proofs.kinds.fill.Goals as goal
use Rattle.id_check.proofs.kinds.fill.Goals.{then-pass, else-pass}

last_below : (ps qs : List Pass) (p : Pass) (n : ℕ) → ps ≡ qs ++ p ∷ [] → ((q : ℕ) → Among q (rows_of ps) → q < n)
    → p.row < n
last_below ps qs p n e h = h p.row (row_last ps qs p e)

same_but : (ks js : List Link) (p i : ℕ) (k : Link) → p < length ks → IsEnd k
    → IsEnd (get_or ks i Nowhere) ⊎ (get_or ks i Nowhere ≡ get_or js i Nowhere)
    → (i ≡ p) ⊎ (i ≢ p) → IsEnd (get_or (set ks p k) i Nowhere) ⊎ (get_or (set ks p k) i Nowhere ≡ get_or js i Nowhere)
same_but ks js p i k less t h (inl c) =
    inl (subst IsEnd (sym (ap (λ z. get_or (set ks p k) z Nowhere) c ∙ get_or-set_same ks p k Nowhere less)) t)
same_but ks js p i k less t (inl h) (inr c) = inl (subst IsEnd (sym (get_or-set_other ks p i k Nowhere c)) h)
same_but ks js p i k less t (inr h) (inr c) = inr (get_or-set_other ks p i k Nowhere c ∙ h)

end_through : (b : Bool) (k : Link) → IsEnd k → IsEnd (if b then link_within k else k)
end_through false k t = t
end_through true k t = tt

by_true : (b : Bool) (x k : Link) → b ≡ true → x ≡ link_within k → x ≡ (if b then link_within k else k)
by_true b x k e f = f ∙ ap (λ z. if z then link_within k else k) (sym e)

by_false : (b : Bool) (x k : Link) → b ≡ false → x ≡ k → x ≡ (if b then link_within k else k)
by_false b x k e f = f ∙ ap (λ z. if z then link_within k else k) (sym e)

pub index_mut-requires : goal.index_mut-requires
index_mut-requires c =
    let less =
    last_below c.loop-pass.passed.items c.pop.new.self.items c.in-Some.pass (length c.loop-pass.links.items)
    c.in-Some.ensures.items
    c.loop-pass.invariant.below in
    omega arith

pub loop-pass-preserved : goal.loop-pass-preserved
loop-pass-preserved c =
    let ks = c.loop-pass.links.items in
    let ps = c.loop-pass.passed.items in
    let p = c.in-Some.pass in
    let qs = c.pop.new.self.items in
    let k = c.loop-pass.link in
    let x = c.if-pass.link in
    let h = c.loop-pass.invariant in
    let e = c.in-Some.ensures.items in
    let less = last_below ps qs p (length ks) e h.below in
    let on : x ≡ link_through p k =
    elim c.if-pass.branch [
      | then-pass w ↦ by_true p.within x k w.if-pass.true (w.link-is ∙ w.link_within-link.ensures)
      | else-pass w ↦ by_false p.within x k w.if-pass.false w.link-is
    ] in
    let t : IsEnd x = subst IsEnd (sym on) (end_through p.within k h.is_end) in
    record {
      below = λ q a. subst (λ n. q < n) (sym (length-set ks p.row x)) (h.below q (row_left q ps qs p e a));
      long = length-set ks p.row x ∙ h.long;
      is_end = t;
      same = λ i. same_but ks c.args.links.now.items p.row i x less t (h.same i) (cases_eq i p.row);
      filling = λ f n m q g.
          let w = h.filling f n m q g in (
            p.row,
            subst (λ z. IsFilling f n m qs p.row z (set ks p.row z)) (sym on)
                (filling_step f n m ps qs p w.0 k ks less e w.1),
          );
    }

pub returns-clause-filling : goal.returns-clause-filling
returns-clause-filling c =
    let none : c.loop-pass.passed.items ≡ [] = search (rules, nil_from_length) in
    λ f n m q h.
    let w = c.loop-pass.invariant.filling f n m q h in
    (w.0, c.loop-pass.link, subst (λ ps. IsFilling f n m ps w.0 c.loop-pass.link c.loop-pass.links.items) none w.1)
