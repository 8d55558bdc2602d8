-- One more row is looked at for the number of arguments, where it is a call.
use Rattle.std.proofs.Common.{◌≡◌, ◌≢◌, ◌⊎◌, inl, inr, ◌+◌, ◌<◌, ℕ, false, List, Option, Some, None, get_or, set}
use Rattle.std.proofs.Common.{length, replicate, refl, ap, sym, ◌∙◌}
use Rattle.std.proofs.Common.{subst, add-one, arith}
use Rattle.std.specs.Prelude.{nat_eq, if◌then◌else◌}
use Rattle.std.specs.Option.{option_or}
use Rattle.std.proofs.lemmas.Bool.{cases_eq}
use Rattle.std.proofs.lemmas.Bool.Decides.{nat_tests, Decides-eqb}
use Rattle.std.proofs.lemmas.List.{length-replicate, length-set, get_or-set_same, get_or-set_other}
use Rattle.id_table.specs.declared.row.Row.{Row}
use Rattle.id_table.specs.declared.row.Node.{Node}
use Rattle.id_table.specs.declared.row.Node.TheVariants.{Call}
use Rattle.id_table.specs.Rows.{at}
use Rattle.id_check.specs.Causes.{count_at, count_in}
use Rattle.id_check.specs.Counts.{AreCounts}
use Rattle.id_check.proofs.NoneLemmas.{all_same}
use Rattle.id_check.proofs.ScopesLemmas.{or_none}

-- before any row
pub counts_none : (R : List Row) (cs : List (Option ℕ)) → cs ≡ replicate (length R) None → AreCounts R 0 cs
counts_none R cs e =
    record { long = ap length e ∙ length-replicate (length R) None; each = λ i less. all_same cs (length R) i None e }

own_count : (e c : ℕ) → count_in e (Call e c) ≡ Some c
own_count e c = ap (λ t. if t then Some c else None) ((Decides-eqb e e).1 refl)

other_count : (e f c : ℕ) → f ≢ e → count_in f (Call e c) ≡ None
other_count e f c d = let no : nat_eq e f ≡ false = grind (arith, nat_tests) in ap (λ t. if t then Some c else None) no

-- a call
pub counts_call : (R : List Row) (i e c : ℕ) (cs : List (Option ℕ)) → (at R i).node ≡ Call e c → e < length R
    → AreCounts R i cs → AreCounts R (i + 1) (set cs e (option_or (get_or cs e None) (Some c)))
counts_call R i e c cs is less h =
    subst (λ n. AreCounts R n (set cs e (option_or (get_or cs e None) (Some c)))) (sym (add-one i)) (record {
      long = length-set cs e (option_or (get_or cs e None) (Some c)) ∙ h.long;
      each = λ f l. one f l (cases_eq f e);
    })
  where
    one : (f : ℕ) → f < length R → (f ≡ e) ⊎ (f ≢ e)
        → get_or (set cs e (option_or (get_or cs e None) (Some c))) f None ≡
        option_or (count_at R i f) (count_in f (at R i).node)
    one f l (inl q) =
        ap (λ k. get_or (set cs e (option_or (get_or cs e None) (Some c))) k None) q
        ∙ get_or-set_same cs e (option_or (get_or cs e None) (Some c)) None (subst (λ n. e < n) (sym h.long) less)
        ∙ ap (λ o. option_or o (Some c)) (h.each e less)
        ∙ ap (option_or (count_at R i e)) (sym (ap (count_in e) is ∙ own_count e c))
        ∙ ap (λ k. option_or (count_at R i k) (count_in k (at R i).node)) (sym q)
    one f l (inr q) =
        get_or-set_other cs e f (option_or (get_or cs e None) (Some c)) None q ∙ h.each f l
        ∙ sym (or_none (count_at R i f) (count_in f (at R i).node) (ap (count_in f) is ∙ other_count e f c q))

-- any other row
pub counts_other : (R : List Row) (i : ℕ) (cs : List (Option ℕ)) → ((e c : ℕ) → (at R i).node ≡ Call e c → ⊥)
    → AreCounts R i cs → AreCounts R (i + 1) cs
counts_other R i cs alone h = subst (λ n. AreCounts R n cs) (sym (add-one i)) (record {
  long = h.long;
  each = λ e l. h.each e l ∙ sym (or_none (count_at R i e) (count_in e (at R i).node) (none e (at R i).node refl));
})
  where
    none : (e : ℕ) (n : Node) → (at R i).node ≡ n → count_in e n ≡ None
    none e (Call f c) s = absurd (alone f c s)
    none e _ s = refl
