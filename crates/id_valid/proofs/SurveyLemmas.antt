-- Lemmas on specs/Survey.antt, in the order of its definitions.
use Rattle.std.proofs.Common.{◌≡◌, ℕ, ◌+◌, Bool, true, List, min, slice_index, cond, count_by, arith, subst, sym, ◌∙◌}
use Rattle.std.proofs.lemmas.List.Sums.{sum_by-append}
use Rattle.id_instr.specs.declared.instr.Instr.{Instr}
use Rattle.id_instr.specs.declared.dests.Dest.{Dest}
use Rattle.id_instr.specs.Graph.{arcs_on, false_arcs, arcs}
use Rattle.id_valid.specs.Survey.{Adds}

-- what is added in two turns is added in one
added_twice : (a b c x y : ℕ) → min 2 b ≡ min 2 (a + x) → min 2 c ≡ min 2 (b + y) → min 2 c ≡ min 2 (a + (x + y))
added_twice a b c x y one two = omega arith

-- the destinations that pass a test are added where those on each side are
pub Adds-arcs : (old mid new : List ℕ) (i : Instr) (test : ℕ → Dest → Bool) → Adds old mid (λ k. count_by (test k) (arcs_on true i))
    → Adds mid new (λ k. count_by (test k) (false_arcs i)) → Adds old new (λ k. count_by (test k) (arcs i))
Adds-arcs old mid new i test one two = record {
  len = two.len ∙ one.len;
  at = λ k within.
      let both = sum_by-append (λ d. cond (test k d) 1 0) (arcs_on true i) (false_arcs i) in
      subst (λ n. min 2 (slice_index new k) ≡ min 2 (slice_index old k + n)) (sym both)
      (added_twice (slice_index old k) (slice_index mid k) (slice_index new k) _ _ (one.at k within) (two.at k (omega (arith, one.len))));
}
