-- Lemmas on specs/Tags.antt.
use Rattle.std.proofs.Common.{◌≡◌, ℕ, ℤ, Bool, true, false, ◌&&◌, nat_eq, refl, sym, ◌∙◌, ap, arith}
use Rattle.std.specs.Bool.{beq}
use Rattle.std.specs.Ordering.{nat_cmp, int_cmp, int_eq, bool_cmp, ordering_then, eq_by_cmp, is_eq}
use Rattle.std.specs.declared.cmp.Ordering.{Ordering}
use Rattle.std.specs.declared.cmp.Ordering.TheVariants.{Less, Equal, Greater}
use Rattle.std.proofs.lemmas.Bool.Decides.{nat_tests}
use Rattle.std.specs.Cmp.{IsTotalOrder, IsEquivalence, nat_cmp_total, int_cmp_total, bool_cmp_total}
use Rattle.std.specs.Cmp.{eq_by_cmp_equiv}
use Rattle.std.proofs.lemmas.Cmp.{then_total, on_total}
use Rattle.std.proofs.lemmas.Map.Lookups.{CmpEqualImpliesEq, exact_pairs, exact_unsigned, exact_signed}
use Rattle.id_tag.specs.declared.Context.{Context}
use Rattle.id_tag.specs.declared.Tag.{Tag}
use Rattle.id_tag.specs.declared.Structure.{Structure}
use Rattle.id_tag.specs.declared.Cell.{Cell}
use Rattle.id_tag.specs.Tags.{context_cmp, tag_cmp, same_tag, structure_cmp, cell_cmp, same_cell}

-- contexts that compare alike are one
pub exact_contexts : CmpEqualImpliesEq context_cmp
exact_contexts a b h =
    ap (λ (p : ℕ × ℕ). record { element = p.0; serial = p.1 })
    (exact_pairs nat_cmp nat_cmp exact_unsigned exact_unsigned (a.element, a.serial) (b.element, b.serial) h)

-- tags that compare alike are one
pub exact_tags : CmpEqualImpliesEq tag_cmp
exact_tags t u h =
    ap (λ (p : Context × (ℕ × ℕ)). record { context = p.0; iteration = p.1.0; instr = p.1.1 })
    (exact_pairs context_cmp (λ (x y : ℕ × ℕ). ordering_then (nat_cmp x.0 y.0) (nat_cmp x.1 y.1))
    exact_contexts (exact_pairs nat_cmp nat_cmp exact_unsigned exact_unsigned)
    (t.context, (t.iteration, t.instr)) (u.context, (u.iteration, u.instr)) h)

pub contexts_total : IsTotalOrder context_cmp
contexts_total = then_total (on_total (λ c. c.element) nat_cmp_total) (on_total (λ c. c.serial) nat_cmp_total)

-- tags are in one order
pub tags_total : IsTotalOrder tag_cmp
tags_total =
    then_total (on_total (λ t. t.context) contexts_total)
    (then_total (on_total (λ t. t.iteration) nat_cmp_total) (on_total (λ t. t.instr) nat_cmp_total))

then_ties : (a b : Ordering) → is_eq (ordering_then a b) ≡ (is_eq a && is_eq b)
then_ties Less b = refl
then_ties Equal b = refl
then_ties Greater b = refl

numbers_tie : (m n : ℕ) → is_eq (nat_cmp m n) ≡ nat_eq m n
numbers_tie m n = grind (arith, nat_tests)

-- the test of tags by their numbers is that by their order
pub ties-same_tag : (t u : Tag) → eq_by_cmp tag_cmp t u ≡ same_tag t u
ties-same_tag t u = simp (then_ties, numbers_tie)

-- the test of tags is an equivalence
pub same_tag_laws : IsEquivalence same_tag
same_tag_laws =
    let laws = eq_by_cmp_equiv tags_total in
    record {
      refl = λ t. sym (ties-same_tag t t) ∙ laws.refl t;
      symm = λ t u. sym (ties-same_tag t u) ∙ laws.symm t u ∙ ties-same_tag u t;
      congr = λ t u w h. sym (ties-same_tag t w) ∙ laws.congr t u w (ties-same_tag t u ∙ h) ∙ ties-same_tag u w;
    }

tied : (r : Ordering) → is_eq r ≡ true → r ≡ Equal
tied Less e = cc
tied Equal e = refl
tied Greater e = cc

-- tags that pass the test tie in the order, and are one
pub ties_from_same_tag : (t u : Tag) → same_tag t u ≡ true → tag_cmp t u ≡ Equal
ties_from_same_tag t u h = tied _ (ties-same_tag t u ∙ h)

pub one_from_same_tag : (t u : Tag) → same_tag t u ≡ true → t ≡ u
one_from_same_tag t u h = exact_tags t u (ties_from_same_tag t u h)

-- ---- cells

exact_truths : CmpEqualImpliesEq bool_cmp
exact_truths false false e = refl
exact_truths false true e = cc
exact_truths true false e = cc
exact_truths true true e = refl

abbrev high_cmp : ℤ × Bool → ℤ × Bool → Ordering
high_cmp a b = ordering_then (int_cmp a.0 b.0) (bool_cmp a.1 b.1)

abbrev bounds_cmp : ℤ × (ℤ × Bool) → ℤ × (ℤ × Bool) → Ordering
bounds_cmp a b = ordering_then (int_cmp a.0 b.0) (high_cmp a.1 b.1)

abbrev serial_cmp : ℕ × (ℤ × (ℤ × Bool)) → ℕ × (ℤ × (ℤ × Bool)) → Ordering
serial_cmp a b = ordering_then (nat_cmp a.0 b.0) (bounds_cmp a.1 b.1)

-- structures that compare alike are one
exact_structures : CmpEqualImpliesEq structure_cmp
exact_structures a b h =
    ap (λ (p : ℕ × (ℕ × (ℤ × (ℤ × Bool)))). record {
      element = p.0;
      serial = p.1.0;
      low = p.1.1.0;
      high = p.1.1.1.0;
      nested = p.1.1.1.1;
    })
    (exact_pairs nat_cmp serial_cmp exact_unsigned
    (exact_pairs nat_cmp bounds_cmp exact_unsigned
    (exact_pairs int_cmp high_cmp exact_signed (exact_pairs int_cmp bool_cmp exact_signed exact_truths)))
    (a.element, (a.serial, (a.low, (a.high, a.nested)))) (b.element, (b.serial, (b.low, (b.high, b.nested)))) h)

-- cells that compare alike are one
pub exact_cells : CmpEqualImpliesEq cell_cmp
exact_cells c d h =
    ap (λ (p : Structure × ℤ). record { structure = p.0; index = p.1 })
    (exact_pairs structure_cmp int_cmp exact_structures exact_signed (c.structure, c.index) (d.structure, d.index) h)

structures_total : IsTotalOrder structure_cmp
structures_total =
    then_total (on_total (λ s. s.element) nat_cmp_total)
    (then_total (on_total (λ s. s.serial) nat_cmp_total)
    (then_total (on_total (λ s. s.low) int_cmp_total)
    (then_total (on_total (λ s. s.high) int_cmp_total) (on_total (λ s. s.nested) bool_cmp_total))))

-- cells are in one order
pub cells_total : IsTotalOrder cell_cmp
cells_total = then_total (on_total (λ c. c.structure) structures_total) (on_total (λ c. c.index) int_cmp_total)

integers_tie : (m n : ℤ) → is_eq (int_cmp m n) ≡ int_eq m n
integers_tie m n = grind (arith, nat_tests)

truths_tie : (a b : Bool) → is_eq (bool_cmp a b) ≡ beq a b
truths_tie false false = refl
truths_tie false true = refl
truths_tie true false = refl
truths_tie true true = refl

-- the test of cells by their numbers is that by their order
pub ties-same_cell : (c d : Cell) → eq_by_cmp cell_cmp c d ≡ same_cell c d
ties-same_cell c d = simp (then_ties, numbers_tie, integers_tie, truths_tie)

-- cells that pass the test are one
pub one_from_same_cell : (c d : Cell) → same_cell c d ≡ true → c ≡ d
one_from_same_cell c d h = exact_cells c d (tied _ (ties-same_cell c d ∙ h))
