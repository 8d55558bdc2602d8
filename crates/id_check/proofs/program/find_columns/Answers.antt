use Rattle.std.proofs.Common.{◌≡◌, ◌<◌, ℕ, Some, get_or, length, sym, subst}
use Rattle.std.specs.Prelude.{None}
use Rattle.id_table.specs.Lent.{list_of}
use Rattle.id_check.specs.Causes.{causes, duplicates}
use Rattle.id_check.specs.Firsts.{IsFirstOf}
use Rattle.id_check.specs.Kinds.{AreKinds}
use Rattle.id_check.proofs.program.find_columns.Goals as goal

pub find_kinds-requires : goal.find_kinds-requires
find_kinds-requires c =
    let n = length (list_of c.args.rows.now) in
    subst (λ os. (i b : ℕ) → i < n → get_or os i None ≡ Some b
    → b < n) (sym c.as_slice.ensures.value) c.in_ok-found.ensures.within

pub returns-clause-kinded : goal.returns-clause-kinded
returns-clause-kinded c =
    let R = list_of c.args.rows.now in
    let v = c.with_first.result in
    let found = c.in_ok-found.found in
    subst (λ b. AreKinds R (λ i. get_or b.items i None) (λ i. get_or v.kinds.items i None))
    (sym c.with_first.ensures.bound)
    (subst (λ k. AreKinds R (λ i. get_or found.binders.items i None) (λ i. get_or k.items i None))
    (sym c.with_first.ensures.kinded)
    (subst (λ os. AreKinds R (λ i. get_or os i None) (λ i. get_or c.in_ok-kinds.kinds.items i None))
    c.as_slice.ensures.value
    c.in_ok-kinds.ensures.kinds))

pub returns-clause-first : goal.returns-clause-first
returns-clause-first c =
    let R = list_of c.args.rows.now in
    let v = c.with_first.result in
    let found = c.in_ok-found.found in
    subst (λ b. IsFirstOf v.first (causes R (λ i. get_or b.items i None) (λ i. get_or v.kinds.items i None)))
    (sym c.with_first.ensures.bound)
    (subst (λ k. IsFirstOf v.first (causes R (λ i. get_or found.binders.items i None) (λ i. get_or k.items i None)))
    (sym c.with_first.ensures.kinded)
    (c.with_first.ensures.first (duplicates R (length R)) c.in_ok-found.ensures.first))
