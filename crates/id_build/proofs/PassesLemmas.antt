-- Lemmas on specs/Passes.antt: what is so of any list that is the kernel's order.
use Rattle.std.proofs.Common.{◌≡◌, ◌≤◌, ℕ, List, ap, arith, length, subst, sym}
use Rattle.id_desugar.specs.Regions.{order_of}
use Rattle.id_build.specs.declared.slots.Slots.{Slots}
use Rattle.id_build.specs.Made.{AreFirsts, pieces_in}
use Rattle.id_build.specs.Passes.{firsts_of, program_of}
use Rattle.id_build.proofs.OrderLemmas.{length-pieces_in}

-- the numbers are those of the rows in that order
pub firsts_in : (s : Slots) (order : List ℕ) → order ≡ order_of (program_of s)
    → AreFirsts (program_of s) order (firsts_of s)
firsts_in s order e = subst (λ (o : List ℕ). AreFirsts (program_of s) o (firsts_of s)) (sym e) s.numbered

-- the rows in that order have few instructions
pub few_in : (s : Slots) (order : List ℕ) → order ≡ order_of (program_of s)
    → length (pieces_in (program_of s) order) ≤ 1000000
few_in s order e =
    let P = program_of s in
    omega (arith, ap (λ (o : List ℕ). length (pieces_in P o)) e, length-pieces_in P, s.few)
