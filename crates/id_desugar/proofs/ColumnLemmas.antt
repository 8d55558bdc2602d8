-- The numbers of a column.
use Rattle.std.proofs.Common.{◌≡◌, ℕ, zero, suc, List, ◌∷◌, Option, None, refl, ap, replicate}
use Rattle.std.specs.Prelude.{map}
use Rattle.id_desugar.specs.Lists.{row_of}

-- zeros stand for no rows
pub zeros-none : (n : ℕ) → map row_of (replicate n 0) ≡ replicate n None
zeros-none zero = refl
zeros-none (suc n) = ap (λ (os : List (Option ℕ)). None ∷ os) (zeros-none n)
