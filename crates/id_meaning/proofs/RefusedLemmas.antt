-- Want of memory is no other error of a round.
use Rattle.std.proofs.Common.{◌≡◌, Result, Ok, Err}
use Rattle.std.proofs.Common.{sym, ◌∙◌}
use Rattle.std.specs.Prelude.{IfErr, IsErrAnd}
use Rattle.id_meaning.specs.declared.round.RoundsError.{RoundsError}
use Rattle.id_meaning.specs.declared.round.RoundsError.TheVariants.{BadRounds, TooManyFacts, Memory}

-- want of memory is no other error
pub not_asked : {A : Type 0} → (r : Result A RoundsError) → IsErrAnd r (λ e. e ≡ Memory)
    → IfErr r (λ e. e ≡ BadRounds → ⊥)
not_asked (Ok a) is = absurd is
not_asked (Err e) is = λ bad. memory_bad (sym is ∙ bad)
  where
    memory_bad : Memory ≡ BadRounds → ⊥
    memory_bad so = cc

pub not_too_many : {A : Type 0} → (P : Type 0) (r : Result A RoundsError) → IsErrAnd r (λ e. e ≡ Memory)
    → IfErr r (λ e. e ≡ TooManyFacts → P)
not_too_many P (Ok a) is = absurd is
not_too_many P (Err e) is = λ many. memory_many (sym is ∙ many)
  where
    memory_many : Memory ≡ TooManyFacts → P
    memory_many so = cc

pub many_asked : TooManyFacts ≡ BadRounds → ⊥
many_asked so = cc
