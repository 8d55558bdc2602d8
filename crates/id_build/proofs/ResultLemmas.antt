-- What a result says of an error that came of a call.
use Rattle.std.proofs.Common.{◌≡◌, Result, Ok, Err, IsErr, sym, subst}
use Rattle.std.specs.Prelude.{IfErr, IfOk, IsErrAnd, OnOk}

-- an error says nothing of a value
pub on_ok : {A E : Type 0} → (P : Type 0) (r : Result A E) → IsErr r → OnOk r P
on_ok P (Ok a) is = cc
on_ok P (Err e) is = tt

pub if_ok : {A E : Type 0} → (P : A → Type 0) (r : Result A E) → IsErr r → IfOk r P
if_ok P (Ok a) is = cc
if_ok P (Err e) is = tt

-- and what holds of the call's error holds of it
pub if_err : {A E : Type 0} → (P : E → Type 0) (r : Result A E) (x : E) → IsErrAnd r (λ e. e ≡ x) → P x → IfErr r P
if_err P (Ok a) x is h = absurd is
if_err P (Err e) x is h = subst P (sym is) h

-- what an error is that came of another
pub is_err : {A E : Type 0} → (P : E → Type 0) (r : Result A E) → IsErrAnd r P → IfErr r P
is_err P (Ok a) is = tt
is_err P (Err e) is = is
