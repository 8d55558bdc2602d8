-- What holds of a part that was made, with the tokens behind it.
use Rattle.std.proofs.Common.{◌≡◌, Result, Ok, Err, subst}
use Rattle.std.proofs.lemmas.Result.{MatchResult-weaker}
use Rattle.std.specs.Prelude.{MatchResult}
use Rattle.id_grammar.specs.declared.tree.TreeError.{TreeError}
use Rattle.id_grammar.specs.declared.tree.TreeError.TheVariants.{Memory}

-- where it was not made, memory was wanting
pub MatchResult-whole : {A B : Type 0} (w : Result A TreeError) (r : Result (A × B) TreeError) (F : B → Type 0) (P : A → Type 0) (Q : A × B → Type 0)
    (R : TreeError → Type 0) → MatchResult r (λ x. (w ≡ Ok x.0) × F x.1) (λ e. w ≡ Err e) → MatchResult w P (λ e. e ≡ Memory) →
    ((x : A × B) → P x.0 → F x.1 → Q x) → R Memory → MatchResult r Q R
MatchResult-whole w r F P Q R e p f m =
    MatchResult-weaker r e (λ x q. f x (subst (λ v. MatchResult v P (λ e. e ≡ Memory)) q.0 p) q.1)
    (λ x q. let i : x ≡ Memory = subst (λ v. MatchResult v P (λ e. e ≡ Memory)) q p in rw i m)
