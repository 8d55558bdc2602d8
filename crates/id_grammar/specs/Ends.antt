-- That a list of tokens ends once can be kept by a type: there is at most one proof of it.
use Rattle.std.specs.Prelude.{◌≡◌, List, [], ◌∷◌}
use Rattle.std.specs.Coded.{×_prop, →_prop}
use mathlib.Core.Path.{refl, sym, ◌∙◌, subst, path_j}
use Rattle.id_text.specs.Tokens.{EndsOnce}
use Rattle.id_text.specs.declared.token.Token.{Token}
use Rattle.id_text.specs.declared.token.TokenKind.{TokenKind}
use Rattle.id_text.specs.declared.token.TokenKind.TheVariants.{End}

-- the kind is the end's
abbrev IsEnd : TokenKind → Type 0
IsEnd End = Unit {0}
IsEnd _ = ⊥

-- such a kind is `End`
at_end : (k : TokenKind) → IsEnd k → End ≡ k
at_end End x = refl
at_end _ x = absurd x

-- each proof that a kind is `End` is that one
at_end-only : (k : TokenKind) (p : End ≡ k) → at_end k (subst IsEnd p tt) ≡ p
unfolding at_end
at_end-only k p = path_j (λ l q. at_end l (subst IsEnd q tt) ≡ q) refl p

-- there is at most one proof that `End` is itself
End-only : IsProp (End ≡ End)
End-only p q = sym (at_end-only End p) ∙ at_end-only End q

-- there is at most one proof that a kind is `End`
End-prop : (k : TokenKind) → IsProp (k ≡ End)
End-prop k p q = subst (λ l. IsProp (l ≡ End)) (sym p) End-only p q

-- there is at most one proof that a list ends once
pub EndsOnce-prop : (ts : List Token) → IsProp (EndsOnce ts)
EndsOnce-prop [] = λ x y. absurd x
EndsOnce-prop (t ∷ []) = End-prop t.kind
EndsOnce-prop (t ∷ u ∷ ts) = ×_prop (→_prop (λ x y. absurd x)) (EndsOnce-prop (u ∷ ts))
