-- What has been read by parts that come one behind the other.
use Rattle.std.proofs.Common.{◌≡◌, ◌≢◌, ◌∙◌, ℕ, ◌+◌, ◌≤◌, max, List, ◌∷◌, length, ap, sym, arith}
use Rattle.id_text.specs.declared.token.Token.{Token}
use Rattle.id_text.specs.declared.token.TokenKind.{TokenKind}
use Rattle.id_text.specs.declared.token.TokenKind.TheVariants.{End}
use Rattle.id_grammar.specs.Readers.{first_kind, IsBehind, IsRead, IsGathered}

-- the tokens behind one of a kind that is not the end's
pub behind : {ts us : List Token} {t : Token} {k : TokenKind} → (t.kind ≢ End → ts ≡ t ∷ us) → first_kind ts ≡ t.kind → first_kind ts ≡ k → (k ≢ End) →
    ts ≡ t ∷ us
behind w i b n = w (λ q. n (sym b ∙ i ∙ q))

-- the tokens behind one
pub IsBehind-token : {ts us : List Token} {t : Token} → ts ≡ t ∷ us → IsBehind us ts
IsBehind-token e = let l = ap length e in record { shorter = omega (arith, l) }

pub IsBehind-next : {ts us vs : List Token} {t : Token} → ts ≡ t ∷ us → IsBehind vs us → IsBehind vs ts
IsBehind-next e b = let l = ap length e in record { shorter = omega (arith, b.shorter, l) }

pub IsBehind-then : {ts us vs : List Token} → IsBehind us ts → IsBehind vs us → IsBehind vs ts
IsBehind-then a b = record { shorter = omega (arith, a.shorter, b.shorter) }

-- an expression of one token
pub IsRead-token : {ts us : List Token} {t : Token} {d h : ℕ} → ts ≡ t ∷ us → d + 1 ≤ 200 → h ≡ 1 → IsRead ts us d h
IsRead-token e r i = let l = ap length e in record {
  behind = record { shorter = omega (arith, l) };
  some = omega (arith, i);
  fits = omega (arith, r, i);
}

-- a part behind a token
pub IsRead-next : {ts us vs : List Token} {t : Token} {d h : ℕ} → ts ≡ t ∷ us → IsRead us vs d h → IsRead ts vs d h
IsRead-next e q = let l = ap length e in record {
  behind = record { shorter = omega (arith, q.behind.shorter, l) };
  some = q.some;
  fits = q.fits;
}

-- a part beside others of this height
pub IsRead-higher : {ts us : List Token} {d h k : ℕ} (m : ℕ) → IsRead ts us d h → d + m ≤ 200 → k ≡ max m h → IsRead ts us d k
IsRead-higher m q r i = record { behind = q.behind; some = omega (arith, q.some, i); fits = omega (arith, q.fits, r, i) }

-- a part behind a word that may be left out
pub IsRead-later : {ts us vs : List Token} {d h : ℕ} → length us ≤ length ts → IsRead us vs d h → IsRead ts vs d h
IsRead-later l q = record {
  behind = record { shorter = omega (arith, q.behind.shorter, l) };
  some = q.some;
  fits = q.fits;
}

-- a part with something behind it
pub IsRead-closed : {ts us vs : List Token} {d h : ℕ} → IsRead ts us d h → IsBehind vs us → IsRead ts vs d h
IsRead-closed p b = record { behind = record { shorter = omega (arith, p.behind.shorter, b.shorter) }; some = p.some; fits = p.fits }

-- a part behind another one
pub IsRead-both : {ts us vs : List Token} {d h k : ℕ} → IsRead ts us d h → IsRead us vs d k → IsRead ts vs d (max h k)
IsRead-both p q = record {
  behind = record { shorter = omega (arith, p.behind.shorter, q.behind.shorter) };
  some = omega (arith, p.some);
  fits = omega (arith, p.fits, q.fits);
}

-- the parts of an expression, behind its first token
pub IsRead-inside : {ts us vs : List Token} {t : Token} {d h k : ℕ} → ts ≡ t ∷ us → IsRead us vs (d + 1) h → k ≡ h + 1 → IsRead ts vs d k
IsRead-inside e q i = let l = ap length e in record {
  behind = record { shorter = omega (arith, q.behind.shorter, l) };
  some = omega (arith, i);
  fits = omega (arith, q.fits, i);
}

-- the later part of an expression, behind a first one and a token
pub IsRead-beside : {ts us vs : List Token} {t : Token} {d h k : ℕ} (m : ℕ) → ts ≡ t ∷ us → d + m + 1 ≤ 200 → IsRead us vs (d + 1) h →
    k ≡ max m h + 1 → IsRead ts vs d k
IsRead-beside m e r q i = let l = ap length e in record {
  behind = record { shorter = omega (arith, q.behind.shorter, l) };
  some = omega (arith, i);
  fits = omega (arith, r, q.fits, i);
}

-- statements behind a part
pub IsGathered-then : {ts us vs : List Token} {d h k : ℕ} → IsRead ts us d h → IsGathered us vs d k → IsGathered ts vs d (max h k)
IsGathered-then p q = record { shorter = omega (arith, p.behind.shorter, q.shorter); fits = omega (arith, p.fits, q.fits) }

-- a part behind statements and their last word
pub IsRead-gathered : {ts us vs ws : List Token} {t : Token} {d h k : ℕ} → IsGathered ts us d h → us ≡ t ∷ vs → IsRead vs ws d k → IsRead ts ws d (max h k)
IsRead-gathered p e q = let l = ap length e in record {
  behind = record { shorter = omega (arith, p.shorter, q.behind.shorter, l) };
  some = omega (arith, q.some);
  fits = omega (arith, p.fits, q.fits);
}

-- the arguments of a call, behind its bracket
pub IsGathered-call : {ts us vs : List Token} {t : Token} {d h k : ℕ} → ts ≡ t ∷ us → IsGathered us vs (d + 1) h → k ≡ h + 1 → IsGathered ts vs d k
IsGathered-call e q i = let l = ap length e in record { shorter = omega (arith, q.shorter, l); fits = omega (arith, q.fits, i) }
