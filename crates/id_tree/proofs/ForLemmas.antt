-- How the readers' runs are put together at the index of a `for` and its bounds.
use Rattle.std.proofs.Common.{◌≡◌, ℕ, ◌+◌, max, inl, inr, List, refl, ap, ◌∙◌, arith}
use Rattle.id_text.specs.declared.token.Token.{Token}
use Rattle.id_text.specs.declared.token.Keyword.TheVariants.{To, Do}
use Rattle.id_text.specs.declared.token.Symbol.TheVariants.{Arrow}
use Rattle.id_grammar.specs.declared.tokens.Word.TheVariants as the
use Rattle.id_grammar.specs.declared.tree.TreeError.{TreeError}
use Rattle.id_grammar.specs.Tree.{Tree}
use Rattle.id_grammar.specs.Grammar.{Phrase, Rest, word, enclosed, own_height, indexed_of, for_of}
use Rattle.id_grammar.specs.Machine.{Frame, Next, run}
use Rattle.id_grammar.specs.Readers.{Fails, Takes, Misses, BeginsWithName, LacksName, Encloses, Exposes}
use Rattle.id_grammar.specs.Readers.{ranged, Ranges, Misranges}
use Rattle.id_grammar.proofs.RunLemmas.{run-none, run-name}
use Rattle.id_grammar.proofs.ReaderLemmas.{EndsBy-at, At}

-- behind the lower bound: the upper bound and the tail
abbrev upper_of : ℕ → List ℕ → ℕ → Tree → Rest
upper_of p x q low = enclosed (the.Key Do) (ranged p x q low)

-- no name comes
pub Misranges-name : {ts : List Token} {y : TreeError} (d : ℕ) → LacksName ts y → Misranges ts d y
Misranges-name d (inl e) = rw e (record { fails = λ p m c K. tt })
Misranges-name d (inr q) = record {
  fails = λ p m c K. let i = q.kind in
      rw (q.error, q.whole) (run-none 200 q.token q.behind (Next (for_of p) m d c K) (rw i refl));
}

-- a name comes, then the arrow, then the lower bound
module _ {ts us : List Token} {x : List ℕ} {q : ℕ} (d : ℕ) (named : BeginsWithName ts x q us) where
  name_comes : (p m c : ℕ) (K : List Frame) → run 200 ts (Next (for_of p) m d c K) ≡ run 200 us (Next (indexed_of p x q) m d c K)
  name_comes p m c K = rw (named.whole, ← named.place) (run-name 200 named.token us x (indexed_of p) m d c K named.kind)

  pub Misranges-arrow : {y : TreeError} → Misses (word (the.Sign Arrow)) us y → Misranges ts d y
  Misranges-arrow {y = y} f = record {
    fails = λ p m c K. EndsBy-at y (name_comes p m c K) (f.fails (enclosed (the.Key To) (upper_of p x q)) m d c K);
  }

  module _ {vs : List Token} (arrow : Takes (word (the.Sign Arrow)) us vs) where
    arrow_comes : (p m c : ℕ) (K : List Frame) →
        run 200 ts (Next (for_of p) m d c K) ≡ run 200 vs (Next (enclosed (the.Key To) (upper_of p x q)) m d c K)
    arrow_comes p m c K = name_comes p m c K ∙ arrow.comes (enclosed (the.Key To) (upper_of p x q)) m d c K

    pub Misranges-low : {y : TreeError} → Exposes vs d (the.Key To) y → Misranges ts d y
    Misranges-low {y = y} f = record { fails = λ p m c K. EndsBy-at y (arrow_comes p m c K) (f.fails (upper_of p x q) m c K) }

    module _ {ws : List Token} {low : Tree} {h : ℕ} (lower : Encloses vs d (the.Key To) ws low h) where
      low_comes : (p m c : ℕ) (K : List Frame) →
          run 200 ts (Next (for_of p) m d c K) ≡ run 200 ws (Next (upper_of p x q low) (max m h) d c K)
      low_comes p m c K = arrow_comes p m c K ∙ lower.comes (upper_of p x q) m c K

      pub Misranges-high : {y : TreeError} → Exposes ws d (the.Key Do) y → Misranges ts d y
      Misranges-high {y = y} f = record {
        fails = λ p m c K. EndsBy-at y (low_comes p m c K) (f.fails (ranged p x q low) (max m h) c K);
      }

      pub Ranges-done : {xs : List Token} {high : Tree} {k : ℕ} → Encloses ws d (the.Key Do) xs high k →
          Ranges ts d xs x q low high (max h k)
      Ranges-done {xs = xs} {high = high} {k = k} upper = record {
        comes = λ p m c K.
            low_comes p m c K ∙ upper.comes (ranged p x q low) (max m h) c K
            ∙ ap (λ n. run 200 xs (Next (ranged p x q low high) n d c K)) (omega arith);
      }

-- behind the word `for` come the index and its bounds, or not
module _ {ts us : List Token} {s : Phrase} {d h : ℕ} {p : ℕ} where
  pub At-ranged : {vs : List Token} {x : List ℕ} {q m : ℕ} {low high : Tree} → At ts s d us (for_of p) h →
      Ranges us (d + own_height s) vs x q low high m → At ts s d vs (ranged p x q low high) (max h m)
  At-ranged a r = record { comes = λ K. a.comes K ∙ r.comes p h (own_height s) K }

  pub Fails-ranged : {y : TreeError} → At ts s d us (for_of p) h → Misranges us (d + own_height s) y → Fails ts s d y
  Fails-ranged {y = y} a r = record { fails = λ K. EndsBy-at y (a.comes K) (r.fails p h (own_height s) K) }
