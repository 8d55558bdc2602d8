-- Lemmas on specs/Past.antt, in the order of its definitions.
use Rattle.std.proofs.Common.{◌≡◌, ℕ, ◌+◌, ◌<◌, ◌||◌, Bool, Option, Some, None, List, length, take, get_or, ap, sym, ◌∙◌}
use Rattle.std.specs.List.{list_any}
use Rattle.std.proofs.lemmas.List.Folds.{list_any_more}
use Rattle.id_valid.specs.Past.{Least}

-- a test that agrees with another has the same least number
pub Least-same : (p q : ℕ → Bool) (end : ℕ) (o : Option ℕ) → ((k : ℕ) → p k ≡ q k) → Least p end o → Least q end o
Least-same p q end None same least = record { fails = λ k from. sym (same k) ∙ least.fails k from }
Least-same p q end (Some m) same least = record {
  past = least.past;
  passes = sym (same m) ∙ least.passes;
  before = λ k from below. sym (same k) ∙ least.before k from below;
}

-- the least of one more element
pub Least-more : {X : Type 0} (p : X → ℕ → Bool) (xs : List X) (i end : ℕ) (x : X) (o : Option ℕ) → i < length xs → x ≡ get_or xs i x →
    Least (λ k. list_any (λ y. p y k) (take i xs) || p x k) end o → Least (λ k. list_any (λ y. p y k) (take (i + 1) xs)) end o
Least-more p xs i end x o within here least =
    Least-same (λ k. list_any (λ y. p y k) (take i xs) || p x k) (λ k. list_any (λ y. p y k) (take (i + 1) xs)) end o
    (λ k. let more = list_any_more (λ y. p y k) xs i x within in let same = ap (λ y. p y k) here in cc)
    least
