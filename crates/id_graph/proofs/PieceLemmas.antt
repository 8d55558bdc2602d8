-- What is appended piece by piece is appended whole.
use Rattle.std.proofs.Common.{◌≡◌, ℕ, ◌+◌, ◌<◌, ◌≤◌, List, [], ◌∷◌, ◌++◌, length, get_or, drop, append_assoc, arith, ap, ◌∙◌}
use Rattle.std.proofs.lemmas.Grind.{common_steps}

-- a piece behind nothing is the piece
pub alone : (out end a : List ℕ) → out ≡ [] → end ≡ out ++ a → end ≡ a
alone out end a none last = last ∙ ap (λ b. b ++ a) none

-- four pieces, each behind what was there
pub four_by_one : (out m1 m2 m3 end a b c d : List ℕ) → m1 ≡ out ++ a → m2 ≡ m1 ++ b → m3 ≡ m2 ++ c → end ≡ m3 ++ d →
    end ≡ out ++ (a ++ b ++ c ++ d)
four_by_one out m1 m2 m3 end a b c d h1 h2 h3 h4 = grind (arith, common_steps)

-- five
pub five_by_one : (out m1 m2 m3 m4 end a b c d e : List ℕ) → m1 ≡ out ++ a → m2 ≡ m1 ++ b → m3 ≡ m2 ++ c → m4 ≡ m3 ++ d → end ≡ m4 ++ e →
    end ≡ out ++ (a ++ b ++ c ++ d ++ e)
five_by_one out m1 m2 m3 m4 end a b c d e h1 h2 h3 h4 h5 = grind (arith, common_steps)

-- one, and then four
pub one_and_four : (out mid end a b c d e : List ℕ) → mid ≡ out ++ a → end ≡ mid ++ b ++ c ++ d ++ e → end ≡ out ++ (a ++ b ++ c ++ d ++ e)
one_and_four out mid end a b c d e first last = grind (arith, common_steps)

-- two
pub two_by_one : (out mid end a b : List ℕ) → mid ≡ out ++ a → end ≡ mid ++ b → end ≡ out ++ (a ++ b)
two_by_one out mid end a b first last = grind (arith, common_steps)

-- a walk along a list whose text is that of an item and that of the items behind it: with what is left the text is whole, at the next item too
pub walk_on : {X : Type 0} (f : ℕ → List X → List ℕ) (one : ℕ → X → List ℕ) → ((n : ℕ) (x : X) (xs : List X) → f n (x ∷ xs) ≡ one n x ++ f (n + 1) xs)
    → (n : ℕ) (xs : List X) (x : X) (out mid whole : List ℕ) → n < length xs → x ≡ get_or xs n x → out ++ f n (drop n xs) ≡ whole
    → mid ≡ out ++ one n x → mid ++ f (n + 1) (drop (n + 1) xs) ≡ whole
walk_on f one step n xs x out mid whole below is so_far more =
    let left : drop n xs ≡ x ∷ drop (n + 1) xs = grind (arith, common_steps)
    in let parts : f n (drop n xs) ≡ one n x ++ f (n + 1) (drop (n + 1) xs) = ap (λ ys. f n ys) left ∙ step n x (drop (n + 1) xs)
    in grind (arith, append_assoc)

-- at the end of the list it is whole with nothing
pub walk_done : {X : Type 0} (f : ℕ → List X → List ℕ) → ((n : ℕ) → f n [] ≡ []) → (n : ℕ) (xs : List X) (out whole : List ℕ) → length xs ≤ n
    → out ++ f n (drop n xs) ≡ whole → out ≡ whole
walk_done f stop n xs out whole behind so_far =
    let none : drop n xs ≡ [] = grind (arith, common_steps)
    in let nothing : f n (drop n xs) ≡ [] = ap (λ ys. f n ys) none ∙ stop n
    in grind (arith, common_steps)
