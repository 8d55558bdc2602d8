-- Lemmas on specs/Dot.antt: what is appended piece by piece is appended whole.
use Rattle.std.proofs.Common.{◌≡◌, ℕ, List, ◌++◌, arith}
use Rattle.std.proofs.lemmas.Grind.{common_steps}

-- five pieces
pub five_joined : (a b c d e : List ℕ) → a ++ (b ++ (c ++ (d ++ e))) ≡ a ++ b ++ c ++ d ++ e
five_joined a b c d e = grind (arith, common_steps)

-- five: three of them in one, then two
pub three_and_two : (out m1 m2 end a b c d e : List ℕ) → m1 ≡ out ++ (a ++ (b ++ c)) → m2 ≡ m1 ++ d → end ≡ m2 ++ e
    → end ≡ out ++ (a ++ b ++ c ++ d ++ e)
three_and_two out m1 m2 end a b c d e h1 h2 h3 = grind (arith, common_steps)

-- ten pieces of a box, in five
pub box_joined : (out m1 m2 m3 m4 end a b c d e f g h i j : List ℕ) → m1 ≡ out ++ (a ++ (b ++ (c ++ d))) → m2 ≡ m1 ++ e
    → m3 ≡ m2 ++ (f ++ g) → m4 ≡ m3 ++ h → end ≡ m4 ++ (i ++ j) → end ≡ out ++ (a ++ b ++ c ++ d ++ e ++ f ++ g ++ h ++ i ++ j)
box_joined out m1 m2 m3 m4 end a b c d e f g h i j h1 h2 h3 h4 h5 = grind (arith, common_steps)

-- eight pieces of an instruction, in five
pub node_joined : (out m1 m2 m3 m4 end a b c d e f g h : List ℕ) → m1 ≡ out ++ (a ++ b) → m2 ≡ m1 ++ c → m3 ≡ m2 ++ d → m4 ≡ m3 ++ e
    → end ≡ m4 ++ (f ++ (g ++ h)) → end ≡ out ++ (a ++ b ++ c ++ d ++ e ++ f ++ g ++ h)
node_joined out m1 m2 m3 m4 end a b c d e f g h h1 h2 h3 h4 h5 = grind (arith, common_steps)

-- ten pieces
pub ten_joined : (a b c d e f g h i j : List ℕ) → a ++ (b ++ (c ++ (d ++ (e ++ (f ++ (g ++ (h ++ (i ++ j)))))))) ≡ a ++ b ++ c ++ d ++ e ++ f ++ g ++ h ++ i ++ j
ten_joined a b c d e f g h i j = grind (arith, common_steps)
