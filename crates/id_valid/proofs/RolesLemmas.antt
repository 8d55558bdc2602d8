-- Lemmas on specs/Roles.antt, in the order of its definitions.
use Rattle.std.proofs.Common.{false, ◌≡◌, ℕ, ◌+◌, ◌<◌, Bool, true, List, [], ◌∷◌, ◌++◌, length, take, drop, get_or}
use Rattle.std.proofs.Common.{filter, arith, ap, sym, ◌∙◌, length-append, refl, ◌==◌}
use Rattle.std.specs.List.{list_any}
use Rattle.std.proofs.lemmas.Bool.Decides.{nat_tests}
use Rattle.id_instr.specs.declared.instr.Block.{Block}
use Rattle.std.proofs.lemmas.List.{take-append-drop}
use Rattle.std.proofs.lemmas.List.Elements.{filter-append}
use Rattle.std.proofs.lemmas.List.Filters.{length-filter_more}

-- instruction 0 is the second of no block
pub is_second-zero : (bs : List Block) → list_any (λ b. b.first + 1 == 0) bs ≡ false
is_second-zero [] = refl
is_second-zero (b ∷ bs) =
    let head : (b.first + 1 == 0) ≡ false = grind (arith, nat_tests)
    in rw head (is_second-zero bs)

-- where an element passes after one that passed, the list has not one alone that passes
pub filter-not_one : {X : Type 0} (p : X → Bool) (xs : List X) (i : ℕ) (d a b : X) → i < length xs → filter p (take i xs) ≡ a ∷ [] →
    p (get_or xs i d) ≡ true → filter p xs ≡ b ∷ [] → ⊥
filter-not_one p xs i d a b within one passes alone =
    let parts : filter p (take (i + 1) xs) ++ filter p (drop (i + 1) xs) ≡ b ∷ [] =
    sym (filter-append p (take (i + 1) xs) (drop (i + 1) xs)) ∙ ap (λ l. filter p l) (take-append-drop (i + 1) xs) ∙ alone
    in let more = rw passes at (length-filter_more p xs i d within)
    in omega (arith, ap length parts, length-append (filter p (take (i + 1) xs)) (filter p (drop (i + 1) xs)), more, ap length one)
