-- Numbers for names: each stands for one name (docs/GRAPH.md, "Parts").
use Rattle.std.specs.Prelude.{ℕ, ◌+◌, List, [], ◌∷◌, codes, if◌then◌else◌}
use Rattle.std.specs.Str.{bytes_eq}

-- where the name stands in the list, or else the list's length
abbrev pub number_of : List (List ℕ) → List ℕ → ℕ
number_of [] x = 0
number_of (y ∷ ys) x = if bytes_eq x y then 0 else number_of ys x + 1

-- the list with the name, which is added at its end where it is not there yet
abbrev pub with_name : List (List ℕ) → List ℕ → List (List ℕ)
with_name [] x = x ∷ []
with_name (y ∷ ys) x = if bytes_eq x y then y ∷ ys else y ∷ with_name ys x

-- the names before the first part: `main`
abbrev pub first_names : List (List ℕ)
first_names = codes "main" ∷ []
