-- The names of a table, as the set that numbers them has them.
use Rattle.std.proofs.Common.{◌≡◌, ◌+◌, Bool, true, false, cond, not, ◌||◌, List, [], ◌∷◌, ◌++◌, refl, ap, ◌∙◌, arith}
use Rattle.std.specs.Prelude.{if◌then◌else◌}
use Rattle.std.specs.Str.{bytes_eq}
use Rattle.std.specs.List.{list_any, position_or_len}
use Rattle.indexmap.specs.IndexSet.{insert_key}
use Rattle.id_table.specs.Names.{number_of, with_name}
use Rattle.id_table.specs.Texts.{texts}
use Rattle.id_table.specs.declared.spelled.Spelled.{Spelled}

-- the number of a name is the place of its key
pub number_of-texts : (ks : List Spelled) (k : Spelled) → position_or_len (λ y. bytes_eq k.name.now y.name.now) ks ≡ number_of (texts ks) k.name.now
number_of-texts [] k = refl
number_of-texts (y ∷ ks) k =
    let rest = number_of-texts ks k in
    elim (bytes_eq k.name.now y.name.now) as (λ b. cond (not b) (1 + position_or_len (λ z. bytes_eq k.name.now z.name.now) ks) 0 ≡
    (if b then 0 else number_of (texts ks) k.name.now + 1)) [
      | true ↦ refl
      | false ↦ omega arith
    ]

-- the names once a key is inserted
pub with_name-texts : (ks : List Spelled) (k : Spelled) → texts (insert_key (λ x y. bytes_eq x.name.now y.name.now) ks k) ≡ with_name (texts ks) k.name.now
with_name-texts [] k = refl
with_name-texts (y ∷ ks) k =
    let found = list_any (λ z. bytes_eq k.name.now z.name.now) ks in
    elim (bytes_eq k.name.now y.name.now) as (λ b. texts (if b || found then y ∷ ks else (y ∷ ks) ++ k ∷ []) ≡
    (if b then y.name.now ∷ texts ks else y.name.now ∷ with_name (texts ks) k.name.now)) [
      | true ↦ refl
      | false ↦ behind found ∙ ap (λ xs. y.name.now ∷ xs) (with_name-texts ks k)
    ]
  where
    behind : (b : Bool) → texts (if b then y ∷ ks else (y ∷ ks) ++ k ∷ []) ≡ y.name.now ∷ texts (if b then ks else ks ++ k ∷ [])
    behind true = refl
    behind false = refl
