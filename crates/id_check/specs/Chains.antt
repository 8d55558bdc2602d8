-- How the kinds of rows are found, for use inside: each chain is followed as far as a row whose kind is known.
use Rattle.std.specs.Prelude.{◌≡◌, ◌⊎◌, ◌<◌, ◌≤◌, ℕ, Bool, true, false, if◌then◌else◌}
use Rattle.std.specs.Prelude.{List, [], ◌∷◌, ◌++◌, map, length}
use Rattle.std.specs.Prelude.{get_or, Option, None, Some}
use Rattle.id_value.specs.declared.Kind.{Kind}
use Rattle.id_value.specs.declared.Kind.TheVariants.{Int}
use Rattle.id_value.specs.List.{Among}
use Rattle.id_check.specs.declared.kinds.Pass.{Pass}
use Rattle.id_check.specs.Kinds.{Link, Fixed, To, Within, Nowhere, EndsIn, kind_within}

-- the kind that the chain of the row i brings: the one that it ends in, and `int` where it comes back to itself
pub data IsKind (l : ℕ → Link) (i : ℕ) : Option Kind → Type 0 where
  ends : {o : Option Kind} → EndsIn l i o → IsKind l i o
  endless : ((o : Option Kind) → EndsIn l i o → ⊥) → IsKind l i (Some Int)

-- the kind that a link gives, if its chain ends there
abbrev pub kind_of : Link → Option Kind
kind_of (Fixed k) = Some k
kind_of (To j) = None
kind_of (Within j) = None
kind_of Nowhere = None

-- the chain ends at the link
abbrev pub IsEnd : Link → Type 0
IsEnd (Fixed k) = Unit {0}
IsEnd (To j) = ⊥
IsEnd (Within j) = ⊥
IsEnd Nowhere = Unit {0}

-- the link gives the row its kind
pub record IsFound (l : ℕ → Link) (i : ℕ) (k : Link) : Type 0 where
  pub is_end : IsEnd k
  pub kind : IsKind l i (kind_of k)

-- the link of a row as it was, which is to be settled from m on, or the one that gives its kind
abbrev pub IsState : (ℕ → Link) → ℕ → ℕ → Link → Type 0
IsState l m i k = ((m ≤ i) × (k ≡ l i)) ⊎ IsFound l i k

-- the kinds of the first m rows are found
pub record IsGoing (l : ℕ → Link) (n m : ℕ) (ks : List Link) : Type 0 where
  pub long : length ks ≡ n
  pub states : (i : ℕ) → i < n → IsState l m i (get_or ks i Nowhere)

-- where the chain of a row goes on behind this link
abbrev pub goes_to : Link → Option ℕ
goes_to (Fixed k) = None
goes_to (To j) = Some j
goes_to (Within j) = Some j
goes_to Nowhere = None

-- the link to the kind of what an element holds of an array whose chain ends at this link
abbrev pub link_within : Link → Link
link_within k = Fixed (kind_within (kind_of k))

-- the link of a row that was passed, where its chain goes on to the row q
abbrev pub link_of_pass : Pass → ℕ → Link
link_of_pass p q = if p.within then Within q else To q

-- the link that gives the kind of a row that was passed, where this one gives that of the row behind it
abbrev pub link_through : Pass → Link → Link
link_through p k = if p.within then link_within k else k

-- the rows that were passed
abbrev pub rows_of : List Pass → List ℕ
rows_of ps = map (λ p. p.row) ps

-- each of the rows that were passed leads to the one behind it, and the last to the row q
pub data IsTrail (l : ℕ → Link) : List Pass → ℕ → Type 0 where
  begun : {q : ℕ} → IsTrail l [] q
  goes_on : {qs : List Pass} {q : ℕ} (ps : List Pass) (p : Pass) → qs ≡ ps ++ p ∷ [] → IsTrail l ps p.row
      → l p.row ≡ link_of_pass p q → IsTrail l qs q

-- these rows were passed on the way from the row m, and this one is next
pub record IsPassing (l : ℕ → Link) (n m : ℕ) (passed : List Pass) (q : ℕ) (ks : List Link) : Type 0 where
  pub long : length ks ≡ n
  pub next : q < n
  pub states : (i : ℕ) → i < n
      → IsState l m i (get_or ks i Nowhere) ⊎ (Among i (rows_of passed) × (get_or ks i Nowhere ≡ Fixed Int))
  pub below : (p : ℕ) → Among p (rows_of passed) → p < n
  pub trail : IsTrail l passed q
  pub start : (m ≡ q) ⊎ Among m (rows_of passed)

-- these rows are to have their links, which follow from this one of the row q behind them
pub record IsFilling (l : ℕ → Link) (n m : ℕ) (passed : List Pass) (q : ℕ) (k : Link) (ks : List Link)
    : Type 0 where
  pub long : length ks ≡ n
  pub states : (i : ℕ) → i < n → IsState l m i (get_or ks i Nowhere) ⊎ Among i (rows_of passed)
  pub trail : IsTrail l passed q
  pub found : IsFound l q k

-- whether the link goes on
abbrev pub is_going_on : Link → Bool
is_going_on (Fixed k) = false
is_going_on (To j) = true
is_going_on (Within j) = true
is_going_on Nowhere = false
