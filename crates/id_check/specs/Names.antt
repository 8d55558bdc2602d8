-- What is known of the names while the scopes are passed, innermost first, for use inside.
use Rattle.std.specs.Prelude.{◌≡◌, ℕ, zero, suc, ◌+◌, ◌<◌, ◌≤◌, Bool, true, false, ◌&&◌}
use Rattle.std.specs.Prelude.{◌||◌, ◌==◌, List, []}
use Rattle.std.specs.Prelude.{length, get_or, nat_le, Option, None, Some, if◌then◌else◌}
use Rattle.std.specs.Option.{option_or}
use Rattle.id_table.specs.declared.row.Row.{Row}
use Rattle.id_table.specs.declared.row.Node.{Node}
use Rattle.id_table.specs.declared.row.Node.TheVariants.{Name, Enter, Block, Def, Program, NextUse, Body, Span}
use Rattle.id_table.specs.Rows.{at}
use Rattle.id_table.specs.Tables.{around}
use Rattle.id_check.specs.declared.cause.CheckCause.{CheckCause}
use Rattle.id_check.specs.declared.scope.Bound.{Bound}
use Rattle.id_check.specs.Scopes.{binder_at, binder_in, bound_name, confines, held, is_free, is_name, sees, sees_own}
use Rattle.id_check.specs.Scopes.{used_name}
use Rattle.id_check.specs.Causes.{repeated}

-- each name's number is below m
pub record AreNames (R : List Row) (m : ℕ) : Type 0 where
  pub bound : (i x : ℕ) → i < length R → bound_name (at R i).node ≡ Some x → x < m
  pub used : (i x : ℕ) → i < length R → used_name (at R i).node ≡ Some x → x < m

-- which rows are held by one of the first s rows
pub record AreHeld (R : List Row) (s : ℕ) (hs : List Bool) : Type 0 where
  pub long : length hs ≡ length R
  pub each : (i : ℕ) → i < length R → get_or hs i false ≡ held R i s

-- the list has the rows among the first n that don't see their own scope, and that none of the first t rows holds; it
-- is in order
pub record IsOpen (R : List Row) (n t : ℕ) (ps : List ℕ) : Type 0 where
  pub below : (j : ℕ) → j < length ps → get_or ps j 0 < n
  pub order : (j k : ℕ) → j < k → k < length ps → get_or ps j 0 < get_or ps k 0
  pub all : (b : ℕ) → b < n → sees_own (at R b).node ≡ false → held R b t ≡ false
      → (j : ℕ) × (j < length ps) × (get_or ps j 0 ≡ b)

-- the binder that was noted, if it is of the scope s
abbrev pub in_scope : ℕ → Option Bound → Option ℕ
in_scope s None = None
in_scope s (Some z) = if z.scope == s then Some z.binder else None

-- no name is noted for a scope from s on
pub record IsFresh (s : ℕ) (bs : List (Option Bound)) : Type 0 where
  pub each : (x t : ℕ) → s ≤ t → in_scope t (get_or bs x None) ≡ None

-- which names the scope s binds by the first b rows
pub record IsBinding (R : List Row) (s b : ℕ) (bs : List (Option Bound)) : Type 0 where
  pub each : (x : ℕ) → x < length bs → in_scope s (get_or bs x None) ≡ binder_in R s x b

-- the binders of names in the first s rows
pub record AreBound (R : List Row) (s : ℕ) (os : List (Option ℕ)) : Type 0 where
  pub long : length os ≡ length R
  pub each : (i : ℕ) → i < length R → get_or os i None ≡ binder_at R s i

-- what the row i, which may use this name, sees of the first n rows in the scope s
abbrev pub seen : List Row → ℕ → ℕ → ℕ → Option ℕ → Option ℕ
seen R s n i None = None
seen R s n i (Some x) = if sees R s i then binder_in R s x n else None

-- the binders of names in the first s rows and, of those that s takes, in the first n
pub record AreSeen (R : List Row) (s n : ℕ) (os : List (Option ℕ)) : Type 0 where
  pub long : length os ≡ length R
  pub each : (i : ℕ) → i < length R → get_or os i None
      ≡ option_or (binder_at R s i) (seen R s n i (used_name (at R i).node))

-- which rows are held by one of the first s rows and, of the first n, by the row s
pub record AreTaken (R : List Row) (s n : ℕ) (hs : List Bool) : Type 0 where
  pub long : length hs ≡ length R
  pub done : (i : ℕ) → i < n → i < length R → get_or hs i false ≡ (held R i s || confines R s i)
  pub rest : (i : ℕ) → n ≤ i → i < length R → get_or hs i false ≡ held R i s

-- the scope s takes its binders, and has come to the row n
pub record IsTaking (R : List Row) (s n : ℕ) (bs : List (Option Bound)) (os : List (Option ℕ)) : Type 0 where
  pub bound : IsBinding R s n bs
  pub later : (x t : ℕ) → s < t → in_scope t (get_or bs x None) ≡ None
  pub binders : AreSeen R s n os

-- how many keys there are for so many names
abbrev pub keys : ℕ → ℕ
keys m = m + m

-- the key by which the use of a name waits: those of values are even, those of procedures odd
abbrev pub key_of : Node → Option ℕ
key_of (Name x) = Some (x + x)
key_of (NextUse x) = Some (x + x)
key_of (Enter x) = Some (x + x + 1)
key_of _ = None

-- the key of the uses of the name x that look for their binder in a part of this node
abbrev pub sought : Node → ℕ → Option ℕ
sought (Block b) x = Some (x + x)
sought Body x = Some (x + x)
sought Span x = Some (x + x)
sought (Def y h k b) x = Some (x + x)
sought Program x = Some (x + x + 1)
sought _ x = None

-- whether the row u uses the name of the key x, and has no binder yet
abbrev pub is_waiting : List Row → List (Option ℕ) → ℕ → ℕ → Bool
is_waiting R os x u = is_name x (key_of (at R u).node) && is_free (get_or os u None)

-- the last number below n of which f is true
abbrev pub last_of : (ℕ → Bool) → ℕ → Option ℕ
last_of f zero = None
last_of f (suc n) = if f n then Some n else last_of f n

-- of the first n rows, the last that waits, by key below m, and for each row that waits the one before it
pub record AreWaiting (R : List Row) (n m : ℕ) (os ls es : List (Option ℕ)) : Type 0 where
  pub long_binders : length os ≡ length R
  pub long_last : length ls ≡ m
  pub long_earlier : length es ≡ length R
  pub last : (x : ℕ) → x < m → get_or ls x None ≡ last_of (is_waiting R os x) n
  pub earlier : (x u : ℕ) → x < m → u < n → is_waiting R os x u ≡ true
      → get_or es u None ≡ last_of (is_waiting R os x) u

-- the cause at a row that binds this name in s, if these are noted
abbrev pub again : List Row → ℕ → ℕ → List (Option Bound) → Option ℕ → List CheckCause
again R s b bs None = []
again R s b bs (Some x) = repeated R b (in_scope s (get_or bs x None))

-- whether the row i sees its own scope, or that is before s
abbrev pub is_outside : List Row → ℕ → ℕ → Bool
is_outside R s i = sees_own (at R i).node || held R i s

-- whether the row i stands in s, and sees that
abbrev pub is_in_sight : List Row → ℕ → ℕ → Bool
is_in_sight R s i = around R s i && is_outside R s i

-- the binder b, if the row i uses the name of this key and is in sight of s
abbrev pub given : List Row → ℕ → ℕ → ℕ → ℕ → Option ℕ
given R s x b i = if is_name x (key_of (at R i).node) && is_in_sight R s i then Some b else None

-- what the row i gets where the row b binds this name in s, if these are noted
abbrev pub newly : List Row → ℕ → ℕ → List (Option Bound) → Option ℕ → ℕ → Option ℕ
newly R s b bs None i = None
newly R s b bs (Some x) i =
    if is_free (in_scope s (get_or bs x None)) && (sees R s i && is_name x (used_name (at R i).node))
    then Some b else None

-- the use, if it is not before the row f
abbrev pub not_before : ℕ → Option ℕ → Option ℕ
not_before f None = None
not_before f (Some u) = if nat_le f u then Some u else None

-- the row before which uses are looked for, where this one is behind them: in the scope s the last one may be
abbrev pub limit : ℕ → Option ℕ → ℕ
limit s None = s
limit s (Some l) = l

-- the last use of the key x that waits before this one, by the last of each key and the one before each row
abbrev pub use_before : List (Option ℕ) → List (Option ℕ) → ℕ → Option ℕ → Option ℕ
use_before ls es x None = get_or ls x None
use_before ls es x (Some l) = get_or es l None

-- the row before s, if there is one, waits by the key x
abbrev pub IsBehind : List Row → List (Option ℕ) → ℕ → ℕ → Option ℕ → Type 0
IsBehind R os s x None = Unit {0}
IsBehind R os s x (Some l) = (l < s) × (is_waiting R os x l ≡ true)

-- the number of rows up to the use
abbrev pub reach : Option ℕ → ℕ
reach None = 0
reach (Some u) = suc u
