-- The least number past an end that has a role.
use Rattle.std.specs.Prelude.{◌≡◌, ℕ, length, ◌<◌, ◌≤◌, ◌||◌, Bool, true, false, Option}
use Rattle.std.specs.Prelude.{MatchOption}
use Rattle.id_instr.specs.Graph.{Parts}
use Rattle.id_valid.specs.Roles.{is_first, is_second, is_entry}
use Rattle.id_valid.specs.Validator.{IsSound}

-- m is the least number from the end on that passes the test
pub record IsLeast (test : ℕ → Bool) (end : ℕ) (m : ℕ) : Type 0 where
  pub past : end ≤ m
  pub passes : test m ≡ true
  pub before : (k : ℕ) → end ≤ k → k < m → test k ≡ false

-- no number from the end on passes the test
pub record IsNone (test : ℕ → Bool) (end : ℕ) : Type 0 where
  pub fails : (k : ℕ) → end ≤ k → test k ≡ false

-- the least number from the end on that passes the test, if there is one
abbrev pub Least : (ℕ → Bool) → ℕ → Option ℕ → Type 0
Least test end o = MatchOption o (IsNone test end) (IsLeast test end)

-- whether a block gives the number a role
abbrev pub has_role : Parts → ℕ → Bool
has_role g n = is_first g n || is_second g n || is_entry g n

-- no instruction past the end is faulty
pub record IsSoundPast (g : Parts) : Type 0 where
  pub sound : (n : ℕ) → length g.instrs ≤ n → IsSound g n

-- n is the first faulty instruction past the end
pub record IsFirstPast (g : Parts) (n : ℕ) : Type 0 where
  pub past : length g.instrs ≤ n
  pub faulty : ¬ IsSound g n
  pub before : (m : ℕ) → length g.instrs ≤ m → m < n → IsSound g m

-- the first faulty instruction past the end, if there is one
abbrev pub FirstPast : Parts → Option ℕ → Type 0
FirstPast g o = MatchOption o (IsSoundPast g) (IsFirstPast g)
