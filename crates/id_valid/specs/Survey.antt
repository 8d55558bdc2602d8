-- What a pass over a graph notes of each instruction.
use Rattle.std.specs.Prelude.{◌≡◌, ℕ, ◌+◌, ◌<◌, ◌||◌, Bool, List, length, min, slice_index}
use Rattle.std.specs.Prelude.{slice_index_or}
use Rattle.id_instr.specs.declared.dests.Port.TheVariants.{Zero, One}
use Rattle.id_instr.specs.Graph.{Parts}
use Rattle.id_valid.specs.Roles.{is_first, is_entry, is_reply, arcs_into}

-- the list has the value of the test at each number below n
pub record Notes (test : ℕ → Bool) (n : ℕ) (marks : List Bool) : Type 0 where
  pub len : length marks ≡ n
  pub at : (k : ℕ) (d : Bool) → k < n → slice_index_or marks k d ≡ test k

-- the places that pass the test are marked, and the others are as they were
pub record Marks (old new : List Bool) (test : ℕ → Bool) : Type 0 where
  pub len : length new ≡ length old
  pub at : (k : ℕ) (d : Bool) → k < length old → slice_index_or new k d ≡ (slice_index_or old k d || test k)

-- the list has f at each number below n, where 2 and any more are the same
pub record Counts (f : ℕ → ℕ) (n : ℕ) (counts : List ℕ) : Type 0 where
  pub len : length counts ≡ n
  pub at : (k : ℕ) → k < n → min 2 (slice_index counts k) ≡ min 2 (f k)

-- f is added at each place, where 2 and any more are the same
pub record Adds (old new : List ℕ) (f : ℕ → ℕ) : Type 0 where
  pub len : length new ≡ length old
  pub at : (k : ℕ) → k < length old → min 2 (slice_index new k) ≡ min 2 (slice_index old k + f k)

-- the roles of the instructions, and the arcs into their ports, are noted
pub record IsSurvey (g : Parts) (firsts entries replies : List Bool) (zero one : List ℕ) : Type 0 where
  pub firsts_noted : Notes (is_first g) (length g.instrs) firsts
  pub entries_noted : Notes (is_entry g) (length g.instrs) entries
  pub replies_noted : Notes (is_reply g) (length g.instrs) replies
  pub zero_counted : Counts (λ n. arcs_into g n Zero) (length g.instrs) zero
  pub one_counted : Counts (λ n. arcs_into g n One) (length g.instrs) one
