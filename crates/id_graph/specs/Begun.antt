-- What a pass over the blocks of a graph notes: where they begin.
use Rattle.std.specs.Prelude.{◌≡◌, ℕ, ◌<◌, ◌||◌, Bool, List, length, slice_index_or}
use Rattle.id_instr.specs.declared.instr.Block.{Block}
use Rattle.id_graph.specs.Dot.{is_begun}

-- the list tells of each number below n whether a block begins there
pub record TellsBegun (bs : List Block) (n : ℕ) (marks : List Bool) : Type 0 where
  pub len : length marks ≡ n
  pub at : (k : ℕ) (d : Bool) → k < n → slice_index_or marks k d ≡ is_begun bs k

-- the places that pass the test are marked, and the others are as they were
pub record Marks (old new : List Bool) (test : ℕ → Bool) : Type 0 where
  pub len : length new ≡ length old
  pub at : (k : ℕ) (d : Bool) → k < length old → slice_index_or new k d ≡ (slice_index_or old k d || test k)
