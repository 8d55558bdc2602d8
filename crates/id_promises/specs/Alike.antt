-- What runs of one source print (docs/PROMISES.md, "The run").
use Rattle.std.specs.Prelude.{◌≡◌, ℕ, Bool, List}
use Rattle.id_source.specs.Sources.{Source, AreInputs}
use Rattle.id_laws.specs.Determinate.{RunOf, end_of}
use Rattle.id_engine.specs.Runs.{Ends}

-- the run of a source, where an element may handle so many messages, ends with this status and is printed in these
-- bytes, its names where they are asked for
abbrev pub IsPrinted : (S : Source) → RunOf S → ℕ → List ℕ → Bool → ℕ → List ℕ → Type 0
IsPrinted S r steps text b status bytes = Ends r.graph r.count steps (end_of S r) text b status bytes

-- all runs of the source that fall quiet are printed in the same bytes, and where one falls quiet, none ends at a fault
pub record ArePrintedAlike (S : Source) (text : List ℕ) (b : Bool) : Type 0 where
  pub same : (r q : RunOf S) (m n : ℕ) (xs ys : List ℕ) → IsPrinted S r m text b 0 xs
      → IsPrinted S q n text b 0 ys → xs ≡ ys
  pub no_fault : (r q : RunOf S) (m n : ℕ) (xs ys : List ℕ) → IsPrinted S r m text b 0 xs
      → IsPrinted S q n text b 1 ys → ⊥

-- *Printed alike*: so it is with each source, whatever the graphs' numberings, the numbers of elements and the orders
abbrev pub PrintedAlike : Type 0
PrintedAlike = (S : Source) → AreInputs S.checked S.inputs → (text : List ℕ) (b : Bool)
    → ArePrintedAlike S text b
