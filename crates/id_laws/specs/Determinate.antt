-- *Determinate*: what all runs of one source have in common (docs/MEANING.md, "Laws").
use Rattle.std.specs.Prelude.{◌≡◌, ℕ, List, [], IsPermutation}
use Rattle.id_instr.specs.Graph.{Parts}
use Rattle.id_build.specs.Schemas.{Schemas}
use Rattle.id_core.specs.Machines.{World, IsQuiet, start, run}
use Rattle.id_core.specs.Observed as shown
use Rattle.id_source.specs.Sources.{Source, AreInputs}

-- a run of a source: of a graph that the schemas give its program, numbered in any way, on so many elements, with
-- deliveries at these positions, one after another
pub record RunOf (S : Source) : Type 0 where
  pub graph : Parts
  pub schemas : Schemas S.checked graph
  pub count : ℕ
  pub positions : List ℕ

-- the state that the run comes to
abbrev pub end_of : (S : Source) → RunOf S → World
end_of S r = run r.graph r.count r.positions (start r.graph S.inputs r.count)

-- two runs show one answer, and the same names, structures, contents of cells, asks and waiting fetches, in some order
pub record ShowTheSame (S : Source) (r q : RunOf S) : Type 0 where
  pub answer : shown.answer r.graph (end_of S r) ≡ shown.answer q.graph (end_of S q)
  pub names : IsPermutation (shown.names r.graph (end_of S r)) (shown.names q.graph (end_of S q))
  pub structures : IsPermutation (shown.structures r.graph (end_of S r)) (shown.structures q.graph (end_of S q))
  pub cells : IsPermutation (shown.cells r.graph (end_of S r)) (shown.cells q.graph (end_of S q))
  pub asks : IsPermutation (shown.asks r.graph (end_of S r)) (shown.asks q.graph (end_of S q))
  pub waiting : IsPermutation (shown.waiting r.graph (end_of S r)) (shown.waiting q.graph (end_of S q))

-- all runs of the source that fall quiet show the same, and where one falls quiet, none shows a fault
pub record IsDeterminate (S : Source) : Type 0 where
  pub same : (r q : RunOf S) → IsQuiet (end_of S r) → IsQuiet (end_of S q) → ShowTheSame S r q
  pub no_fault : (r q : RunOf S) → IsQuiet (end_of S r) → shown.faults q.graph (end_of S q) ≡ []

-- *Determinate*: so it is with each source, whatever the graphs' numberings, the numbers of elements and the orders
abbrev pub Determinate : Type 0
Determinate = (S : Source) → AreInputs S.checked S.inputs → IsDeterminate S
