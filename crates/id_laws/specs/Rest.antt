-- When a run comes to rest (docs/MEANING.md, "Laws").
use Rattle.std.specs.Prelude.{◌≡◌, ◌≢◌, ◌≤◌, ◌<◌, ◌+◌, ◌-◌, ◌*◌, ◌^◌, ◌++◌}
use Rattle.std.specs.Prelude.{ℕ, List, [], ◌∷◌, length}
use Rattle.id_instr.specs.Graph.{Parts}
use Rattle.id_core.specs.Machines.{World, IsQuiet, delivered}
use Rattle.id_core.specs.Observed.{faults}
use Rattle.id_source.specs.declared.Path.{Path}
use Rattle.id_source.specs.declared.SourceFault.{SourceFault}
use Rattle.id_source.specs.Sources.{Source, AreInputs}
use Rattle.id_source.specs.Rounds.{Faulty, FaultFree}
use Rattle.id_laws.specs.Determinate.{RunOf, end_of}
use Rattle.id_laws.specs.Laws.{events}
use Rattle.id_laws.specs.Bounded.{AreActive, messages_at_once}

-- each of these positions, one after another, is that of a message, as long as one is in flight
abbrev pub TakeOn : Parts → ℕ → World → List ℕ → Type 0
TakeOn g count w [] = Unit {0}
TakeOn g count w (k ∷ ks) = (w.flight ≢ [] → k < length w.flight) × TakeOn g count (delivered g count w k) ks

-- the run goes on with deliveries at these positions
abbrev pub continued : (S : Source) → RunOf S → List ℕ → RunOf S
continued S r ks = record r { positions = r.positions ++ ks }

-- a run comes to rest after at most so many messages
pub record ComesToRest (S : Source) (r : RunOf S) (most : ℕ) : Type 0 where
  -- it has handled no more
  pub few : length (events (end_of S r)) ≤ most
  -- with deliveries up to that number, each of some message as long as there is one, it comes to its end
  pub ends : (ks : List ℕ) → TakeOn r.graph r.count (end_of S r) ks
      → most ≤ length (events (end_of S r)) + length ks → (end_of S (continued S r ks)).flight ≡ []
  -- at its end it is quiet where its source has no fault, and has shown a fault where it has one
  pub quiet : (end_of S r).flight ≡ [] → FaultFree S → IsQuiet (end_of S r)
  pub faulty : (end_of S r).flight ≡ [] → (f : SourceFault) → Faulty S f → faults r.graph (end_of S r) ≢ []

-- *Comes to rest*: where these paths alone are active, each run of the source on one element or more does so, after as
-- many messages as its graph may have at once for each of the paths
abbrev pub Rest : Type 0
Rest = (S : Source) (ps : List Path) → AreInputs S.checked S.inputs → AreActive S ps → (r : RunOf S)
    → 0 < r.count
    → messages_at_once r.graph * length ps < 2 ^ 64 - 1 → ComesToRest S r (messages_at_once r.graph * length ps)
