-- Every run is made of events.
use Rattle.std.proofs.Common.{◌≡◌, ℕ, Bool, true, false, cond, Option, Some, None, List, [], ◌∷◌, slice_get, refl}
use Rattle.id_instr.specs.Graph.{Parts}
use Rattle.id_tag.specs.declared.Message.{Message}
use Rattle.id_tag.specs.Routes.{route_of}
use Rattle.id_core.specs.Steps.{State, is_ended}
use Rattle.id_core.specs.Machines.{World, start, taken_from, given_to, routed_to, delivered, run}
use Rattle.id_value.specs.declared.Constant.{Constant}
use Rattle.id_runs.specs.Runs.{Reached, begin, deliver}

module _ (g : Parts) (vs : List Constant) (count : ℕ) where
  given : (k : ℕ) (s : World) (m : Message) (o : Option State) → Reached g vs count s → slice_get s.flight k ≡ Some m
      → slice_get s.elements (route_of m.payload count) ≡ o
      → Reached g vs count (given_to g k s m (route_of m.payload count) o)
  given k s m None r f e = r
  given k s m (Some x) r f e = go (is_ended x m)
    where
      go : (ended : Bool) → Reached g vs count (cond ended s (taken_from g k s m (route_of m.payload count) x))
      go true = r
      go false = record { events = _; reach = deliver k m x r.reach f e }

  routed : (k : ℕ) (s : World) (o : Option Message) → Reached g vs count s → slice_get s.flight k ≡ o
      → Reached g vs count (routed_to g count k s o)
  routed k s None r f = r
  routed k s (Some m) r f = given k s m _ r f refl

  -- every list of deliveries
  reached_by : (ks : List ℕ) (s : World) → Reached g vs count s → Reached g vs count (run g count ks s)
  reached_by [] s r = r
  reached_by (k ∷ ks) s r = reached_by ks (delivered g count s k) (routed k s _ r refl)

  pub reached : (ks : List ℕ) → Reached g vs count (run g count ks (start g vs count))
  reached ks = reached_by ks (start g vs count) (record { events = []; reach = begin })
