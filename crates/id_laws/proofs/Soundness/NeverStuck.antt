-- No event of a schemas' graph is `Stuck`, no port gets two tokens under one tag, and no fetch asks and no store stores
-- twice.
use Rattle.std.proofs.Common.{◌≡◌, ◌≢◌, ℕ, ◌+◌, ◌≤◌, Bool, cond, List, [], ◌∷◌, map, refl, sym, ◌∙◌, subst, count_by}
use Rattle.std.proofs.Common.{arith}
use Rattle.std.proofs.lemmas.List.Sums.{sum_by-cons}
use Rattle.id_value.specs.List.{Among}
use Rattle.id_instr.specs.declared.dests.Port.{Port}
use Rattle.id_instr.specs.Graph.{Parts}
use Rattle.id_tag.specs.declared.Tag.{Tag}
use Rattle.id_tag.specs.declared.Payload.{Payload}
use Rattle.id_tag.specs.declared.Payload.TheVariants.{Token, Read, Write}
use Rattle.id_bank.specs.declared.cell.WriteAnswer.TheVariants.{Second}
use Rattle.id_record.specs.declared.step.Step.TheVariants.{Stuck}
use Rattle.id_core.specs.Events.{EventView}
use Rattle.id_core.specs.Machines.{World}
use Rattle.id_source.specs.Sources.{Source}
use Rattle.id_runs.specs.Cells.{WrittenBy, cell_at}
use Rattle.id_runs.specs.Events.{Event, Took, Looked, Wrote, came_to}
use Rattle.id_runs.specs.Keys.{Key, AtPort, ByFetch, ByStore, key_of, same_key}
use Rattle.id_runs.specs.Runs.{Reach, flying}
use Rattle.id_runs.specs.OneMessage.{count_for, Exclusive}
use Rattle.id_runs.proofs.Cells.{cells_exact}
use Rattle.id_runs.proofs.CellLaws.{finds_other}
use Rattle.id_runs.proofs.Events.{stuck_blocked, stuck_write}
use Rattle.id_runs.proofs.Keys.{count_append}
use Rattle.id_runs.proofs.Meeting.{never_blocked}
use Rattle.id_runs.proofs.OneMessage.{at_most_one, few}
use Rattle.id_runs.proofs.RecordsOfRuns.{from_record, recorded, told_all}
use Rattle.id_laws.specs.Laws.{ArePathsApart, IsNeverStuck, events, messages, asks_for, is_for, stores_from}

-- a token is for a port where it has its key
same_test : (t : Tag) (p : Port) (x : Payload) → is_for t p x ≡ same_key (key_of x) (AtPort t p)
same_test t p (Token u q v) = refl
same_test t p (Read c u) = refl
same_test t p (Write c v u) = refl

asks_test : (t : Tag) (x : Payload) → asks_for t x ≡ same_key (key_of x) (ByFetch t)
asks_test t (Token u q v) = refl
asks_test t (Read c u) = refl
asks_test t (Write c v u) = refl

stores_test : (t : Tag) (x : Payload) → stores_from t x ≡ same_key (key_of x) (ByStore t)
stores_test t (Token u q v) = refl
stores_test t (Read c u) = refl
stores_test t (Write c v u) = refl

counts_alike : (f : Payload → Bool) (k : Key) → ((x : Payload) → f x ≡ same_key (key_of x) k) → (xs : List Payload)
    → count_by f xs ≡ count_for k xs
counts_alike f k same [] = refl
counts_alike f k same (x ∷ xs) =
    sum_by-cons (λ y. cond (f y) 1 0) x xs
    ∙ (λ i. cond (same x i) 1 0 + counts_alike f k same xs i)
    ∙ sym (sum_by-cons (λ y. cond (same_key (key_of y) k) 1 0) x xs)

module _ (S : Source) (g : Parts) (count : ℕ) (only : Exclusive g S.inputs count) (s : World) (run : List Event)
    (r : Reach g S.inputs count s run) where
  not_stuck : (e : Event) → Among e run → came_to e ≡ Stuck → ⊥
  not_stuck (Took n t p v a) among is =
      never_blocked g S.inputs count only s run r n t p v
      (subst (λ b. Among (Took n t p v b) run) (stuck_blocked t a is) among)
  not_stuck (Looked n c t a) among is = cc
  not_stuck (Wrote n c v w a) among is =
      let own : WrittenBy run c v w (Second w) =
      record { element = n; among = subst (λ b. Among (Wrote n c v w b) run) (stuck_write c v w a is) among } in
      finds_other run (cell_at count s) (cells_exact g S.inputs count s run r) (few g S.inputs count only s run r) c v w
      w own refl

  goes_on : (v : EventView) → Among v (events s) → v.step ≢ Stuck
  goes_on v among is =
      let known = from_record g S.inputs count s run r v (recorded s v among) in
      not_stuck known.0 known.1 (sym (known.2).step ∙ is)

  one_message : (f : Payload → Bool) (k : Key) → ((x : Payload) → f x ≡ same_key (key_of x) k)
      → count_by f (messages s) ≤ 1
  one_message f k same =
      omega (
        arith,
        counts_alike f k same (messages s),
        count_append k (map (λ (v : EventView). v.message.payload) (events s)) (flying s),
        told_all g S.inputs count s run r k,
        at_most_one g S.inputs count only s run r k,
      )

  -- no event is `Stuck`, each port under a tag, each fetch and each store has one message at most, and paths are apart
  pub never_stuck_at : ArePathsApart g s → IsNeverStuck g s
  never_stuck_at apart = record {
    goes_on = goes_on;
    one_token = λ t p. one_message (is_for t p) (AtPort t p) (same_test t p);
    one_read = λ t. one_message (asks_for t) (ByFetch t) (asks_test t);
    one_write = λ t. one_message (stores_from t) (ByStore t) (stores_test t);
    paths_apart = apart;
  }
