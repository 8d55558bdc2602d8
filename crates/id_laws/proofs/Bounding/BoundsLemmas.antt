-- The messages of a run are no more than the keys of its live activations, and these have paths of their own.
use Rattle.std.proofs.Common.{◌≡◌, ◌⊎◌, inl, inr, ℕ, zero, suc, ◌+◌, ◌*◌, ◌≤◌, List, [], ◌∷◌, length, map, refl, sym}
use Rattle.std.proofs.Common.{ap, subst, arith}
use Rattle.std.proofs.lemmas.List.{length-map}
use Rattle.std.proofs.lemmas.Bool.{cases_eq}
use Rattle.id_value.specs.List.{Among, AllDiffer}
use Rattle.id_value.proofs.AmongLemmas.{Among-from_map, Among-map}
use Rattle.id_instr.specs.Graph.{Parts}
use Rattle.id_tag.specs.declared.Context.{Context}
use Rattle.id_tag.specs.declared.Payload.{Payload}
use Rattle.id_core.specs.Events.{EventView}
use Rattle.id_core.specs.Machines.{World}
use Rattle.id_source.specs.declared.Path.{Path}
use Rattle.id_source.specs.Sources.{Source}
use Rattle.id_build.specs.Schemas.{Numbered}
use Rattle.id_runs.specs.Activations.{Activation}
use Rattle.id_runs.specs.Events.{Event}
use Rattle.id_runs.specs.Keys.{Key, key_of}
use Rattle.id_runs.specs.OneMessage.{count_for}
use Rattle.id_runs.specs.Runs.{Reach, Moving, flying, handled}
use Rattle.id_runs.proofs.Keys.{count_append, count_cons, counted, counts, hit_itself}
use Rattle.id_runs.proofs.OneMessage.{at_most_one, fired_once}
use Rattle.id_runs.proofs.RecordsOfRuns.{told_all}
use Rattle.id_runs.proofs.Runs.{reached}
use Rattle.id_laws.specs.Activations.{PathOf}
use Rattle.id_laws.specs.Laws.{events, messages}
use Rattle.id_laws.proofs.Rows.Assumed.{IsKnown}
use Rattle.id_laws.proofs.Telling.FiringMeans.{IsBacked}
use Rattle.id_laws.proofs.Rows.Known.{known}
use Rattle.id_laws.proofs.Paths.Seats.{live_path}
use Rattle.id_laws.proofs.Paths.Sites.{one_activation}
use Rattle.id_laws.proofs.Soundness.SoundRuns.{alone}
use Rattle.id_laws.proofs.Telling.StartTells.{all_tell, seats}
use Rattle.id_laws.proofs.Telling.Wholes.{AreWhole, are_whole, wholes}
use Rattle.id_laws.specs.Bounded.{Bounded, IsActive, IsBounded, messages_at_once}
use Rattle.id_laws.proofs.Bounding.DifferCounts.{Decides, EachOnce, each_once, few_by, sum_by_same}
use Rattle.id_laws.proofs.Bounding.Told.{IsLive, told_live, under}
use Rattle.id_laws.proofs.Bounding.Paid.{active}
use Rattle.id_laws.proofs.Bounding.Keys.{keys_of, keys_of_long, told_key}

same_context : (c d : Context) → (c ≡ d) ⊎ (c ≡ d → ⊥)
same_context c d = elim (cases_eq c.element d.element) [
  | inl e ↦ elim (cases_eq c.serial d.serial) [
    | inl f ↦ inl (λ i. record { element = e i; serial = f i })
    | inr other ↦ inr (λ h. other (ap (λ (x : Context). x.serial) h))
  ]
  | inr other ↦ inr (λ h. other (ap (λ (x : Context). x.element) h))
]

same_activation : Decides Activation
same_activation a b = elim (same_context a.context b.context) [
  | inl e ↦ elim (cases_eq a.iteration b.iteration) [
    | inl f ↦ inl (λ i. record { context = e i; iteration = f i })
    | inr other ↦ inr (λ h. other (ap (λ (x : Activation). x.iteration) h))
  ]
  | inr other ↦ inr (λ h. other (ap (λ (x : Activation). x.context) h))
]

-- messages of which at most one has each key have keys that differ
keys_differ : (xs : List Payload) → ((k : Key) → count_for k xs ≤ 1) → AllDiffer (map key_of xs)
keys_differ [] few = tt
keys_differ (x ∷ xs) few = (
  λ h.
      let y = Among-from_map key_of (key_of x) xs h in
      omega (
        arith,
        few (key_of x),
        count_cons (key_of x) x xs,
        hit_itself (key_of x) x refl,
        counts (key_of x) y.0 xs y.1 (sym y.2),
      ),
  keys_differ xs (λ k. omega (arith, few k, count_cons k x xs)),
)

module _ (S : Source) (known : IsKnown S.checked) (are : AreWhole S) (g : Parts) (number : ℕ → ℕ
    → ℕ) (numbered : Numbered S.checked g number)
    (count : ℕ) (s : World) (run : List Event) (r : Reach g S.inputs count s run) where
  -- a tag fires once in the run, and each number that a place Has is one of the language
  pub backed : IsBacked S run
  backed = record {
    once = fired_once g S.inputs count (alone S known are g number numbered count) s run r;
    wholes =
        λ p e i. wholes S are;
  }

  -- what the messages are for
  abbrev pub keys : List Key
  keys = map key_of (messages s)

  abbrev shown : List Payload
  shown = map (λ (v : EventView). v.message.payload) (events s)

  few : (k : Key) → count_for k (messages s) ≤ 1
  few k =
      omega (
        arith,
        count_append k shown (flying s),
        told_all g S.inputs count s run r k,
        at_most_one g S.inputs count (alone S known are g number numbered count) s run r k,
      )

  pub keys_are_apart : AllDiffer keys
  keys_are_apart = keys_differ (messages s) few

  -- a message of the run has the key of each that is shown
  pub record Moved (k : Key) : Type 0 where
    pub payload : Payload
    pub moving : Moving s run payload
    pub has : k ≡ key_of payload

  pub moved : (k : Key) → Among k keys → Moved k
  moved k h =
      let x = Among-from_map key_of k (messages s) h in
      let all : 1 ≤ count_for k (flying s) + count_for k (handled run) =
      omega (
        arith,
        counts k x.0 (messages s) x.1 (sym x.2),
        count_append k shown (flying s),
        told_all g S.inputs count s run r k,
      ) in
      by (count_for k (flying s)) refl all
    where
      by : (n : ℕ) → count_for k (flying s) ≡ n → 1 ≤ count_for k (flying s) + count_for k (handled run) → Moved k
      by zero e all =
          let y = counted k (handled run) (omega (arith, all, e)) in
          record { payload = y.0; moving = inr y.1; has = sym y.2 }
      by (suc n) e all =
          let y = counted k (flying s) (omega (arith, e)) in
          record { payload = y.0; moving = inl y.1; has = sym y.2 }

  -- its activation is live, and has it among its keys
  key_live : (k : Key) → Among k keys → IsLive S number run (under k)
  key_live k h =
      let m = moved k h in
      subst (λ j. IsLive S number run (under j)) (sym m.has)
      (told_live S number run m.payload (all_tell S known g number numbered run count s r backed m.payload m.moving))

  key_among : (k : Key) → Among k keys → Among k (keys_of g (under k))
  key_among k h =
      let m = moved k h in
      subst (λ j. Among j (keys_of g (under j))) (sym m.has)
      (told_key S number run g numbered m.payload
      (all_tell S known g number numbered run count s r backed m.payload m.moving))

  -- the activations of the messages, each once
  pub acting : EachOnce Activation (map under keys)
  acting = each_once Activation same_activation (map under keys)

  pub acting_live : (a : Activation) → Among a acting.list → IsLive S number run a
  acting_live a h =
      let k = Among-from_map under a keys (acting.only a h) in
      subst (IsLive S number run) (sym k.2) (key_live k.0 k.1)

  -- there are no more messages than these have keys
  few_keys : length (messages s) ≤ messages_at_once g * length acting.list
  few_keys =
      omega (
        arith,
        length-map (messages s) key_of,
        few_by (keys_of g) keys acting.list keys_are_apart
            (λ k h. (under k, acting.all (under k) (Among-map under k keys h), key_among k h)),
        sum_by_same (λ a. length (keys_of g a)) (messages_at_once g) acting.list (keys_of_long g),
      )

  -- ---- paths

  -- a path of an activation that is live
  pub record Reaches (xs : List Activation) (p : Path) : Type 0 where
    pub activation : Activation
    pub among : Among activation xs
    pub live : IsLive S number run activation
    pub path_of : PathOf S number run activation p

  -- the paths of live activations
  pub record Paths (xs : List Activation) : Type 0 where
    pub list : List Path
    pub long : length list ≡ length xs
    pub differ : AllDiffer list
    pub each : (p : Path) → Among p list → Reaches xs p
    pub all : (a : Activation) → Among a xs → (p : Path) × Among p list × PathOf S number run a p

  paths_of : (xs : List Activation) → AllDiffer xs → ((a : Activation) → Among a xs → IsLive S number run a) → Paths xs
  paths_of [] differ live =
      record { list = []; long = refl; differ = tt; each = λ p h. absurd h; all = λ a h. absurd h }
  paths_of (a ∷ xs) differ live =
      let rest = paths_of xs differ.1 (λ b h. live b (inr h)) in
      let here = live a (inl refl) in
      let path = live_path here.1 in
      record {
        list = path.0 ∷ rest.list;
        long = ap suc rest.long;
        differ = (
          λ h.
              let x = rest.each path.0 h in
              let one =
              one_activation S known g number numbered count s run r backed here.1 x.live.1 path.1 x.path_of in
              differ.0 (subst (λ b. Among b xs) (sym one) x.among),
          rest.differ,
        );
        each = λ p h. elim h [
          | inl e ↦ record {
            activation = a;
            among = inl refl;
            live = here;
            path_of =
                subst (PathOf S number run a) (sym e) path.1;
          }
          | inr old ↦ let x =
              rest.each p old in
              record { activation = x.activation; among = inr x.among; live = x.live; path_of = x.path_of }
        ];
        all = λ b h. elim h [
          | inl e ↦ (path.0, inl refl, subst (λ c. PathOf S number run c path.0) (sym e) path.1)
          | inr old ↦ let x = rest.all b old in (x.0, inr x.1, x.2)
        ];
      }

  pub acting_paths : Paths acting.list
  acting_paths = paths_of acting.list acting.differ acting_live

  -- at each of them something is On
  pub paths_active : (p : Path) → Among p acting_paths.list → IsActive S p
  paths_active p h =
      let x = acting_paths.each p h in
      active S known number run (seats S known g number numbered run count s r) x.live.1 x.path_of

  pub bounded_at : IsBounded S g s
  bounded_at = record {
    paths = acting_paths.list;
    differ = acting_paths.differ;
    active = paths_active;
    few = subst (λ n. length (messages s) ≤ messages_at_once g * n) (sym acting_paths.long) few_keys;
  }

pub bounded : Bounded
bounded = λ S inputs r.
    let x = reached r.graph S.inputs r.count r.positions in
    bounded_at S (known S.checked) (are_whole S inputs) r.graph r.schemas.number r.schemas.numbered r.count _ x.events
    x.reach
