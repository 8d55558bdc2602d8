-- In a quiet run each path at which it may do something is that of an activation under which a message was handled.
use Rattle.std.proofs.Common.{ℕ, ◌≤◌, List, length, map, refl, sym, ap, subst, arith, length-append}
use Rattle.std.proofs.lemmas.List.{length-map}
use Rattle.id_value.specs.List.{Among}
use Rattle.id_value.proofs.AmongLemmas.{Among-left, Among-map}
use Rattle.id_value.proofs.DifferLemmas.{AllDiffer-few}
use Rattle.id_table.specs.declared.row.Region.{Region}
use Rattle.id_check.specs.declared.checked.Checked.{Checked}
use Rattle.id_check.specs.Programs.{place}
use Rattle.id_instr.specs.Graph.{Parts}
use Rattle.id_tag.specs.declared.Message.{Message}
use Rattle.id_tag.specs.declared.Payload.{Payload}
use Rattle.id_tag.specs.declared.Payload.TheVariants.{Token}
use Rattle.id_tag.specs.declared.Tag.{Tag}
use Rattle.id_ops.specs.declared.Fired.{Fired}
use Rattle.id_core.specs.Events.{EventView}
use Rattle.id_core.specs.Machines.{World, IsQuiet}
use Rattle.id_source.specs.declared.Path.{Path}
use Rattle.id_source.specs.declared.Fact.TheVariants.{On, Has}
use Rattle.id_source.specs.declared.Fact.{Fact}
use Rattle.id_source.specs.Rounds.{Holds}
use Rattle.id_source.specs.Sources.{Source, AreInputs}
use Rattle.id_build.specs.Schemas.{Numbered}
use Rattle.id_runs.specs.Activations.{Activation}
use Rattle.id_runs.specs.Events.{Event, FiresAs, fired_event, payload_of}
use Rattle.id_runs.specs.Keys.{AtPort, key_of}
use Rattle.id_runs.specs.OneMessage.{Exclusive}
use Rattle.id_runs.specs.Runs.{Reach, flying, handled}
use Rattle.id_runs.proofs.Keys.{counted, counts}
use Rattle.id_runs.proofs.RecordsOfRuns.{told_all}
use Rattle.id_runs.proofs.Runs.{reached}
use Rattle.id_laws.specs.Activations.{Live, PathOf}
use Rattle.id_laws.specs.Carried.{Carried, CarriedHas, Here}
use Rattle.id_laws.specs.Laws.{events, messages}
use Rattle.id_laws.proofs.Rows.Assumed.{IsKnown}
use Rattle.id_laws.proofs.Completeness.CarriedFacts.{carried}
use Rattle.id_laws.proofs.Completeness.CarriedRegions.{starting}
use Rattle.id_laws.proofs.Completeness.Firings.{IsSettled}
use Rattle.id_laws.proofs.Rows.Known.{known}
use Rattle.id_laws.proofs.Completeness.QuietCells.{none_found}
use Rattle.id_laws.proofs.Paths.Seats.{one_path}
use Rattle.id_laws.proofs.Soundness.SoundRuns.{alone}
use Rattle.id_laws.proofs.Telling.StartTells.{seats}
use Rattle.id_laws.proofs.Completeness.Triggers.{live_turned}
use Rattle.id_laws.proofs.Telling.Wholes.{AreWhole, are_whole, wholes}
use Rattle.id_laws.specs.Bounded.{IsActive, IsAtEnd, RestIsTheEnd, something_on, index_has, loop_begins}
use Rattle.id_laws.proofs.Bounding.BoundsLemmas.{acting, acting_paths, keys, paths_active}
use Rattle.id_laws.proofs.Bounding.Told.{under}

module _ (S : Source) (known : IsKnown S.checked) (inputs : AreInputs S.checked S.inputs) (are : AreWhole S) (g : Parts)
    (number : ℕ → ℕ → ℕ)
    (numbered : Numbered S.checked g number) (count : ℕ) (s : World) (run : List Event)
    (r : Reach g S.inputs count s run) (quiet : IsQuiet s) where
  abbrev P : Checked
  P = S.checked

  only : Exclusive g S.inputs count
  only = alone S known are g number numbered count

  -- so its facts are carried
  settled : IsSettled S s
  settled = record { empty = quiet.empty; wholes = wholes S are }

  abbrev told : List Payload
  told = map (λ (v : EventView). v.message.payload) (events s)

  -- the key of what has fired is that of a message of an event
  key_shown : {t : Tag} {f : Fired} (x : FiresAs run t f)
      → Among (AtPort t x.port) (keys S known are g number numbered count s run r)
  key_shown {t} x =
      let k = AtPort t x.port in
      let here =
      counts k (Token t x.port x.value) (handled run) (Among-map payload_of (fired_event x) run x.among) refl in
      let y = counted k told (omega (arith, told_all g S.inputs count s run r k, here)) in
      subst (λ j. Among j (map key_of (messages s))) y.2
      (Among-map key_of y.0 (messages s) (Among-left y.0 told (flying s) y.1))

  -- a live activation is one of those of the messages
  live_acts : {a : Activation} {q : Region} → Live S number run a q
      → Among a (acting S known are g number numbered count s run r).list
  live_acts {a} live =
      let fires = (live_turned S g number numbered known count only s run r settled live).fires in
      let all = acting S known are g number numbered count s run r in
      all.all a
      (Among-map under (AtPort _ fires.port) (keys S known are g number numbered count s run r) (key_shown fires))

  -- its path is among theirs
  path_among : {a : Activation} {q : Region} {p : Path} → Live S number run a q → PathOf S number run a p
      → Among p (acting_paths S known are g number numbered count s run r).list
  path_among {a} live path =
      let y = (acting_paths S known are g number numbered count s run r).all a (live_acts live) in
      subst (λ z. Among z (acting_paths S known are g number numbered count s run r).list)
      (one_path (seats S known g number numbered run count s r) y.2 path) y.1

  held : (f : Fact) → Holds S f → Carried S number run f
  held f h =
      carried S g number numbered known inputs count only s run r settled
      (none_found S g number numbered known inputs are count only s run r quiet) f h

  -- where a run may do something an activation has the path
  active_among : (p : Path) → IsActive S p → Among p (acting_paths S known are g number numbered count s run r).list
  active_among p (something_on e on) =
      let here : Here S number run p e = held (On p e) on in path_among here.live here.path_of
  active_among p (index_has {x = x} {v = v} stands has) =
      let there : CarriedHas S number run p (place P x) v = held (Has p (place P x) v) has in
      path_among (there.here).live (there.here).path_of
  active_among p (loop_begins {n = n} {q = q} stands on path) =
      let here : Here S number run q (place P n) = held (On q (place P n)) on in
      let made = starting S g number numbered known inputs count only s run r settled here stands.loop in
      subst (λ z. Among z (acting_paths S known are g number numbered count s run r).list) (sym path)
      (path_among made.live (made.path_of 0))

  -- each of these activations has a message, so an event has
  few_paths : length (acting_paths S known are g number numbered count s run r).list ≤ length (events s)
  few_paths =
      let all = acting S known are g number numbered count s run r in
      omega (
        arith,
        (acting_paths S known are g number numbered count s run r).long,
        AllDiffer-few all.list (map under (keys S known are g number numbered count s run r)) all.differ all.only,
        length-map (keys S known are g number numbered count s run r) under,
        length-map (messages s) key_of,
        length-append told (flying s),
        length-map (events s) (λ (v : EventView). v.message.payload),
        ap (λ (ms : List Message). length (map (λ (m : Message). m.payload) ms)) quiet.empty,
      )

  pub ended : IsAtEnd S s
  ended = record {
    paths = (acting_paths S known are g number numbered count s run r).list;
    differ = (acting_paths S known are g number numbered count s run r).differ;
    active = paths_active S known are g number numbered count s run r;
    are = active_among;
    few = few_paths;
  }

pub at_end : RestIsTheEnd
at_end = λ S inputs r quiet.
    let x = reached r.graph S.inputs r.count r.positions in
    ended S (known S.checked) inputs (are_whole S inputs) r.graph r.schemas.number r.schemas.numbered r.count _ x.events
    x.reach quiet
