-- What was handled or is in flight has one path only under one context at one iteration.
use Rattle.std.proofs.Common.{◌≡◌, ◌⊎◌, inl, inr, ℕ, List, map, refl, sym, ◌∙◌, ap, subst}
use Rattle.id_value.specs.List.{Among}
use Rattle.id_value.proofs.AmongLemmas.{Among-either, Among-from_map, Among-map}
use Rattle.id_table.specs.declared.row.Region.{Region}
use Rattle.id_table.specs.Rows.{top}
use Rattle.id_instr.specs.Graph.{Parts}
use Rattle.id_tag.specs.declared.Context.{Context}
use Rattle.id_tag.specs.declared.Value.{Value}
use Rattle.id_tag.specs.declared.Payload.{Payload}
use Rattle.id_tag.specs.declared.Payload.TheVariants.{Token, Read, Write}
use Rattle.id_core.specs.Events.{EventView, tag_of}
use Rattle.id_core.specs.Machines.{World}
use Rattle.id_source.specs.declared.Path.{Path}
use Rattle.id_source.specs.Sources.{Source}
use Rattle.id_build.specs.Schemas.{Numbered}
use Rattle.id_runs.specs.Activations.{Activation, activation_of, at_iteration, main_context}
use Rattle.id_runs.specs.Events.{Event, payload_of}
use Rattle.id_runs.specs.Runs.{Moving, Reach, flying, handled}
use Rattle.id_runs.proofs.RecordsOfRuns.{from_record, recorded}
use Rattle.id_runs.proofs.Serials.{contexts_apart}
use Rattle.id_laws.specs.Activations.{Live, PathOf, ReturnsTo, at_start, entered, to_answer, to_row}
use Rattle.id_laws.specs.Laws.{ArePathsApart, events, messages}
use Rattle.id_laws.specs.Topics.{Told, Topic, Turned, ValueOf, NameIn, TestOf, ResultOf, WayBack, ContextOf, CellOf}
use Rattle.id_laws.specs.Topics.{Nothing, Tells, topic_at}
use Rattle.id_laws.specs.Topics.{SaidOf, BoundIn, IndexOf, FlagOf, SaidIndex, FirstIndex, FirstFlag, SaidFirst}
use Rattle.id_laws.specs.Topics.{NextIndex, NextFlag, SaidNext, LastIndex, AndOne, GoesFurther}
use Rattle.id_laws.proofs.Rows.Assumed.{IsKnown}
use Rattle.id_laws.proofs.Telling.FiringMeans.{IsBacked}
use Rattle.id_laws.proofs.Paths.Opened.{main_first}
use Rattle.id_laws.proofs.Paths.Seats.{live_path, moved_path, paths_apart}
use Rattle.id_laws.proofs.Paths.Sites.{once}
use Rattle.id_laws.proofs.Telling.StartTells.{all_tell, opening_live}
use Rattle.id_laws.proofs.Paths.TagPaths.{CallFirst, first_of, path_seated}

module _ (S : Source) (known : IsKnown S.checked) (g : Parts) (number : ℕ → ℕ
    → ℕ) (numbered : Numbered S.checked g number) (count : ℕ)
    (s : World) (run : List Event) (r : Reach g S.inputs count s run) (backed : IsBacked S run) where
  -- a region is live in some iteration of the activation's context, in its own where that is not the first
  record LiveIn (a : Activation) : Type 0 where
    iteration : ℕ
    region : Region
    live : Live S number run (at_iteration a.context iteration) region
    own : (a.iteration ≡ iteration) ⊎ (a.iteration ≡ 0)

  own_live : {a : Activation} {q : Region} → Live S number run a q → LiveIn a
  own_live {a} {q} live = record { iteration = a.iteration; region = q; live = live; own = inl refl }

  -- the first iteration of a context from which something returns is live
  returning : {c : Context} {h : ℕ} {b : Activation} {q : ℕ} → ReturnsTo S number run c h b q
      → Live S number run (at_iteration c 0) (top h)
  returning to_answer = at_start
  returning (to_row within begins live opened) = entered within begins live opened

  -- so it is with the activation of what tells what a port wants
  told_live : (a : Activation) (t : Topic) (v : Value) → Tells S number run a t v → LiveIn a
  told_live a (Turned q) v x = own_live x.1
  told_live a (ValueOf e) v x = own_live x.0
  told_live a (NameIn q b) v x = own_live x.0
  told_live a (TestOf n) v x = own_live x.live
  told_live a (ResultOf h) v x = record { iteration = x.iteration; region = _; live = x.live; own = inr x.at_first }
  told_live a (WayBack h) v x =
      record { iteration = 0; region = top h; live = returning x.returns; own = inl x.at_first }
  told_live a (ContextOf n) v x = own_live x.live
  told_live a (CellOf n) v x = own_live x.live
  told_live a (SaidOf e) v x = own_live x.0
  told_live a (BoundIn q h) v x = own_live x.0
  told_live a (IndexOf h) v x = own_live x.live
  told_live a (FlagOf h) v x = own_live x.live
  told_live a (SaidIndex h) v x = own_live x.0
  told_live a (FirstIndex h) v x = own_live x.0
  told_live a (FirstFlag h) v x = own_live x.0
  told_live a (SaidFirst h) v x = own_live x.0
  told_live a (NextIndex h) v x = own_live (x.0).live
  told_live a (NextFlag h) v x = own_live x.live
  told_live a (SaidNext h) v x = own_live (x.0).live
  told_live a (LastIndex h) v x = own_live (x.counts).live
  told_live a (AndOne h) v x = own_live (x.1).live
  told_live a (GoesFurther h) v x = own_live (x.1).live
  told_live a Nothing v x = absurd x

  -- and with that of the tag of any message that tells something
  live_of : (x : Payload) → Told S number run x → LiveIn (activation_of (tag_of x))
  live_of (Token t p v) x =
      let same : activation_of (tag_of (Token t p v)) ≡ x.activation = ap (λ y. activation_of (tag_of y)) x.is in
      subst LiveIn (sym same) (told_live x.activation (topic_at S.checked x.row x.part x.port) x.value x.tells)
  live_of (Read c t) x = subst LiveIn (sym (ap activation_of x.is)) (own_live x.live)
  live_of (Write c v w) x = subst LiveIn (sym (ap activation_of x.is)) (own_live x.live)

  -- main's context, and one that a call has made, has no other than its first iteration there
  main_zero : {a : Activation} → LiveIn a → a.context ≡ main_context → a.iteration ≡ 0
  main_zero {a} l is = elim l.own [
    | inl e ↦ e ∙ main_first S known number run g numbered (contexts_apart g S.inputs count s run r) l.live is
    | inr e ↦ e
  ]

  call_zero : {a : Activation} → LiveIn a
      → CallFirst S known g number numbered count s run r backed a.context a.iteration
  call_zero {a} l b n x within is o = elim l.own [
    | inl e ↦ e ∙ first_of S known g number numbered count s run r backed l.live b n x within is o
    | inr e ↦ e
  ]

  -- it has a path, which is shown
  path_there : {a : Activation} → LiveIn a → (p : Path) × PathOf S number run a p
  path_there {a} l = moved_path a.iteration (live_path l.live).1

  -- a message that was handled or is in flight moves in the run
  moving : (x : Payload) → Among x (messages s) → Moving s run x
  moving x among = elim (Among-either x (map (λ (v : EventView). v.message.payload) (events s)) (flying s) among) [
    | inl was ↦
        let told = Among-from_map (λ (v : EventView). v.message.payload) x (events s) was in
        let from = from_record g S.inputs count s run r told.0 (recorded s told.0 told.1) in
        inr (subst (λ y. Among y (handled run)) (sym (told.2 ∙ (from.2).payload))
        (Among-map payload_of from.0 run from.1))
    | inr flies ↦ inl flies
  ]

  live_moving : (x : Payload) → Among x (messages s) → LiveIn (activation_of (tag_of x))
  live_moving x among = live_of x (all_tell S known g number numbered run count s r backed x (moving x among))

  -- two of one path are under one context at one iteration
  pub messages_apart : ArePathsApart g s
  messages_apart x y among among' same =
      let l = live_moving x among in
      let m = live_moving y among' in
      let p = path_there l in
      let q = path_there m in
      let apart = contexts_apart g S.inputs count s run r in
      let one : q.0 ≡ p.0 =
      sym (path_seated S known g number numbered count s run r backed (tag_of y) q.0 (call_zero m) q.1) ∙ sym same
      ∙ path_seated S known g number numbered count s run r backed (tag_of x) p.0 (call_zero l) p.1 in
      paths_apart S known g number numbered run apart (once S known g number numbered count s run r backed)
      (λ a n h c d within is o. main_first S known number run g numbered apart
      (opening_live S known g number numbered run count s r backed a n h c d within is o))
      p.1 (subst (PathOf S number run (activation_of (tag_of y))) one q.1) (main_zero l) (main_zero m)
