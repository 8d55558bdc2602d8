-- The answer that a run of a schemas' graph shows is the source's.
use Rattle.std.proofs.Common.{◌≡◌, inr, ℕ, Bool as Truth, true, false, cond, Option, Some, None, List, slice_get, refl}
use Rattle.std.proofs.Common.{sym, ◌∙◌, ap, subst}
use Rattle.std.specs.Prelude.{option_and_then}
use Rattle.id_value.specs.List.{Among}
use Rattle.id_value.proofs.AmongLemmas.{Among-from_at}
use Rattle.id_table.specs.declared.row.Node.TheVariants.{Program}
use Rattle.id_check.specs.declared.checked.Checked.{Checked}
use Rattle.id_check.specs.Programs.{place, region}
use Rattle.id_instr.specs.declared.dests.Port.{Port}
use Rattle.id_instr.specs.declared.dests.Port.TheVariants.{Zero, One}
use Rattle.id_instr.specs.Graph.{Parts}
use Rattle.id_tag.specs.declared.Value.{Value}
use Rattle.id_tag.specs.declared.Payload.{Payload}
use Rattle.id_tag.specs.declared.Payload.TheVariants.{Token, Read, Write}
use Rattle.id_tag.specs.declared.Structure.{Structure}
use Rattle.id_tag.specs.Tags.{same_tag}
use Rattle.id_tag.proofs.TagsLemmas.{one_from_same_tag}
use Rattle.id_core.specs.Events.{EventView}
use Rattle.id_core.specs.Machines.{World, main_tag}
use Rattle.id_core.specs.Observed as shown
use Rattle.id_source.specs.declared.SourceValue.{SourceValue}
use Rattle.id_source.specs.declared.Path.{Path}
use Rattle.id_source.specs.declared.Site.{Site}
use Rattle.id_source.specs.declared.Fact.TheVariants.{Has}
use Rattle.id_source.specs.Sources.{Source, main_body, body_of}
use Rattle.id_source.specs.Facts.{outermost}
use Rattle.id_source.specs.Rounds.{Holds, Answers}
use Rattle.id_desugar.specs.Ends.{end_of}
use Rattle.id_build.specs.Rows.{node, answer_row}
use Rattle.id_build.specs.Schemas.{Numbered}
use Rattle.id_runs.specs.Activations.{main_activation, main_context, at_iteration, tag_in}
use Rattle.id_runs.specs.Events.{Event}
use Rattle.id_runs.specs.Runs.{Reach, handled}
use Rattle.id_runs.proofs.RecordsOfRuns.{among_filter_map}
use Rattle.id_laws.specs.Laws.{events}
use Rattle.id_laws.specs.Activations.{main_head, Live, PathOf}
use Rattle.id_laws.specs.Topics.{ShownResult, Tells, Told, wants, result_at, result_of}
use Rattle.id_laws.proofs.Rows.Assumed.{IsKnown}
use Rattle.id_laws.proofs.Telling.FiringMeans.{IsBacked}
use Rattle.id_laws.proofs.Rows.Arcs.{answers, part_of}
use Rattle.id_laws.proofs.Rows.Tokens.{told_at}
use Rattle.id_laws.proofs.Paths.Senders.{last_row}
use Rattle.id_build.proofs.EndsLemmas.{end_is}
use Rattle.id_laws.proofs.Rows.Start.{main_is_head, main_within}
use Rattle.id_laws.proofs.Paths.Seats.{main_path_is}
use Rattle.id_laws.proofs.Telling.StartTells.{all_tell, seats}
use Rattle.id_laws.proofs.Soundness.Observing.{message_handled}
use Rattle.id_laws.proofs.Soundness.Naming.{shown_holds}

-- a token for main's answer
pub brought_is : (x : Payload) (w : Value) → shown.brought x ≡ Some w → (p : Port) × (x ≡ Token (main_tag 0) p w)
brought_is (Read c t) w e = cc
brought_is (Write c v t) w e = cc
brought_is (Token t p v) w e = go (same_tag t (main_tag 0)) refl e
  where
    go : (b : Truth) → same_tag t (main_tag 0) ≡ b → cond b (Some v) None ≡ Some w
        → (q : Port) × (Token t p v ≡ Token (main_tag 0) q w)
    go true f e = (
      p,
      let tag_is = one_from_same_tag t (main_tag 0) f in let value_is : v ≡ w = cc in
          (λ i. Token (tag_is i) p (value_is i)),
    )
    go false f e = cc

pub first_is : (name : Structure → Site) (o : Option Value) (v : SourceValue)
    → option_and_then (shown.source_value name) o ≡ Some v
    → (w : Value) × (o ≡ Some w) × (shown.source_value name w ≡ Some v)
first_is name None v e = cc
first_is name (Some w) v e = (w, refl, e)

module _ (S : Source) (known : IsKnown S.checked) (g : Parts) (number : ℕ → ℕ
    → ℕ) (numbered : Numbered S.checked g number) (count : ℕ) (s : World)
    (run : List Event) (r : Reach g S.inputs count s run) (backed : IsBacked S run) where
  abbrev P : Checked
  P = S.checked

  -- what main's block gives is main's body's value
  pub main_result : result_of P (main_head P) ≡ main_body P
  main_result =
      let def =
      end_is P (known.table) (main_head P) (main_within S g number numbered known)
      (main_is_head S g number numbered known) in
      let one = (known.table).one_def (end_of P (main_head P)) P.main (main_head P) def known.main in
      ap (λ n. result_at (node P n)) one ∙ ap result_at (known.main).node ∙ sym (ap body_of (known.main).node)

  -- a token for main's answer comes to its port 0 with the result
  pub answer_tells : (p : Port) (w : Value) → Among (Token (main_tag 0) p w) (handled run)
      → (p ≡ Zero) × ShownResult S number run main_activation (main_head P) w
  answer_tells p w h =
      let ends = (known.table).ends in
      let is_part = part_of (last_row (known.table).some) (answers ends) in
      let at : main_tag 0 ≡ tag_in main_activation (number (answer_row P) 0) =
      ap (tag_in main_activation) (sym numbered.answer_first) in
      let told =
      subst (λ t. Told S number run (Token t p w)) at
      (all_tell S known g number numbered run count s r backed (Token (main_tag 0) p w) (inr h)) in
      let tells = told_at S g number run numbered main_activation (answer_row P) 0 p w is_part told in
      by_port p
      (subst (λ m. Tells S number run main_activation (wants P (answer_row P) (region P (answer_row P)) m 0 p) w) ends
      tells)
    where
      by_port : (q : Port)
          → Tells S number run main_activation (wants P (answer_row P) (region P (answer_row P)) Program 0 q) w
          → (q ≡ Zero) × ShownResult S number run main_activation (main_head P) w
      by_port Zero x = (refl, x)
      by_port One x = absurd x

  pub sound_answer : (v : SourceValue) → shown.answer g s ≡ Some v → Answers S v
  sound_answer v e =
      let first = first_is (shown.structure_in g s.elements) (slice_get (shown.answers (events s)) 0) v e in
      let event = among_filter_map (λ (u : EventView). shown.brought u.message.payload) (events s) first.0
      (Among-from_at first.0 (shown.answers (events s)) 0 first.1) in
      let came = brought_is (event.0).message.payload first.0 event.2 in
      let h = message_handled g S.inputs count s run r event.0 event.1 in
      let shows = (answer_tells came.0 first.0 (subst (λ x. Among x (handled run)) came.1 h)).1 in
      let first_iteration : shows.iteration ≡ 0 =
      (seats S known g number numbered run count s r).first known.main
      (subst (λ b. Live S number run (at_iteration main_context shows.iteration) (region P b)) (main_result
      ∙ ap body_of (known.main).node) shows.live) in
      let shown_path =
      subst (λ k. PathOf S number run (at_iteration main_context k) (shows.shown).path) first_iteration
      (shows.shown).path_of in
      let path_is = main_path_is (seats S known g number numbered run count s r) shown_path in
      subst (λ (z : Path × ℕ). Holds S (Has z.0 (place P z.1) v)) {x =
      ((shows.shown).path, result_of P (main_head P))} {y = (outermost, main_body P)}
      (λ i. (path_is i, main_result i)) (shown_holds S known g number numbered count s run r backed shows.shown first.2)
