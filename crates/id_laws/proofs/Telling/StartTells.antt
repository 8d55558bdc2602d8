-- What is there at the start tells what its port wants.
use Rattle.std.proofs.Common.{◌≡◌, ℕ, zero, suc, ◌-◌, List, [], length, refl, sym, ◌∙◌, ap, subst, inr, ◌<◌}
use Rattle.std.specs.Prelude.{take}
use Rattle.id_value.specs.List.{Among}
use Rattle.id_value.proofs.AmongLemmas.{Among-from_at}
use Rattle.id_table.specs.Rows.{top}
use Rattle.id_table.specs.Turns.{params_at}
use Rattle.id_check.specs.declared.checked.Checked.{Checked}
use Rattle.id_check.specs.Scopes.{loops_between}
use Rattle.id_check.specs.Programs.{place, region, rows}
use Rattle.id_instr.specs.declared.dests.Port.{Port}
use Rattle.id_instr.specs.declared.dests.Port.TheVariants.{Zero}
use Rattle.id_instr.specs.Graph.{Parts}
use Rattle.id_tag.specs.declared.Value.{Value}
use Rattle.id_tag.specs.declared.Value.TheVariants.{Signal, Continuation}
use Rattle.id_tag.specs.declared.Payload.{Payload}
use Rattle.id_tag.specs.declared.Payload.TheVariants.{Token}
use Rattle.id_core.specs.Machines.{World}
use Rattle.id_value.specs.declared.Constant.{Constant}
use Rattle.id_ops.specs.Operators.{constant_value}
use Rattle.id_laws.proofs.Telling.FiringMeans.{IsBacked, constant_stands}
use Rattle.id_source.specs.declared.Fact.TheVariants.{Has}
use Rattle.id_source.specs.Sources.{Source, IsInput, value_of}
use Rattle.id_source.specs.Facts.{outermost, without, param_has}
use Rattle.id_source.specs.Rounds.{Holds}
use Rattle.id_build.specs.Rows.{answer_row}
use Rattle.id_build.specs.Schemas.{Numbered}
use Rattle.id_runs.specs.Activations.{main_activation, tag_in, Activation}
use Rattle.id_runs.specs.Events.{Event}
use Rattle.id_runs.specs.Runs.{Reach, starting}
use Rattle.id_laws.specs.Activations.{Begins, main_head, Live, at_start, to_answer, Opens}
use Rattle.id_laws.specs.Topics.{Tells, ToldToken, Told, AllTell, AllSpeak, topic_at, wants}
use Rattle.id_laws.specs.Ways.{StartsAt, signal, way_back, input}
use Rattle.id_laws.proofs.Rows.Assumed.{IsKnown}
use Rattle.id_laws.proofs.Rows.Blocks.{a_param}
use Rattle.id_laws.proofs.Rows.Start.{main_is_head, started}
use Rattle.id_laws.proofs.Paths.Opened.{one_seats}
use Rattle.id_laws.proofs.Paths.Seats.{OneSeat, main_path}
use Rattle.id_runs.proofs.Serials.{contexts_apart, structures_apart}
use Rattle.id_runs.specs.Serials.{StructuresApart}
use Rattle.id_laws.proofs.Telling.TurnedOn.{holds_by}
use Rattle.id_laws.proofs.Telling.AllTell as tell
use Rattle.id_tag.specs.declared.Context.{Context}
use Rattle.id_tag.specs.declared.Tag.{Tag}
use Rattle.id_laws.proofs.Rows.Arcs.{opens, part_of}
use Rattle.id_laws.proofs.Rows.Tokens.{one_part}

take_none : {A : Type 0} (n : ℕ) → take {A = A} n [] ≡ []
take_none zero = refl
take_none (suc n) = refl

-- the empty path without some of its steps
without_outermost : (d : ℕ) → without d outermost ≡ outermost
without_outermost d = ap (λ ss. record { steps = ss }) (take_none (0 - d))

module _ (S : Source) (known : IsKnown S.checked) (g : Parts) (number : ℕ → ℕ
    → ℕ) (numbered : Numbered S.checked g number) (run : List Event) where
  abbrev P : Checked
  P = S.checked

  -- main's parameters stand in main's region
  input_live : (b : ℕ) (c : Constant) (x : IsInput S b c) → Live S number run main_activation (region P b)
  input_live b c x =
      let p = a_param (rows P) (main_head P) (length (rows P)) b
      (Among-from_at b (params_at (rows P) (main_head P)) x.number x.param) in
      subst (Live S number run main_activation)
      (sym (known.params b (p.param).name (p.param).kind p.within (p.param).is ∙ ap top p.block)) at_start

  input_tells : (b : ℕ) (c : Constant) (x : IsInput S b c)
      → Tells S number run main_activation (topic_at P b 0 Zero) (constant_value c)
  input_tells b c x =
      let p = a_param (rows P) (main_head P) (length (rows P)) b
      (Among-from_at b (params_at (rows P) (main_head P)) x.number x.param) in
      let d = loops_between (rows P) (region P b).head b in
      subst (λ m. Tells S number run main_activation (wants P b (region P b) m 0 Zero) (constant_value c))
      (sym (p.param).is) (
        input_live b c x,
        record {
          path = outermost;
          path_of = main_path;
          value = value_of c;
          stands = constant_stands S number run c;
          holds = subst (λ z. Holds S (Has z (place P b) (value_of c))) (sym (without_outermost d))
              (holds_by S _ _ (param_has x) tt);
        },
      )

  tells_at_start : {n part : ℕ} {p : Port} {v : Value} → StartsAt S number n part p v
      → Tells S number run main_activation (topic_at P n part p) v
  tells_at_start signal =
      subst (λ m. Tells S number run main_activation (wants P (main_head P) (region P (main_head P)) m 0 Zero) Signal)
      (sym (main_is_head S g number numbered known)) (refl, at_start)
  tells_at_start way_back =
      subst (λ m. Tells S number run main_activation (wants P (main_head P) (region P (main_head P)) m 1 Zero)
      (Continuation (tag_in main_activation (number (answer_row P) 0)))) (sym (main_is_head S g number numbered known))
      (record { caller = main_activation; row = _; is = refl; returns = to_answer; at_first = refl })
  tells_at_start (input b c x) = input_tells b c x

  told_start : (x : Payload) {t : Tag} {p : Port} {v : Value} → x ≡ Token t p v → ToldToken S number run x
      → Told S number run x
  told_start x is told = subst (Told S number run) (sym is) (subst (ToldToken S number run) is told)

  start_tells : (x : Payload) → Among x (starting g S.inputs) → Told S number run x
  start_tells x h =
      let z = started S g number numbered known x h in
      told_start x z.is (record {
        activation = main_activation;
        row = z.row;
        part = z.part;
        port = z.port;
        value = z.value;
        is_part = z.is_part;
        is = z.is;
        tells = tells_at_start z.starts_at;
      })

  module _ (count : ℕ) (s : World) (r : Reach g S.inputs count s run) where
    -- each context has one seat
    pub seats : OneSeat S number run
    seats = one_seats S known number run g numbered (contexts_apart g S.inputs count s run r)

    -- no two events make one structure
    pub structures : StructuresApart g run
    structures = structures_apart g S.inputs count s run r

    -- every message of a run tells what its port wants
    pub all_tell : IsBacked S run → AllTell S number run s
    all_tell backed = tell.all_tell S known g number numbered run seats structures backed start_tells count s r

    -- a row that has made a context stands in a live region
    pub opening_live : IsBacked S run → (a : Activation) (n h q : ℕ) (c : Context) → n < length (rows P)
        → Begins P n h q → Opens S number run a n c → Live S number run a (region P n)
    opening_live backed a n h q c within is o =
        let m = tell.firing_tells S known g number numbered run seats structures backed run r
        (λ z h. all_tell backed z (inr h)) o in
        let one = one_part numbered (m.0).is_part (part_of within (opens is)) (ap (λ (t : Tag). t.instr) (m.0).at) in
        subst (λ k. Live S number run a (region P k)) one.0 (m.1).live

    -- and what feeds a part tells what it speaks of
    pub all_speak : IsBacked S run → AllSpeak S number run
    all_speak backed = tell.all_speak S known g number numbered run seats structures backed start_tells count s r
