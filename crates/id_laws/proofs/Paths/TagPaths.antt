-- The path of a tag, by the events of a run, is that of its activation.
use Rattle.std.proofs.Common.{◌≡◌, inl, inr, ℕ, suc, ◌≤◌, ◌<◌, Bool as Truth, true, false, cond, Option, Some, List, []}
use Rattle.std.proofs.Common.{◌∷◌, ◌++◌, length}
use Rattle.std.proofs.Common.{◌+◌, ◌-◌, refl, sym, ◌∙◌, ap, subst, arith}
use Rattle.std.proofs.lemmas.Bool.{eq-eqb}
use Rattle.id_value.specs.List.{Among, AllDiffer}
use Rattle.id_table.specs.declared.row.Region.{Region}
use Rattle.id_table.specs.declared.row.Node.TheVariants.{Enter}
use Rattle.std.specs.Prelude.{option_map}
use Rattle.id_instr.specs.declared.instr.Instr.{Instr}
use Rattle.id_instr.specs.declared.instr.Op.TheVariants.{Enter as EnterOp}
use Rattle.id_check.specs.declared.checked.Checked.{Checked}
use Rattle.id_check.specs.Programs.{place, rows}
use Rattle.id_instr.specs.Graph.{Parts}
use Rattle.id_valid.specs.Roles.{op_at}
use Rattle.id_tag.specs.declared.Context.{Context}
use Rattle.id_tag.specs.declared.Tag.{Tag}
use Rattle.id_core.specs.Machines.{World}
use Rattle.id_core.specs.Observed as shown
use Rattle.id_observe.specs.Paths.{enter_in, enters_loop, step_of}
use Rattle.id_observe.proofs.PathsLemmas.{Leads, under_main, under_enter, path_of-leads}
use Rattle.id_source.specs.declared.Path.{Path}
use Rattle.id_source.specs.declared.PathStep.{PathStep}
use Rattle.id_source.specs.Sources.{Source}
use Rattle.id_build.specs.Rows.{node}
use Rattle.id_build.specs.Schemas.{Numbered}
use Rattle.id_runs.specs.Activations.{Activation, activation_of, tag_in}
use Rattle.id_runs.specs.Events.{Event}
use Rattle.id_runs.specs.Runs.{Reach}
use Rattle.id_runs.proofs.Entered.{WasEntered, entered_under, few_entered, main_unentered}
use Rattle.id_laws.specs.Laws.{events}
use Rattle.id_laws.specs.Activations.{Seat, Outermost, Below, path_at, Begins, of_call, of_loop, Opens, SeatOf}
use Rattle.id_laws.specs.Activations.{main_seat, made_seat, Live, PathOf}
use Rattle.id_laws.proofs.Rows.Assumed.{IsKnown}
use Rattle.id_laws.proofs.Telling.FiringMeans.{IsBacked}
use Rattle.id_laws.proofs.Rows.Loops.{loop_of_start, start_place}
use Rattle.id_table.specs.Tables.{begins_block}
use Rattle.id_laws.proofs.Rows.Arcs.{opens, makes, part_of, place_shown, starts}
use Rattle.id_laws.proofs.Soundness.Observing.{part_place}
use Rattle.id_laws.proofs.Paths.Seats.{length_snoc}
use Rattle.id_laws.proofs.Paths.Opened.{call_first}
use Rattle.id_runs.proofs.Serials.{contexts_apart}
use Rattle.id_laws.proofs.Telling.StartTells.{opening_live, seats}

-- how many steps lead to a seat
abbrev depth : Seat → ℕ
depth Outermost = 0
depth (Below p e) = suc (length p.steps)

depth_is : (q : Seat) (k : ℕ) → length (path_at q k).steps ≡ depth q
depth_is Outermost k = refl
depth_is (Below p e) k = length_snoc p.steps (record { place = e; number = k })

-- a step at the first iteration
first_number : (b : Truth) (k : ℕ) → k ≡ 0 → cond b k 0 ≡ k
first_number true k z = refl
first_number false k z = sym z

-- what begins a context shows its place
begins_shows : (P : Checked) (e : ℕ) {n h q : ℕ} → Begins P n h q → place_shown P e (node P n) ≡ e
begins_shows P e (of_call is) = ap (place_shown P e) is
begins_shows P e (of_loop is) = ap (place_shown P e) is

module _ (S : Source) (known : IsKnown S.checked) (g : Parts) (number : ℕ → ℕ
    → ℕ) (numbered : Numbered S.checked g number) (count : ℕ)
    (s : World) (run : List Event) (r : Reach g S.inputs count s run) (backed : IsBacked S run) where
  abbrev P : Checked
  P = S.checked

  abbrev entries : Context → Option Tag
  entries = enter_in g (events s)

  -- the context is live at iteration 0 alone, if a call has made it
  abbrev pub CallFirst : Context → ℕ → Type 0
  CallFirst c k =
      (b : Activation) (n x : ℕ) → n < length (rows P) → node P n ≡ Enter x → Opens S number run b n c → k ≡ 0

  pub first_of : {a : Activation} {q : Region} → Live S number run a q → CallFirst a.context a.iteration
  first_of live b n x within is o =
      call_first S known number run g numbered (contexts_apart g S.inputs count s run r) live within is o

  -- the place of what begins a context, and of its block's head
  begun_place : {n h q : ℕ} → n < length (rows P) → Begins P n h q → shown.place_of g (number n 0) ≡ place P n
  begun_place within is = part_place numbered (part_of within (opens is)) ∙ begins_shows P (place P _) is

  op_is : {n h q : ℕ} → n < length (rows P) → Begins P n h q
      → op_at g (number n 0) ≡ Some (EnterOp (number h 0) (number q 0))
  op_is {n} within is =
      let m = numbered.made n 0 _ _ (makes within (opens is)) in
      ap (option_map (λ (i : Instr). i.op)) m.at ∙ ap (λ z. Some z) m.op

  -- the step of what begins a context is at its place
  step_is : {a : Activation} {n h q : ℕ} {c : Context} (k : ℕ) → n < length (rows P) → Begins P n h q
      → Opens S number run a n c → CallFirst c k → step_of g (number n 0) k ≡ record { place = place P n; number = k }
  step_is {a} {n} k within (of_call {x = x} is) o first =
      let m = number n 0 in
      let here = begun_place within (of_call is) in
      (λ i. record {
        place = here i;
        number =
            first_number (enters_loop g (shown.place_of g m) (op_at g m)) k (first a n x within is o) i;
      })
  step_is {a} {n} k within (of_loop is) o first =
      let m = number n 0 in
      let h = n + 1 in
      let l = loop_of_start known within is in
      let here = begun_place within (of_loop is) in
      let back : h - 1 ≡ n = omega arith in
      let stands : place P h ≡ place P n = ((l.all).place).head ∙ sym (start_place P known h l) ∙ ap (place P) back in
      let head : shown.place_of g (number h 0) ≡ place P n =
      part_place numbered (part_of l.within (starts (ap begins_block l.head))) ∙ ap (place_shown P (place P h)) l.head
      ∙ stands in
      let loop : enters_loop g (shown.place_of g m) (op_at g m) ≡ true =
      (λ i. enters_loop g (shown.place_of g m) (op_is within (of_loop is) i))
      ∙ eq-eqb (shown.place_of g (number h 0)) (shown.place_of g m) (head ∙ sym here) in
      (λ i. record { place = here i; number = cond (loop i) k 0 })

  -- the steps of a seat lead to the tags of its context
  leads : {c : Context} {q : Seat} → SeatOf S number run c q → (t : Tag) → t.context ≡ c → CallFirst c t.iteration
      → Leads g entries t (depth q) (path_at q t.iteration).steps
  leads main_seat t is first = under_main t (ap entries is ∙ main_unentered g S.inputs count s run r)
  leads {c} (made_seat {a = a} {n = n} {s = u} within enter o seat) t is first =
      let up = tag_in a (number n 0) in
      let live = opening_live S known g number numbered run count s r backed a n _ _ c within enter o in
      let p = (path_at u a.iteration).steps in
      let longer =
      under_enter t up (depth u) p (ap entries is ∙ entered_under g S.inputs count s run r o)
      (leads seat up refl (first_of live)) in
      subst (λ (z : ℕ × List PathStep). Leads g entries t z.0 z.1)
      (λ i. (suc (sym (depth_is u a.iteration) i), p ++ step_is t.iteration within enter o first i ∷ [])) longer

  -- a context that was entered, at a seat with no more steps
  record Passed (most : ℕ) (o : Option Context) : Type 0 where
    entered : WasEntered run o
    seat : Seat
    of_context : SeatOf S number run entered.context seat
    low : depth seat ≤ most

  -- the contexts from main's to one with this seat, which all differ
  record Chain (q : Seat) : Type 0 where
    contexts : List (Option Context)
    long : length contexts ≡ depth q
    differ : AllDiffer contexts
    each : (o : Option Context) → Among o contexts → Passed (depth q) o

  some_is : {A : Type 0} {x y : A} → Some x ≡ Some y → x ≡ y
  some_is h = cc

  chain : {c : Context} {q : Seat} → SeatOf S number run c q → Chain q
  chain main_seat = record { contexts = []; long = refl; differ = tt; each = λ o h. absurd h }
  chain {c} {q} (made_seat {a = a} {n = n} {s = u} within enter o seat) =
      let below = chain seat in
      let here : SeatOf S number run c q = made_seat within enter o seat in
      let deep = depth_is u a.iteration in
      record {
        contexts = Some c ∷ below.contexts;
        long = omega (arith, below.long, deep);
        differ = (
          λ h.
              let x = below.each (Some c) h in
              let e = x.entered in
              let one =
              (seats S known g number numbered run count s r).one c x.seat q
              (subst (λ z. SeatOf S number run z x.seat) (sym (some_is e.is)) x.of_context)
              here in
              omega (arith, x.low, ap depth one, deep),
          below.differ,
        );
        each = λ d h. elim h [
          | inl is ↦ record {
            entered = record { context = c; is = is; tag = _; fires = o };
            seat = q;
            of_context =
                here;
            low = omega arith;
          }
          | inr old ↦ let x =
              below.each d old in
              record { entered = x.entered; seat = x.seat; of_context = x.of_context; low = omega (arith, x.low, deep) }
        ];
      }

  -- a seat has no more steps than there are events
  few : {c : Context} {q : Seat} → SeatOf S number run c q → depth q ≤ length (events s)
  few x =
      let y = chain x in
      subst (λ n. n ≤ length (events s)) y.long
      (few_entered g S.inputs count s run r y.contexts y.differ (λ o h. (y.each o h).entered))

  -- the path of a tag is that of its activation, where a call has made no other than its first iteration
  pub path_seated : (t : Tag) (p : Path) → CallFirst t.context t.iteration → PathOf S number run (activation_of t) p
      → shown.path_in g s.elements t ≡ p
  path_seated t p first h =
      path_of-leads g (events s) t (depth h.seat) (path_at h.seat t.iteration).steps (leads h.of_context t refl first)
      (few h.of_context) ∙ sym h.is

  -- so it is where a region is live
  pub path_shown : (t : Tag) (p : Path) {q : Region} → Live S number run (activation_of t) q
      → PathOf S number run (activation_of t) p →
      shown.path_in g s.elements t ≡ p
  path_shown t p live h = path_seated t p (first_of live) h
