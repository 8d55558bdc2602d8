-- What the context of a live region was opened for: main's body, or the block whose head the region's is, or stands in.
use Rattle.std.proofs.Common.{◌≡◌, inl, ℕ, ◌+◌, ◌-◌, ◌<◌, List, length, refl, sym, ◌∙◌, ap, subst, arith}
use Rattle.id_table.specs.declared.row.Region.{Region}
use Rattle.id_table.specs.declared.row.Node.TheVariants.{Head, Enter, Program, Start, LoopHead, Switches}
use Rattle.id_table.specs.Tables.{HasPart, begins_block}
use Rattle.id_check.specs.declared.checked.Checked.{Checked}
use Rattle.id_check.specs.Programs.{place, region, rows}
use Rattle.id_instr.specs.Graph.{Parts}
use Rattle.id_tag.specs.declared.Context.{Context}
use Rattle.id_source.specs.declared.Path.{Path}
use Rattle.id_source.specs.Sources.{Source}
use Rattle.id_source.specs.Facts.{below}
use Rattle.id_build.specs.Rows.{block, node}
use Rattle.id_build.specs.Schemas.{Numbered}
use Rattle.id_runs.specs.Activations.{Activation, at_iteration, main_context}
use Rattle.id_runs.specs.Events.{Event}
use Rattle.id_runs.specs.Serials.{ContextsApart}
use Rattle.id_laws.specs.Activations.{Begins, of_call, of_loop, main_head, Opens, PathOf, Live, at_start, on_side}
use Rattle.id_laws.specs.Activations.{entered, again}
use Rattle.id_laws.proofs.Rows.Assumed.{IsKnown}
use Rattle.id_laws.proofs.Paths.Begun.{begun_at}
use Rattle.id_laws.proofs.Rows.Calls.{called_head}
use Rattle.id_laws.proofs.Rows.Conditionals.{main_head_is}
use Rattle.id_laws.proofs.Rows.Loops.{LoopOf, loop_of_row, loop_of_start, start_place}
use Rattle.id_table.specs.Turns.{IsDefOf}
use Rattle.id_build.proofs.EndsLemmas.{body_region}
use Rattle.id_laws.proofs.Rows.Regions.{region_of}
use Rattle.id_laws.proofs.Paths.Seats.{OneSeat, one_seat, one_path, entered_path, live_path, not_main, one_opening}
use Rattle.id_desugar.specs.Ends.{end_of}
use Rattle.id_laws.proofs.Rows.Sources.{tests_other}

-- the context was opened for the block with this head
pub data OpenedFor (S : Source) (number : ℕ → ℕ → ℕ) (run : List Event) (c : Context) (h : ℕ) : Type 0 where
  for_main : c ≡ main_context → h ≡ main_head S.checked → OpenedFor S number run c h
  for_begun : {b : Activation} {n q : ℕ} → n < length (rows S.checked) → Begins S.checked n h q
      → Live S number run b (region S.checked n) → Opens S number run b n c → OpenedFor S number run c h

head_loop : {s : ℕ} → Head ≡ LoopHead s → ⊥
head_loop h = cc

-- switches of a loop stand in its block
looped : (P : Checked) (known : IsKnown P) (n e : ℕ) → n < length (rows P) → node P n ≡ Switches e →
    node P (block P (region P n).head) ≡ LoopHead (block P n - 1)
looped P known n e within is =
    ap (node P) (region_of known within (λ z. let bad : Switches e ≡ Program = sym is ∙ z in cc)).block
    ∙ (loop_of_row known (Switches e) within is refl).head

module _ (S : Source) (known : IsKnown S.checked) (number : ℕ → ℕ → ℕ) (run : List Event) where
  pub live_block : {a : Activation} {r : Region} → Live S number run a r
      → OpenedFor S number run a.context (block S.checked r.head)
  live_block at_start =
      for_main refl ((known.table).head_block (main_head S.checked) main_within (ap begins_block (main_head_is known)))
    where
      main_within : main_head S.checked < length (rows S.checked)
      main_within = let d = known.main in omega (
        arith,
        d.within,
        (((known.table).formed).each (S.checked).main d.within).first,
        (known.table).head_is (S.checked).main d.name (main_head S.checked) d.body d.result d.within d.node,
      )
  live_block {a} (on_side {n = n} within tests live says goes) =
      subst (OpenedFor S number run a.context) (region_of known within (tests_other S.checked known tests)).block
      (live_block live)
  live_block (entered {h = h} {c = c} within begins live opened) =
      let z = begun_at known within begins in
      subst (OpenedFor S number run c) (sym ((known.table).head_block h z.head_within z.head))
      (for_begun within begins live opened)
  live_block (again within is live says goes) = live_block live

  -- the loop round a live region: its path goes on below that of the activation under which the loop was started
  pub record InLoop (a : Activation) (h : ℕ) : Type 0 where
    pub outer : Activation
    pub start : ℕ
    pub within : start < length (rows S.checked)
    pub node : node S.checked start ≡ Start
    pub head : start + 1 ≡ h
    pub live : Live S number run outer (region S.checked start)
    pub opens : Opens S number run outer start a.context

  in_loop : {a : Activation} {h s : ℕ} → OpenedFor S number run a.context h → node S.checked h ≡ LoopHead s → InLoop a h
  in_loop (for_main c e) is = absurd (head_loop (sym (main_head_is known) ∙ ap (node S.checked) (sym e) ∙ is))
  in_loop {a} {h} {s} (for_begun {b = b} {n = n} within begins live opened) is = by begins is refl
    where
      by : {g q : ℕ} → Begins S.checked n g q → node S.checked g ≡ LoopHead s → g ≡ h → InLoop a h
      by (of_call enter) at e = absurd (head_loop (sym (called_head known within enter).1 ∙ at))
      by (of_loop start) at e =
          record { outer = b; start = n; within = within; node = start; head = e; live = live; opens = opened }

  pub live_loop : {a : Activation} {r : Region} {s : ℕ} → Live S number run a r
      → node S.checked (block S.checked r.head) ≡ LoopHead s →
      InLoop a (block S.checked r.head)
  live_loop live is = in_loop (live_block live) is

  -- the path of an iteration goes on below that of the activation under which the loop was started
  pub record LoopPath (a : Activation) (h : ℕ) (x : InLoop a h) (p : Path) : Type 0 where
    pub path : Path
    pub path_of : PathOf S number run x.outer path
    pub is : p ≡ below path (place S.checked (end_of S.checked h)) a.iteration

  loop_place : {h : ℕ} (l : LoopOf S.checked h) {a : Activation} (x : InLoop a h)
      → place S.checked x.start ≡ place S.checked (end_of S.checked h)
  loop_place {h} l x =
      let back : x.start ≡ h - 1 = omega (arith, x.head) in
      ap (place S.checked) back ∙ start_place S.checked known h l

  pub next_path : {h : ℕ} (l : LoopOf S.checked h) {a : Activation} (x : InLoop a h) {p : Path} (y : LoopPath a h x p)
      (k : ℕ) → PathOf S number run (at_iteration a.context k) (below y.path (place S.checked (end_of S.checked h)) k)
  next_path {h} l {a} x y k =
      subst (λ e. PathOf S number run (at_iteration a.context k) (below y.path e k)) (loop_place l x)
      (entered_path k x.within (of_loop x.node) x.opens y.path_of)

  pub loop_path : OneSeat S number run → {h : ℕ} (l : LoopOf S.checked h) {a : Activation} (x : InLoop a h) {p : Path}
      → PathOf S number run a p →
      LoopPath a h x p
  loop_path seats {h} l {a} x path =
      let up = live_path x.live in
      record {
        path = up.0;
        path_of = up.1;
        is = one_path seats path (subst (λ e. PathOf S number run a (below up.0 e a.iteration)) (loop_place l x)
            (entered_path a.iteration x.within (of_loop x.node) x.opens up.1));
      }

  module _ (g : Parts) (numbered : Numbered S.checked g number) (apart : ContextsApart run) where
    -- main's context is live at iteration 0 alone
    pub main_first : {a : Activation} {r : Region} → Live S number run a r → a.context ≡ main_context → a.iteration ≡ 0
    main_first at_start e = refl
    main_first (on_side within tests live says goes) e = main_first live e
    main_first (entered within begins live opened) e = refl
    main_first (again within is live says goes) e = absurd
        (not_main S known g number numbered run apart (live_loop live (looped S.checked known _ _ within is)).opens e)

    -- and so is a context that a call has made
    pub call_first : {a : Activation} {r : Region} → Live S number run a r → {b : Activation} {n x : ℕ}
        → n < length (rows S.checked) →
        node S.checked n ≡ Enter x
        → Opens S number run b n a.context → a.iteration ≡ 0
    call_first at_start within enter o = refl
    call_first (on_side inside tests live says goes) within enter o = call_first live within enter o
    call_first (entered inside begins live opened) within enter o = refl
    call_first (again inside is live says goes) {n = n} {x = x} within enter o =
        let l = live_loop live (looped S.checked known _ _ inside is) in
        let one =
        one_opening S known g number numbered run apart l.within within (of_loop l.node) (of_call enter) l.opens o
        refl in
        let bad : Start ≡ Enter x = sym l.node ∙ ap (node S.checked) one.1 ∙ enter in
        cc

    -- a procedure's body is live at iteration 0 alone
    body_first : {a : Activation} {d h : ℕ} (x : IsDefOf (rows S.checked) d h)
        → Live S number run a (region S.checked x.body) → a.iteration ≡ 0
    body_first {a} {d} {h} x live =
        let t = known.table in
        let stands = body_region S.checked t d h x in
        let heads = t.head_is d x.name h x.body x.result x.within x.node in
        let low = ((t.formed).each d x.within).parts h (subst (λ m. HasPart m h) (sym x.node) (inl refl)) in
        let own : block S.checked h ≡ h = t.head_block h (omega (arith, x.within, low.1)) (ap begins_block heads.0) in
        by (subst (OpenedFor S number run a.context) (ap (λ (r : Region). block S.checked r.head) stands.1
        ∙ own) (live_block live)) heads.0
      where
        begun : {b : Activation} {n g q : ℕ} → n < length (rows S.checked) → Begins S.checked n g q
            → Opens S number run b n a.context →
            node S.checked g ≡ Head → a.iteration ≡ 0
        begun within (of_call enter) opened is = call_first live within enter opened
        begun within (of_loop start) opened is = absurd (head_loop (sym is ∙ (loop_of_start known within start).head))

        by : OpenedFor S number run a.context h → node S.checked h ≡ Head → a.iteration ≡ 0
        by (for_main c e) is = main_first live c
        by (for_begun within begins up opened) is = begun within begins opened is

    -- so each context has one seat
    pub one_seats : OneSeat S number run
    one_seats = record { one = one_seat S known g number numbered run apart; first = body_first }
