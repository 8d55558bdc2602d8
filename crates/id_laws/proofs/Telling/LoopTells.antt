-- What a loop gives, and what its entries are given, tells what is wanted there.
use Rattle.std.proofs.Common.{zero, cond}
use Rattle.std.proofs.Common.{◌≡◌, ℕ, suc, ◌+◌, ◌-◌, ◌<◌, true, List, length, get_or, refl, sym, ◌∙◌, ap, subst, arith}
use Rattle.id_table.specs.declared.row.Region.{Region}
use Rattle.id_table.specs.declared.row.Node.TheVariants.{Program, Start, LoopHead, Variable}
use Rattle.id_table.specs.Rows.{top}
use Rattle.id_table.specs.Tables.{begins_block, is_binder}
use Rattle.id_check.specs.declared.checked.Checked.{Checked}
use Rattle.id_check.specs.Programs.{place, region, rows}
use Rattle.id_check.specs.Scopes.{loops_between}
use Rattle.id_instr.specs.declared.dests.Port.TheVariants.{Zero}
use Rattle.id_tag.specs.declared.Context.{Context}
use Rattle.id_tag.specs.declared.Tag.{Tag}
use Rattle.id_tag.specs.declared.Value.{Value}
use Rattle.id_tag.specs.declared.Payload.TheVariants.{Token}
use Rattle.id_source.specs.declared.Path.{Path}
use Rattle.id_source.specs.declared.Fact.TheVariants.{Has}
use Rattle.id_source.specs.Sources.{Source}
use Rattle.id_source.specs.Facts.{NextStands, below, without, first_has, loop_has}
use Rattle.id_source.specs.Rounds.{Holds}
use Rattle.id_desugar.specs.Ends.{end_of, next_of}
use Rattle.id_desugar.specs.Regions.{has_index, imports_of, nexts_of}
use Rattle.id_build.specs.Rows.{Entry, block, entering, entries_row, first_binder, node, param_entry}
use Rattle.id_build.proofs.LoopsLemmas.{entries_node, entries_stand, entries_within, next_is}
use Rattle.id_build.proofs.NamesSeen.{Sees, listed}
use Rattle.id_runs.specs.Activations.{Activation, at_iteration, tag_in}
use Rattle.id_runs.specs.Events.{Event}
use Rattle.id_laws.specs.Activations.{of_loop, Opens, Live, entered, PathOf, Goes, by_index, at_first}
use Rattle.id_laws.specs.Topics.{StandsFor, number_stands, bounded_sent, entry_wants, index_place, upper_place}
use Rattle.id_source.specs.declared.SourceValue.TheVariants as source
use Rattle.id_source.specs.Facts.{by_bounds}
use Rattle.std.specs.Prelude.{int_le}
use Rattle.id_laws.specs.Topics.{sent_to}
use Rattle.id_laws.specs.Topics.{IsPart, Shown, Tells, Told, NameIn, topic_at, wants, result_of}
use Rattle.id_laws.proofs.Rows.Assumed.{IsKnown}
use Rattle.id_laws.proofs.Rows.Arcs.{carries, gets_last, part_of, takes_in, varies}
use Rattle.id_laws.proofs.Telling.FiringMeans.{Given}
use Rattle.id_laws.proofs.Paths.Iterations.{loop_between, without_below}
use Rattle.id_laws.proofs.Telling.LoopEntries.{GivenAs, as_carried, as_first, as_import, given_as}
use Rattle.id_laws.proofs.Telling.Feeding.{sent_name}
use Rattle.id_laws.proofs.Rows.Loops.{IsCounted, LoopOf, carried_node, carried_stands, carried_within, counted_of}
use Rattle.id_laws.proofs.Rows.Loops.{for_at, head_place, switches_same, last_row, loop_of_start, stands_loop}
use Rattle.id_laws.proofs.Rows.Loops.{next_block, result_is, start_block, start_place, start_region}
use Rattle.id_laws.proofs.Rows.Regions.{no_depth, region_of, same_depth}
use Rattle.id_laws.proofs.Paths.Seats.{OneSeat, one_path, entered_path, live_path}
use Rattle.id_laws.proofs.Telling.TurnedOn.{holds_by, turned_on, without_none}
use Rattle.id_table.specs.Tables.{is_expression}

module _ (S : Source) (known : IsKnown S.checked) (number : ℕ → ℕ
    → ℕ) (run : List Event) (seats : OneSeat S number run) where
  abbrev P : Checked
  P = S.checked

  -- what a loop gives goes to it
  pub looped_tells : {a : Activation} {n : ℕ} {c : Context} → n < length (rows P) → node P n ≡ Start
      → Live S number run a (region P n) →
      Opens S number run a n c
      → (v : Value) (k : ℕ) → Shown S number run (at_iteration c k) 0 (place P (result_of P (n + 1))) v
      → Tells S number run a (topic_at P (end_of P (n + 1)) 0 Zero) v × IsPart P (end_of P (n + 1)) 0
  looped_tells {a} {n} {c} within is live opened v k shown =
      let h = n + 1 in
      let l = loop_of_start known within is in
      let q = end_of P h in
      let back : h - 1 ≡ n = omega arith in
      let place_is : place P n ≡ place P q = ap (place P) (sym back) ∙ start_place P known h l in
      let region_is : region P n ≡ region P q = ap (region P) (sym back) ∙ start_region P known h l in
      let path = live_path live in
      let here = entered_path k within (of_loop is) opened path.1 in
      let same : shown.path ≡ below path.0 (place P q) k =
      one_path seats shown.path_of here ∙ ap (λ z. below path.0 z k) place_is in
      let has = subst (λ (z : Path × ℕ). Holds S (Has z.0 (place P z.1) shown.value)) {x = (_, result_of P h)}
      {y = (below path.0 (place P q) k, last_row P known h l)} (λ i. (
        (without_none shown.path ∙ same) i,
        result_is P known h l i,
      )) shown.holds in
      let gives = holds_by S _ _ (loop_has path.0 k (stands_loop P known h l)) (has, tt) in (
        subst (λ m. Tells S number run a (wants P q (region P q) m 0 Zero) v) (sym (l.the).node) (
          subst (Live S number run a) region_is live,
          record {
            path = path.0;
            path_of = path.1;
            value = shown.value;
            stands = shown.stands;
            holds = subst (λ z. Holds S (Has z (place P q) shown.value)) (sym (without_none path.0)) gives;
          },
        ),
        part_of (l.the).within (gets_last (l.the).node),
      )

  module _ (a : Activation) (n : ℕ) (c : Context) (v : Value) (within : n < length (rows P)) (is : node P n ≡ Start)
      (live : Live S number run a (region P n))
      (opens : Opens S number run a n c) where
    abbrev inside : Activation
    inside = at_iteration c 0

    live_inside : Live S number run inside (top (n + 1))
    live_inside = entered within (of_loop is) live opens

    block_is : block P (region P n).head ≡ block P (end_of P (n + 1))
    block_is =
        let l = loop_of_start known within is in
        let back : (n + 1) - 1 ≡ n = omega arith in
        (region_of known within (λ e. let bad : Start ≡ Program = sym is ∙ e in cc)).block ∙ ap (block P) (sym back)
        ∙ start_block P known (n + 1) l

    start_row : n ≡ (n + 1) - 1
    start_row = omega arith

    start_place_is : (l : LoopOf P (n + 1)) → place P n ≡ place P (n + 1)
    start_place_is l = ap (place P) start_row ∙ start_place P known (n + 1) l ∙ sym (head_place P known (n + 1) l)

    -- a variable gets its first value
    first_tells : (w b : ℕ) → w < length (rows P) → node P w ≡ Variable → n + 1 < w → w < entries_row P (n + 1)
        → b ≡ first_binder P (next_of P w) → Tells S number run a (NameIn (region P n) b) v
        → Tells S number run inside (topic_at P w 0 Zero) v
    first_tells w b less at_w low high first tells =
        let h = n + 1 in
        let l = loop_of_start known within is in
        let q = end_of P h in
        let back : h - 1 ≡ n = omega arith in
        let place_is : place P n ≡ place P q = ap (place P) (sym back) ∙ start_place P known h l in
        let stand = entries_stand P h (h - 1) l.within l.head w (omega (arith, low)) (omega (arith, high)) in
        let z = next_is P w less at_w in
        let m = next_of P w in
        let m_block : block P m ≡ h = next_block P known w less at_w ∙ stand.0 in
        let x = tells.1 in
        let bound = known.first_bound m z.name z.index z.outer z.value z.within z.node in
        let next : NextStands P m h z.outer z.value = record {
          name = z.name;
          index = z.index;
          next = record { within = z.within; node = z.node };
          block = m_block;
        } in
        let depth : loops_between (rows P) (region P n).head b ≡ loops_between (rows P) q (first_binder P m) =
        same_depth P (region P n).head q b block_is ∙ ap (loops_between (rows P) q) first in
        let has = subst (λ (y : ℕ × ℕ). Holds S (Has (without y.0 x.path) (place P y.1) x.value)) {x = (_, b)}
        {y = (loops_between (rows P) q (first_binder P m), first_binder P m)} (λ i. (depth i, first i)) x.holds in
        let region_q = start_region P known h l in
        let on = turned_on S known seats (subst (Live S number run a) (ap (region P) (sym back) ∙ region_q) live)
        x.path_of
        ((known.table).turned q (l.the).within (ap is_expression (l.the).node)) in
        let gets = holds_by S _ _ (first_has (stands_loop P known h l) next bound) (on, (has, tt)) in
        let p = below x.path (place P n) 0 in
        let none : loops_between (rows P) (region P w).head m ≡ 0 = no_depth P (region P w).head m
        (ap (λ (r : Region). block P r.head) stand.1 ∙ (known.table).head_block h l.within (ap begins_block l.head)
        ∙ sym m_block) in
        subst (λ y. Tells S number run inside (wants P w (region P w) y 0 Zero) v) (sym at_w) (
          subst (Live S number run inside) (sym stand.1) live_inside,
          record {
            path = p;
            path_of = entered_path 0 within (of_loop is) opens x.path_of;
            value = x.value;
            stands = x.stands;
            holds = subst (λ y. Holds S (Has y (place P m) x.value))
                (ap (λ e. below x.path e 0) (sym place_is) ∙ sym (ap (λ d. without d p) none ∙ without_none p)) gets;
          },
        )

    -- and an import its binder's
    import_tells : (j b : ℕ) → b ≡ get_or (imports_of P (n + 1)) j 0 → b < length (rows P) → is_binder (node P b) ≡ true
        → Sees P b (region P n)
        → Tells S number run a (NameIn (region P n) b) v
        → Tells S number run inside (topic_at P (entries_row P (n + 1)) j Zero) v
    import_tells j b there less binds sees tells =
        let h = n + 1 in
        let l = loop_of_start known within is in
        let e = entries_row P h in
        let stand = entries_stand P h (h - 1) l.within l.head e (omega arith) (omega arith) in
        let x = tells.1 in
        let p = below x.path (place P n) 0 in
        let start_depth : loops_between (rows P) (region P n).head b ≡ loops_between (rows P) n b =
        same_depth P (region P n).head n b (region_of known within (λ z. let bad : Start ≡ Program = sym is ∙ z in
        cc)).block in
        let depth : loops_between (rows P) h b ≡ suc (loops_between (rows P) (region P n).head b) =
        loop_between known within is less binds sees ∙
        ap suc (sym start_depth) in
        let path_is : without (loops_between (rows P) h b) p
        ≡ without (loops_between (rows P) (region P n).head b) x.path =
        ap (λ d. without d p) depth ∙ without_below (loops_between (rows P) (region P n).head b) x.path (place P n) 0 in
        let tells' : Tells S number run inside (NameIn (top h) b) v = (
          live_inside,
          record {
            path = p;
            path_of = entered_path 0 within (of_loop is) opens x.path_of;
            value = x.value;
            stands = x.stands;
            holds = subst (λ y. Holds S (Has y (place P b) x.value)) (sym path_is) x.holds;
          },
        ) in
        subst (λ t. Tells S number run inside t v)
        ((λ i. NameIn (sym stand.1 i) (there i))
        ∙ ap (λ g. NameIn (region P e) (get_or (imports_of P g) j 0)) (sym stand.0)
        ∙ ap (λ y. wants P e (region P e) y j Zero) (sym (entries_node P h (h - 1) l.within l.head)))
        tells'

    -- what a loop with an index carries on gets its first value
    entry_tells : (l : LoopOf P (n + 1)) (c' : IsCounted P l.all) (k : ℕ) → k < 3
        → Tells S number run a (bounded_sent P n (region P n) k) v
        → Tells S number run inside (entry_wants (n + 1) k) v
    entry_tells l c' zero few tells =
        let h = n + 1 in
        let first = tells.1 in
        let p = below first.path (place P h) 0 in
        let here : place P n ≡ place P h = start_place_is l in
        record {
          live = live_inside;
          shown = record {
            path = p;
            path_of =
                subst (λ e. PathOf S number run inside (below first.path e 0)) here
                (entered_path 0 within (of_loop is) opens first.path_of);
            value = source.Int first.first;
            stands = subst (λ z. StandsFor S number run z (source.Int first.first)) (sym first.is)
                (number_stands first.first);
            holds = subst (λ q. Holds S (Has q (index_place S number run h) (source.Int first.first)))
                (sym (without_none p)) first.holds;
          };
          decided = at_first (subst (λ i. Opens S number run a i c) start_row opens) first.decided;
          goes = record {
            path = p;
            path_of =
                subst (λ e. PathOf S number run inside (below first.path e 0)) here
                (entered_path 0 within (of_loop is) opens first.path_of);
            goes = record { side = true; is = refl; goes = first.goes };
          };
        }
    entry_tells l c' (suc zero) few tells =
        let h = n + 1 in
        let x = tells.1 in
        let p = below x.path (place P n) 0 in
        let deeper = known.loop_depth h (h - 1) l.within l.head in
        let start : (n + 1) - 1 ≡ n = omega arith in
        let none : loops_between (rows P) (region P n).head (h - 1) ≡ 0 =
        ap (loops_between (rows P) (region P n).head) start
        ∙ no_depth P (region P n).head n (region_of known within (λ z. let bad : Start ≡ Program = sym is ∙ z in
        cc)).block in
        let one : loops_between (rows P) h (h - 1) ≡ 1 = omega (arith, deeper) in
        let path_is : without (loops_between (rows P) h (h - 1)) p
        ≡ without (loops_between (rows P) (region P n).head (h - 1)) x.path =
        ap (λ d. without d p) one ∙ without_below 0 x.path (place P n) 0 ∙ ap (λ d. without d x.path) (sym none) in (
          live_inside,
          record {
            path = p;
            path_of = entered_path 0 within (of_loop is) opens x.path_of;
            value = x.value;
            stands = x.stands;
            holds = subst (λ y. Holds S (Has y (upper_place S number run h) x.value)) (sym path_is) x.holds;
          },
        )
    entry_tells l c' (suc (suc zero)) few tells =
        let h = n + 1 in
        let flag = tells.1 in
        let path = flag.path in
        let here : place P n ≡ place P (end_of P h) = start_place_is l ∙ head_place P known h l in
        let stands = for_at known (l.the).within (l.the).node flag.bounds in
        let region_q = start_region P known h l in
        let live' = subst (Live S number run a) region_q tells.0 in
        let on = turned_on S known seats live' flag.path_of
        ((known.table).turned (end_of P h) (l.the).within (ap is_expression (l.the).node)) in
        let side : Goes S (below path (place P (end_of P h)) 0) (l.the).switches (int_le flag.low flag.high) =
        by_index (by_bounds stands refl) (on, (flag.low_has, (flag.high_has, tt))) in
        record {
          live = live_inside;
          decided = at_first (subst (λ i. Opens S number run a i c) start_row opens) tells.2;
          shown = record {
            path = below path (place P (end_of P h)) 0;
            path_of =
                subst (λ e. PathOf S number run inside (below path e 0)) here
                (entered_path 0 within (of_loop is) opens flag.path_of);
            goes = record {
              side = int_le flag.low flag.high;
              is = flag.is;
              goes = subst (λ w. Goes S (below path (place P (end_of P h)) 0) w (int_le flag.low flag.high))
                  (sym (switches_same P known h l)) side;
            };
          };
        }
    entry_tells l c' (suc (suc (suc k))) few tells = absurd (omega (arith, few))

  -- a first value or an import goes to its entry, in the context that the `Start` has made
  pub given_tells : (a : Activation) (n : ℕ) (u : Tag) (v : Value) → n < length (rows P) → Given S number run a n u v
      → Told S number run (Token u Zero v)
  given_tells a n u v within x = by (given_as P (n + 1) x.slot x.entry x.at)
    where
      to : (row part : ℕ) → (x.entry).row ≡ row → (x.entry).part ≡ part → IsPart P row part →
          Tells S number run (at_iteration x.context 0) (topic_at P row part Zero) v
          → Told S number run (Token u Zero v)
      to row part at_row at_part is_part tells = record {
        activation = at_iteration x.context 0;
        row = row;
        part = part;
        port = Zero;
        value = v;
        is_part = is_part;
        is = ap (λ t. Token t Zero v) (x.goes
            ∙ (λ i. tag_in (at_iteration x.context 0) (number (at_row i) (at_part i))));
        tells = tells;
      }

      carried_told : has_index P (n + 1) ≡ true → x.slot < 3 → x.entry ≡ param_entry (n + 1 + 1 + x.slot)
          → Told S number run (Token u Zero v)
      carried_told has few entry =
          let h = n + 1 in
          let k = x.slot in
          let l = loop_of_start known within x.node in
          let c = counted_of P l.all has in
          let row = h + 1 + k in
          let stand = carried_stands P known h l c row (omega arith) (omega (arith, few)) in
          let in_row : row - (h + 1) ≡ k = omega arith in
          let node_is = carried_node P known h l c k few in
          to row 0 (ap (λ (q : Entry). q.row) entry) (ap (λ (q : Entry). q.part) entry)
          (part_of (carried_within P known h l c row (omega (arith, few))) (carries node_is.1))
          (subst (λ t. Tells S number run (at_iteration x.context 0) t v)
          (ap (entry_wants h) (sym in_row) ∙ (λ i. entry_wants (sym stand.0 i) (row - (sym stand.0 i + 1)))
          ∙ ap (λ m. wants P row (region P row) m 0 Zero) (sym node_is.1))
          (entry_tells a n x.context v within x.node x.live x.opens l c k few
          (subst (λ t. Tells S number run a t v)
          (ap (λ t. cond t (bounded_sent P n (region P n) k) (NameIn (region P n) (get_or (entering P (n + 1)) k 0)))
          has) x.value)))

      by : GivenAs P (n + 1) x.slot x.entry → Told S number run (Token u Zero v)
      by (as_carried has less entry) = carried_told has less entry
      by (as_first w i less at_w low high here slot entry first) =
          to w 0 (ap (λ (q : Entry). q.row) entry) (ap (λ (q : Entry). q.part) entry) (part_of less (varies at_w))
          (first_tells a n x.context v within x.node x.live x.opens w (get_or (entering P (n + 1)) i 0) less at_w low
          high first
          (subst (λ z. Tells S number run a z v) (ap (sent_to P n (region P n)) slot ∙ sent_name P n (region P n) i)
          x.value))
      by (as_import j less slot entry there) =
          let i = length (nexts_of P (n + 1)) + j in
          let h = n + 1 in
          let l = loop_of_start known within x.node in
          let b = get_or (imports_of P h) j 0 in
          let z = known.loop_imports h n l.within (l.head ∙ ap (λ k. LoopHead k) back) b
          (listed (imports_of P h) j less) in
          let stand = entries_stand P h (h - 1) l.within l.head (entries_row P h) (omega arith) (omega arith) in
          to (entries_row P h) j (ap (λ (q : Entry). q.row) entry) (ap (λ (q : Entry). q.part) entry)
          (part_of (entries_within P h (h - 1) l.within l.head) (takes_in j (entries_node P h (h - 1) l.within l.head)
          (subst (λ g. j < length (imports_of P g)) (sym stand.0) less)))
          (import_tells a n x.context v within x.node x.live x.opens j b refl z.0 z.1 z.2
          (subst (λ y. Tells S number run a (NameIn (region P n) y) v) there
          (subst (λ z. Tells S number run a z v) (ap (sent_to P n (region P n)) slot ∙ sent_name P n (region P n) i)
          x.value)))
        where
          back : (n + 1) - 1 ≡ n
          back = omega arith
