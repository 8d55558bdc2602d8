-- What the rows of a loop are, by number: its variables and their `next` statements, its entries, and what feeds them.
use Rattle.std.proofs.Common.{◌≡◌, inl, inr, ℕ, zero, suc, ◌+◌, ◌-◌, ◌<◌, ◌≤◌, Bool as Truth, true, false, cond, Some}
use Rattle.std.proofs.Common.{None, List, [], ◌∷◌, ◌++◌, map, length}
use Rattle.std.proofs.Common.{slice_get, get_or, refl, sym, ◌∙◌, ap, subst, arith}
use Rattle.id_value.specs.List.{Among}
use Rattle.id_value.proofs.AmongLemmas.{Among-right}
use Rattle.id_table.specs.declared.row.Region.{Region}
use Rattle.id_value.specs.declared.Kind.{Kind}
use Rattle.id_table.specs.declared.row.Node.TheVariants.{Start, LoopHead, Variable, Entries, Switches, Turn, Next, Loop}
use Rattle.id_table.specs.declared.row.Node.TheVariants.{Carried, Span}
use Rattle.id_table.specs.Rows.{arm_at, top}
use Rattle.id_table.specs.Tables.{is_top, is_variable, is_in_loop}
use Rattle.std.proofs.lemmas.Bool.{cases_lt}
use Rattle.id_table.specs.Loops.{IsLoopOf, IsNextOf, StandsAt}
use Rattle.id_check.specs.declared.checked.Checked.{Checked}
use Rattle.id_check.specs.Programs.{Stands, region, rows}
use Rattle.id_instr.specs.declared.dests.Port.{Port}
use Rattle.id_instr.specs.declared.dests.Port.TheVariants.{Zero, One}
use Rattle.id_instr.specs.declared.instr.Op.TheVariants as op
use Rattle.id_instr.specs.declared.instr.PortKind.TheVariants.{Signal}
use Rattle.id_desugar.specs.Ends.{end_of, next_of}
use Rattle.id_desugar.specs.Regions.{bound_of, carried, first_variable, handed, has_index, imports_of, nexts_from}
use Rattle.id_desugar.specs.Regions.{nexts_of, taken}
use Rattle.id_build.specs.declared.arc.Origin.{Origin}
use Rattle.id_build.specs.declared.arc.Feed.{Feed}
use Rattle.id_build.specs.declared.arc.Form.TheVariants.{Plain}
use Rattle.id_build.specs.Rows.{Entry, block, entering, entries_row, entry_feeds, feed, feeds_of, first_binder}
use Rattle.id_build.specs.Rows.{bounds_feeds, carried_feeds, import_entries, import_feeds, label, label_by}
use Rattle.id_build.specs.Rows.{loop_entries, name_in, param_entry}
use Rattle.id_build.specs.Rows.{node, output, port_at, trigger_of, turn_feeds, turn_row, variable_entries}
use Rattle.id_build.specs.Schemas.{Feeds}
use Rattle.id_build.proofs.EndsLemmas.{loop_same}
use Rattle.id_build.proofs.LoopsLemmas.{entries_are, entries_node, entries_stand, entries_within, next_is, loop_rows}
use Rattle.id_build.proofs.LoopsLemmas.{the_loop}
use Rattle.id_build.proofs.NamesSeen.{Sees, handed as by_switches, entered, of_turns as turns}
use Rattle.id_laws.proofs.Rows.Assumed.{IsKnown}
use Rattle.id_laws.proofs.Rows.Arcs.{Does, moves_on, moves_name, takes_in, turned, carries_on, behind_turned}
use Rattle.id_laws.proofs.Rows.Arcs.{three_carried, none_carried}
use Rattle.id_laws.proofs.Rows.Feeders.{import_listed}
use Rattle.id_laws.proofs.Rows.LoopRows.{carried_rows}
use Rattle.id_laws.proofs.Rows.Loops.{LoopOf, loop_by, loop_of_head, same_loop, start_before, start_node}
use Rattle.id_laws.proofs.Rows.Loops.{switches_within, turn_in, turn_node, turn_region, turn_within}
use Rattle.id_laws.proofs.Rows.Regions.{row_within}
use Rattle.id_laws.proofs.Rows.Speakers.{fed_as}

none_some : {A : Type 0} {x : A} → None ≡ Some x → ⊥
none_some h = cc

-- ---- variables

-- the row of the variable of the `next` at the row m, which has the index k
pub record VariableOf (P : Checked) (m k : ℕ) : Type 0 where
  pub row : label P m ≡ block P m + 1 + k
  pub within : label P m < length (rows P)
  pub is : node P (label P m) ≡ Variable
  pub of_block : block P (label P m) ≡ block P m
  pub right : region P (label P m) ≡ top (block P m)
  pub next : next_of P (label P m) ≡ m

pub variable_of : {P : Checked} (known : IsKnown P) {m x k o v : ℕ} → m < length (rows P) → node P m ≡ Next x k o v
    → VariableOf P m k
variable_of {P} known {m} {x} {k} {o} {v} within is =
    let mine : IsNextOf (rows P) m (block P m) k x =
    record { outer = o; value = v; within = within; block = refl; node = is } in
    let z = (known.table).next_in m (block P m) k x mine in
    let row : label P m ≡ block P m + 1 + k = ap (label_by (block P m) m) is in
    let there : node P (label P m) ≡ Variable = ap (node P) row ∙ (z.2).variable in
    let less : label P m < length (rows P) = row_within P (label P m) there (λ e. cc) in
    let of_block : block P (label P m) ≡ block P m = ap (block P) row ∙ (z.2).variable_block in
    let n = next_is P (label P m) less there in
    let l = next_of P (label P m) in
    let y = (known.table).next_in l (block P l) n.index n.name (record {
      outer = n.outer;
      value = n.value;
      within =
          n.within;
      block = refl;
      node = n.node;
    }) in
    let same : block P l ≡ block P m = sym (y.2).variable_block ∙ ap (block P) n.is ∙ of_block in
    let index : n.index ≡ k = omega (arith, n.is, row, same) in
    let other : IsNextOf (rows P) l (block P m) k n.name =
    record {
      outer = n.outer;
      value = n.value;
      within = n.within;
      block = same;
      node =
          n.node ∙ ap (λ j. Next n.name j n.outer n.value) index;
    } in
    record {
      row = row;
      within = less;
      is = there;
      of_block = of_block;
      right = (known.table).at_top (label P m) less (ap is_top there) ∙ ap top of_block;
      next = (known.table).one_next l m (block P m) k n.name x other mine;
    }

-- ---- the loop of switches, of a loop's row and of a `next`

-- the loop whose switches stand at the row w
pub record SwitchesOf (P : Checked) (w : ℕ) : Type 0 where
  pub loop : LoopOf P (block P w)
  pub switches : (loop.the).switches ≡ w
  pub right : region P w ≡ top (block P w)

pub switches_of : {P : Checked} (known : IsKnown P) {w t : ℕ} → w < length (rows P) → node P w ≡ Switches t
    → SwitchesOf P w
switches_of {P} known {w} {t} within is =
    let z = (known.table).switches_of w t within is in
    let x = loop_by known z.1 in
    record {
      loop = x;
      switches = sym (same_loop known z.1 x).switches ∙ z.2;
      right =
          (known.table).at_top w within (ap is_top is);
    }

-- the loop at the row n, of which the head is h, the switches are w and the last expression l, with what the switches
-- go by
pub record LoopIs (P : Checked) (n h w l : ℕ) : Type 0 where
  pub loop : LoopOf P h
  pub row : n ≡ end_of P h
  pub switches : (loop.the).switches ≡ w
  pub last : (loop.the).last ≡ l
  pub test : ℕ
  pub within : w < length (rows P)
  pub is : node P w ≡ Switches test
  pub of_block : block P w ≡ h
  pub right : region P w ≡ top h

pub loop_is : {P : Checked} (known : IsKnown P) {n h w l : ℕ} → Stands P n (Loop h w l) → LoopIs P n h w l
loop_is {P} known {n} {h} {w} {l} x =
    let c : IsLoopOf (rows P) n h = record { switches = w; last = l; within = x.within; node = x.node } in
    let z = loop_by known c in
    let same = same_loop known c z in
    let all = (known.table).loop_is n h c in
    record {
      loop = z;
      row = same.row;
      switches = sym same.switches;
      last = sym same.last;
      test = (all.test).test;
      within = subst (λ i. i < length (rows P)) (sym same.switches) (switches_within P known h z);
      is = (all.test).node;
      of_block = (all.test).block;
      right = (all.test).region;
    }

-- the loop round a `next`
pub record InLoop (P : Checked) (m : ℕ) : Type 0 where
  pub loop : LoopOf P (block P m)
  pub right : region P m ≡ arm_at (loop.the).switches true

pub in_loop : {P : Checked} (known : IsKnown P) {m x k o v : ℕ} → m < length (rows P) → node P m ≡ Next x k o v
    → InLoop P m
in_loop {P} known {m} {x} {k} {o} {v} within is =
    let z = (known.table).next_in m (block P m) k x (record {
      outer = o;
      value = v;
      within = within;
      block = refl;
      node = is;
    }) in
    let l = loop_by known z.1 in
    record { loop = l; right = (z.2).region ∙ ap (λ w. arm_at w true) (same_loop known z.1 l).switches }

-- ---- its start

-- the `Start` of a loop's head
pub start_of_head : {P : Checked} (known : IsKnown P) {h s : ℕ} → h < length (rows P) → node P h ≡ LoopHead s
    → (s < length (rows P)) × (node P s ≡ Start) × (s + 1 ≡ h)
start_of_head {P} known {h} {s} within is =
    let x = loop_of_head known within is in
    let both : LoopHead s ≡ LoopHead (h - 1) = sym is ∙ x.head in
    let same : s ≡ h - 1 = cc in
    let start = start_node P known h x in
    let before = start_before P known h x in
    (omega (arith, within, same), ap (node P) same ∙ start, omega (arith, same, before))

-- ---- the `next` statements and the entries by number

nexts_get : (P : Checked) (v n k : ℕ) → k < length (nexts_from P v n)
    → get_or (nexts_from P v n) k 0 ≡ next_of P (v + k)
nexts_get P v zero k less = absurd (omega (arith, less))
nexts_get P v (suc n) k less = go (is_variable (node P v)) k less (λ j l. nexts_get P (suc v) n j l)
  where
    go : (t : Truth) (k : ℕ) → k < length (cond t (next_of P v ∷ nexts_from P (suc v) n) [])
        → ((j : ℕ) → j < length (nexts_from P (suc v) n) → get_or (nexts_from P (suc v) n) j 0 ≡ next_of P (suc v + j))
        → get_or (cond t (next_of P v ∷ nexts_from P (suc v) n) []) k 0 ≡ next_of P (v + k)
    go true zero l rest = let same : v ≡ v + 0 = omega arith in ap (next_of P) same
    go true (suc j) l rest =
        let up : suc v + j ≡ v + suc j = omega arith in rest j (omega (arith, l)) ∙ ap (next_of P) up
    go false k l rest = absurd (omega (arith, l))

abbrev pub entry_of : ℕ → ℕ → ℕ → Entry
entry_of b n k = record { binder = b; row = n; part = k }

variable_entry : (v : ℕ) (ms : List ℕ) (k : ℕ) → k < length ms
    → slice_get (variable_entries v ms) k ≡ Some (entry_of (get_or ms k 0) (v + k) 0)
variable_entry v [] k less = absurd (omega (arith, less))
variable_entry v (m ∷ ms) zero less = let same : v ≡ v + 0 = omega arith in ap (λ z. Some (entry_of m z 0)) same
variable_entry v (m ∷ ms) (suc k) less =
    let up : v + 1 + k ≡ v + suc k = omega arith in
    variable_entry (v + 1) ms k (omega (arith, less)) ∙ ap (λ z. Some (entry_of (get_or ms k 0) z 0)) up

import_entry : (e j : ℕ) (bs : List ℕ) (k : ℕ) → k < length bs
    → slice_get (import_entries e j bs) k ≡ Some (entry_of (get_or bs k 0) e (j + k))
import_entry e j [] k less = absurd (omega (arith, less))
import_entry e j (b ∷ bs) zero less = let same : j ≡ j + 0 = omega arith in ap (λ z. Some (entry_of b e z)) same
import_entry e j (b ∷ bs) (suc k) less =
    let up : j + 1 + k ≡ j + suc k = omega arith in
    import_entry e (j + 1) bs k (omega (arith, less)) ∙ ap (λ z. Some (entry_of (get_or bs k 0) e z)) up

left_get : {A : Type 0} (xs ys : List A) (k : ℕ) (x : A) → slice_get xs k ≡ Some x → slice_get (xs ++ ys) k ≡ Some x
left_get [] ys k x e = absurd (none_some e)
left_get (z ∷ xs) ys zero x e = e
left_get (z ∷ xs) ys (suc k) x e = left_get xs ys k x e

-- behind what is carried on
past_carried : (cs : List ℕ) (qs : List Entry) (k : ℕ)
    → slice_get (map param_entry cs ++ qs) (length cs + k) ≡ slice_get qs k
past_carried [] qs k = let none : 0 + k ≡ k = omega arith in ap (slice_get qs) none
past_carried (c ∷ cs) qs k =
    let up : length (c ∷ cs) + k ≡ suc (length cs + k) = omega arith in
    ap (slice_get (map param_entry (c ∷ cs) ++ qs)) up ∙ past_carried cs qs k

past_get : (cs bs : List ℕ) (k : ℕ) → get_or (cs ++ bs) (length cs + k) 0 ≡ get_or bs k 0
past_get [] bs k = let none : 0 + k ≡ k = omega arith in ap (λ z. get_or bs z 0) none
past_get (c ∷ cs) bs k =
    let up : length (c ∷ cs) + k ≡ suc (length cs + k) = omega arith in
    ap (λ z. get_or (c ∷ (cs ++ bs)) z 0) up ∙ past_get cs bs k

-- of variables and imports the entry of an import
behind_entry : (v e : ℕ) (ms bs : List ℕ) (k : ℕ) → k < length bs
    → slice_get (variable_entries v ms ++ import_entries e 0 bs) (length ms + k) ≡ Some (entry_of (get_or bs k 0) e k)
behind_entry v e [] bs k less =
    let none : 0 + k ≡ k = omega arith in
    ap (slice_get (import_entries e 0 bs)) none ∙ import_entry e 0 bs k less
    ∙ ap (λ z. Some (entry_of (get_or bs k 0) e z)) none
behind_entry v e (m ∷ ms) bs k less =
    let up : suc (length ms) + k ≡ suc (length ms + k) = omega arith in
    ap (slice_get (entry_of m v 0 ∷ (variable_entries (v + 1) ms ++ import_entries e 0 bs))) up
    ∙ behind_entry (v + 1) e ms bs k less

map_get : (f : ℕ → ℕ) (ms bs : List ℕ) (k : ℕ) → k < length ms → get_or (map f ms ++ bs) k 0 ≡ f (get_or ms k 0)
map_get f [] bs k less = absurd (omega (arith, less))
map_get f (m ∷ ms) bs zero less = refl
map_get f (m ∷ ms) bs (suc k) less = map_get f ms bs k (omega (arith, less))

behind_get : (f : ℕ → ℕ) (ms bs : List ℕ) (k : ℕ) → get_or (map f ms ++ bs) (length ms + k) 0 ≡ get_or bs k 0
behind_get f [] bs k = let none : 0 + k ≡ k = omega arith in ap (λ z. get_or bs z 0) none
behind_get f (m ∷ ms) bs k =
    let up : suc (length ms) + k ≡ suc (length ms + k) = omega arith in
    ap (λ z. get_or (f m ∷ (map f ms ++ bs)) z 0) up ∙ behind_get f ms bs k

both_long : (f : ℕ → ℕ) (ms bs : List ℕ) → length (map f ms ++ bs) ≡ length ms + length bs
both_long f [] bs = omega arith
both_long f (m ∷ ms) bs = let rest = both_long f ms bs in omega (arith, rest)

-- the number of a `next` statement is its index, behind what its loop carries on
pub record Numbered (P : Checked) (m k : ℕ) : Type 0 where
  pub slot : ℕ
  pub is : k ≡ carries_on P (block P m) + slot
  pub less : slot < length (nexts_of P (block P m))
  pub there : get_or (nexts_of P (block P m)) slot 0 ≡ m

-- no variable stands where something is carried on
past_index : (P : Checked) (h s k : ℕ) → h < length (rows P) → node P h ≡ LoopHead s → node P (h + 1 + k) ≡ Variable
    → carries_on P h ≤ k
past_index P h s k within head is = by (has_index P h) refl
  where
    no : {j : Kind} (i : ℕ) → h + 1 + k ≡ i → node P i ≡ Carried j → carries_on P h ≤ k
    no {j} i same at = let bad : Variable ≡ Carried j = sym is ∙ ap (node P) same ∙ at in cc

    three : has_index P h ≡ true → (i : ℕ) → k ≡ i → carries_on P h ≤ k
    three has zero e = no (h + 1) (omega (arith, e)) (carried_rows P h s within head has).0
    three has (suc zero) e = no (h + 2) (omega (arith, e)) (carried_rows P h s within head has).1
    three has (suc (suc zero)) e = no (h + 3) (omega (arith, e)) (carried_rows P h s within head has).2
    three has (suc (suc (suc i))) e =
        let many : carries_on P h ≡ 3 = ap length (three_carried P h has) in omega (arith, many, e)

    by : (t : Truth) → has_index P h ≡ t → carries_on P h ≤ k
    by true has = three has k refl
    by false none = let nothing : carries_on P h ≡ 0 = ap length (none_carried P h none) in omega (arith, nothing)

pub next_numbered : {P : Checked} (known : IsKnown P) {m x k o v : ℕ} → m < length (rows P) → node P m ≡ Next x k o v
    → Numbered P m k
next_numbered {P} known {m} {x} {k} {o} {v} within is =
    let h = block P m in
    let r = variable_of known within is in
    let l = in_loop known within is in
    let head = (l.loop).head in
    let all = loop_rows P h (h - 1) (l.loop).within head in
    let up = (known.table).loop_of (label P m) r.within (ap is_in_loop r.is) in
    let end : up.0 ≡ end_of P h =
    sym (loop_same P known.table up.0 h (subst (IsLoopOf (rows P) up.0) r.of_block up.1)) in
    let inner : label P m + 1 < end_of P h =
    before_span (the_loop P h (h - 1) (l.loop).within head).last (omega (arith, up.2, end)) r.is (all.last_is).ends
    (all.last_is).span in
    let stand = all.stands (label P m) (omega (arith, r.row)) inner r.of_block in
    let early : (h < label P m) × (label P m < all.entries) = subst
    (λ z. StandsAt h all.entries (the_loop P h (h - 1) (l.loop).within head).switches all.turn all.body (end_of P h) z
    (label P m)) r.is stand in
    let is_entries = entries_are P h (h - 1) (l.loop).within head in
    let behind = past_index P h (h - 1) k (l.loop).within head (ap (node P) (sym r.row) ∙ r.is) in
    let slot = k - carries_on P h in
    let index : k ≡ carries_on P h + slot = omega (arith, behind) in
    let less : slot < length (nexts_of P h) = omega (arith, early.1, is_entries, r.row, behind) in
    let at : first_variable P h + slot ≡ label P m = omega (arith, r.row, behind) in
    record {
      slot = slot;
      is = index;
      less = less;
      there =
          nexts_get P (first_variable P h) (length (rows P)) slot less ∙ ap (next_of P) at ∙ r.next;
    }
  where
    before_span : {i n : ℕ} (l : ℕ) → i < n → node P i ≡ Variable → l + 3 ≡ n → node P (l + 2) ≡ Span → i + 1 < n
    before_span {i} {n} l less at ends span = elim (cases_lt (i + 1) n) [
      | inl low ↦ low
      | inr high ↦
          let same : i ≡ l + 2 = omega (arith, less, high, ends) in
          let bad : Variable ≡ Span = sym at ∙ ap (node P) same ∙ span in
          cc
    ]

-- ---- what goes to the entries of a loop

pub first_entering : (P : Checked) (h k : ℕ) → k < length (nexts_of P h)
    → get_or (entering P h) k 0 ≡ first_binder P (get_or (nexts_of P h) k 0)
first_entering P h k less = map_get (first_binder P) (nexts_of P h) (imports_of P h) k less

pub import_entering : (P : Checked) (h k : ℕ)
    → get_or (entering P h) (length (nexts_of P h) + k) 0 ≡ get_or (imports_of P h) k 0
import_entering P h k = behind_get (first_binder P) (nexts_of P h) (imports_of P h) k

pub entering_long : (P : Checked) (h : ℕ) → length (entering P h) ≡ length (nexts_of P h) + length (imports_of P h)
entering_long P h = both_long (first_binder P) (nexts_of P h) (imports_of P h)

-- the entries behind what it carries on
abbrev other_entries : Checked → ℕ → List Entry
other_entries P h =
    variable_entries (first_variable P h) (nexts_of P h) ++ import_entries (entries_row P h) 0 (imports_of P h)

pub first_entry : (P : Checked) (h k : ℕ) → k < length (nexts_of P h)
    → slice_get (loop_entries P h) (carries_on P h + k)
    ≡ Some (entry_of (get_or (nexts_of P h) k 0) (first_variable P h + k) 0)
first_entry P h k less =
    let v = first_variable P h in
    past_carried (carried P h) (other_entries P h) k
    ∙ left_get (variable_entries v (nexts_of P h)) (import_entries (entries_row P h) 0 (imports_of P h)) k _
    (variable_entry v (nexts_of P h) k less)

pub taken_entry : (P : Checked) (h k : ℕ) → k < length (imports_of P h)
    → slice_get (loop_entries P h) (carries_on P h + (length (nexts_of P h) + k))
    ≡ Some (entry_of (get_or (imports_of P h) k 0) (entries_row P h) k)
taken_entry P h k less =
    past_carried (carried P h) (other_entries P h) (length (nexts_of P h) + k)
    ∙ behind_entry (first_variable P h) (entries_row P h) (nexts_of P h) (imports_of P h) k less

-- ---- what feeds the rows of a loop

-- what feeds the sends of a `Start`
pub entering_fed : {P : Checked} (known : IsKnown P) {s k : ℕ} → s < length (rows P) → node P s ≡ Start
    → k < length (entering P (s + 1)) → Feeds P (output s) s (suc (carries_on P (s + 1) + k)) Zero
    × Feeds P (name_in P (region P s) (get_or (entering P (s + 1)) k 0)) s (suc (carries_on P (s + 1) + k)) One
entering_fed {P} known {s} {k} within is less = (one (output s) Zero both.0, one (name_in P (region P s) b) One both.1)
  where
    c : ℕ
    c = carries_on P (s + 1)

    b : ℕ
    b = get_or (entering P (s + 1)) k 0

    rest : List Feed
    rest = import_feeds P (output s) (region P s) (1 + c) (entering P (s + 1))

    both : Among (feed (output s) ((1 + c) + k) Zero) rest
        × Among (feed (name_in P (region P s) b) ((1 + c) + k) One) rest
    both = import_listed P (output s) (region P s) (1 + c) (entering P (s + 1)) k less

    one : (t : Origin) (p : Port) → Among (feed t ((1 + c) + k) p) rest → Feeds P t s (suc (c + k)) p
    one t p among =
        let at : (1 + c) + k ≡ suc (c + k) = omega arith in
        fed_as P known t s (suc (c + k)) p Start within is
        (inr (Among-right (feed t (suc (c + k)) p) (bounds_feeds P s (node P (s - 1))) rest
        (subst (λ z. Among (feed t z p) rest) at among)))

turn_listed : (P : Checked) (r : Region) (j : ℕ) (bs : List ℕ) (k : ℕ) → k < length bs
    → Among (feed (name_in P r (get_or bs k 0)) (j + k) Zero) (turn_feeds P r j bs)
turn_listed P r j [] k less = absurd (omega (arith, less))
turn_listed P r j (b ∷ bs) zero less = let at : j + 0 ≡ j = omega arith in inl (λ i. feed (name_in P r b) (at i) Zero)
turn_listed P r j (b ∷ bs) (suc k) less =
    let at : (j + 1) + k ≡ j + suc k = omega arith in
    subst (λ m. Among (feed (name_in P r (get_or bs k 0)) m Zero) (turn_feeds P r j (b ∷ bs))) at
    (inr (turn_listed P r (j + 1) bs k (omega (arith, less))))

abbrev turn_part : ℕ → ℕ → Origin
turn_part n k = record { row = n; part = k; side = true }

entry_listed : (n i j : ℕ) (bs : List ℕ) (k : ℕ) → k < length bs
    → Among (feed (turn_part n (i + k)) (j + k) Zero) (entry_feeds n i j bs)
entry_listed n i j [] k less = absurd (omega (arith, less))
entry_listed n i j (b ∷ bs) zero less =
    let at : i + 0 ≡ i = omega arith in
    let there : j + 0 ≡ j = omega arith in
    inl (λ z. feed (turn_part n (at z)) (there z) Zero)
entry_listed n i j (b ∷ bs) (suc k) less =
    let at : (i + 1) + k ≡ i + suc k = omega arith in
    let there : (j + 1) + k ≡ j + suc k = omega arith in
    subst (λ (z : ℕ × ℕ). Among (feed (turn_part n z.0) z.1 Zero) (entry_feeds n i j (b ∷ bs))) {x =
    ((i + 1) + k, (j + 1) + k)}
    {y = (i + suc k, j + suc k)} (λ z. (at z, there z))
    (inr (entry_listed n (i + 1) (j + 1) bs k (omega (arith, less))))

-- what a loop hands on to its next iteration: the rows that do so, and what feeds them
module _ {P : Checked} (known : IsKnown P) {h : ℕ} (x : LoopOf P h) where
  abbrev pub turn : ℕ
  turn = turn_row P h

  abbrev pub taken_at : ℕ → ℕ
  taken_at j = get_or (imports_of P h) j 0

  abbrev turn_block : block P turn ≡ h
  turn_block = turn_in P known h x

  pub turn_does : Does P turn 0 (Plain (op.Next Signal))
  turn_does = moves_on (turn_node P known h x)

  abbrev pub more : ℕ
  more = carries_on P h

  pub turn_name_does : (j : ℕ) → j < length (imports_of P h)
      → Does P turn (suc (more + j)) (Plain (op.Next (port_at P (taken_at j))))
  turn_name_does j less =
      subst (λ b. Does P turn (suc (more + j)) (Plain (op.Next (port_at P b))))
      (past_get (carried P h) (imports_of P h) j)
      (subst (λ g. more + j < length (turned P g)
      → Does P turn (suc (more + j)) (Plain (op.Next (port_at P (get_or (turned P g) (more + j) 0))))) turn_block
      (λ l. moves_name (more + j) (turn_node P known h x) l) (behind_turned P h j less))

  pub turn_fed : Feeds P (trigger_of (arm_at (x.the).switches true)) turn 0 Zero
  turn_fed = subst (λ r. Feeds P (trigger_of r) turn 0 Zero) (turn_region P known h x)
      (fed_as P known (trigger_of (region P turn)) turn 0 Zero Turn (turn_within P known h x) (turn_node P known h x)
      (inl refl))

  pub turn_name_fed : (j : ℕ) → j < length (imports_of P h)
      → Feeds P (name_in P (arm_at (x.the).switches true) (taken_at j)) turn (suc (more + j)) Zero
  turn_name_fed j less =
      let at : (1 + more) + j ≡ suc (more + j) = omega arith in
      let s = name_in P (region P turn) (taken_at j) in
      let rest = turn_feeds P (region P turn) (1 + more) (imports_of P h) in
      let here : Among (feed s (suc (more + j)) Zero) rest =
      subst (λ z. Among (feed s z Zero) rest) at (turn_listed P (region P turn) (1 + more) (imports_of P h) j less) in
      let all : Among (feed s (suc (more + j)) Zero) (carried_feeds P turn (region P turn) h ++ rest) =
      Among-right (feed s (suc (more + j)) Zero) (carried_feeds P turn (region P turn) h) rest here in
      let there : Among (feed s (suc (more + j)) Zero) (feeds_of P turn (region P turn) Turn) =
      inr (subst (λ g. Among (feed s (suc (more + j)) Zero)
      (carried_feeds P turn (region P turn) g ++ turn_feeds P (region P turn) (1 + carries_on P g) (imports_of P g)))
      (sym turn_block) all) in
      subst (λ r. Feeds P (name_in P r (taken_at j)) turn (suc (more + j)) Zero) (turn_region P known h x)
      (fed_as P known s turn (suc (more + j)) Zero Turn (turn_within P known h x) (turn_node P known h x) there)

  pub head_fed : Feeds P (output turn) h 0 Zero
  head_fed = fed_as P known (output turn) h 0 Zero (LoopHead (h - 1)) x.within x.head (inl refl)

  abbrev pub entry : ℕ
  entry = entries_row P h

  pub entry_within : entry < length (rows P)
  entry_within = entries_within P h (h - 1) x.within x.head

  pub entry_block : block P entry ≡ h
  entry_block = (entries_stand P h (h - 1) x.within x.head entry (omega arith) (omega arith)).0

  pub entry_region : region P entry ≡ top h
  entry_region = (entries_stand P h (h - 1) x.within x.head entry (omega arith) (omega arith)).1

  pub entry_node : node P entry ≡ Entries
  entry_node = entries_node P h (h - 1) x.within x.head

  pub entry_does : (j : ℕ) → j < length (imports_of P h) → Does P entry j (Plain (op.Merge (port_at P (taken_at j))))
  entry_does j less =
      subst (λ g. j < length (imports_of P g)
      → Does P entry j (Plain (op.Merge (port_at P (get_or (imports_of P g) j 0))))) entry_block
      (λ l. takes_in j entry_node l) less

  pub entry_fed : (j : ℕ) → j < length (imports_of P h) → Feeds P (turn_part turn (suc (more + j))) entry j Zero
  entry_fed j less =
      let at : 0 + j ≡ j = omega arith in
      let up : (1 + more) + j ≡ suc (more + j) = omega arith in
      let here : Among (feed (turn_part turn (suc (more + j))) j Zero)
      (entry_feeds turn (1 + more) 0 (imports_of P h)) =
      subst (λ (z : ℕ × ℕ). Among (feed (turn_part turn z.0) z.1 Zero) (entry_feeds turn (1 + more) 0 (imports_of P h)))
      {x = ((1 + more) + j, 0 + j)}
      {y = (suc (more + j), j)}
      (λ i. (up i, at i))
      (entry_listed turn (1 + more) 0 (imports_of P h) j less) in
      fed_as P known (turn_part turn (suc (more + j))) entry j Zero Entries entry_within entry_node
      (subst (λ g. Among (feed (turn_part turn (suc (more + j))) j Zero)
      (entry_feeds (turn_row P g) (1 + carries_on P g) 0 (imports_of P g)))
      (sym entry_block) here)

  -- its switches have its imports behind the upper bound of its index and its variables
  pub switches_hand : imports_of P (x.the).switches ≡ bound_of P h ++ (nexts_of P h ++ imports_of P h)
  switches_hand =
      ap (handed P (x.the).switches) ((x.all).test).node
      ∙ ap (λ g. bound_of P g ++ (nexts_of P g ++ taken P g)) ((x.all).test).block
      ∙ ap (λ z. bound_of P h ++ (nexts_of P h ++ z)) (sym (ap (handed P h) x.head))

  pub among_handed : (b : ℕ) → Among b (imports_of P h) → Among b (imports_of P (x.the).switches)
  among_handed b among =
      subst (Among b) (sym switches_hand)
      (Among-right b (bound_of P h) (nexts_of P h ++ imports_of P h)
      (Among-right b (nexts_of P h) (imports_of P h) among))

  -- so the side of its body sees what it imports
  pub turn_sees : {w t b : ℕ} → (x.the).switches ≡ w → w < length (rows P) → node P w ≡ Switches t → region P w ≡ top h
      → Among b (imports_of P h) → Sees P b (arm_at w true)
  turn_sees {w} {t} {b} same within is right among =
      let seen = entered x.within x.head among (known.loop_imports h (h - 1) x.within x.head b among).2 in
      by_switches within (turns is) (subst (λ z. Among b (imports_of P z)) same (among_handed b among))
      (subst (Sees P b) (sym right) seen)
