-- The first instruction of a binder is a label, where it is for values of the source.
use Rattle.std.proofs.Common.{◌≡◌, ℕ, zero, suc, ◌<◌, length, ◌==◌, ◌&&◌, not, Bool as Truth, true, false, cond, Option}
use Rattle.std.proofs.Common.{Some, List, [], ◌∷◌, slice_get, refl}
use Rattle.std.proofs.Common.{sym, ◌∙◌, ap, arith}
use Rattle.std.specs.List.{count_by}
use Rattle.std.specs.Option.{option_map_or}
use Rattle.std.proofs.lemmas.Bool.{eqb-true}
use Rattle.std.proofs.lemmas.List.Sums.{sum_by-cons}
use Rattle.id_table.specs.declared.row.Node.{Node}
use Rattle.id_table.specs.declared.row.Node.TheVariants.{Head, Param, Binding, LoopHead, Entries, Switches, Start}
use Rattle.id_table.specs.declared.row.Node.TheVariants.{Reset, Next, Variable}
use Rattle.id_table.specs.declared.row.Node.TheVariants.{Bounds, Carried, Count, Index}
use Rattle.id_table.specs.Tables.{begins_block, is_binder, is_thing}
use Rattle.id_table.specs.Turns.{IsDefOf}
use Rattle.id_check.specs.declared.checked.Checked.{Checked}
use Rattle.id_check.specs.Programs.{place, rows}
use Rattle.id_instr.specs.declared.instr.Instr.{Instr}
use Rattle.id_instr.specs.declared.instr.Op.TheVariants as op
use Rattle.id_instr.specs.Graph.{Parts}
use Rattle.id_valid.specs.Validator.{is_value}
use Rattle.id_core.specs.Observed as shown
use Rattle.id_build.specs.declared.arc.Form.TheVariants.{Plain}
use Rattle.id_build.specs.Rows.{block, label, label_by, node, op_by, port_at}
use Rattle.id_build.specs.Schemas.{Numbered, Made, IsNumber}
use Rattle.id_laws.specs.Activations.{main_head, Begins, of_call, of_loop, Tests, of_arms, of_turns}
use Rattle.id_laws.specs.Topics.{of_fetch, of_store, IsPart}
use Rattle.id_laws.proofs.Rows.Stores.{address_at}
use Rattle.id_laws.proofs.Rows.Assumed.{IsKnown}
use Rattle.id_laws.proofs.Rows.Arcs.{Does, starts, returns, enters, constant, unary, binary, turns_on, hands, joins}
use Rattle.id_laws.proofs.Rows.Arcs.{names, answers, doing, makes, part_of}
use Rattle.id_laws.proofs.Rows.Arcs.{place_shown, opens, passes, gets}
use Rattle.id_laws.proofs.Rows.Arcs.{sends_in, gives_back, varies, takes_in, moves_on, moves_name, advances, resets}
use Rattle.id_laws.proofs.Rows.Arcs.{gets_last, allocates, addresses, fetches, gets_reply, stores}
use Rattle.id_laws.proofs.Rows.Arcs.{bounds_meet, begins_index, carries, meets_bound, goes_further, hands_index}
use Rattle.id_laws.proofs.Rows.Arcs.{has_one, adds_one}
use Rattle.id_laws.proofs.Labelling.LabelsBind.{CarriedAs, of_index, of_loop_itself, bounds_at_loop, carried_as}
use Rattle.id_laws.proofs.Labelling.LabelsBind.{claims_place, count_place}
use Rattle.id_laws.proofs.Rows.LoopRows.{LoopPlace, LabelAt, label_at, variable_at, head_place, start_place}
use Rattle.id_laws.proofs.Rows.LoopRows.{entries_place, switches_place, reset_place}
use Rattle.id_build.specs.declared.arc.Form.{Form}
use Rattle.id_laws.proofs.Rows.Calls.{CallAt, ArgAt, call_at, arg_at, arg_place}
use Rattle.id_desugar.specs.Ends.{end_of, next_of}

-- ---- where one of a list passes

abbrev one_if : Truth → ℕ
one_if b = cond b 1 0

none_counts : {A : Type 0} (f : A → Truth) (xs : List A) → ((n : ℕ) (x : A) → slice_get xs n ≡ Some x → f x ≡ true → ⊥)
    → count_by f xs ≡ 0
none_counts f [] none = refl
none_counts {A} f (x ∷ xs) none = go (f x) refl (none_counts f xs (λ n. none (suc n)))
  where
    go : (b : Truth) → f x ≡ b → count_by f xs ≡ 0 → count_by f (x ∷ xs) ≡ 0
    go true e rest = absurd (none 0 x refl e)
    go false e rest = omega (arith, sum_by-cons (λ y. one_if (f y)) x xs, ap one_if e)

-- one that passes, where no other does
pub one_counts : {A : Type 0} (f : A → Truth) (xs : List A) (n : ℕ) (x : A) → slice_get xs n ≡ Some x → f x ≡ true
    → ((m : ℕ) (y : A) → slice_get xs m ≡ Some y → f y ≡ true → m ≡ n) → count_by f xs ≡ 1
one_counts f [] n x at e alone = cc
one_counts f (y ∷ xs) zero x at e alone =
    let is : y ≡ x = cc in
    let here : one_if (f y) ≡ 1 = ap (λ z. one_if (f z)) is ∙ ap one_if e in
    omega (
      arith,
      sum_by-cons (λ z. one_if (f z)) y xs,
      none_counts f xs (λ m z at' e'. let bad : suc m ≡ 0 = alone (suc m) z at' e' in absurd (omega arith)),
    )
one_counts {A} f (y ∷ xs) (suc n) x at e alone = go (f y) refl
    (one_counts f xs n x at e (λ m z at' e'. let next : suc m ≡ suc n = alone (suc m) z at' e' in omega arith))
  where
    go : (b : Truth) → f y ≡ b → count_by f xs ≡ 1 → count_by f (y ∷ xs) ≡ 1
    go true k rest = let bad : 0 ≡ suc n = alone 0 y refl k in absurd (omega arith)
    go false k rest = omega (arith, sum_by-cons (λ z. one_if (f z)) y xs, ap one_if k)

some_is : {A : Type 0} {x y : A} → Some x ≡ Some y → x ≡ y
some_is h = cc

true_false : true ≡ false → ⊥
true_false h = cc

-- a binder is a thing, and no definition
pub binds_thing : (m : Node) → is_binder m ≡ true → is_thing m ≡ true
binds_thing (Param x k) h = refl
binds_thing (Binding x a) h = refl
binds_thing (Next x k o v) h = refl
binds_thing (Index x) h = refl
binds_thing _ h = absurd (true_false (sym h))

-- what claims a place has it, and is no `next`
pub claims_are : (p : ℕ) (i : Instr) → shown.claims p i ≡ true → (i.place ≡ p) × (shown.is_next i.op ≡ false)
claims_are p i e = go (i.place == p) (shown.is_next i.op) refl refl e
  where
    go : (t u : Truth) → (i.place == p) ≡ t → shown.is_next i.op ≡ u → (t && not u) ≡ true
        → (i.place ≡ p) × (shown.is_next i.op ≡ false)
    go true false at next h = (eqb-true i.place p at, next)
    go true true at next h = absurd (true_false (sym h))
    go false u at next h = absurd (true_false (sym h))

module _ (P : Checked) (known : IsKnown P) (g : Parts) (number : ℕ → ℕ → ℕ) (numbered : Numbered P g number) where
  -- no definition has the place of a binder
  def_elsewhere : (n h b : ℕ) → IsDefOf (rows P) n h → b < length (rows P) → is_binder (node P b) ≡ true
      → place P n ≡ place P b → ⊥
  def_elsewhere n h b d within binds same =
      let one = (known.apart).apart n b d.within within (ap is_thing d.node) (binds_thing (node P b) binds) same in
      true_false (sym binds ∙ ap (λ z. is_binder (node P z)) (sym one) ∙ ap is_binder d.node)

  -- what is made at the place of a binder, and is no `next`, is its label
  made_there : (b : ℕ) → b < length (rows P) → is_binder (node P b) ≡ true → (n part : ℕ) (o : Form)
      → n < length (rows P) → Does P n part o → shown.is_next (op_by number o) ≡ false
      → place_shown P (place P n) (node P n) ≡ place P b → (n ≡ label P b) × (part ≡ 0)
  made_there b inside binds n part o within does still same = by does still
    where
      here : (m : Node) → node P n ≡ m → is_thing m ≡ true → place_shown P (place P n) m ≡ place P n
          → label_by (block P n) n m ≡ n → n ≡ label P b
      here m is thing shows own =
          let one = (known.apart).apart n b within inside (ap is_thing is ∙ thing) (binds_thing (node P b) binds)
          (sym shows ∙ ap (place_shown P (place P n)) (sym is) ∙ same) in
          sym (ap (label_by (block P n) n) is ∙ own) ∙ ap (label P) one

      -- a loop's variable has the place of its `next`, whose label it is
      at_variable : node P n ≡ Variable → n ≡ label P b
      at_variable is =
          let z = variable_at P n within is in
          let there = (label_at P (next_of P n) z.within z.binds).place in
          let one =
          (known.apart).apart (next_of P n) b z.within inside (binds_thing (node P (next_of P n)) z.binds)
          (binds_thing (node P b) binds)
          (sym there ∙ ap (place P) z.is ∙ ap (place_shown P (place P n)) (sym is) ∙ same) in
          sym z.is ∙ ap (label P) one

      -- so has the entry of an index
      at_index : place P n ≡ place P b → CarriedAs P n → (LoopPlace P n → ⊥) → n ≡ label P b
      at_index here_is (of_index i x low is own) other =
          let there = (label_at P i low (ap is_binder is)).place in
          let one =
          (known.apart).apart i b low inside (binds_thing (node P i) (ap is_binder is)) (binds_thing (node P b) binds)
          (sym there ∙ ap (place P) own ∙ here_is) in
          sym own ∙ ap (label P) one
      at_index here_is (of_loop_itself x) other = absurd (other x)

      at_head : node P n ≡ Head → ⊥
      at_head is =
          let d = (known.table).has_def n within is in
          def_elsewhere d.0 n b d.1 inside binds (sym (known.head_place d.0 n d.1)
          ∙ ap (place_shown P (place P n)) (sym is) ∙ same)

      -- the markers of a loop have its place
      at_loop : (m : Node) → node P n ≡ m → place_shown P (place P n) m ≡ place P n → LoopPlace P n → ⊥
      at_loop m is shows x =
          let c = x.loop in
          let one = (known.apart).apart x.row b c.within inside (ap is_thing c.node) (binds_thing (node P b) binds)
          (sym x.place ∙ sym shows ∙ ap (place_shown P (place P n)) (sym is) ∙ same) in
          true_false (sym binds ∙ ap (λ m. is_binder (node P m)) (sym one) ∙ ap is_binder c.node)

      at_start : (m : Node) → node P n ≡ m → begins_block m ≡ true → ⊥
      at_start Head is begins = at_head is
      at_start (LoopHead s) is begins = at_loop (LoopHead s) is refl (head_place P n s within is)
      at_start _ is begins = true_false (sym begins)

      -- the switches of a conditional have its place
      at_split : {t : ℕ} → Tests P n t → ⊥
      at_split {t} (of_arms is) =
          let c = (known.table).has_if n t within is in
          let d = c.1 in
          let z = (known.table).split_of c.0 n d in
          let one = (known.apart).apart c.0 b d.within inside (ap is_thing d.node) (binds_thing (node P b) binds)
          (sym z.place ∙ ap (place_shown P (place P n)) (sym is) ∙ same) in
          true_false (sym binds ∙ ap (λ m. is_binder (node P m)) (sym one) ∙ ap is_binder d.node)
      at_split {t} (of_turns is) = at_loop (Switches t) is refl (switches_place P n t within is)

      -- an `enter` and the `send`s of a call have its place
      at_enter : {e : ℕ} → CallAt P e → place P e ≡ place P b → ⊥
      at_enter {e} c at =
          let one =
          (known.apart).apart (end_of P e) b c.within inside (ap is_thing c.node) (binds_thing (node P b) binds)
          (sym c.place ∙ at) in
          true_false (sym binds ∙ ap (λ m. is_binder (node P m)) (sym one) ∙ ap is_binder c.node)

      at_begin : {h q : ℕ} → Begins P n h q → ⊥
      at_begin (of_call is) = at_enter (call_at known within is) (ap (place_shown P (place P n)) (sym is) ∙ same)
      at_begin (of_loop is) = at_loop Start is refl (start_place P n within is)

      -- no other thing has it
      at_thing : (k : ℕ) (m : Node) → k < length (rows P) → node P k ≡ m → is_thing m ≡ true → is_binder m ≡ false
          → place P k ≡ place P b → ⊥
      at_thing k m low is thing plain at =
          let one = (known.apart).apart k b low inside (ap is_thing is ∙ thing) (binds_thing (node P b) binds) at in
          true_false (sym binds ∙ ap (λ j. is_binder (node P j)) (sym one) ∙ ap is_binder is ∙ plain)

      at_arg : {m e v : ℕ} → ArgAt P m e v → place P m ≡ place P e → place P m ≡ place P b → ⊥
      at_arg x with_enter at = at_enter (call_at known x.enter_within x.enter) (sym with_enter ∙ at)

      by : {j : ℕ} {q : Form} → Does P n j q → shown.is_next (op_by number q) ≡ false → (n ≡ label P b) × (j ≡ 0)
      by (starts is) other = absurd (at_start (node P n) refl is)
      by (returns is) other = absurd (at_head is)
      by (enters is) other = (here _ is refl refl refl, refl)
      by (constant is) other = (here _ is refl refl refl, refl)
      by (unary is) other = (here _ is refl refl refl, refl)
      by (binary is) other = (here _ is refl refl refl, refl)
      by (turns_on is) other = absurd (at_split is)
      by (hands k is less) other = absurd (at_split is)
      by (joins is) other = (here _ is refl refl refl, refl)
      by (opens is) other = absurd (at_begin is)
      by (passes is) other =
          absurd (at_arg (arg_at known within is) (arg_place known within is) (ap (place_shown P (place P n)) (sym is)
          ∙ same))
      by (gets is) other = (here _ is refl refl refl, refl)
      by (names is) other = (here _ is refl refl refl, refl)
      by (sends_in k q is at) other = absurd (at_loop Start is refl (start_place P n within is))
      by (gives_back {s = s} is) other = absurd (at_start (LoopHead s) is refl)
      by (varies is) other = (at_variable is, refl)
      by (takes_in k is less) other = absurd (at_loop Entries is refl (entries_place P n within is))
      by (moves_on is) other = absurd (true_false other)
      by (moves_name k is less) other = absurd (true_false other)
      by (advances is) other = absurd (true_false other)
      by (resets {v = v} is) other = absurd (at_loop (Reset v) is refl (reset_place P n v within is))
      by (gets_last is) other = (here _ is refl refl refl, refl)
      by (allocates is) other = (here _ is refl refl refl, refl)
      by (addresses (of_fetch is)) other =
          absurd (at_thing n _ within is refl refl (ap (place_shown P (place P n)) (sym is) ∙ same))
      by (addresses {t = t} {i = i} (of_store is)) other =
          let z = (known.table).has_store n t i within is in
          let c = z.1 in
          absurd (at_thing z.0 _ c.within c.node refl refl (sym (address_at known c.within c.node).place
          ∙ ap (place_shown P (place P n)) (sym is) ∙ same))
      by (fetches is) other = absurd (at_thing n _ within is refl refl (ap (place_shown P (place P n)) (sym is) ∙ same))
      by (gets_reply is) other =
          absurd (at_thing n _ within is refl refl (ap (place_shown P (place P n)) (sym is) ∙ same))
      by (stores is) other = absurd (at_thing n _ within is refl refl (ap (place_shown P (place P n)) (sym is) ∙ same))
      by (bounds_meet {a = e} {b = f} is) other = absurd (at_loop (Bounds e f) is refl (bounds_at_loop known within is))
      by (begins_index {a = e} {b = f} is) other =
          absurd (at_loop (Bounds e f) is refl (bounds_at_loop known within is))
      by (carries {k = k} is) other = (
        at_index (ap (place_shown P (place P n)) (sym is) ∙ same) (carried_as known within is)
            (at_loop (Carried k) is refl),
        refl,
      )
      by (meets_bound is) other = absurd (at_loop Count is refl (count_place known within is))
      by (goes_further is) other = absurd (at_loop Count is refl (count_place known within is))
      by (hands_index is) other = absurd (at_loop Count is refl (count_place known within is))
      by (has_one is) other = absurd (at_loop Count is refl (count_place known within is))
      by (adds_one is) other = absurd (at_loop Count is refl (count_place known within is))
      by (answers is) other =
          absurd (def_elsewhere P.main (main_head P) b known.main inside binds (ap (place_shown P (place P n)) (sym is)
          ∙ same))

  module _ (b : ℕ) (within : b < length (rows P)) (binds : is_binder (node P b) ≡ true) where
    label_row : LabelAt P b
    label_row = label_at P b within binds

    pub label_part : IsPart P (label P b) 0
    label_part = part_of label_row.within label_row.does

    pub label_made : Made g number (number (label P b) 0) (Plain (op.Merge (port_at P b)))
        (place_shown P (place P (label P b)) (node P (label P b)))
    label_made = numbered.made (label P b) 0 (Plain (op.Merge (port_at P b))) _ (makes label_row.within label_row.does)

    made_place : place_shown P (place P (label P b)) (node P (label P b)) ≡ place P b
    made_place = label_row.shows ∙ label_row.place

    -- it has the binder's place
    pub label_place : shown.place_of g (number (label P b) 0) ≡ place P b
    label_place =
        ap (λ (o : Option Instr). option_map_or (λ (i : Instr). i.place) o 0) label_made.at ∙ label_made.place
        ∙ made_place

    -- and it is a label, where it is for values
    pub label_is : is_value (port_at P b) ≡ true → shown.is_label g (number (label P b) 0) ≡ true
    label_is merges =
        let m = label_made in
        let i = m.instr in
        let place_is : i.place ≡ place P b = m.place ∙ made_place in
        let one =
        one_counts (shown.claims i.place) g.instrs (number (label P b) 0) i m.at
        (claims_place i.place i refl (ap shown.is_next m.op))
        (λ n j at e.
        let k : IsNumber P number n = numbered.only n j at in
        let d = doing k.makes in
        let z = numbered.made k.row k.part k.form k.place k.makes in
        let claim = claims_are i.place j e in
        let same : z.instr ≡ j = some_is (sym z.at ∙ ap (slice_get g.instrs) k.is ∙ at) in
        let there : place_shown P (place P k.row) (node P k.row) ≡ place P b =
        sym d.place_is ∙ sym z.place ∙ ap (λ (x : Instr). x.place) same ∙ claim.0 ∙
        place_is in
        let still : shown.is_next (op_by number k.form) ≡ false =
        ap shown.is_next (sym z.op) ∙ ap (λ (x : Instr). shown.is_next x.op) same ∙ claim.1 in
        let here = made_there b within binds k.row k.part k.form (k.makes).within d.does still there in
        sym k.is ∙ (λ t. number (here.0 t) (here.1 t))) in
        ap (shown.is_label_of g) m.at ∙ (λ t. shown.is_value_merge (m.op t) && (one t == 1))
        ∙ ap (λ t. t && true) merges
