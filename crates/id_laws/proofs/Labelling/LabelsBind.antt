-- The labels of a schemas' graph are the instructions of binders.
use Rattle.std.proofs.Common.{◌≡◌, ℕ, zero, suc, ◌+◌, ◌-◌, ◌≤◌, ◌<◌, length, ◌==◌, ◌&&◌, not, Bool as Truth, true}
use Rattle.std.proofs.Common.{false}
use Rattle.std.proofs.Common.{cond, Some, List, [], ◌∷◌, slice_get, refl, sym}
use Rattle.std.proofs.Common.{◌∙◌, ap, arith}
use Rattle.id_value.specs.declared.Kind.{Kind}
use Rattle.std.specs.List.{count_by}
use Rattle.std.proofs.lemmas.Bool.Decides.{nat_tests}
use Rattle.std.proofs.lemmas.List.Sums.{sum_by-cons}
use Rattle.id_table.specs.declared.row.Node.{Node}
use Rattle.id_table.specs.declared.row.Node.TheVariants.{Head, Param, Split, If, Program, Enter, Call, Binding, Start}
use Rattle.id_table.specs.declared.row.Node.TheVariants.{LoopHead, Entries, Loop, Fetch}
use Rattle.id_table.specs.declared.row.Node.TheVariants.{Bounds, Carried, Count, Index}
use Rattle.id_table.specs.Tables.{begins_block, is_binder}
use Rattle.id_table.specs.Loops.{IsLoopOf, index_row}
use Rattle.id_check.specs.declared.checked.Checked.{Checked}
use Rattle.id_check.specs.Programs.{place, rows}
use Rattle.id_instr.specs.declared.instr.Instr.{Instr}
use Rattle.id_instr.specs.declared.instr.Op.{Op}
use Rattle.id_instr.specs.declared.instr.Op.TheVariants as op
use Rattle.id_instr.specs.Graph.{Parts}
use Rattle.id_core.specs.Observed as shown
use Rattle.id_build.specs.Rows.{block, label, label_by, node, op_by}
use Rattle.id_build.specs.Schemas.{Numbered, Made}
use Rattle.id_desugar.specs.Ends.{end_of, next_of}
use Rattle.id_laws.specs.Activations.{main_head, of_arms, of_call, of_loop}
use Rattle.id_laws.specs.Topics.{of_fetch, IsPart}
use Rattle.id_laws.proofs.Rows.Assumed.{IsKnown}
use Rattle.id_laws.proofs.Rows.Arcs.{Does, starts, returns, enters, constant, unary, binary, turns_on, hands, joins}
use Rattle.id_laws.proofs.Rows.Arcs.{names, answers, doing, makes, part_of}
use Rattle.id_laws.proofs.Rows.Arcs.{place_shown, opens, passes, gets}
use Rattle.id_laws.proofs.Rows.Arcs.{sends_in, gives_back, varies, takes_in, moves_on, moves_name, advances, resets}
use Rattle.id_laws.proofs.Rows.Arcs.{gets_last, allocates, addresses, fetches, gets_reply, stores}
use Rattle.id_laws.proofs.Rows.Arcs.{bounds_meet, begins_index, carries, meets_bound, goes_further, hands_index}
use Rattle.id_laws.proofs.Rows.Arcs.{has_one, adds_one}
use Rattle.id_laws.proofs.Rows.LoopRows.{LoopPlace, entries_place, loop_marks, variable_at}
use Rattle.id_laws.proofs.Rows.Loops.{LoopOf, bounds_place, carried_loop, count_at, count_loop, counted_of, has_three}
use Rattle.id_laws.proofs.Rows.Loops.{index_at, index_within, loop_by, loop_of_row}
use Rattle.id_laws.proofs.Rows.Conditionals.{conditional}
use Rattle.id_laws.proofs.Rows.Tokens.{one_part}
use Rattle.id_build.specs.declared.arc.Form.{Form}
use Rattle.id_laws.proofs.Rows.Calls.{call_at, enter_at}

-- ---- counts

abbrev one_if : Truth → ℕ
one_if b = cond b 1 0

pub one_at : {A : Type 0} (p : A → Truth) (xs : List A) (i : ℕ) (x : A) → slice_get xs i ≡ Some x → p x ≡ true
    → 1 ≤ count_by p xs
one_at p [] i x at e = cc
one_at p (y ∷ xs) zero x at e =
    let is : y ≡ x = cc in
    let here : one_if (p y) ≡ 1 = ap (λ z. one_if (p z)) is ∙ ap one_if e in
    omega (arith, sum_by-cons (λ z. one_if (p z)) y xs)
one_at p (y ∷ xs) (suc i) x at e = omega (arith, sum_by-cons (λ z. one_if (p z)) y xs, one_at p xs i x at e)

-- two places whose things pass the test count as two
pub two_at : {A : Type 0} (p : A → Truth) (xs : List A) (i j : ℕ) (x y : A) → slice_get xs i ≡ Some x
    → slice_get xs j ≡ Some y → (i ≡ j → ⊥) → p x ≡ true → p y ≡ true → 2 ≤ count_by p xs
two_at p [] i j x y at at' differ e f = cc
two_at p (z ∷ xs) zero zero x y at at' differ e f = absurd (differ refl)
two_at p (z ∷ xs) zero (suc j) x y at at' differ e f =
    let is : z ≡ x = cc in
    let here : one_if (p z) ≡ 1 = ap (λ w. one_if (p w)) is ∙ ap one_if e in
    omega (arith, sum_by-cons (λ w. one_if (p w)) z xs, one_at p xs j y at' f)
two_at p (z ∷ xs) (suc i) zero x y at at' differ e f =
    let is : z ≡ y = cc in
    let here : one_if (p z) ≡ 1 = ap (λ w. one_if (p w)) is ∙ ap one_if f in
    omega (arith, sum_by-cons (λ w. one_if (p w)) z xs, one_at p xs i x at e)
two_at p (z ∷ xs) (suc i) (suc j) x y at at' differ e f =
    omega (
      arith,
      sum_by-cons (λ w. one_if (p w)) z xs,
      two_at p xs i j x y at at' (λ k. differ (ap (λ n. suc n) k)) e f,
    )

number_is : (m n : ℕ) → (m == n) ≡ true → m ≡ n
number_is m n e = grind (arith, nat_tests)

same_number : (m n : ℕ) → m ≡ n → (m == n) ≡ true
same_number m n e = grind (arith, nat_tests)

both_true : (a b : Truth) → (a && b) ≡ true → (a ≡ true) × (b ≡ true)
both_true true b e = (refl, e)
both_true false b e = cc

-- ---- markers of loops with an index

-- the entry of an index is its label, and has its place; what else the loop carries on has that of the loop
pub data CarriedAs (P : Checked) (n : ℕ) : Type 0 where
  of_index : (i x : ℕ) → i < length (rows P) → node P i ≡ Index x → label P i ≡ n → CarriedAs P n
  of_loop_itself : LoopPlace P n → CarriedAs P n

pub carried_as : {P : Checked} (known : IsKnown P) {n : ℕ} {k : Kind} → n < length (rows P) → node P n ≡ Carried k
    → CarriedAs P n
carried_as {P} known {n} within is = go (n - (h + 1)) (omega (arith, x.low)) (omega (arith, x.low, x.high))
  where
    h : ℕ
    h = block P n

    x : Rattle.id_laws.proofs.Rows.Loops.CarriedIn P n
    x = carried_loop known within is

    l : LoopOf P (block P n)
    l = x.loop

    i : ℕ
    i = index_row (l.the).switches

    inside : i < length (rows P)
    inside = index_within P known (block P n) l x.counted

    -- the index stands in the block
    index_block : block P i ≡ block P n
    index_block =
        let m = loop_of_row known (Index (x.counted).name) inside (x.counted).index refl in
        let same : (m.the).switches ≡ (l.the).switches = omega (arith, index_at known inside (x.counted).index m) in
        sym ((m.all).test).block ∙ ap (block P) same ∙ ((l.all).test).block

    go : (j : ℕ) → n ≡ block P n + 1 + j → j < 3 → CarriedAs P n
    go zero at less =
        let first : block P n + 1 ≡ n = omega (arith, at) in
        of_index i (x.counted).name inside (x.counted).index (ap (label_by (block P i) i) (x.counted).index
        ∙ ap (λ g. g + 1) index_block ∙ first)
    go (suc zero) at less =
        let here : n ≡ block P n + 2 = omega (arith, at) in
        of_loop_itself (record {
          row = end_of P (block P n);
          head = block P n;
          loop = l.the;
          place = ap (place P) here ∙ ((l.all).place_carried).bound (x.counted).three;
        })
    go (suc (suc zero)) at less =
        let here : n ≡ block P n + 3 = omega (arith, at) in
        of_loop_itself (record {
          row = end_of P (block P n);
          head = block P n;
          loop = l.the;
          place = ap (place P) here ∙ ((l.all).place_carried).flag (x.counted).three;
        })
    go (suc (suc (suc j))) at less = absurd (omega (arith, less))

-- what counts has its place, and so have the bounds of an index
pub count_place : {P : Checked} (known : IsKnown P) {n : ℕ} → n < length (rows P) → node P n ≡ Count → LoopPlace P n
count_place {P} known {n} within is =
    let z = count_loop known within is in
    let l = z.0 in
    let at = count_at known within is l in
    record {
      row = end_of P (block P n);
      head = block P n;
      loop = l.the;
      place = ((l.all).place).begins n (omega (arith, at)) (omega (arith, at, z.1.turn));
    }

pub bounds_at_loop : {P : Checked} (known : IsKnown P) {n a b : ℕ} → n < length (rows P) → node P n ≡ Bounds a b
    → LoopPlace P n
bounds_at_loop {P} known {n} {a} {b} within is =
    let z = (known.table).bounds_of n a b within is in
    let h = n + 2 in
    let l = loop_by known z.1 in
    let c = counted_of P l.all (has_three P ((known.table).loop_is z.0 h z.1) z.2) in
    let back : n ≡ h - 2 = omega arith in
    record { row = end_of P h; head = h; loop = l.the; place = ap (place P) back ∙ bounds_place P known h l c }

-- ---- labels

-- a label is the one instruction of its place, save a `next`, and a merge
label_of : (g : Parts) (n : ℕ) (i : Instr) → slice_get g.instrs n ≡ Some i → shown.is_label g n ≡ true
    → (shown.is_value_merge i.op ≡ true) × (count_by (shown.claims i.place) g.instrs ≡ 1)
label_of g n i at e =
    let both =
    both_true (shown.is_value_merge i.op) (count_by (shown.claims i.place) g.instrs == 1)
    (sym (ap (shown.is_label_of g) at) ∙ e) in
    (both.0, number_is _ 1 both.1)

-- a merge is no `next`
merge_no_next : (o : Op) → shown.is_value_merge o ≡ true → shown.is_next o ≡ false
merge_no_next (op.Merge k) e = refl
merge_no_next _ e = cc

-- what has the place, and is no `next`, claims it
pub claims_place : (p : ℕ) (i : Instr) → i.place ≡ p → shown.is_next i.op ≡ false → shown.claims p i ≡ true
claims_place p i at other = (λ t. same_number i.place p at t && not (other t))

module _ (P : Checked) (known : IsKnown P) (g : Parts) (number : ℕ → ℕ
    → ℕ) (numbered : Numbered P g number) (main_head_is : node P (main_head P) ≡ Head)
    (main_within : main_head P < length (rows P)) where
  -- no other part has the place of a label, save a `next`
  clash_by : {n j r k : ℕ} {f : Form} → (x : IsPart P n j) → shown.is_label g (number n j) ≡ true → r < length (rows P)
      → Does P r k f → shown.is_next (op_by number f) ≡ false
      → place_shown P (place P r) (node P r) ≡ place_shown P (place P n) (node P n) → (number n j ≡ number r k → ⊥) → ⊥
  clash_by {n} {j} {r} {k} {f} x e low does other same differ =
      let part = makes low does in
      let m = numbered.made n j x.form x.place x.makes in
      let h = numbered.made r k f _ part in
      let l = label_of g (number n j) m.instr m.at e in
      let m_place : (m.instr).place ≡ place_shown P (place P n) (node P n) = m.place ∙ (doing x.makes).place_is in
      let two = two_at (shown.claims (m.instr).place) g.instrs (number n j) (number r k) m.instr h.instr m.at h.at
      differ
      (claims_place _ m.instr refl (merge_no_next _ l.0))
      (claims_place _ h.instr (h.place ∙ same ∙ sym m_place) (ap shown.is_next h.op ∙ other)) in
      absurd (omega (arith, two, l.1))

  clash : {n j r k : ℕ} {f : Form} → (x : IsPart P n j) → shown.is_label g (number n j) ≡ true → r < length (rows P)
      → Does P r k f → shown.is_next (op_by number f) ≡ false
      → place_shown P (place P r) (node P r) ≡ place_shown P (place P n) (node P n) → (node P n ≡ node P r → ⊥) → ⊥
  clash x e low does other same differ =
      clash_by x e low does other same (λ z. differ (ap (node P) (one_part numbered x (part_of low does) z).0))

  -- the merge of a fetch shares its place with what makes the address
  reply_no_label : (n : ℕ) {t i : ℕ} → node P n ≡ Fetch t i → (part : IsPart P n 2)
      → shown.is_label g (number n 2) ≡ true → ⊥
  reply_no_label n is part e =
      let within = (part.makes).within in
      clash_by part e within (addresses (of_fetch is)) refl refl
      (λ z. let same = (one_part numbered part (part_of within (addresses (of_fetch is))) z).1 in omega (arith, same))

  -- the answer's instruction shares its place with main's head
  answer_no_label : (n : ℕ) → node P n ≡ Program → (x : IsPart P n 0) → shown.is_label g (number n 0) ≡ true → ⊥
  answer_no_label n is x e =
      clash x e main_within (starts (ap begins_block main_head_is)) refl
      (ap (place_shown P (place P (main_head P))) main_head_is ∙ known.head_place P.main (main_head P) known.main
      ∙ sym (ap (place_shown P (place P n)) is))
      (λ z. let bad : Program ≡ Head = sym is ∙ z ∙ main_head_is in cc)

  -- a conditional's merge shares its place with the switch of its trigger
  merge_no_label : (n : ℕ) {s x y : ℕ} → node P n ≡ If s x y → (part : IsPart P n 0)
      → shown.is_label g (number n 0) ≡ true → ⊥
  merge_no_label n {s} {x} {y} is part e =
      let c = conditional known (part.makes).within is in
      clash part e c.within (turns_on (of_arms c.node)) refl
      (ap (place_shown P (place P s)) c.node ∙ c.place ∙ sym (ap (place_shown P (place P n)) is))
      (λ z. let bad : If s x y ≡ Split c.test = sym is ∙ z ∙ c.node in cc)

  -- a call's merge shares its place with its `enter`
  call_no_label : (n : ℕ) {e c : ℕ} → node P n ≡ Call e c → (part : IsPart P n 0) → shown.is_label g (number n 0) ≡ true
      → ⊥
  call_no_label n {e} {c} is part l =
      let z = enter_at known (part.makes).within is in
      let begins = call_at known z.within z.node in
      clash part l z.within (opens (of_call z.node)) refl
      (ap (place_shown P (place P e)) z.node ∙ begins.place ∙ ap (place P) z.ends
      ∙ sym (ap (place_shown P (place P n)) is))
      (λ y. let bad : Call e c ≡ Enter z.name = sym is ∙ y ∙ z.node in cc)

  -- and so does a loop's
  loop_no_label : (n : ℕ) {h w l : ℕ} → node P n ≡ Loop h w l → (part : IsPart P n 0)
      → shown.is_label g (number n 0) ≡ true → ⊥
  loop_no_label n {h} {w} {l} is part e =
      let c : IsLoopOf (rows P) n h = record { switches = w; last = l; within = (part.makes).within; node = is } in
      let z = loop_marks P n h c in
      clash part e z.start_within (opens (of_loop z.start_node)) refl
      (ap (place_shown P (place P z.start)) z.start_node ∙ z.start_place ∙ sym (ap (place_shown P (place P n)) is))
      (λ y. let bad : Loop h w l ≡ Start = sym is ∙ y ∙ z.start_node in cc)

  -- the entry of an import shares its place with the loop's trigger
  entry_no_label : (n k : ℕ) → node P n ≡ Entries → (part : IsPart P n k) → shown.is_label g (number n k) ≡ true → ⊥
  entry_no_label n k is part e =
      let x = entries_place P n (part.makes).within is in
      let h = x.head in
      let z = loop_marks P x.row h x.loop in
      clash part e z.head_within (starts (ap begins_block z.head_node)) refl
      (ap (place_shown P (place P h)) z.head_node ∙ z.head_place ∙ sym x.place
      ∙ sym (ap (place_shown P (place P n)) is))
      (λ y. let bad : Entries ≡ LoopHead (h - 1) = sym is ∙ y ∙ z.head_node in cc)

  -- so does what a loop carries on beside its index
  carried_no_label : (n : ℕ) {k : Kind} → node P n ≡ Carried k → LoopPlace P n → (part : IsPart P n 0)
      → shown.is_label g (number n 0) ≡ true → ⊥
  carried_no_label n {k} is x part e =
      let h = x.head in
      let z = loop_marks P x.row h x.loop in
      clash part e z.head_within (starts (ap begins_block z.head_node)) refl
      (ap (place_shown P (place P h)) z.head_node ∙ z.head_place ∙ sym x.place
      ∙ sym (ap (place_shown P (place P n)) is))
      (λ y. let bad : Carried k ≡ LoopHead (h - 1) = sym is ∙ y ∙ z.head_node in cc)

  -- a label is the first instruction of the row that labels a binder
  pub record LabelOf (n part : ℕ) : Type 0 where
    pub binder : ℕ
    pub within : binder < length (rows P)
    pub binds : is_binder (node P binder) ≡ true
    pub is : label P binder ≡ n
    pub first : part ≡ 0

  pub label_binds : (n part : ℕ) → IsPart P n part → shown.is_label g (number n part) ≡ true → LabelOf n part
  label_binds n part x e = go (doing x.makes).does merge e x
    where
      m : Made g number (number n part) x.form x.place
      m = numbered.made n part x.form x.place x.makes

      merge : shown.is_value_merge (op_by number x.form) ≡ true
      merge = ap shown.is_value_merge (sym m.op) ∙ (label_of g (number n part) m.instr m.at e).0

      own : (j : ℕ) (b : Node) → node P n ≡ b → is_binder b ≡ true → label_by (block P n) n b ≡ n → j ≡ 0 → LabelOf n j
      own j b is binds same first =
          record {
            binder = n;
            within = (x.makes).within;
            binds = ap is_binder is ∙ binds;
            is =
                ap (label_by (block P n) n) is ∙ same;
            first = first;
          }

      at_carried : {k : Kind} → node P n ≡ Carried k → CarriedAs P n → shown.is_label g (number n 0) ≡ true
          → IsPart P n 0 → LabelOf n 0
      at_carried is (of_index i z inside index same) l y =
          record { binder = i; within = inside; binds = ap is_binder index; is = same; first = refl }
      at_carried is (of_loop_itself z) l y = absurd (carried_no_label n is z y l)

      go : {j : ℕ} {o : Form} → Does P n j o → shown.is_value_merge (op_by number o) ≡ true
          → shown.is_label g (number n j) ≡ true → IsPart P n j → LabelOf n j
      go (starts is) k l y = cc
      go (returns is) k l y = cc
      go (enters {x = z} {k = i} is) k l y = own 0 (Param z i) is refl refl refl
      go (constant is) k l y = cc
      go (unary is) k l y = cc
      go (binary is) k l y = cc
      go (turns_on is) k l y = cc
      go (hands j is less) k l y = cc
      go (joins is) k l y = absurd (merge_no_label n is y l)
      go (opens is) k l y = cc
      go (passes is) k l y = cc
      go (gets is) k l y = absurd (call_no_label n is y l)
      go (names {x = z} {a = a} is) k l y = own 0 (Binding z a) is refl refl refl
      go (sends_in j q is at) k l y = cc
      go (gives_back is) k l y = cc
      go (varies is) k l y =
          let z = variable_at P n (x.makes).within is in
          record { binder = next_of P n; within = z.within; binds = z.binds; is = z.is; first = refl }
      go (takes_in j is less) k l y = absurd (entry_no_label n j is y l)
      go (moves_on is) k l y = cc
      go (moves_name j is less) k l y = cc
      go (advances is) k l y = cc
      go (resets is) k l y = cc
      go (gets_last is) k l y = absurd (loop_no_label n is y l)
      go (allocates is) k l y = cc
      go (addresses is) k l y = cc
      go (fetches is) k l y = cc
      go (gets_reply is) k l y = absurd (reply_no_label n is y l)
      go (stores is) k l y = cc
      go (bounds_meet is) k l y = cc
      go (begins_index is) k l y = cc
      go (carries is) k l y = at_carried is (carried_as known (x.makes).within is) l y
      go (meets_bound is) k l y = cc
      go (goes_further is) k l y = cc
      go (hands_index is) k l y = cc
      go (has_one is) k l y = cc
      go (adds_one is) k l y = cc
      go (answers is) k l y = absurd (answer_no_label n is y l)
