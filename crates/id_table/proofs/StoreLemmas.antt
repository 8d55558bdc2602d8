-- What is true of the rows of a store.
use Rattle.std.proofs.Common.{◌≡◌, inl, inr, ◌<◌, ◌≤◌, ℕ, suc, true, List, length, refl, sym, ap, ◌∙◌, subst, arith}
use Rattle.std.proofs.lemmas.Bool.{cases_lt, false≢true}
use Rattle.id_table.specs.declared.row.Row.{Row}
use Rattle.id_table.specs.declared.row.Stand.{Stand}
use Rattle.id_table.specs.declared.row.Node.TheVariants.{Address, Block, Store}
use Rattle.id_table.specs.Rows.{at}
use Rattle.id_table.specs.Tables.{HasPart, can_be_on, is_block, is_expression, is_statement}
use Rattle.id_table.specs.Stores.{IsAddressOf, IsStoreOf}
use Rattle.id_table.specs.Turns.{TurnedIn, Turns, in_block}
use Rattle.id_table.proofs.BlockLemmas.{in_block-more}
use Rattle.id_table.proofs.HasLemmas.{row_in}
use Rattle.id_table.proofs.RowLemmas.{Fits, PartIs, RowIs-fits, RowsAre, RowsAre-both, RowsAre-suc, StandsHere}
use Rattle.id_table.proofs.ExpressionLemmas.{AreExpression, AreStatement, PartIs-wider, by_store, part_of}

-- the rows from lo on are those of a store at the row n: its target's and its index's, the last of which are t and i, its address at
-- a, and its value's, the last of which is v
pub record StoreRows (F : List Row) (s : Stand) (p lo t i a v n : ℕ) : Type 0 where
  pub within : n < length F
  pub target : AreExpression F s lo (suc t)
  pub index : AreExpression F s (suc t) a
  pub index_ends : suc i ≡ a
  pub address : at F a ≡ row_in s p lo a (Address t i)
  pub value : AreExpression F s (suc a) n
  pub value_ends : suc v ≡ n
  pub row : at F n ≡ row_in s p lo n (Store a v)

module _ (F : List Row) (s : Stand) (p lo t i a v n : ℕ) (b : StoreRows F s p lo t i a v n) where
  target_low : lo ≤ t
  target_low = omega (arith, b.target.low, b.target.ends)

  index_low : t < i
  index_low = omega (arith, b.index.low, b.index.ends, b.index_ends)

  address_low : i < a
  address_low = omega (arith, b.index_ends)

  value_low : a < v
  value_low = omega (arith, b.value.low, b.value.ends, b.value_ends)

  last_low : v < n
  last_low = omega (arith, b.value_ends)

  address_node : (at F a).node ≡ Address t i
  address_node = ap (λ (r : Row). r.node) b.address

  store_node : (at F n).node ≡ Store a v
  store_node = ap (λ (r : Row). r.node) b.row

  abbrev is_store_of : IsStoreOf F n a
  is_store_of = record { value = v; within = b.within; node = store_node }

  address_stands : StandsHere F s a
  address_stands = (ap (λ (r : Row). r.block) b.address, ap (λ (r : Row). r.region) b.address)

  target_part : PartIs F s lo (suc t) t
  target_part = part_of F s lo (suc t) t b.target refl

  index_part : PartIs F s (suc t) a i
  index_part = part_of F s (suc t) a i b.index b.index_ends

  value_part : PartIs F s (suc a) n v
  value_part = part_of F s (suc a) n v b.value b.value_ends

  is_address_of : IsAddressOf F a n v
  is_address_of =
      let e = b.row in
      let one : b.target.end ≡ t = omega (arith, b.target.ends) in
      let two : b.index.end ≡ i = omega (arith, b.index.ends, b.index_ends) in
      let three : b.value.end ≡ v = omega (arith, b.value.ends, b.value_ends) in
      record {
        target = t;
        index = i;
        node = address_node;
        before = value_low;
        value_behind = omega (arith, b.value_ends);
        value_first = ap (λ k. (at F k).first) (sym three) ∙ b.value.first ∙ omega arith;
        order = index_low;
        behind = omega (arith, b.index_ends);
        target_first = ap (λ k. (at F k).first) (sym one) ∙ b.target.first ∙ sym (ap (λ (r : Row). r.first) e);
        index_first = ap (λ k. (at F k).first) (sym two) ∙ b.index.first ∙ omega arith;
        place = ap (λ (r : Row). r.place) b.address ∙ sym (ap (λ (r : Row). r.place) e);
        block = address_stands.0 ∙ sym (ap (λ (r : Row). r.block) e);
        region = address_stands.1 ∙ sym (ap (λ (r : Row). r.region) e);
        first = ap (λ (r : Row). r.first) b.address ∙ sym (ap (λ (r : Row). r.first) e);
      }

  no_block : (c : ℕ) → Store a v ≡ Block c → ⊥
  no_block c h = false≢true (ap is_block h)

  no_address : (c : ℕ) → Address t i ≡ Block c → ⊥
  no_address c h = false≢true (ap is_block h)

  -- the address fits behind the index
  address_fits : Fits F s lo a a (Address t i)
  address_fits =
      let parts : (c : ℕ) → HasPart (Address t i) c → PartIs F s lo a c = λ c h. elim h [
        | inl e ↦ subst (PartIs F s lo a) (sym e) (PartIs-wider F s lo a lo (suc t) t (omega arith) (omega (arith, index_low, address_low)) target_part)
        | inr e ↦ subst (PartIs F s lo a) (sym e) (PartIs-wider F s lo a (suc t) a i (omega (arith, target_low)) (omega arith) index_part)
      ] in
      record {
        formed = λ c h. let q = parts c h in (q.low, q.before);
        part_stands = λ c h. (parts c h).stands;
        operand_is = λ c h. (parts c h).expression;
        value_block = λ c h. absurd (no_address c h);
        value_self = λ h. refl;
        value = λ h. absurd (false≢true h);
        statements = λ h. absurd (false≢true h);
        at_top = λ h. absurd (false≢true h);
        heads = λ h. absurd (false≢true h);
        belongs = (n, is_store_of);
      }

  rows_front : RowsAre F s lo a
  rows_front = RowsAre-both F s lo (suc t) a (omega (arith, target_low)) b.target.rows b.index.rows

  rows_address : RowsAre F s lo (suc a)
  rows_address =
      RowsAre-suc F s lo a rows_front
      (RowIs-fits F s p lo a a (Address t i) b.address (omega (arith, target_low, index_low, address_low)) rows_front refl address_fits)

  rows_before : RowsAre F s lo n
  rows_before = RowsAre-both F s lo (suc a) n (omega (arith, target_low, index_low, address_low)) rows_address b.value.rows

  low : lo ≤ n
  low = omega (arith, target_low, index_low, address_low, value_low, last_low)

  -- the store fits behind its value
  store_fits : Fits F s lo n n (Store a v)
  store_fits = record {
    formed = λ c h. elim h [
      | inl e ↦ (omega (arith, e, target_low, index_low, address_low), omega (arith, e, value_low, last_low))
      | inr e ↦ (omega (arith, e, target_low, index_low, address_low, value_low), omega (arith, e, last_low))
    ];
    part_stands = λ c h. elim h [
      | inl e ↦ subst (StandsHere F s) (sym e) address_stands
      | inr e ↦ subst (StandsHere F s) (sym e) value_part.stands
    ];
    operand_is = λ c h. subst (λ k. is_expression (at F k).node ≡ true) (sym h) value_part.expression;
    value_block = λ c h. absurd (no_block c h);
    value_self = λ h. refl;
    value = λ h. absurd (false≢true h);
    statements = λ h. absurd (false≢true h);
    at_top = λ h. absurd (false≢true h);
    heads = λ h. absurd (false≢true h);
    belongs = is_address_of;
  }

  -- what is true of the target's rows, of the index's, of the address, of the value's and of the store is true of each of its rows
  by_part : (P : ℕ → Type 0) → ((j : ℕ) → lo ≤ j → j < suc t → P j) → ((j : ℕ) → suc t ≤ j → j < a → P j) → P a
      → ((j : ℕ) → suc a ≤ j → j < n → P j) → (j : ℕ) → lo ≤ j → j < n → P j
  by_part P target index address value j c d = elim (cases_lt j (suc t)) [
    | inl f ↦ target j c f
    | inr f ↦ elim (cases_lt j a) [
      | inl g ↦ index j f g
      | inr g ↦ elim (cases_lt a j) [ inl k ↦ value j k d | inr k ↦ let z : a ≡ j = omega arith in subst P z address ]
    ]
  ]

  -- its parts are turned on with it
  turned_before : TurnedIn F s.region n → (j : ℕ) → lo ≤ j → j < n → can_be_on (at F j).node ≡ true → TurnedIn F (at F j).region j
  turned_before on =
      let one : t ≡ b.target.end = omega (arith, b.target.ends) in
      let two : i ≡ b.index.end = omega (arith, b.index.ends, b.index_ends) in
      let three : v ≡ b.value.end = omega (arith, b.value.ends, b.value_ends) in
      let target_on = subst (TurnedIn F s.region) one (TurnedIn.part on b.within (Turns.address_target store_node address_node)) in
      let index_on = subst (TurnedIn F s.region) two (TurnedIn.part on b.within (Turns.address_index store_node address_node)) in
      let value_on = subst (TurnedIn F s.region) three (TurnedIn.part on b.within (Turns.stored_value store_node)) in
      by_part (λ j. can_be_on (at F j).node ≡ true → TurnedIn F (at F j).region j)
      (b.target.turned target_on) (b.index.turned index_on) (λ k. absurd (false≢true (sym (ap can_be_on address_node) ∙ k))) (b.value.turned value_on)

  held_before : (j : ℕ) → lo ≤ j → j < n → is_statement (at F j).node ≡ true → in_block F j (suc n) ≡ true
  held_before =
      by_part (λ j. is_statement (at F j).node ≡ true → in_block F j (suc n) ≡ true)
      (λ j c d k. in_block-more F j (suc t) (suc n) (omega (arith, index_low, address_low, value_low, last_low)) (b.target.held j c d k))
      (λ j c d k. in_block-more F j a (suc n) (omega (arith, value_low, last_low)) (b.index.held j c d k))
      (λ k. absurd (false≢true (sym (ap is_statement address_node) ∙ k)))
      (λ j c d k. in_block-more F j n (suc n) (omega arith) (b.value.held j c d k))

  -- a store behind its parts
  pub are-store : AreStatement F s lo n
  are-store = record {
    low = low;
    rows = RowsAre-suc F s lo n rows_before (RowIs-fits F s p lo n n (Store a v) b.row low rows_before refl store_fits);
    value = n;
    statement = by_store store_node;
    stands = (ap (λ (r : Row). r.block) b.row, ap (λ (r : Row). r.region) b.row);
    turned = λ on j c d k. elim (cases_lt j n) [
      | inl f ↦ turned_before on j c f k
      | inr f ↦ let z : n ≡ j = omega arith in
          subst (λ l. TurnedIn F (at F l).region l) z (subst (λ r. TurnedIn F r n) (sym (ap (λ (r : Row). r.region) b.row)) on)
    ];
    held = held_before;
  }
