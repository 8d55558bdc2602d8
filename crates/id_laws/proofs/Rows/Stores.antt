-- The `Address` of a store, the store of an `Address`, and the ports for what cells hold.
use Rattle.std.proofs.Common.{◌≡◌, inl, ℕ, ◌<◌, length, refl, sym, ◌∙◌, ap, subst, arith, unwrap_or}
use Rattle.id_value.specs.declared.Kind.TheVariants as kinds
use Rattle.id_instr.specs.Held.{held_kind}
use Rattle.id_table.specs.declared.row.Node.TheVariants.{Address, Store}
use Rattle.id_table.specs.Tables.{HasOperand, HasPart}
use Rattle.id_check.specs.declared.checked.Checked.{Checked}
use Rattle.id_check.specs.Programs.{place, region, rows}
use Rattle.id_build.specs.Rows.{holds_array, node, port_at, port_of}
use Rattle.id_source.specs.Facts.{StoreStands}
use Rattle.id_laws.specs.Topics.{Addresses, of_fetch, of_store}
use Rattle.id_laws.proofs.Rows.Assumed.{IsKnown}
use Rattle.id_laws.proofs.Validity.ValidPorts.{cell_at}

-- the `Address` at the row a is that of the store at the row n
pub record AddressAt (P : Checked) (n a : ℕ) : Type 0 where
  pub target : ℕ
  pub index : ℕ
  pub within : a < length (rows P)
  pub node : node P a ≡ Address target index
  pub place : place P a ≡ place P n
  pub region : region P a ≡ region P n

pub address_at : {P : Checked} (known : IsKnown P) {n a v : ℕ} → n < length (rows P) → node P n ≡ Store a v
    → AddressAt P n a
address_at {P} known {n} {a} {v} within is =
    let x = (known.table).address_of n a (record { value = v; within = within; node = is }) in
    let less = (((known.table).formed).each n within).parts a (subst (λ m. HasPart m a) (sym is) (inl refl)) in
    record {
      target = x.target;
      index = x.index;
      within = omega (arith, within, less.1);
      node = x.node;
      place = x.place;
      region = x.region;
    }

-- the store stands with its parts
pub store_stands : {P : Checked} (known : IsKnown P) {n a v : ℕ} (within : n < length (rows P))
    (is : node P n ≡ Store a v)
    → StoreStands P n (address_at known within is).target (address_at known within is).index v
store_stands known {a = a} within is =
    let x = address_at known within is in
    record {
      address = a;
      store = record { within = within; node = is };
      parts =
          record { within = x.within; node = x.node };
    }

-- the structure whose cell a row names is an operand of the row
pub target_operand : {P : Checked} {n t i : ℕ} → Addresses P n t i → HasOperand (node P n) t
target_operand {t = t} (of_fetch is) = subst (λ m. HasOperand m t) (sym is) (inl refl)
target_operand {t = t} (of_store is) = subst (λ m. HasOperand m t) (sym is) (inl refl)

-- the ports that take the value of a row that names a cell are for what the cell holds
pub cell_port : {P : Checked} (known : IsKnown P) {n t i : ℕ} → n < length (rows P) → Addresses P n t i
    → port_at P n ≡ held_kind (holds_array P n)
cell_port {P} known {n} {t} {i} within parts =
    let c = cell_at P known n t i within parts in
    c.held ∙ ap held_kind (sym c.holds)

-- and so are those that take the value that is stored there
pub stored_port : {P : Checked} (known : IsKnown P) {n a v : ℕ} → n < length (rows P) → node P n ≡ Store a v
    → port_at P v ≡ held_kind (holds_array P a)
stored_port {P} known {n} {a} {v} within is =
    let x = address_at known within is in
    ap (λ o. port_of (unwrap_or o kinds.Int)) (known.stored_kind n a v x.target x.index within is x.within x.node)
    ∙ cell_port known x.within (of_store x.node)
