-- Only a `fetch` asks for a cell, and only a `store` stores into one.
use Rattle.std.proofs.Common.{◌≡◌, ℕ, Bool, true, false, cond, sym, ap, subst}
use Rattle.std.specs.Bool.{beq}
use Rattle.id_instr.specs.Held.{held_kind}
use Rattle.id_instr.specs.declared.instr.Op.{Op}
use Rattle.id_instr.specs.declared.instr.Op.TheVariants as op
use Rattle.id_tag.specs.declared.Cell.{Cell}
use Rattle.id_tag.specs.declared.Tag.{Tag}
use Rattle.id_tag.specs.declared.Value.{Value}
use Rattle.id_tag.specs.declared.Value.TheVariants.{Address}
use Rattle.id_tag.specs.Kinds.{kind_of}
use Rattle.id_ops.specs.declared.Operands.{Operands}
use Rattle.id_ops.specs.declared.Operands.TheVariants.{One, Two}
use Rattle.id_ops.specs.declared.Fresh.{Fresh}
use Rattle.id_ops.specs.declared.Fired.TheVariants.{Asked, Stored, Nothing}
use Rattle.id_ops.specs.Operators.{fired, fired_fetch, fired_store, may_hold}
use Rattle.id_ops.specs.Operands.{IsOfKind}
use Rattle.id_ops.proofs.OperandsLemmas.{IsOfKind-fired}
use Rattle.id_record.specs.Sends.{beside}

-- a `fetch` has asked for the cell at its address, for the reply that it names
pub record Asks (o : Op) (t : Tag) (ops : Operands) (c : Cell) (u : Tag) : Type 0 where
  pub fetch : o ≡ op.Fetch c.structure.nested u.instr
  pub operands : ops ≡ One (Address c)
  pub reply : u ≡ beside t u.instr

fetch_asks : (nested : Bool) (r : ℕ) (t : Tag) (ops : Operands) (c : Cell) (u : Tag)
    → fired_fetch nested r t ops ≡ Asked c u →
    (ops ≡ One (Address c)) × (u ≡ beside t r)
fetch_asks nested r t (One (Address d)) c u e = by (beq d.structure.nested nested) e
  where
    by : (b : Bool) → cond b (Asked d (beside t r)) Nothing ≡ Asked c u
        → (One (Address d) ≡ One (Address c)) × (u ≡ beside t r)
    by true is =
        let cell : d ≡ c = cc in
        let reply : beside t r ≡ u = cc in
        (ap (λ k. One (Address k)) cell, sym reply)
    by false is = cc
fetch_asks nested r t _ c u e = cc

pub asked_by : (o : Op) (t : Tag) (ops : Operands) (f : Fresh) (c : Cell) (u : Tag) → fired o t ops f ≡ Asked c u
    → Asks o t ops c u
asked_by o t ops f c u e =
    let is : o ≡ op.Fetch c.structure.nested u.instr = subst (IsOfKind o) e (IsOfKind-fired o t ops f) in
    let z = fetch_asks c.structure.nested u.instr t ops c u (subst (λ q. fired q t ops f ≡ Asked c u) is e) in
    record { fetch = is; operands = z.0; reply = z.1 }

-- a `store` has stored what the cell at its address holds into that, and the origin is its own tag
pub record Stores (o : Op) (t : Tag) (ops : Operands) (c : Cell) (v : Value) (u : Tag) : Type 0 where
  pub store : o ≡ op.Store c.structure.nested
  pub kind : kind_of v ≡ held_kind c.structure.nested
  pub operands : ops ≡ Two (Address c) v
  pub origin : u ≡ t

-- what is stored, where it is known to be a `store` that does
store_stores : (nested : Bool) (t : Tag) (ops : Operands) (c : Cell) (v : Value) (u : Tag)
    → fired_store nested t ops ≡ Stored c v u →
    (ops ≡ Two (Address c) v) × (u ≡ t)
store_stores nested t (Two (Address d) w) c v u e = by (may_hold nested d w) e
  where
    by : (b : Bool) → cond b (Stored d w t) Nothing ≡ Stored c v u → (Two (Address d) w ≡ Two (Address c) v) × (u ≡ t)
    by true is =
        let cell : d ≡ c = cc in
        let same : w ≡ v = cc in
        let own : t ≡ u = cc in
        ((λ j. Two (Address (cell j)) (same j)), sym own)
    by false is = cc
store_stores nested t _ c v u e = cc

pub stored_by : (o : Op) (t : Tag) (ops : Operands) (f : Fresh) (c : Cell) (v : Value) (u : Tag)
    → fired o t ops f ≡ Stored c v u → Stores o t ops c v u
stored_by o t ops f c v u e =
    let said : IsOfKind o (Stored c v u) = subst (IsOfKind o) e (IsOfKind-fired o t ops f) in
    let is : o ≡ op.Store c.structure.nested = said.0 in
    let z = store_stores c.structure.nested t ops c v u (subst (λ q. fired q t ops f ≡ Stored c v u) is e) in
    record { store = is; kind = said.1; operands = z.0; origin = z.1 }
