-- What stands where in a call.
use Rattle.std.proofs.Common.{◌≡◌, ℕ, inl, inr, ◌<◌, true, Some, length, refl, sym, ◌∙◌, ap, subst, arith}
use Rattle.id_table.specs.declared.row.Node.TheVariants.{Enter, Arg, Call, Def, Head}
use Rattle.id_table.specs.Tables.{HasNear, HasOperand, is_expression, is_thing, HasPart}
use Rattle.id_table.specs.Calls.{IsCallOf}
use Rattle.id_table.specs.Turns.{IsDefOf}
use Rattle.id_check.specs.declared.checked.Checked.{Checked}
use Rattle.id_check.specs.Programs.{Stands, binder, place, region, rows}
use Rattle.id_desugar.specs.Ends.{end_of}
use Rattle.id_build.specs.Rows.{called, node}
use Rattle.id_laws.proofs.Rows.Assumed.{IsKnown}
use Rattle.id_value.specs.declared.Kind.{Kind}
use Rattle.id_source.specs.Sources.{head_of}

-- the call that begins with the `Enter` at the row e, whose place and region it has, and the definition that it calls
pub record CallAt (P : Checked) (e : ℕ) : Type 0 where
  pub count : ℕ
  pub within : end_of P e < length (rows P)
  pub node : node P (end_of P e) ≡ Call e count
  pub place : place P e ≡ place P (end_of P e)
  pub region : region P e ≡ region P (end_of P e)
  pub callee : ℕ
  pub bound : binder P e ≡ Some callee
  pub def : IsDefOf (rows P) callee (called P e)

pub call_at : {P : Checked} (known : IsKnown P) {e x : ℕ} → e < length (rows P) → node P e ≡ Enter x → CallAt P e
call_at {P} known {e} {x} within is =
    let c = known.call_end e x within is in
    let z = (known.table).enter_of (end_of P e) e c in
    let d = known.callee e x within is in
    record {
      count = c.count;
      within = c.within;
      node = c.node;
      place = z.place;
      region = z.region;
      callee = d.0;
      bound = d.1;
      def = d.2;
    }

-- the definition stands where it says
pub callee_stands : {P : Checked} {d h : ℕ} (x : IsDefOf (rows P) d h) → Stands P d (Def x.name h x.result x.body)
callee_stands x = record { within = x.within; node = x.node }

-- the head of the procedure that an `Enter` calls
pub called_head : {P : Checked} (known : IsKnown P) {e x : ℕ} → e < length (rows P) → node P e ≡ Enter x
    → (called P e < length (rows P)) × (node P (called P e) ≡ Head)
called_head {P} known {e} within is =
    let def = (call_at known within is).def in
    let t = known.table in
    let less =
    ((t.formed).each _ def.within).parts (called P e) (subst (λ m. HasPart m (called P e)) (sym def.node) (inl refl)) in
    (omega (arith, def.within, less.1), (t.head_is _ def.name (called P e) def.body def.result def.within def.node).0)

-- a call at the row n is that of its `Enter`
pub record EnterAt (P : Checked) (n e : ℕ) : Type 0 where
  pub name : ℕ
  pub within : e < length (rows P)
  pub node : node P e ≡ Enter name
  pub ends : end_of P e ≡ n

pub enter_at : {P : Checked} (known : IsKnown P) {n e c : ℕ} → n < length (rows P) → node P n ≡ Call e c → EnterAt P n e
enter_at {P} known {n} {e} {c} within is =
    let here : IsCallOf (rows P) n e = record { count = c; within = within; node = is } in
    let z = (known.table).enter_of n e here in
    let less : e < length (rows P) = omega (arith, within, z.before) in
    record {
      name = z.name;
      within = less;
      node = z.node;
      ends = (known.table).one_call (end_of P e) n e (known.call_end e z.name less z.node) here;
    }

-- the argument at the row m, of the call whose `Enter` is at the row e: its value stands where the call does
pub record ArgAt (P : Checked) (m e v : ℕ) : Type 0 where
  pub name : ℕ
  pub enter_within : e < length (rows P)
  pub enter : node P e ≡ Enter name
  pub within : v < length (rows P)
  pub expression : is_expression (node P v) ≡ true
  pub value_region : region P v ≡ region P e
  pub region : region P m ≡ region P e

pub arg_at : {P : Checked} (known : IsKnown P) {m e k v : ℕ} → m < length (rows P) → node P m ≡ Arg e k v
    → ArgAt P m e v
arg_at {P} known {m} {e} {k} {v} within is =
    let a = (known.table).arg_of m e k (record { value = v; within = within; node = is }) in
    let z = (known.table).enter_of a.row e a.call in
    let near = (known.table).part_stands m v within (subst (λ n. HasNear n v) (sym is) (inr refl)) in
    let st = a.stands in
    let here : region P m ≡ region P e = st.region ∙ sym z.region in
    record {
      name = z.name;
      enter_within = omega (arith, within, st.after);
      enter = z.node;
      within = omega (arith, within, st.behind);
      expression = known.operands m v within (subst (λ n. HasOperand n v) (sym is) refl);
      value_region = near.1 ∙ here;
      region = here;
    }

-- it has the place of the `Enter`
pub arg_place : {P : Checked} (known : IsKnown P) {m e k v : ℕ} → m < length (rows P) → node P m ≡ Arg e k v
    → place P m ≡ place P e
arg_place {P} known {m} {e} {k} {v} within is =
    let a = (known.table).arg_of m e k (record { value = v; within = within; node = is }) in
    (a.stands).place ∙ sym ((known.table).enter_of a.row e a.call).place

call_thing : {m : Rattle.id_table.specs.declared.row.Node.Node} {e c : ℕ} → m ≡ Call e c → is_thing m ≡ true
call_thing is = ap is_thing is

-- two `Enter`s at one place are one
pub one_enter_at : {P : Checked} (known : IsKnown P) {n n' x x' : ℕ} → n < length (rows P) → n' < length (rows P)
    → node P n ≡ Enter x → node P n' ≡ Enter x' → place P n ≡ place P n' → n ≡ n'
one_enter_at {P} known {n} {n'} within within' is is' same =
    let c = call_at known within is in
    let d = call_at known within' is' in
    let rows_are =
    (known.apart).apart (end_of P n) (end_of P n') c.within d.within (call_thing c.node) (call_thing d.node)
    (sym c.place ∙ same ∙ d.place) in
    let both : Call n c.count ≡ Call n' d.count =
    sym c.node ∙ ap (Rattle.id_build.specs.Rows.node P) rows_are ∙ d.node in
    cc

some_is : {A : Type 0} {x y : A} → Some x ≡ Some y → x ≡ y
some_is h = cc

-- the definition that an `Enter`'s name is bound to is that which it calls
pub called_is : {P : Checked} (known : IsKnown P) {e x f y g body : ℕ} {k : Kind} → e < length (rows P)
    → node P e ≡ Enter x → binder P e ≡ Some f → Stands P f (Def y g k body) → called P e ≡ g
called_is {P} known {e} {f = f} within is bound x =
    let c = call_at known within is in
    let same : c.callee ≡ f = some_is (sym c.bound ∙ bound) in
    ap head_of (sym (c.def).node ∙ ap (node P) same ∙ x.node)

-- as a definition
abbrev pub as_def : {P : Checked} {f y g body : ℕ} {k : Kind} → Stands P f (Def y g k body) → IsDefOf (rows P) f g
as_def {y = y} {body = body} {k = k} x = record { name = y; result = k; body = body; within = x.within; node = x.node }
