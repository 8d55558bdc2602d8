-- In a quiet run what stands in a live region is carried, and so is what it has spoken.
use Rattle.std.proofs.Common.{◌≡◌, ℕ, ◌<◌, true, false, List, length, refl, sym, ◌∙◌, ap, subst}
use Rattle.id_value.specs.List.{Among}
use Rattle.id_table.specs.declared.row.Node.{Node}
use Rattle.id_table.specs.Tables.{HasNear, HasOperand, is_binder, is_expression, is_index, is_next, is_thing}
use Rattle.id_check.specs.declared.checked.Checked.{Checked}
use Rattle.id_check.specs.Programs.{Stands, place, region, rows, binder}
use Rattle.id_instr.specs.declared.dests.Port.TheVariants.{Zero}
use Rattle.id_instr.specs.declared.instr.Op.TheVariants as op
use Rattle.id_instr.specs.Graph.{Parts}
use Rattle.id_tag.specs.declared.Value.{Value}
use Rattle.id_tag.specs.declared.Payload.TheVariants.{Token}
use Rattle.id_ops.specs.declared.Operands.TheVariants.{One as Alone}
use Rattle.id_ops.specs.Operators.{constant_value}
use Rattle.id_value.specs.declared.Constant.{Constant}
use Rattle.id_core.specs.Machines.{World}
use Rattle.id_source.specs.declared.Path.{Path}
use Rattle.id_source.specs.declared.SourceValue.{SourceValue}
use Rattle.id_source.specs.Sources.{Source, AreInputs, value_of}
use Rattle.id_build.specs.declared.arc.Origin.{Origin}
use Rattle.id_build.specs.Rows.{home, label, node, origin, port_at}
use Rattle.id_build.specs.Schemas.{Numbered}
use Rattle.id_runs.specs.Activations.{Activation, tag_in}
use Rattle.id_runs.specs.Events.{Event}
use Rattle.id_runs.specs.Runs.{Reach, handled}
use Rattle.id_runs.specs.OneMessage.{Exclusive}
use Rattle.id_laws.specs.Activations.{Live, PathOf, Speaks}
use Rattle.id_laws.specs.Carried.{Here, CarriedHas, speaker}
use Rattle.id_laws.proofs.Rows.Arcs.{Does}
use Rattle.id_laws.proofs.Rows.Assumed.{IsKnown}
use Rattle.id_laws.proofs.Validity.PortsTake.{Takes}
use Rattle.id_laws.proofs.Rows.Regions.{label_row}
use Rattle.id_laws.proofs.Validity.HasKinds.{binder_thing, expression_thing, operand_of}
use Rattle.id_laws.proofs.Completeness.Firings.{IsSettled, alone_fired, spoken}
use Rattle.id_laws.proofs.Completeness.Triggers.{one_activation}
use Rattle.id_laws.proofs.Rows.Speakers.{expression_speaks, binder_speaks}
use Rattle.id_build.specs.declared.arc.Form.TheVariants.{Plain}
use Rattle.id_laws.proofs.Completeness.CarriedValues.{expression_plain, home_plain, label_plain, merged}
use Rattle.id_laws.proofs.Completeness.CarriedValues.{stands_constant}
use Rattle.id_laws.specs.Topics.{StandsFor}

module _ (S : Source) (g : Parts) (number : ℕ → ℕ
    → ℕ) (numbered : Numbered S.checked g number) (known : IsKnown S.checked)
    (inputs : AreInputs S.checked S.inputs) (count : ℕ) (only : Exclusive g S.inputs count) (s : World)
    (run : List Event)
    (r : Reach g S.inputs count s run) (quiet : IsSettled S s) where
  abbrev P : Checked
  P = S.checked

  abbrev H : Path → ℕ → Type 0
  H p e = Here S number run p e

  -- an expression of a live region is carried
  abbrev pub thing_here : {p : Path} (b : Activation) → PathOf S number run b p → (a : ℕ) → a < length (rows P)
      → is_expression (node P a) ≡ true → Live S number run b (region P a) → H p (place P a)
  thing_here b path a within expression live = record {
    activation = b;
    path_of = path;
    row = a;
    within = within;
    thing = expression_thing (node P a) expression;
    place = refl;
    live = subst (λ k. Live S number run b (region P k))
        (sym (home_plain P a (node P a) refl (expression_plain (node P a) expression))) live;
  }

  -- the thing that is carried at a thing's place is that thing
  pub here_is : {p : Path} {n : ℕ} {m : Node} (h : H p (place P n)) → Stands P n m → is_thing m ≡ true → h.row ≡ n
  here_is {n = n} h x thing =
      (known.apart).apart h.row n h.within x.within h.thing (ap is_thing x.node ∙ thing) (sym h.place)

  -- and its region is live
  pub live_at : {p : Path} {n : ℕ} {m : Node} (h : H p (place P n)) → Stands P n m → is_thing m ≡ true
      → is_next m ≡ false → Live S number run h.activation (region P n)
  live_at {n = n} {m = m} h x thing plain =
      subst (λ k. Live S number run h.activation (region P k)) (ap (home P) (here_is h x thing)
      ∙ home_plain P n m x.node plain) h.live

  -- what stands in the same region is carried too
  pub same_here : {p : Path} {e : ℕ} (h : H p e) (a : ℕ) → a < length (rows P) → is_expression (node P a) ≡ true
      → Live S number run h.activation (region P a) → H p (place P a)
  same_here h a within expression live = thing_here h.activation h.path_of a within expression live

  pub operand_here : {p : Path} {n : ℕ} {m : Node} (h : H p (place P n)) (a : ℕ) → Stands P n m → is_thing m ≡ true
      → is_next m ≡ false → HasNear m a → HasOperand m a
      → H p (place P a)
  operand_here {n = n} h a x thing plain near operand =
      let has = subst (λ z. HasOperand z a) (sym x.node) operand in
      let inner = operand_of S known inputs n a x.within has in
      let stands = (known.table).part_stands n a x.within (subst (λ z. HasNear z a) (sym x.node) near) in
      same_here h a inner.0 (known.operands n a x.within has)
      (subst (Live S number run h.activation) (sym stands.1) (live_at h x thing plain))

  -- what an expression has spoken, it has spoken under the activation of what is carried at the same path
  pub said_at : {p : Path} {e : ℕ} {v : SourceValue} (h : H p e) (a : ℕ) → a < length (rows P)
      → is_expression (node P a) ≡ true → (c : CarriedHas S number run p (place P a) v)
      → Speaks S number run h.activation (origin P a) c.value
  said_at h a within expression c =
      let row_is = here_is c.here (record { within = within; node = refl }) (expression_thing (node P a) expression) in
      let one =
      one_activation S g number numbered known count only s run r quiet c.here.live h.live c.here.path_of h.path_of in
      let from : speaker P c.here.row ≡ origin P a =
      ap (speaker P) row_is ∙ expression_speaks P known a (node P a) refl expression in
      subst (λ (z : Activation × Origin). Speaks S number run z.0 z.1 c.value) {x =
      (c.here.activation, speaker P c.here.row)} {y = (h.activation, origin P a)}
      (λ i. (one i, from i)) c.spoken

  -- and so has an operand
  pub operand_spoken : {p : Path} {n : ℕ} {m : Node} {v : SourceValue} (h : H p (place P n)) (a : ℕ) → Stands P n m
      → is_thing m ≡ true → HasOperand m a → (c : CarriedHas S number run p (place P a) v)
      → Speaks S number run h.activation (origin P a) c.value
  operand_spoken {n = n} h a x thing operand c =
      let has = subst (λ z. HasOperand z a) (sym x.node) operand in
      said_at h a (operand_of S known inputs n a x.within has).0 (known.operands n a x.within has) c

  -- the same of a constant
  pub constant_spoken : {p : Path} {n : ℕ} {m : Node} (k : Constant) (h : H p (place P n)) (a : ℕ) → Stands P n m
      → is_thing m ≡ true → HasOperand m a → CarriedHas S number run p (place P a) (value_of k)
      → Speaks S number run h.activation (origin P a) (constant_value k)
  constant_spoken k h a x thing operand c =
      subst (Speaks S number run h.activation (origin P a)) (stands_constant k c.stands)
      (operand_spoken h a x thing operand c)

  -- a value that an expression has spoken itself
  pub has_spoken : {p : Path} {n : ℕ} {m : Node} {w : Value} {v : SourceValue} (h : H p (place P n)) → Stands P n m
      → is_thing m ≡ true → is_expression m ≡ true → StandsFor S number run w v
      → Speaks S number run h.activation (origin P n) w → CarriedHas S number run p (place P n) v
  has_spoken {n = n} {m = m} {w = w} h x thing expression stands y =
      record {
        here = h;
        value = w;
        stands = stands;
        spoken = subst (λ z. Speaks S number run h.activation z w)
            (sym (ap (speaker P) (here_is h x thing) ∙ expression_speaks P known n m x.node expression))
            y;
      }

  -- a value of its kind that came to the label of a binder
  pub label_has : {p : Path} (b : ℕ) (m : Node) {w : Value} {v : SourceValue} → StandsFor S number run w v
      → (a : Activation) → PathOf S number run a p → Stands P b m → is_binder m ≡ true
      → Live S number run a (region P (home P b)) → Does P (label P b) 0 (Plain (op.Merge (port_at P b)))
      → Takes P v (port_at P b) → Among (Token (tag_in a (number (label P b) 0)) Zero w) (handled run)
      → CarriedHas S number run p (place P b) v
  label_has b m {w} stands a path_of x binder live does kind_is h =
      let l = label P b in
      let inside = (label_row known x.within (ap is_binder x.node ∙ binder)).within in
      let fired_so =
      alone_fired S g number numbered known count only s run r quiet a l 0 (op.Merge (port_at P b)) Zero w inside does
      refl h in
      let out =
      spoken S g number numbered known count only s run r quiet a l 0 (op.Merge (port_at P b)) (Alone w) w fired_so
      (λ f. merged known stands (port_at P b) kind_is) in
      record {
        here = record {
          activation = a;
          path_of = path_of;
          row = b;
          within = x.within;
          thing = binder_thing (node P b) (ap is_binder x.node ∙ binder);
          place = refl;
          live = live;
        };
        value = w;
        stands = stands;
        spoken = subst (λ z. Speaks S number run a z w) (sym (binder_speaks P known b m x.node binder)) out;
      }

  -- the same where the binder is its own label's row
  pub own_has : {p : Path} (b : ℕ) (m : Node) {w : Value} {v : SourceValue} → StandsFor S number run w v
      → (a : Activation) → PathOf S number run a p → Stands P b m → is_binder m ≡ true → is_next m ≡ false
      → is_index m ≡ false → Live S number run a (region P b) → Does P b 0 (Plain (op.Merge (port_at P b)))
      → Takes P v (port_at P b) → Among (Token (tag_in a (number b 0)) Zero w) (handled run)
      → CarriedHas S number run p (place P b) v
  own_has b m {w} stands a path_of x binder plain named live does kind_is h =
      let own = sym (label_plain P b m x.node plain named) in
      label_has b m stands a path_of x binder
      (subst (λ z. Live S number run a (region P z)) (sym (home_plain P b m x.node plain)) live)
      (subst (λ z. Does P z 0 (Plain (op.Merge (port_at P b)))) own does) kind_is
      (subst (λ z. Among (Token (tag_in a (number z 0)) Zero w) (handled run)) own h)
