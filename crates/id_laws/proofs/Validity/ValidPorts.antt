-- What gives the value of an expression sends the kind of its row.
use Rattle.std.proofs.Common.{◌≡◌, ℕ, zero, suc, ◌<◌, Bool as Truth, true, false, Some, List, length, unwrap_or, get_or}
use Rattle.std.proofs.Common.{refl, sym, ◌∙◌, ap, subst, arith}
use Rattle.id_value.specs.declared.Kind.{Kind}
use Rattle.id_value.specs.declared.Kind.TheVariants as kinds
use Rattle.id_value.specs.Kinds.{array_kind, element_kind, is_array}
use Rattle.id_value.specs.declared.Constant.{Constant}
use Rattle.id_value.specs.declared.Constant.TheVariants as constants
use Rattle.id_value.specs.declared.UnaryOp.{UnaryOp}
use Rattle.id_value.specs.declared.UnaryOp.TheVariants as before
use Rattle.id_table.specs.declared.row.Row.{Row}
use Rattle.id_table.specs.declared.row.Region.{Region}
use Rattle.id_table.specs.declared.row.Node.{Node}
use Rattle.id_table.specs.declared.row.Node.TheVariants.{Head, Param, Literal, Name, Unary, Binary, Split, If, Block}
use Rattle.id_table.specs.declared.row.Node.TheVariants.{Binding, Def, Program, Enter, Arg, Call, Array, Fetch, Address}
use Rattle.id_table.specs.declared.row.Node.TheVariants.{Store, Start, LoopHead, Variable, Entries, Switches, Turn}
use Rattle.id_table.specs.declared.row.Node.TheVariants.{NextUse, Next, Body, Reset, Loop, Bounds, Carried, Within}
use Rattle.id_table.specs.declared.row.Node.TheVariants.{Count, Index, Span}
use Rattle.id_table.specs.Rows.{at}
use Rattle.id_table.specs.Tables.{HasPart, HasOperand, is_binder, is_block, is_expression, is_within}
use Rattle.id_table.proofs.RegionLemmas.{HasPart-operand}
use Rattle.id_check.specs.declared.checked.Checked.{Checked}
use Rattle.id_check.specs.Kinds.{constant_kind, kind_within, unary_kind, binary_kind}
use Rattle.id_check.specs.Programs.{kind, region, rows}
use Rattle.id_check.proofs.ProgramsLemmas.{bound_name_row}
use Rattle.id_instr.specs.declared.instr.PortKind.{PortKind}
use Rattle.id_instr.specs.declared.instr.PortKind.TheVariants.{Int as IntPort}
use Rattle.id_instr.specs.Held.{held_kind, structure_kind}
use Rattle.id_instr.specs.Ports as ports
use Rattle.id_instr.specs.Ports.{outcome_kind, sends}
use Rattle.id_build.specs.declared.arc.Origin.{Origin}
use Rattle.id_desugar.specs.Regions.{imports_of}
use Rattle.id_build.specs.Rows.{node, port_of, port_at, holds_array, binary_op, output, name_in, named_in, origin_of}
use Rattle.id_build.specs.Rows.{origin, op_by, block, entries_row, label, label_by}
use Rattle.id_laws.specs.Activations.{Tests, of_arms, of_turns}
use Rattle.id_laws.specs.Topics.{Addresses}
use Rattle.id_laws.proofs.Rows.Arcs.{Does, constant, unary, binary, hands, joins, takes_in, gets_last, allocates}
use Rattle.id_laws.proofs.Rows.Arcs.{gets_reply}
use Rattle.id_laws.proofs.Rows.Arcs.{gets}
use Rattle.id_build.proofs.LoopsLemmas.{entries_node, entries_stand, entries_within}
use Rattle.id_build.proofs.ImportsLemmas.{name_seen}
use Rattle.id_build.proofs.RowLemmas.{IsSeen}
use Rattle.id_laws.proofs.Rows.Assumed.{IsKnown, is_handed}
use Rattle.id_build.proofs.NamesSeen.{Comes, HasSwitches, from_entry, from_label, from_switch, comes}
use Rattle.id_build.proofs.NamesSeen as seen
use Rattle.id_laws.proofs.Rows.LoopRows.{BinderAt, HandedAt, carried_row, handed_binder, label_at}
use Rattle.id_laws.proofs.Validity.WantedKinds.{operands_of}
use Rattle.id_build.specs.declared.arc.Form.{Form}

some_is : {A : Type 0} {x y : A} → Some x ≡ Some y → x ≡ y
some_is h = cc

-- the ports for a thing of some kind
pub port_is : (P : Checked) (e : ℕ) (k : Kind) → kind P e ≡ Some k → port_at P e ≡ port_of k
port_is P e k is = ap (λ o. port_of (unwrap_or o kinds.Int)) is

-- the ports for two things of one kind are of one kind
pub same_ports : (P : Checked) (e a : ℕ) → kind P e ≡ kind P a → port_at P e ≡ port_at P a
same_ports P e a is = ap (λ o. port_of (unwrap_or o kinds.Int)) is

literal_port : (c : Constant) → ports.constant_kind c ≡ port_of (constant_kind c)
literal_port (constants.Int n) = refl
literal_port (constants.Bool b) = refl

array_port : (nested : Truth) → structure_kind nested ≡ port_of (array_kind nested)
array_port false = refl
array_port true = refl

element_port : (nested : Truth) → held_kind nested ≡ port_of (element_kind (array_kind nested))
element_port false = refl
element_port true = refl

-- the elements of arrays that are nested alone hold arrays
pub element_nested : (nested : Truth) → is_array (element_kind (array_kind nested)) ≡ nested
element_nested false = refl
element_nested true = refl

pub unary_port : (o : UnaryOp) → ports.unary_kind o ≡ port_of (unary_kind o)
unary_port before.Neg = refl
unary_port before.Not = refl

-- the part of the row n sends this kind
pub record Sender (P : Checked) (n part : ℕ) (k : PortKind) : Type 0 where
  pub within : n < length (rows P)
  pub form : Form
  pub does : Does P n part form
  pub out : (number : ℕ → ℕ → ℕ) → sends (op_by number form) ≡ Some k

-- what comes from there is of this kind
abbrev pub SentBy : Checked → PortKind → Origin → Type 0
SentBy P k s = Sender P s.row s.part k

-- an expression stands at the row
abbrev pub Operand : Checked → ℕ → Type 0
Operand P a = (a < length (rows P)) × (is_expression (node P a) ≡ true)

module _ (P : Checked) (known : IsKnown P) where
  abbrev R : List Row
  R = rows P

  pub operand : (n a : ℕ) (m : Node) → n < length R → node P n ≡ m → HasOperand m a → Operand P a
  operand n a m within is part =
      let here = subst (λ z. HasOperand z a) (sym is) part in
      let less = (((known.table).formed).each n within).parts a (HasPart-operand (node P n) a here) in
      (omega (arith, within, less.1), known.operands n a within here)

  -- the row names a cell of an array, and has the kind of what it holds
  pub record CellAt (n t i : ℕ) : Type 0 where
    pub nested : Truth
    pub target : port_at P t ≡ structure_kind nested
    pub index : port_at P i ≡ IntPort
    pub holds : holds_array P n ≡ nested
    pub held : port_at P n ≡ held_kind nested

  pub cell_at : (n t i : ℕ) → n < length R → Addresses P n t i → CellAt n t i
  cell_at n t i within addressed =
      let z = known.cell_kinds n t i within addressed in
      let nested = z.0 in
      let here : kind P n ≡ Some (element_kind (array_kind nested)) =
      known.cell_kind n t i within addressed ∙ ap (λ o. Some (kind_within o)) z.1 in
      record {
        nested = nested;
        target = port_is P t (array_kind nested) z.1 ∙ sym (array_port nested);
        index = port_is P i kinds.Int z.2;
        holds = ap (λ o. is_array (unwrap_or o kinds.Int)) here ∙ element_nested nested;
        held = port_is P n (element_kind (array_kind nested)) here ∙ sym (element_port nested);
      }

  -- the row that gives the value of an expression has its kind
  value_kind : (bound e : ℕ) → e < bound → Operand P e → kind P (at R e).value ≡ kind P e
  value_kind zero e small x = absurd (omega (arith, small))
  value_kind (suc bound) e small x = go (node P e) refl (value_kind bound)
    where
      itself : is_block (node P e) ≡ false → is_within (node P e) ≡ false → kind P (at R e).value ≡ kind P e
      itself plain own = ap (kind P) ((known.table).value_self e x.0 plain own)

      go : (m : Node) → node P e ≡ m → ((i : ℕ) → i < bound → Operand P i → kind P (at R i).value ≡ kind P i)
          → kind P (at R e).value ≡ kind P e
      go (Block b) m rest =
          let has_part : HasPart (node P e) b = subst (λ z. HasPart z b) (sym m) refl in
          let less = (((known.table).formed).each e x.0).parts b has_part in
          ap (kind P) ((known.table).value_block e b x.0 m)
          ∙ rest b (omega (arith, less.1, small)) (operand e b (Block b) x.0 m refl)
          ∙ sym (known.block_kind e b x.0 m)
      go Head m rest = itself (ap is_block m) (ap is_within m)
      go (Param y k) m rest = itself (ap is_block m) (ap is_within m)
      go (Literal c) m rest = itself (ap is_block m) (ap is_within m)
      go (Array nested y z) m rest = itself (ap is_block m) (ap is_within m)
      go (Fetch y z) m rest = itself (ap is_block m) (ap is_within m)
      go (Address y z) m rest = itself (ap is_block m) (ap is_within m)
      go (Store y z) m rest = itself (ap is_block m) (ap is_within m)
      go (Name y) m rest = itself (ap is_block m) (ap is_within m)
      go (Unary o y) m rest = itself (ap is_block m) (ap is_within m)
      go (Binary o y z) m rest = itself (ap is_block m) (ap is_within m)
      go (Split t) m rest = itself (ap is_block m) (ap is_within m)
      go (If s y z) m rest = itself (ap is_block m) (ap is_within m)
      go (Enter y) m rest = itself (ap is_block m) (ap is_within m)
      go (Arg s k y) m rest = itself (ap is_block m) (ap is_within m)
      go (Call s c) m rest = itself (ap is_block m) (ap is_within m)
      go (Binding y z) m rest = itself (ap is_block m) (ap is_within m)
      go (Def y h k b) m rest = itself (ap is_block m) (ap is_within m)
      go Program m rest = itself (ap is_block m) (ap is_within m)
      go Start m rest = itself (ap is_block m) (ap is_within m)
      go (LoopHead y) m rest = itself (ap is_block m) (ap is_within m)
      go Variable m rest = itself (ap is_block m) (ap is_within m)
      go Entries m rest = itself (ap is_block m) (ap is_within m)
      go (Switches y) m rest = itself (ap is_block m) (ap is_within m)
      go Turn m rest = itself (ap is_block m) (ap is_within m)
      go (NextUse y) m rest = itself (ap is_block m) (ap is_within m)
      go (Next y k o z) m rest = itself (ap is_block m) (ap is_within m)
      go Body m rest = itself (ap is_block m) (ap is_within m)
      go (Reset y) m rest = itself (ap is_block m) (ap is_within m)
      go (Loop y w l) m rest = itself (ap is_block m) (ap is_within m)
      go (Bounds y z) m rest = itself (ap is_block m) (ap is_within m)
      go (Carried k) m rest = itself (ap is_block m) (ap is_within m)
      go (Within f) m rest = let bad : false ≡ true = sym (ap is_expression m) ∙ x.1 in cc
      go Count m rest = itself (ap is_block m) (ap is_within m)
      go (Index y) m rest = itself (ap is_block m) (ap is_within m)
      go Span m rest = itself (ap is_block m) (ap is_within m)

  -- the label of a binder sends its kind
  label_sender : (b : ℕ) → b < length R → is_binder (node P b) ≡ true → Sender P (label P b) 0 (port_at P b)
  label_sender b within e =
      let z = label_at P b within e in record { within = z.within; form = _; does = z.does; out = λ f. refl }

  -- and so does what a loop carries on for its index
  handed_sender : (b : ℕ) → b < length R → is_handed (node P b) ≡ true → Sender P (label P b) 0 (port_at P b)
  handed_sender b within e = go (node P b) refl e
    where
      go : (m : Node) → node P b ≡ m → is_handed m ≡ true → Sender P (label P b) 0 (port_at P b)
      go (Param y k) is h = label_sender b within (ap is_binder is)
      go (Binding y a) is h = label_sender b within (ap is_binder is)
      go (Next y k o v) is h = label_sender b within (ap is_binder is)
      go (Index y) is h = label_sender b within (ap is_binder is)
      go (Carried k) is h =
          subst (λ l. Sender P l 0 (port_at P b)) (sym (ap (label_by (block P b) b) is))
          (record { within = within; form = _; does = (carried_row P b k is).does; out = λ f. refl })
      go _ is h = let bad : false ≡ true = h in cc

  tests_of : {n t : ℕ} → HasSwitches P n t → Tests P n t
  tests_of (seen.of_arms is) = of_arms is
  tests_of (seen.of_turns is) = of_turns is

  -- where a region has a name, or what a loop carries on, its kind is sent
  pub named_sender : (r : Region) (b : ℕ) → HandedAt P b → IsSeen P r b → SentBy P (port_at P b) (name_in P r b)
  named_sender r b handed there = by (comes P r b there.sees)
    where
      by : Comes P r b → SentBy P (port_at P b) (name_in P r b)
      by (from_label is from) = subst (SentBy P (port_at P b)) (sym from) (handed_sender b handed.within handed.handed)
      by (from_switch n t k c less is few at_slot rest at from) =
          subst (SentBy P (port_at P b)) (sym from)
          (record {
            within = less;
            form = _;
            does = hands k (tests_of is) few;
            out =
                λ f. ap (λ z. Some (port_at P z)) at_slot;
          })
      by (from_entry h s k less is few at_slot rest at from) =
          let e = entries_row P h in
          let of_block : block P e ≡ h = (entries_stand P h s less is e (omega arith) (omega arith)).0 in
          let few_here : k < length (imports_of P (block P e)) =
          subst (λ g. k < length (imports_of P g)) (sym of_block) few in
          subst (SentBy P (port_at P b)) (sym from)
          (record {
            within = entries_within P h s less is;
            form = _;
            does = takes_in k (entries_node P h s less is) few_here;
            out = λ f. ap (λ g. Some (port_at P (get_or (imports_of P g) k 0))) of_block
                ∙ ap (λ z. Some (port_at P z)) at_slot;
          })

  abbrev Gives : ℕ → Type 0
  Gives v = SentBy P (port_at P v) (origin_of P v (region P v) (node P v))

  -- what gives the value of an expression that is no block sends its kind
  giver : (v : ℕ) → Operand P v → is_block (node P v) ≡ false → Gives v
  giver v x plain = go (node P v) refl
    where
      own : (m : Node) → node P v ≡ m → origin_of P v (region P v) m ≡ output v → Sender P v 0 (port_at P v) → Gives v
      own m is from s = subst (SentBy P (port_at P v)) (sym (ap (origin_of P v (region P v)) is ∙ from)) s

      go : (m : Node) → node P v ≡ m → Gives v
      go (Name y) is =
          let z = name_seen P v y x.0 is in
          let b = z.row in
          let bound = bound_name_row P v y (record { within = x.0; node = is }) in
          let binder : BinderAt P b = subst (BinderAt P) (some_is (sym (bound.1).binder ∙ z.binds))
          (record { within = (bound.1).within; binds = (bound.1).is_binder }) in
          let from : origin_of P v (region P v) (node P v) ≡ name_in P (region P v) b =
          ap (origin_of P v (region P v)) is ∙ ap (named_in P (region P v) v) z.binds in
          let same = same_ports P b v (sym (known.name_kind v y b x.0 is z.binds)) in
          subst (SentBy P (port_at P v)) (sym from)
          (subst (λ k. SentBy P k (name_in P (region P v) b)) same
          (named_sender (region P v) b (handed_binder P b binder) z.seen))
      go (Literal c) is =
          let here = port_is P v (constant_kind c) (known.literal_kind v c x.0 is) in
          own (Literal c) is refl (record {
            within = x.0;
            form = _;
            does = constant is;
            out =
                λ f. ap (λ k. Some k) (literal_port c ∙ sym here);
          })
      go (Unary o a) is =
          let here = port_is P v (unary_kind o) (known.unary_kinds v a o x.0 is) in
          own (Unary o a) is refl (record {
            within = x.0;
            form = _;
            does = unary is;
            out =
                λ f. ap (λ k. Some k) (unary_port o ∙ sym here);
          })
      go (Binary o a b) is =
          let s = operands_of P v a b o (record { within = x.0; node = is }) in
          let here = port_is P v (binary_kind o) (known.binary_kinds v a b o x.0 is) in
          own (Binary o a b) is refl
          (record {
            within = x.0;
            form = _;
            does = binary is;
            out = λ f. ap (λ k. Some k) (ap (λ k. outcome_kind (binary_op o k)) (port_is P a s.kind_of s.left) ∙ s.sent
                ∙ sym here);
          })
      go (If s y z) is = own (If s y z) is refl (record { within = x.0; form = _; does = joins is; out = λ f. refl })
      go (Call s c) is = own (Call s c) is refl (record { within = x.0; form = _; does = gets is; out = λ f. refl })
      go (Loop h w l) is =
          own (Loop h w l) is refl (record { within = x.0; form = _; does = gets_last is; out = λ f. refl })
      go (Array nested y z) is =
          let here = port_is P v (array_kind nested) (known.array_kind v y z x.0 is) in
          own (Array nested y z) is refl (record {
            within = x.0;
            form = _;
            does = allocates is;
            out =
                λ f. ap (λ k. Some k) (array_port nested ∙ sym here);
          })
      go (Fetch y z) is =
          subst (SentBy P (port_at P v)) (sym (ap (origin_of P v (region P v)) is)) (record {
            within = x.0;
            form = _;
            does = gets_reply is;
            out = λ f. refl;
          })
      go (Block b) is = let bad : true ≡ false = sym (ap is_block is) ∙ plain in cc
      go _ is = let bad : false ≡ true = sym (ap is_expression is) ∙ x.1 in cc

  -- what gives the value of an expression sends its kind
  pub sender : (e : ℕ) → Operand P e → SentBy P (port_at P e) (origin P e)
  sender e x =
      let w = (at R e).value in
      let stands = (known.table).value_stands e x.0 x.1 in
      subst (λ k. SentBy P k (origin P e)) (same_ports P w e (value_kind (suc e) e (omega arith) x))
      (giver w (omega (arith, stands.0, x.0), stands.1) stands.2)
