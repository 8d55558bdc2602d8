-- What the instructions of a graph of the schemas do, and the roles that its blocks give them.
use Rattle.std.proofs.Common.{◌≡◌, ℕ, ◌+◌, ◌<◌, ◌==◌, true, false, Option, Some, None, List, length}
use Rattle.std.proofs.Common.{map, slice_get, option_map, refl, sym, ◌∙◌, ap, subst}
use Rattle.std.specs.Bool.{IsTrue}
use Rattle.std.specs.Option.{IsSome, option_and_then}
use Rattle.std.specs.List.{list_any}
use Rattle.id_value.specs.List.{Among}
use Rattle.id_value.proofs.AmongLemmas.{Among-map, Among-from_map}
use Rattle.id_table.specs.declared.row.Row.{Row}
use Rattle.id_table.specs.declared.row.Node.{Node}
use Rattle.id_table.specs.declared.row.Node.TheVariants.{Head, LoopHead}
use Rattle.id_table.specs.Rows.{at}
use Rattle.id_table.specs.Tables.{begins_block}
use Rattle.id_check.specs.declared.checked.Checked.{Checked}
use Rattle.id_check.specs.Programs.{rows}
use Rattle.id_instr.specs.declared.instr.PortKind.TheVariants.{Signal}
use Rattle.id_instr.specs.declared.instr.Op.{Op}
use Rattle.id_instr.specs.declared.instr.Op.TheVariants.{Merge}
use Rattle.id_instr.specs.declared.instr.Instr.{Instr}
use Rattle.id_instr.specs.declared.instr.Block.{Block}
use Rattle.id_instr.specs.Graph.{Parts}
use Rattle.id_build.specs.Rows.{node, port_at, op_by, Entry, entries}
use Rattle.id_build.specs.Schemas.{Numbered, all_heads, block_of}
use Rattle.id_valid.specs.Roles.{op_at, merge_kind, back_kind, is_first, is_second, is_entry}
use Rattle.id_valid.specs.Validator.{FillsRoles}
use Rattle.id_laws.proofs.Rows.Arcs.{Does, starts, returns, doing, makes, gives_back}
use Rattle.id_laws.proofs.Rows.Blocks.{all_listed, any_head}
use Rattle.id_laws.proofs.Rows.LoopRows.{entry_merge}
use Rattle.id_laws.proofs.Rows.Assumed.{IsKnown}
use Rattle.id_laws.proofs.Validity.ValidCounts.{any_among, among_any}
use Rattle.id_laws.proofs.Validity.ValidTests.{same_number, number_is}
use Rattle.id_build.specs.declared.arc.Form.{Form}

true_false : true ≡ false → ⊥
true_false h = cc

module _ (P : Checked) (known : IsKnown P) (g : Parts) (number : ℕ → ℕ → ℕ) (numbered : Numbered P g number) where
  abbrev R : List Row
  R = rows P

  pub op_made : {n part : ℕ} {o : Form} → n < length R → Does P n part o
      → op_at g (number n part) ≡ Some (op_by number o)
  op_made {n} {part} within d =
      let i = numbered.made n part _ _ (makes within d) in
      ap (option_map (λ (x : Instr). x.op)) i.at ∙ ap (λ x. Some x) i.op

  pub block_among : (h : ℕ) → h < length R → begins_block (node P h) ≡ true → Among (block_of P number h) g.blocks
  block_among h within begins =
      subst (λ (bs : List Block). Among (block_of P number h) bs) (sym numbered.blocks)
      (Among-map (block_of P number) h (all_heads P) (all_listed P h within begins))

  -- a block is that of a head
  record BlockOf (b : Block) : Type 0 where
    head : ℕ
    within : head < length R
    begins : begins_block (node P head) ≡ true
    is : b ≡ block_of P number head

  block_from : (b : Block) → Among b g.blocks → BlockOf b
  block_from b h =
      let t = Among-from_map (block_of P number) b (all_heads P)
      (subst (λ (bs : List Block). Among b bs) numbered.blocks h) in
      let z = any_head P t.0 t.1 in
      record { head = t.0; within = z.0; begins = z.1; is = t.2 }

  -- ---- roles of blocks

  first_is : (n : ℕ) → IsTrue (is_first g n) → op_at g n ≡ Some (Merge Signal)
  first_is n h =
      let t = among_any (λ (b : Block). b.first == n) g.blocks h in
      let d = block_from t.0 t.1 in
      let at : number d.head 0 ≡ n = sym (ap (λ (b : Block). b.first) d.is) ∙ number_is (t.0).first n t.2 in
      ap (op_at g) (sym at) ∙ op_made d.within (starts d.begins)

  -- behind the first instruction of a block stands its `back`
  second_does : (h : ℕ) → h < length R → begins_block (node P h) ≡ true
      → IsSome (option_and_then back_kind (op_at g (number h 1)))
  second_does h within begins = go (node P h) refl begins
    where
      go : (m : Node) → node P h ≡ m → begins_block m ≡ true → IsSome (option_and_then back_kind (op_at g (number h 1)))
      go Head is b = let does = op_made within (returns is) in rw does refl
      go (LoopHead s) is b = let does = op_made within (gives_back is) in rw does refl
      go _ is b = absurd (true_false (sym b))

  second_is : (n : ℕ) → IsTrue (is_second g n) → IsSome (option_and_then back_kind (op_at g n))
  second_is n h =
      let t = among_any (λ (b : Block). b.first + 1 == n) g.blocks h in
      let d = block_from t.0 t.1 in
      let at : number d.head 1 ≡ n =
      numbered.second_behind d.head (all_listed P d.head d.within d.begins) ∙ sym (ap (λ (b : Block). b.first + 1) d.is)
      ∙ number_is ((t.0).first + 1) n t.2 in
      subst (λ k. IsSome (option_and_then back_kind (op_at g k))) at (second_does d.head d.within d.begins)

  entry_is : (n : ℕ) → IsTrue (is_entry g n) → IsSome (option_and_then merge_kind (op_at g n))
  entry_is n h =
      let t = among_any (λ (b : Block). list_any (λ e. e == n) b.entries) g.blocks h in
      let d = block_from t.0 t.1 in
      let numbers = map (λ (q : Entry). number q.row q.part) (entries P d.head) in
      let listed : list_any (λ e. e == n) numbers ≡ true =
      ap (λ (b : Block). list_any (λ e. e == n) b.entries) (sym d.is) ∙ t.2 in
      let e = among_any (λ e. e == n) numbers listed in
      let x = Among-from_map (λ (q : Entry). number q.row q.part) e.0 (entries P d.head) e.1 in
      let z = entry_merge P d.head x.0 d.within d.begins x.1 in
      let at : number (x.0).row (x.0).part ≡ n = sym x.2 ∙ number_is e.0 n e.2 in
      let does : op_at g n ≡ Some (Merge (port_at P (x.0).binder)) = ap (op_at g) (sym at) ∙ op_made z.within z.does in
      rw does refl

  -- what is the number of an entry of a block is an entry
  pub entry_there : (h : ℕ) (q : Entry) → h < length R → begins_block (node P h) ≡ true → Among q (entries P h)
      → is_entry g (number q.row q.part) ≡ true
  entry_there h q within begins among =
      let n = number q.row q.part in
      let numbers = map (λ (z : Entry). number z.row z.part) (entries P h) in
      any_among (λ (c : Block). list_any (λ e. e == n) c.entries) (block_of P number h) g.blocks
      (block_among h within begins)
      (any_among (λ e. e == n) n numbers (Among-map (λ (z : Entry). number z.row z.part) q (entries P h) among)
      (same_number n n refl))

  pub fills : (n : ℕ) → FillsRoles g n
  fills n = record { first = first_is n; second = second_is n; entry = entry_is n }

  -- the instruction at a number does what its part does
  pub does_at : {q part : ℕ} {o : Form} (n : ℕ) (i : Instr) → q < length R → Does P q part o → number q part ≡ n
      → slice_get g.instrs n ≡ Some i →
      i.op ≡ op_by number o
  does_at {q} {part} {o} n i within d is at =
      let k = numbered.made q part _ _ (makes within d) in
      let both : Some i ≡ Some k.instr = sym at ∙ ap (slice_get g.instrs) (sym is) ∙ k.at in
      let one : i ≡ k.instr = cc in
      ap (λ (x : Instr). x.op) one ∙ k.op

  -- the instruction at a number is that of a part
  pub record Stands (n : ℕ) (o : Op) : Type 0 where
    pub row : ℕ
    pub part : ℕ
    pub within : row < length R
    pub form : Form
    pub does : Does P row part form
    pub op_is : op_by number form ≡ o
    pub is : number row part ≡ n

  pub stands : (n : ℕ) (o : Op) (x : Option Instr) → slice_get g.instrs n ≡ x
      → option_map (λ (i : Instr). i.op) x ≡ Some o → Stands n o
  stands n o None e h = cc
  stands n o (Some i) e h =
      let r = numbered.only n i e in
      let d = doing r.makes in
      let here : i.op ≡ o = cc in
      let op_is : op_by number r.form ≡ o = sym (does_at n i (r.makes).within d.does r.is e) ∙ here in
      record {
        row = r.row;
        part = r.part;
        within = (r.makes).within;
        form = r.form;
        does = d.does;
        op_is = op_is;
        is =
            r.is;
      }
