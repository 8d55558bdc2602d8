-- The rows of a checked program are known: the table, the binders and the kinds that the check has found.
use Rattle.std.proofs.Common.{◌≡◌, inl, inr, ℕ, ◌<◌, ◌+◌, ◌-◌, Bool, true, Some, map, length, refl, sym, ◌∙◌, ap, subst}
use Rattle.std.proofs.Common.{if◌then◌else◌}
use Rattle.std.specs.Prelude.{slice_get, unwrap_or}
use Rattle.id_table.specs.declared.row.Node.{Node}
use Rattle.id_table.specs.declared.row.Node.TheVariants.{Param, Literal, Name, Unary, Binary, Arg, Call, Def, Block}
use Rattle.id_table.specs.declared.row.Node.TheVariants.{Binding, Start, LoopHead, Turn, Next, Array, Carried, Index}
use Rattle.id_table.specs.Tables.{AreApart, is_binder, is_top}
use Rattle.id_table.specs.Turns.{IsDefOf, params_at}
use Rattle.id_table.proofs.BlocksLemmas.{Among-from_params_at}
use Rattle.id_table.proofs.PlacesLemmas.{AreApart-rows_of}
use Rattle.id_check.specs.declared.checked.Checked.{Checked}
use Rattle.id_check.specs.Causes.{defines_main}
use Rattle.id_check.specs.Kinds.{kind_within, link_of}
use Rattle.id_check.specs.Programs.{Calls, Stands, binder, kind, region, rows, tree}
use Rattle.id_check.proofs.ProgramsLemmas.{table_of, bound_name_row, kind_along, kind_fixed}
use Rattle.id_check.proofs.ProgramsLemmas.{enter_row, callee_row}
use Rattle.id_check.proofs.WantedLemmas.{split_row, if_row, def_row, call_row, next_row, argument_row, argument_call}
use Rattle.id_check.proofs.WantedLemmas.{switches_row, array_row, bounds_row, fetch_row, fetch_kind, address_row}
use Rattle.id_check.proofs.WantedLemmas.{address_kind, store_row}
use Rattle.id_source.specs.Sources.{head_of}
use Rattle.id_meaning.proofs.ArgumentsLemmas.{argument-get}
use Rattle.id_build.specs.Rows.{block, called, entering, first_binder, node, outer_at, param_at, param_of}
use Rattle.id_build.specs.Rows as build
use Rattle.id_value.specs.declared.Kind.TheVariants as kinds
use Rattle.id_value.specs.Kinds.{array_kind}
use Rattle.id_value.specs.List.{Among}
use Rattle.id_desugar.specs.Regions.{imports_of, nexts_of}
use Rattle.id_laws.specs.Activations.{main_head, Tests, of_arms, of_turns}
use Rattle.id_laws.specs.Topics.{Addresses, of_fetch, of_store}
use Rattle.id_laws.proofs.Rows.Assumed.{IsKnown, is_handed}
use Rattle.id_build.proofs.EndsLemmas.{call_is}
use Rattle.id_build.proofs.ImportsLemmas.{name_seen, split_seen, switches_seen, first_seen, loop_seen, turn_seen}
use Rattle.id_build.proofs.LoopsLemmas.{start_head}
use Rattle.id_laws.proofs.Rows.LoopRows.{entering_binds, handed_at, import_binds, name_binds}
use Rattle.id_value.proofs.AmongLemmas.{Among-either, Among-from_map}
use Rattle.id_table.proofs.DepthLemmas.{depth-head}
use Rattle.id_build.proofs.NamesSeen.{Sees}

some_is : {A : Type 0} {x y : A} → Some x ≡ Some y → x ≡ y
some_is h = cc

-- main is a definition
main_is : (P : Checked) → IsDefOf (rows P) P.main (main_head P)
main_is P = go (node P P.main) refl (P.is_main).node
  where
    go : (m : Node) → node P P.main ≡ m → defines_main m ≡ true → IsDefOf (rows P) P.main (main_head P)
    go (Def x h k b) is e =
        record {
          name = x;
          result = k;
          body = b;
          within = (P.is_main).within;
          node =
              is ∙ ap (λ z. Def x z k b) (sym (ap head_of is));
        }
    go _ is e = absurd (no e)
      where
        no : Rattle.std.proofs.Common.false ≡ true → ⊥
        no e = cc

-- a name has a binder, which its region sees
bound_is : (P : Checked) (n x : ℕ) → n < length (rows P) → node P n ≡ Name x
    → (b : ℕ) × (binder P n ≡ Some b) × (b < length (rows P)) × (is_binder (node P b) ≡ true) × Sees P b (region P n)
bound_is P n x within is =
    let z = bound_name_row P n x (record { within = within; node = is }) in
    let b = z.1 in
    let y = name_seen P n x within is in (
      z.0,
      b.binder,
      b.within,
      b.is_binder,
      subst (λ c. Sees P c (region P n)) (some_is (sym y.binds ∙ b.binder)) (y.seen).sees,
    )

-- what an `Enter` enters is the procedure that it calls
called_is : (P : Checked) (e d h : ℕ) → Calls P e d h → called P e ≡ h
called_is P e d h w = ap (λ o. build.head_of (node P (unwrap_or o 0))) w.binder ∙ ap build.head_of w.definition.node

-- the definition of that procedure
def_of : (P : Checked) (e d h : ℕ) → Calls P e d h → IsDefOf (rows P) d h
def_of P e d h w =
    record { name = w.name; result = w.result; body = w.body; within = w.definition.within; node = w.definition.node }

-- an argument is that of a call, and goes to the parameter of its index
passed_is : (P : Checked) (m e k v : ℕ) → m < length (rows P) → node P m ≡ Arg e k v
    → (slice_get (params_at (rows P) (called P e)) k ≡ Some (param_of P e k)) × (kind P v ≡ kind P (param_of P e k))
passed_is P m e k v within is = go c.0 c.1 c.2
  where
    s : Stands P m (Arg e k v)
    s = record { within = within; node = is }

    c : (d : ℕ) × (h : ℕ) × Calls P e d h
    c = let a = argument_call P m e k v s in callee_row P a.call e a.count a.stands

    go : (d h : ℕ) → Calls P e d h → (slice_get (params_at (rows P) (called P e)) k ≡ Some (param_of P e k))
        × (kind P v ≡ kind P (param_of P e k))
    go d h w =
        let a = argument_row P m e k v d h s w in
        let b = Among-from_params_at (rows P) h (h + 1 + k) a.0 in
        let head = called_is P e d h w in
        let param : param_of P e k ≡ h + 1 + k =
        ap (λ z. param_at P (z + 1 + k)) head ∙ ap (λ t. if t then h + 1 + k else 0) b.1 in (
          ap (λ z. slice_get (params_at (rows P) z) k) head ∙ argument-get P m e d h k v w s
              ∙ ap (λ z. Some z) (sym param),
          a.1 ∙ ap (kind P) (sym param),
        )

-- a call is of the kind of the result of the procedure that it calls
call_is_kind : (P : Checked) (n e c d : ℕ) (h : IsDefOf (rows P) d (called P e)) → n < length (rows P)
    → node P n ≡ Call e c → kind P n ≡ Some h.result
call_is_kind P n e c d h within is = go w.0 w.1 w.2
  where
    s : Stands P n (Call e c)
    s = record { within = within; node = is }

    w : (b : ℕ) × (g : ℕ) × Calls P e b g
    w = callee_row P n e c s

    go : (b g : ℕ) → Calls P e b g → kind P n ≡ Some h.result
    go b g w =
        let head = called_is P e b g w in
        let same : d ≡ b = (table_of P).one_def d b g (subst (IsDefOf (rows P) d) head h) (def_of P e b g w) in
        let one : Def h.name (called P e) h.result h.body ≡ Def w.name g w.result w.body =
        sym h.node ∙ ap (node P) same ∙ w.definition.node in
        let result : h.result ≡ w.result = cc in
        (call_row P n e c b g s w).1 ∙ ap (λ z. Some z) (sym result)

-- what switches hand on is seen where they stand
imported_by : (P : Checked) (n t b : ℕ) → n < length (rows P) → Tests P n t → Among b (imports_of P n)
    → (b < length (rows P)) × (is_handed (node P b) ≡ true) × Sees P b (region P n)
imported_by P n t b within (of_arms is) among =
    let z = handed_at P n t b within (of_arms is) among in
    (z.within, z.handed, (split_seen P n t b within is among).sees)
imported_by P n t b within (of_turns is) among =
    let z = handed_at P n t b within (of_turns is) among in
    (z.within, z.handed, (switches_seen P n t b within is among).sees)

-- what hands on imports hands on those of a loop
turn_head : (P : Checked) (i : ℕ) → i < length (rows P) → node P i ≡ Turn
    → node P (block P i) ≡ LoopHead (block P i - 1)
turn_head P i within is =
    let z = (table_of P).turn_of i within is in
    (((table_of P).loop_is z.0 (block P i) z.1).before_test).head

-- what goes into a loop is seen where its `Start` stands
entering_sees : (P : Checked) (s b : ℕ) → s < length (rows P) → node P s ≡ Start → Among b (entering P (s + 1))
    → Sees P b (region P s)
entering_sees P s b within is among =
    elim (Among-either b (map (first_binder P) (nexts_of P (s + 1))) (imports_of P (s + 1)) among) [
      | inl k ↦
          let t = Among-from_map (first_binder P) b (nexts_of P (s + 1)) k in
          subst (λ c. Sees P c (region P s)) (sym t.2) (first_seen P s t.0 within is t.1).sees
      | inr k ↦ let h = start_head P s within is in (loop_seen P (s + 1) s b h.0 h.1 k).sees
    ]

-- the outer name of a `next` has the binder of the variable's first value
first_bound_is : (P : Checked) (m x k o v : ℕ) → m < length (rows P) → node P m ≡ Next x k o v
    → binder P o ≡ Some (first_binder P m)
first_bound_is P m x k o v within is =
    let z = next_row P m x k o v (record { within = within; node = is }) in
    let same : first_binder P m ≡ z.0 =
    ap (λ n. unwrap_or (binder P (outer_at n)) 0) is ∙ ap (λ o. unwrap_or o 0) (z.3).binder in
    (z.3).binder ∙ ap (λ c. Some c) (sym same)

-- a predicate is a truth value
test_by : (P : Checked) (n t : ℕ) → n < length (rows P) → Tests P n t → kind P t ≡ Some kinds.Bool
test_by P n t within (of_arms is) = split_row P n t (record { within = within; node = is })
test_by P n t within (of_turns is) = switches_row P n t (record { within = within; node = is })

-- what names a cell is a structure with a number
cell_by : (P : Checked) (n t i : ℕ) → n < length (rows P) → Addresses P n t i
    → (nested : Bool) × (kind P t ≡ Some (array_kind nested)) × (kind P i ≡ Some kinds.Int)
cell_by P n t i within (of_fetch is) = fetch_row P n t i (record { within = within; node = is })
cell_by P n t i within (of_store is) = address_row P n t i (record { within = within; node = is })

-- what a cell of it holds is of the kind of the elements
kind_of_cell : (P : Checked) (n t i : ℕ) → n < length (rows P) → Addresses P n t i
    → kind P n ≡ Some (kind_within (kind P t))
kind_of_cell P n t i within (of_fetch is) = fetch_kind P n t i (record { within = within; node = is })
kind_of_cell P n t i within (of_store is) = address_kind P n t i (record { within = within; node = is })

-- the rows of each checked program are known
pub known : (P : Checked) → IsKnown P
known P = record {
  table = table_of P;
  apart = subst AreApart (sym P.tabled) (AreApart-rows_of (tree P) P.distinct);
  head_place = λ n h d. (table_of P).head_place n h d;
  main = main_is P;
  params = λ b x k within is. (table_of P).at_top b within (ap is_top is);
  bound = bound_is P;
  imported = imported_by P;
  names = λ n t b within is among. (name_binds P n b among).binds;
  loop_names = λ s within is b among. (
      let h = start_head P s within is in
      let z = entering_binds P (s + 1) s b h.1 among in
      (z.within, z.binds, entering_sees P s b within is among)
      );
  loop_imports =
      λ h s within is b among. (let z = import_binds P h s b is among in
      (z.within, z.binds, (loop_seen P h s b within is among).sees));
  turn_names = λ i within is b among. (
      let z = import_binds P (block P i) (block P i - 1) b (turn_head P i within is) among in
      (z.within, z.binds, (turn_seen P i b within is among).sees)
      );
  loop_depth = λ h s within is. depth-head (rows P) (table_of P) h s within is;
  first_bound = first_bound_is P;
  operands = λ n a within operand. (table_of P).operand_is n a within operand;
  param_kind = λ n x k within is. kind_fixed P n (Param x k) k (record { within = within; node = is }) refl;
  literal_kind = λ n c within is. kind_fixed P n (Literal c) _ (record { within = within; node = is }) refl;
  name_kind =
      λ n x b within is e. kind_along P n b (Name x) (record { within = within; node = is })
      (ap (λ o. link_of o (Name x)) e);
  unary_kinds = λ n a o within is. kind_fixed P n (Unary o a) _ (record { within = within; node = is }) refl;
  binary_kinds = λ n a b o within is. kind_fixed P n (Binary o a b) _ (record { within = within; node = is }) refl;
  test_kind = test_by P;
  arm_kinds =
      λ n s x y within is. (let z = if_row P n s x y (record { within = within; node = is }) in (sym z.0, sym z.1));
  index_kind = λ n x within is. kind_fixed P n (Index x) kinds.Int (record { within = within; node = is }) refl;
  carried_kind = λ n k within is. kind_fixed P n (Carried k) k (record { within = within; node = is }) refl;
  array_kind =
      λ {nested} n a b within is. kind_fixed P n (Array nested a b) _ (record { within = within; node = is }) refl;
  cell_kind = kind_of_cell P;
  range_kinds = λ n a b within is. bounds_row P n a b (record { within = within; node = is });
  bound_kinds = λ n a b within is. array_row P n a b (record { within = within; node = is });
  cell_kinds = cell_by P;
  stored_kind =
      λ n a v t i within is a_within a_is. store_row P n a v t i (record { within = within; node = is })
      (record { within = a_within; node = a_is });
  block_kind = λ n b within is. kind_along P n b (Block b) (record { within = within; node = is }) refl;
  binding_kind = λ n x a within is. kind_along P n a (Binding x a) (record { within = within; node = is }) refl;
  result_kind = λ n h d. def_row P n d.name h d.body d.result (record { within = d.within; node = d.node });
  call_end = λ e x within is. call_is P (table_of P) e x within is;
  callee = λ e x within is. (
      let w = enter_row P e x (record { within = within; node = is }) in
      (w.0, w.2.binder, subst (IsDefOf (rows P) w.0) (sym (called_is P e w.0 w.1 w.2)) (def_of P e w.0 w.1 w.2))
      );
  passed = passed_is P;
  call_kind = λ n e c x d h within is. call_is_kind P n e c d h within is;
}
