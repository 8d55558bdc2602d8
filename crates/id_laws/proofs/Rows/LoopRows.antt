-- What the rows of a loop make, and what they import.
use Rattle.std.proofs.Common.{◌≡◌, inl, inr, ℕ, zero, suc, ◌+◌, ◌-◌, ◌<◌, Bool as Truth, true, false, cond, Option}
use Rattle.std.proofs.Common.{Some, None, List, [], ◌∷◌, ◌++◌, map, length}
use Rattle.std.specs.Prelude.{◌||◌}
use Rattle.std.proofs.Common.{slice_get, get_or, unwrap_or, refl, sym, ◌∙◌, ap, subst, arith}
use Rattle.id_value.specs.List.{Among}
use Rattle.id_value.proofs.AmongLemmas.{Among-either, Among-from_map}
use Rattle.id_value.specs.declared.Kind.{Kind}
use Rattle.id_value.specs.declared.Kind.TheVariants as kinds
use Rattle.id_table.specs.declared.row.Node.{Node}
use Rattle.id_table.specs.declared.row.Node.TheVariants.{Head, Param, Name, NextUse, Split, Binding, LoopHead, Variable}
use Rattle.id_table.specs.declared.row.Node.TheVariants.{Entries, Switches, Next, Start, Reset}
use Rattle.id_table.specs.declared.row.Node.TheVariants.{Carried, Index}
use Rattle.id_table.specs.Rows.{at}
use Rattle.id_table.specs.Tables.{begins_block, is_binder, is_carried, is_variable}
use Rattle.id_table.specs.Loops.{IsLoopOf, IsNextOf}
use Rattle.id_table.specs.Turns.{params_at}
use Rattle.id_check.specs.declared.checked.Checked.{Checked}
use Rattle.id_check.specs.Programs.{binder, kind, place, rows}
use Rattle.id_check.proofs.ProgramsLemmas.{bound_name_row, bound_use_row, kind_fixed, table_of}
use Rattle.id_check.proofs.WantedLemmas.{next_row}
use Rattle.id_instr.specs.declared.instr.Op.TheVariants as op
use Rattle.id_desugar.specs.Ends.{next_of, end_of}
use Rattle.id_desugar.specs.Regions.{bound_of, carried, first_variable, handed, has, has_index, imports_by, imports_of}
use Rattle.id_desugar.specs.Regions.{is_outside, is_right_in}
use Rattle.id_desugar.specs.Regions.{nexts_from, nexts_of, taken, used, used_by, with_use}
use Rattle.id_build.specs.declared.arc.Form.TheVariants.{Plain}
use Rattle.id_build.specs.Rows.{Entry, block, entering, entries, entries_by, entries_row, first_binder}
use Rattle.id_build.specs.Rows.{import_entries, label, label_by, loop_entries, node, outer_at, param_entry, port_at}
use Rattle.id_build.specs.Rows.{made_of, port_of, variable_entries}
use Rattle.id_build.proofs.LoopsLemmas.{carried_nodes, entries_node, entries_stand, entries_within, index_carried}
use Rattle.id_build.proofs.LoopsLemmas.{loop_rows, next_is, switches_high, switches_low}
use Rattle.id_laws.specs.Activations.{Tests, of_arms, of_turns}
use Rattle.id_laws.proofs.Rows.Arcs.{Does, doing, enters, names, place_shown, varies, takes_in}
use Rattle.id_laws.proofs.Rows.Assumed.{is_handed, names_by, names_of}
use Rattle.id_laws.proofs.Rows.Blocks.{a_param}

true_false : true ≡ false → ⊥
true_false h = cc

some_is : {A : Type 0} {x y : A} → Some x ≡ Some y → x ≡ y
some_is h = cc

-- at a row past the last a head stands
pub past : (P : Checked) (n : ℕ) (f : Node → Truth) → f Head ≡ false → f (node P n) ≡ true → n < length (rows P)
past P n f none is = go (rows P) n is
  where
    go : (R : List Rattle.id_table.specs.declared.row.Row.Row) (i : ℕ) → f (at R i).node ≡ true → i < length R
    go [] i e = absurd (true_false (sym e ∙ none))
    go (r ∷ R) zero e = omega arith
    go (r ∷ R) (suc i) e = let less = go R i e in omega (arith, less)

-- a variable stands in the table
variable_is : (m : Node) → is_variable m ≡ true → m ≡ Variable
variable_is Variable e = refl
variable_is _ e = absurd (true_false (sym e))

pub variable_within : (P : Checked) (v : ℕ) → is_variable (node P v) ≡ true → v < length (rows P)
variable_within P v e = past P v is_variable refl e

-- ---- the entries of a block are merges of its binders' kinds

pub record EntryMerge (P : Checked) (q : Entry) : Type 0 where
  pub within : q.row < length (rows P)
  pub does : Does P q.row q.part (Plain (op.Merge (port_at P q.binder)))

-- what a loop carries on for its index is a merge of its kind
pub record CarriedRow (P : Checked) (i : ℕ) (k : Kind) : Type 0 where
  pub within : i < length (rows P)
  pub does : Does P i 0 (Plain (op.Merge (port_at P i)))
  pub kind : kind P i ≡ Some k

pub carried_row : (P : Checked) (i : ℕ) (k : Kind) → node P i ≡ Carried k → CarriedRow P i k
carried_row P i k is =
    let within = past P i is_carried refl (ap is_carried is) in
    let kind_is = kind_fixed P i (Carried k) k (record { within = within; node = is }) refl in
    let port : port_of k ≡ port_at P i = ap (λ o. port_of (unwrap_or o kinds.Int)) (sym kind_is) in
    let d = doing {P = P} {n = i} {part =
    0} (record { within = within; at = ap (λ m. slice_get (made_of P i (place P i) m) 0) is }) in
    record { within = within; does = subst (λ p. Does P i 0 (Plain (op.Merge p))) port d.does; kind = kind_is }

-- the rows that a loop carries on for its index
pub carried_rows : (P : Checked) (h s : ℕ) → h < length (rows P) → node P h ≡ LoopHead s → has_index P h ≡ true
    → (node P (h + 1) ≡ Carried kinds.Int) × (node P (h + 2) ≡ Carried kinds.Int)
    × (node P (h + 3) ≡ Carried kinds.Bool)
carried_rows P h s within is has =
    let r = loop_rows P h s within is in
    carried_nodes (r.before_test).carried (index_carried P h r.entries r.carried r.before_test has)

carried_entries : (P : Checked) (h : ℕ) (q : Entry) (t : Truth) → (t ≡ true → EntryMerge P (param_entry (h + 1))
    × EntryMerge P (param_entry (h + 2)) × EntryMerge P (param_entry (h + 3)))
    → Among q (map param_entry (cond t ((h + 1) ∷ (h + 2) ∷ (h + 3) ∷ []) [])) → EntryMerge P q
carried_entries P h q true all (inl is) = subst (EntryMerge P) (sym is) (all refl).0
carried_entries P h q true all (inr (inl is)) = subst (EntryMerge P) (sym is) (all refl).1
carried_entries P h q true all (inr (inr (inl is))) = subst (EntryMerge P) (sym is) (all refl).2
carried_entries P h q true all (inr (inr (inr none))) = absurd none
carried_entries P h q false all none = absurd none

carried_merge : (P : Checked) (h s : ℕ) (q : Entry) → h < length (rows P) → node P h ≡ LoopHead s
    → Among q (map param_entry (carried P h)) → EntryMerge P q
carried_merge P h s q within is =
    carried_entries P h q (has_index P h) (λ has.
    let z = carried_rows P h s within is has in
    (one (h + 1) kinds.Int z.0, one (h + 2) kinds.Int z.1, one (h + 3) kinds.Bool z.2))
  where
    one : (i : ℕ) (k : Kind) → node P i ≡ Carried k → EntryMerge P (param_entry i)
    one i k e = let c = carried_row P i k e in record { within = c.within; does = c.does }

variable_merge : (P : Checked) (v n : ℕ) (q : Entry) → Among q (variable_entries v (nexts_from P v n)) → EntryMerge P q
variable_merge P v zero q h = absurd h
variable_merge P v (suc n) q h = go (is_variable (node P v)) refl h (variable_merge P (suc v) n q)
  where
    go : (t : Truth) → is_variable (node P v) ≡ t
        → Among q (variable_entries v (cond t (next_of P v ∷ nexts_from P (suc v) n) []))
        → (Among q (variable_entries (suc v) (nexts_from P (suc v) n)) → EntryMerge P q) → EntryMerge P q
    go true e (inl is) rest =
        subst (EntryMerge P) (sym is) (record {
          within = variable_within P v e;
          does =
              varies (variable_is (node P v) e);
        })
    go true e (inr k) rest =
        let up : v + 1 ≡ suc v =
        omega arith in rest (subst (λ z. Among q (variable_entries z (nexts_from P (suc v) n))) up k)
    go false e k rest = absurd k

-- the entry of an import
record ImportAt (e j : ℕ) (bs : List ℕ) (q : Entry) : Type 0 where
  slot : ℕ
  less : slot < length bs
  is : q ≡ record { binder = get_or bs slot 0; row = e; part = j + slot }

import_at : (e j : ℕ) (bs : List ℕ) (q : Entry) → Among q (import_entries e j bs) → ImportAt e j bs q
import_at e j [] q h = absurd h
import_at e j (b ∷ bs) q (inl is) =
    let here : j ≡ j + 0 = omega arith in
    record { slot = 0; less = omega arith; is = is ∙ ap (λ z. record { binder = b; row = e; part = z }) here }
import_at e j (b ∷ bs) q (inr h) =
    let z = import_at e (j + 1) bs q h in
    let up : j + 1 + z.slot ≡ j + suc z.slot = omega arith in
    record {
      slot = suc z.slot;
      less = omega (arith, z.less);
      is =
          z.is ∙ ap (λ y. record { binder = get_or bs z.slot 0; row = e; part = y }) up;
    }

pub loop_merge : (P : Checked) (h s : ℕ) (q : Entry) → h < length (rows P) → node P h ≡ LoopHead s
    → Among q (loop_entries P h) → EntryMerge P q
loop_merge P h s q within is among =
    elim (Among-either q (map param_entry (carried P h))
    (variable_entries v (nexts_of P h) ++ import_entries e 0 (imports_of P h)) among) [
      | inl k ↦ carried_merge P h s q within is k
      | inr k ↦ elim (Among-either q (variable_entries v (nexts_of P h)) (import_entries e 0 (imports_of P h)) k) [
        | inl j ↦ variable_merge P v (length (rows P)) q j
        | inr j ↦ taken j
      ]
    ]
  where
    v : ℕ
    v = first_variable P h

    e : ℕ
    e = entries_row P h

    taken : Among q (import_entries e 0 (imports_of P h)) → EntryMerge P q
    taken k =
        let z = import_at e 0 (imports_of P h) q k in
        let first : 0 + z.slot ≡ z.slot = omega arith in
        let of_block : block P e ≡ h = (entries_stand P h s within is e (omega arith) (omega arith)).0 in
        let does : Does P e z.slot (Plain (op.Merge (port_at P (get_or (imports_of P h) z.slot 0)))) =
        subst (λ g. z.slot < length (imports_of P g)
        → Does P e z.slot (Plain (op.Merge (port_at P (get_or (imports_of P g) z.slot 0))))) of_block
        (λ less. takes_in z.slot (entries_node P h s within is) less) z.less in
        subst (EntryMerge P)
        (ap (λ y. record { binder = get_or (imports_of P h) z.slot 0; row = e; part = y }) (sym first) ∙ sym z.is)
        (record { within = entries_within P h s within is; does = does })

param_merge : (P : Checked) (h : ℕ) (q : Entry) → Among q (map param_entry (params_at (rows P) h)) → EntryMerge P q
param_merge P h q among =
    let t = Among-from_map param_entry q (params_at (rows P) h) among in
    let z = a_param (rows P) h (length (rows P)) t.0 t.1 in
    subst (EntryMerge P) (sym t.2) (record { within = z.within; does = enters (z.param).is })

-- an entry of a block is a merge for its binder's values
pub entry_merge : (P : Checked) (h : ℕ) (q : Entry) → h < length (rows P) → begins_block (node P h) ≡ true
    → Among q (entries P h) → EntryMerge P q
entry_merge P h q within begins among = go (node P h) refl begins among
  where
    go : (m : Node) → node P h ≡ m → begins_block m ≡ true → Among q (entries_by P h m) → EntryMerge P q
    go Head is b k = param_merge P h q k
    go (LoopHead s) is b k = loop_merge P h s q within is k
    go _ is b k = absurd (true_false (sym b))

-- ---- what goes to a loop's entries is of their kind

-- the row is a `next` statement
pub record NextAt (P : Checked) (m : ℕ) : Type 0 where
  pub name : ℕ
  pub index : ℕ
  pub outer : ℕ
  pub value : ℕ
  pub within : m < length (rows P)
  pub node : node P m ≡ Next name index outer value

pub a_next : (P : Checked) (v n m : ℕ) → Among m (nexts_from P v n) → NextAt P m
a_next P v zero m h = absurd h
a_next P v (suc n) m h = go (is_variable (node P v)) refl h (a_next P (suc v) n m)
  where
    go : (t : Truth) → is_variable (node P v) ≡ t → Among m (cond t (next_of P v ∷ nexts_from P (suc v) n) []) →
        (Among m (nexts_from P (suc v) n) → NextAt P m) → NextAt P m
    go true e (inl is) rest =
        let z = next_is P v (variable_within P v e) (variable_is (node P v) e) in
        subst (NextAt P) (sym is) (record {
          name = z.name;
          index = z.index;
          outer = z.outer;
          value = z.value;
          within =
              z.within;
          node = z.node;
        })
    go true e (inr k) rest = rest k
    go false e k rest = absurd k

-- a variable has the kind of its first value's binder
pub first_kind : (P : Checked) (m : ℕ) → NextAt P m → kind P (first_binder P m) ≡ kind P m
first_kind P m x =
    let z = next_row P m x.name x.index x.outer x.value (record { within = x.within; node = x.node }) in
    let b = z.0 in
    let is : first_binder P m ≡ b =
    ap (λ n. unwrap_or (binder P (outer_at n)) 0) x.node ∙ ap (λ o. unwrap_or o 0) (z.3).binder in
    ap (kind P) is ∙ sym z.4

-- what goes to the entry of this number
pub record EnteredAs (P : Checked) (bs : List ℕ) (k : ℕ) (q : Entry) : Type 0 where
  pub less : k < length bs
  pub kind : kind P (get_or bs k 0) ≡ kind P q.binder

import_as : (P : Checked) (e j : ℕ) (bs : List ℕ) (k : ℕ) (q : Entry) → slice_get (import_entries e j bs) k ≡ Some q
    → EnteredAs P bs k q
import_as P e j [] k q h = cc
import_as P e j (b ∷ bs) zero q h =
    let is = some_is h in record { less = omega arith; kind = ap (λ (z : Entry). kind P z.binder) is }
import_as P e j (b ∷ bs) (suc k) q h =
    let z = import_as P e (j + 1) bs k q h in record { less = omega (arith, z.less); kind = z.kind }

either_as : (P : Checked) (v e : ℕ) (ms bs : List ℕ) (k : ℕ) (q : Entry) → ((m : ℕ) → Among m ms → NextAt P m)
    → slice_get (variable_entries v ms ++ import_entries e 0 bs) k ≡ Some q
    → EnteredAs P (map (first_binder P) ms ++ bs) k q
either_as P v e [] bs k q all h = import_as P e 0 bs k q h
either_as P v e (m ∷ ms) bs zero q all h =
    let is = some_is h in
    record { less = omega arith; kind = first_kind P m (all m (inl refl)) ∙ ap (λ (z : Entry). kind P z.binder) is }
either_as P v e (m ∷ ms) bs (suc k) q all h =
    let z = either_as P (v + 1) e ms bs k q (λ i a. all i (inr a)) h in
    record { less = omega (arith, z.less); kind = z.kind }

-- what is carried on has its own kind
before_as : (P : Checked) (is bs : List ℕ) (qs : List Entry) (k : ℕ) (q : Entry)
    → ((j : ℕ) → slice_get qs j ≡ Some q → EnteredAs P bs j q) → slice_get (map param_entry is ++ qs) k ≡ Some q
    → EnteredAs P (is ++ bs) k q
before_as P [] bs qs k q rest h = rest k h
before_as P (i ∷ is) bs qs zero q rest h =
    let one = some_is h in record { less = omega arith; kind = ap (λ (z : Entry). kind P z.binder) one }
before_as P (i ∷ is) bs qs (suc k) q rest h =
    let z = before_as P is bs qs k q rest h in
    record { less = omega (arith, z.less); kind = z.kind }

pub entered_as : (P : Checked) (h k : ℕ) (q : Entry) → slice_get (loop_entries P h) k ≡ Some q
    → EnteredAs P (carried P h ++ entering P h) k q
entered_as P h k q at =
    let v = first_variable P h in
    before_as P (carried P h) (entering P h)
    (variable_entries v (nexts_of P h) ++ import_entries (entries_row P h) 0 (imports_of P h)) k q
    (λ j e. either_as P v (entries_row P h) (nexts_of P h) (imports_of P h) j q (a_next P v (length (rows P))) e) at

-- ---- imports are binders

-- a binder stands at the row
pub record BinderAt (P : Checked) (b : ℕ) : Type 0 where
  pub within : b < length (rows P)
  pub binds : is_binder (node P b) ≡ true

used_binds : (P : Checked) (i b : ℕ) (own : Truth) (m : Node) → node P i ≡ m → used_by own (binder P i) m ≡ Some b
    → BinderAt P b
used_binds P i b own (Name x) is e =
    let z = bound_name_row P i x (record { within = past P i is_name refl (ap is_name is); node = is }) in
    subst (BinderAt P) (some_is (sym (z.1).binder ∙ e)) (record { within = (z.1).within; binds = (z.1).is_binder })
  where
    is_name : Node → Truth
    is_name (Name x) = true
    is_name _ = false
used_binds P i b true (NextUse x) is e = cc
used_binds P i b false (NextUse x) is e =
    let z = bound_use_row P i x (record { within = past P i is_use refl (ap is_use is); node = is }) in
    subst (BinderAt P) (some_is (sym (z.3).binder ∙ e)) (record { within = (z.3).within; binds = (z.3).is_binder })
  where
    is_use : Node → Truth
    is_use (NextUse x) = true
    is_use _ = false
used_binds P i b own _ is e = cc

use_binds : (P : Checked) (lo hi : ℕ) (bs : List ℕ) (o : Option ℕ) → ((b : ℕ) → Among b bs → BinderAt P b)
    → ((b : ℕ) → o ≡ Some b → BinderAt P b) → (b : ℕ) → Among b (with_use lo hi bs o) → BinderAt P b
use_binds P lo hi bs None old new b h = old b h
use_binds P lo hi bs (Some c) old new b h = go (is_outside lo hi c) (has bs c) h
  where
    go : (t u : Truth) → Among b (cond t (cond u bs (bs ++ c ∷ [])) bs) → BinderAt P b
    go true true k = old b k
    go true false k =
        elim (Among-either b bs (c ∷ []) k) [
          | inl l ↦ old b l
          | inr l ↦ elim l [ inl is ↦ new b (ap (λ z. Some z) (sym is)) | inr none ↦ absurd none ]
        ]
    go false u k = old b k

taken_binds : (P : Checked) (g lo hi n b : ℕ) → Among b (imports_by (used P g) lo hi n) → BinderAt P b
taken_binds P g lo hi zero b h = absurd h
taken_binds P g lo hi (suc n) b h =
    use_binds P lo hi (imports_by (used P g) lo hi n) (used P g (lo + n)) (λ c k. taken_binds P g lo hi n c k)
    (λ c e. used_binds P (lo + n) c (is_right_in P g (lo + n)) (node P (lo + n)) refl e) b h

next_binds : (P : Checked) (m : ℕ) → NextAt P m → BinderAt P m
next_binds P m x = record { within = x.within; binds = ap is_binder x.node }

outside_binds : (P : Checked) (g b : ℕ) → Among b (taken P g) → BinderAt P b
outside_binds P g b k = taken_binds P g (g + 1) (end_of P g) _ b k

-- those that a row hands on
pub name_binds : (P : Checked) (n b : ℕ) → Among b (names_of P n) → BinderAt P b
name_binds P n b h = go (node P n) h
  where
    go : (m : Node) → Among b (names_by P n m) → BinderAt P b
    go (Split t) k = outside_binds P n b k
    go (LoopHead s) k = outside_binds P n b k
    go (Switches t) k =
        elim (Among-either b (nexts_of P (block P n)) (taken P (block P n)) k) [
          | inl l ↦ next_binds P b (a_next P (first_variable P (block P n)) (length (rows P)) b l)
          | inr l ↦ outside_binds P (block P n) b l
        ]
    go _ k = absurd k

-- and those of a loop
pub import_binds : (P : Checked) (h s b : ℕ) → node P h ≡ LoopHead s → Among b (imports_of P h) → BinderAt P b
import_binds P h s b is among = outside_binds P h b (subst (λ m. Among b (handed P h m)) is among)

-- so are the first values of a loop's variables
pub entering_binds : (P : Checked) (h s b : ℕ) → node P h ≡ LoopHead s → Among b (entering P h) → BinderAt P b
entering_binds P h s b is among =
    elim (Among-either b (map (first_binder P) (nexts_of P h)) (imports_of P h) among) [
      | inl k ↦
          let t = Among-from_map (first_binder P) b (nexts_of P h) k in
          let x = a_next P (first_variable P h) (length (rows P)) t.0 t.1 in
          let z = next_row P t.0 x.name x.index x.outer x.value (record { within = x.within; node = x.node }) in
          let is : b ≡ z.0 =
          t.2 ∙ ap (λ n. unwrap_or (binder P (outer_at n)) 0) x.node ∙ ap (λ o. unwrap_or o 0) (z.3).binder in
          subst (BinderAt P) (sym is) (record { within = (z.3).within; binds = (z.3).is_binder })
      | inr k ↦ import_binds P h s b is k
    ]

-- a row that has its value from a label stands at the row
pub record HandedAt (P : Checked) (b : ℕ) : Type 0 where
  pub within : b < length (rows P)
  pub handed : is_handed (node P b) ≡ true

pub handed_binder : (P : Checked) (b : ℕ) → BinderAt P b → HandedAt P b
handed_binder P b x = record { within = x.within; handed = ap (λ t. t || is_carried (node P b)) x.binds }

pub handed_carried : (P : Checked) (b : ℕ) (k : Kind) → node P b ≡ Carried k → HandedAt P b
handed_carried P b k is = record { within = past P b is_carried refl (ap is_carried is); handed = ap is_handed is }

-- what switches hand on is so: the names, and the upper bound of an index
pub handed_at : (P : Checked) (n t b : ℕ) → n < length (rows P) → Tests P n t → Among b (imports_of P n) → HandedAt P b
handed_at P n t b within (of_arms is) among =
    handed_binder P b (outside_binds P n b (subst (λ m. Among b (handed P n m)) is among))
handed_at P n t b within (of_turns is) among =
    elim (Among-either b (bound_of P g) (nexts_of P g ++ taken P g) (subst (λ m. Among b (handed P n m)) is among)) [
      | inl k ↦ bound (has_index P g) refl k
      | inr k ↦ handed_binder P b (name_binds P n b (subst (λ m. Among b (names_by P n m)) (sym is) k))
    ]
  where
    g : ℕ
    g = block P n

    bound : (c : Truth) → has_index P g ≡ c → Among b (cond c ((g + 2) ∷ []) []) → HandedAt P b
    bound true has (inl e) =
        let z = (table_of P).switches_of n t within is in
        let x = (table_of P).loop_is z.0 g z.1 in
        let low = switches_low x in
        let high = switches_high x in
        let less : g < length (rows P) = omega (arith, low, high, (z.1).within) in
        subst (HandedAt P) (sym e)
        (handed_carried P (g + 2) kinds.Int (carried_rows P g (g - 1) less (x.before_test).head has).1)
    bound true has (inr none) = absurd none
    bound false has none = absurd none

-- ---- labels

-- the variable of a `next` statement, which has its place, and whose `next` that is
pub record VariableOf (P : Checked) (m i : ℕ) : Type 0 where
  pub within : i < length (rows P)
  pub node : node P i ≡ Variable
  pub next : next_of P i ≡ m
  pub place : place P i ≡ place P m

pub variable_of_next : (P : Checked) (m x k o v : ℕ) → m < length (rows P) → node P m ≡ Next x k o v
    → VariableOf P m (block P m + 1 + k)
variable_of_next P m x k o v within is =
    let h = block P m in
    let i = h + 1 + k in
    let here : IsNextOf (rows P) m h k x = record { outer = o; value = v; within = within; block = refl; node = is } in
    let z = ((table_of P).next_in m h k x here).2 in
    let low : i < length (rows P) = variable_within P i (ap is_variable z.variable) in
    let n = next_is P i low z.variable in
    let there = ((table_of P).next_in (next_of P i) (block P (next_of P i)) n.index n.name
    (record { outer = n.outer; value = n.value; within = n.within; block = refl; node = n.node })).2 in
    let same_block : block P (next_of P i) ≡ h = sym there.variable_block ∙ ap (block P) n.is ∙ z.variable_block in
    let same_index : n.index ≡ k = omega (arith, n.is, same_block) in
    let as_next : IsNextOf (rows P) (next_of P i) h k n.name =
    record {
      outer = n.outer;
      value = n.value;
      within = n.within;
      block = same_block;
      node =
          n.node ∙ ap (λ j. Next n.name j n.outer n.value) same_index;
    } in
    record {
      within = low;
      node = z.variable;
      next = (table_of P).one_next (next_of P i) m h k n.name x as_next here;
      place = z.place;
    }

-- the label of a binder: a merge of its kind, at its place
pub record LabelAt (P : Checked) (b : ℕ) : Type 0 where
  pub within : label P b < length (rows P)
  pub does : Does P (label P b) 0 (Plain (op.Merge (port_at P b)))
  pub shows : place_shown P (place P (label P b)) (node P (label P b)) ≡ place P (label P b)
  pub place : place P (label P b) ≡ place P b

-- what stands at the row of the label
abbrev Labels : Checked → ℕ → ℕ → Type 0
Labels P b n = (n < length (rows P)) × Does P n 0 (Plain (op.Merge (port_at P b))) × (place P n ≡ place P b) ×
    (place_shown P (place P n) (node P n) ≡ place P n)

pub label_at : (P : Checked) (b : ℕ) → b < length (rows P) → is_binder (node P b) ≡ true → LabelAt P b
label_at P b within e = go (node P b) refl e
  where
    by : (n : ℕ) → label P b ≡ n → Labels P b n → LabelAt P b
    by n is x = let y = subst (Labels P b) (sym is) x in record { within = y.0; does = y.1; place = y.2; shows = y.3 }

    go : (m : Node) → node P b ≡ m → is_binder m ≡ true → LabelAt P b
    go (Param x k) is h =
        by b (ap (label_by (block P b) b) is) (within, enters is, refl, ap (place_shown P (place P b)) is)
    go (Binding x a) is h =
        by b (ap (label_by (block P b) b) is) (within, names is, refl, ap (place_shown P (place P b)) is)
    go (Next x k o v) is h =
        let z = variable_of_next P b x k o v within is in
        by (block P b + 1 + k) (ap (label_by (block P b) b) is) (
          z.within,
          subst (λ n. Does P (block P b + 1 + k) 0 (Plain (op.Merge (port_at P n)))) z.next (varies z.node),
          z.place,
          ap (place_shown P (place P (block P b + 1 + k))) z.node,
        )
    go (Index x) is h =
        let c = (table_of P).index_of b x within is in
        let g = block P b in
        let rows_are = (table_of P).loop_is c.0 g c.1 in
        let entry = (carried_nodes (rows_are.before_test).carried c.2).0 in
        let z = carried_row P (g + 1) kinds.Int entry in
        let mine = kind_fixed P b (Index x) kinds.Int (record { within = within; node = is }) refl in
        let same : port_at P (g + 1) ≡ port_at P b = ap (λ o. port_of (unwrap_or o kinds.Int)) (z.kind ∙ sym mine) in
        by (g + 1) (ap (label_by g b) is) (
          z.within,
          subst (λ p. Does P (g + 1) 0 (Plain (op.Merge p))) same z.does,
          (rows_are.place_carried).index c.2 ∙ ap (place P) c.3,
          ap (place_shown P (place P (g + 1))) entry,
        )
    go _ is h = absurd (true_false (sym h))

-- a variable is the label of its `next` statement
pub record VariableAt (P : Checked) (v : ℕ) : Type 0 where
  pub within : next_of P v < length (rows P)
  pub binds : is_binder (node P (next_of P v)) ≡ true
  pub is : label P (next_of P v) ≡ v

pub variable_at : (P : Checked) (v : ℕ) → v < length (rows P) → node P v ≡ Variable → VariableAt P v
variable_at P v within is =
    let z = next_is P v within is in
    let m = next_of P v in
    record { within = z.within; binds = ap is_binder z.node; is = ap (label_by (block P m) m) z.node ∙ z.is }

-- ---- markers of loops

-- the loop whose place the row has
pub record LoopPlace (P : Checked) (i : ℕ) : Type 0 where
  pub row : ℕ
  pub head : ℕ
  pub loop : IsLoopOf (rows P) row head
  pub place : place P i ≡ place P row

pub head_place : (P : Checked) (h s : ℕ) → h < length (rows P) → node P h ≡ LoopHead s → LoopPlace P h
head_place P h s within is =
    let z = (table_of P).has_loop h s within is in
    record { row = z.0; head = h; loop = z.1; place = (((table_of P).loop_is z.0 h z.1).place).head }

pub start_place : (P : Checked) (s : ℕ) → s < length (rows P) → node P s ≡ Start → LoopPlace P s
start_place P s within is =
    let z = (table_of P).start_of_loop s within is in
    let x = (table_of P).loop_is z.0 (s + 1) z.1 in
    let same : x.start ≡ s = omega (arith, x.begins) in
    record { row = z.0; head = s + 1; loop = z.1; place = ap (place P) (sym same) ∙ ((x.start_of).beside).place }

pub entries_place : (P : Checked) (e : ℕ) → e < length (rows P) → node P e ≡ Entries → LoopPlace P e
entries_place P e within is =
    let z = (table_of P).entries_of e within is in
    let x = (table_of P).loop_is z.0 (block P e) z.1 in
    record { row = z.0; head = block P e; loop = z.1; place = ap (place P) (sym z.2) ∙ (x.place).entries }

pub switches_place : (P : Checked) (w t : ℕ) → w < length (rows P) → node P w ≡ Switches t → LoopPlace P w
switches_place P w t within is =
    let z = (table_of P).switches_of w t within is in
    let x = (table_of P).loop_is z.0 (block P w) z.1 in
    record { row = z.0; head = block P w; loop = z.1; place = ap (place P) (sym z.2) ∙ (x.place).switches }

pub reset_place : (P : Checked) (i v : ℕ) → i < length (rows P) → node P i ≡ Reset v → LoopPlace P i
reset_place P i v within is =
    let z = (table_of P).reset_of i v within is in
    let x = (table_of P).loop_is z.0 (block P i) z.1 in
    record { row = z.0; head = block P i; loop = z.1; place = (x.place).reset i z.3 }

-- the `Start` and the head of a loop have its place
pub record LoopMarks (P : Checked) (n h : ℕ) : Type 0 where
  pub start : ℕ
  pub start_within : start < length (rows P)
  pub start_node : node P start ≡ Start
  pub start_place : place P start ≡ place P n
  pub head_within : h < length (rows P)
  pub head_node : node P h ≡ LoopHead (h - 1)
  pub head_place : place P h ≡ place P n

pub loop_marks : (P : Checked) (n h : ℕ) → IsLoopOf (rows P) n h → LoopMarks P n h
loop_marks P n h c =
    let x = (table_of P).loop_is n h c in
    let behind = switches_low x in
    let before = switches_high x in
    let low : h < length (rows P) = omega (arith, behind, before, c.within) in
    record {
      start = x.start;
      start_within = omega (arith, x.begins, low);
      start_node = (x.start_of).node;
      start_place = ((x.start_of).beside).place;
      head_within = low;
      head_node = (x.before_test).head;
      head_place = (x.place).head;
    }
