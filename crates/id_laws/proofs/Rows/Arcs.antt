-- Which parts a row has and what feeds them, by cases on its node.
use Rattle.std.proofs.Common.{◌≡◌, inl, inr, ℕ, zero, suc, ◌+◌, ◌-◌, ◌<◌, Bool as Truth, true, false, cond, Some, List}
use Rattle.std.proofs.Common.{[]}
use Rattle.std.proofs.Common.{◌∷◌, ◌++◌, map, length, slice_get, get_or, refl, sym, ◌∙◌, ap}
use Rattle.std.proofs.Common.{subst, arith}
use Rattle.std.specs.Prelude.{pos}
use Rattle.id_value.specs.declared.Comparison.TheVariants.{Lt, Le}
use Rattle.id_value.specs.declared.Arithmetic.TheVariants.{Add}
use Rattle.id_value.specs.declared.Constant.TheVariants as constants
use Rattle.id_instr.specs.declared.instr.Dyadic.TheVariants as dyadic
use Rattle.id_value.specs.declared.Kind.{Kind}
use Rattle.id_value.specs.declared.Constant.{Constant}
use Rattle.id_value.specs.declared.UnaryOp.{UnaryOp}
use Rattle.id_value.specs.declared.BinaryOp.{BinaryOp}
use Rattle.id_value.specs.List.{Among}
use Rattle.id_value.proofs.AmongLemmas.{Among-either}
use Rattle.id_table.specs.declared.row.Region.{Region}
use Rattle.id_table.specs.declared.row.Node.{Node}
use Rattle.id_table.specs.declared.row.Node.TheVariants.{Head, Param, Literal, Name, Unary, Binary, Split, If, Enter}
use Rattle.id_table.specs.declared.row.Node.TheVariants.{Arg, Call, Block}
use Rattle.id_table.specs.declared.row.Node.TheVariants.{Binding, Def, Program}
use Rattle.id_table.specs.declared.row.Node.TheVariants.{Start, LoopHead, Variable, Entries, Switches, Turn, NextUse}
use Rattle.id_table.specs.declared.row.Node.TheVariants.{Next, Body, Reset, Loop}
use Rattle.id_table.specs.declared.row.Node.TheVariants.{Array, Fetch, Address, Store, Bounds, Carried, Within, Count}
use Rattle.id_table.specs.declared.row.Node.TheVariants.{Index, Span}
use Rattle.id_table.specs.Tables.{begins_block, is_carried}
use Rattle.id_table.specs.Loops.{IsLoop, AreCarried, nothing, an_index}
use Rattle.id_check.proofs.ProgramsLemmas.{table_of}
use Rattle.id_check.specs.declared.checked.Checked.{Checked}
use Rattle.id_check.specs.Programs.{place, region, rows}
use Rattle.id_instr.specs.declared.dests.Port.{Port}
use Rattle.id_instr.specs.declared.dests.Port.TheVariants.{Zero, One}
use Rattle.id_instr.specs.declared.instr.Op.TheVariants as op
use Rattle.id_instr.specs.declared.instr.PortKind.TheVariants.{Signal, Int}
use Rattle.id_desugar.specs.Ends.{end_of}
use Rattle.id_desugar.specs.Regions.{carried, first_variable, has_index, imports_of, nexts_of}
use Rattle.id_build.specs.declared.arc.Origin.{Origin}
use Rattle.id_build.specs.declared.arc.Form.{Form}
use Rattle.id_build.specs.declared.arc.Form.TheVariants.{Plain, EnterAt, SendTo, FetchAt}
use Rattle.id_build.specs.Rows.{node, body_of, result_of, port_of, port_at, binary_op, made_of, feed, feeds_of}
use Rattle.id_build.specs.Rows.{import_feeds, name_in, origin}
use Rattle.id_build.specs.Rows.{output, param_of, trigger_of, piece, block, Entry, loop_entries, entering, turn_row}
use Rattle.id_build.specs.Rows.{next_of}
use Rattle.id_build.specs.Rows.{entry_feeds, turn_feeds, send_to, for_each, import_entries, variable_entries}
use Rattle.id_build.specs.Rows.{entries_row, first_binder}
use Rattle.id_build.specs.Rows.{bounds_feeds, carried_feeds, holds_array, param_entry}
use Rattle.id_build.specs.Rows as pieces
use Rattle.id_instr.specs.declared.instr.Op.{Op}
use Rattle.id_instr.specs.declared.instr.PortKind.{PortKind}
use Rattle.id_build.specs.declared.arc.Piece.{Piece}
use Rattle.id_build.specs.Schemas.{Makes, Feeds}
use Rattle.id_laws.specs.Activations.{Begins, of_call, of_loop, Tests, of_arms, of_turns}
use Rattle.id_laws.specs.Topics.{Addresses, of_fetch, of_store, IsPart}

pub append_length : (xs ys : List ℕ) → length (xs ++ ys) ≡ length xs + length ys
append_length [] ys = omega arith
append_length (x ∷ xs) ys = let rest = append_length xs ys in omega (arith, rest)

-- ---- parts

-- what the loop with the head h hands on to its next iteration beside the trigger: what it carries on, and its imports
abbrev pub turned : Checked → ℕ → List ℕ
turned P h = carried P h ++ imports_of P h

-- the part of the row n has this form of operator
pub data Does (P : Checked) (n : ℕ) : ℕ → Form → Type 0 where
  starts : begins_block (node P n) ≡ true → Does P n 0 (Plain (op.Merge Signal))
  returns : node P n ≡ Head → Does P n 1 (Plain (op.Back (port_of (result_of (node P (end_of P n))))))
  enters : {x : ℕ} {k : Kind} → node P n ≡ Param x k → Does P n 0 (Plain (op.Merge (port_at P n)))
  constant : {c : Constant} → node P n ≡ Literal c → Does P n 0 (Plain (op.Const c))
  unary : {o : UnaryOp} {a : ℕ} → node P n ≡ Unary o a → Does P n 0 (Plain (op.Unary o))
  binary : {o : BinaryOp} {a b : ℕ} → node P n ≡ Binary o a b
      → Does P n 0 (Plain (op.Binary (binary_op o (port_at P a))))
  turns_on : {t : ℕ} → Tests P n t → Does P n 0 (Plain (op.Switch Signal))
  hands : {t : ℕ} (k : ℕ) → Tests P n t → k < length (imports_of P n)
      → Does P n (suc k) (Plain (op.Switch (port_at P (get_or (imports_of P n) k 0))))
  joins : {s x y : ℕ} → node P n ≡ If s x y → Does P n 0 (Plain (op.Merge (port_at P n)))
  opens : {h q : ℕ} → Begins P n h q → Does P n 0 (EnterAt h q)
  passes : {e k v : ℕ} → node P n ≡ Arg e k v → Does P n 0 (SendTo (port_at P (param_of P e k)) (param_of P e k) 0)
  gets : {e c : ℕ} → node P n ≡ Call e c → Does P n 0 (Plain (op.Merge (port_at P n)))
  names : {x a : ℕ} → node P n ≡ Binding x a → Does P n 0 (Plain (op.Merge (port_at P n)))
  sends_in : (k : ℕ) (q : Entry) → node P n ≡ Start → slice_get (loop_entries P (n + 1)) k ≡ Some q →
      Does P n (suc k) (SendTo (port_at P q.binder) q.row q.part)
  gives_back : {s : ℕ} → node P n ≡ LoopHead s → Does P n 1 (Plain (op.Back (port_at P (end_of P n))))
  varies : node P n ≡ Variable → Does P n 0 (Plain (op.Merge (port_at P (next_of P n))))
  takes_in : (k : ℕ) → node P n ≡ Entries → k < length (imports_of P (block P n)) →
      Does P n k (Plain (op.Merge (port_at P (get_or (imports_of P (block P n)) k 0))))
  moves_on : node P n ≡ Turn → Does P n 0 (Plain (op.Next Signal))
  moves_name : (k : ℕ) → node P n ≡ Turn → k < length (turned P (block P n))
      → Does P n (suc k) (Plain (op.Next (port_at P (get_or (turned P (block P n)) k 0))))
  advances : {x k o v : ℕ} → node P n ≡ Next x k o v → Does P n 0 (Plain (op.Next (port_at P n)))
  resets : {v : ℕ} → node P n ≡ Reset v → Does P n 0 (Plain (op.Reset (port_at P v)))
  gets_last : {h w l : ℕ} → node P n ≡ Loop h w l → Does P n 0 (Plain (op.Merge (port_at P n)))
  allocates : {nested : Truth} {a b : ℕ} → node P n ≡ Array nested a b → Does P n 0 (Plain (op.Alloc nested))
  addresses : {t i : ℕ} → Addresses P n t i → Does P n 0 (Plain (op.Address (holds_array P n)))
  fetches : {t i : ℕ} → node P n ≡ Fetch t i → Does P n 1 (FetchAt (holds_array P n) n)
  gets_reply : {t i : ℕ} → node P n ≡ Fetch t i → Does P n 2 (Plain (op.Merge (port_at P n)))
  stores : {a v : ℕ} → node P n ≡ Store a v → Does P n 0 (Plain (op.Store (holds_array P a)))
  bounds_meet : {a b : ℕ} → node P n ≡ Bounds a b → Does P n 0 (Plain (op.Binary (dyadic.Comparison Le)))
  begins_index : {a b : ℕ} → node P n ≡ Bounds a b → Does P n 1 (Plain (op.Switch Int))
  carries : {k : Kind} → node P n ≡ Carried k → Does P n 0 (Plain (op.Merge (port_of k)))
  meets_bound : node P n ≡ Count → Does P n 0 (Plain (op.Binary (dyadic.Comparison Lt)))
  goes_further : node P n ≡ Count → Does P n 1 (Plain (op.Switch Signal))
  hands_index : node P n ≡ Count → Does P n 2 (Plain (op.Switch Int))
  has_one : node P n ≡ Count → Does P n 3 (Plain (op.Const (constants.Int (pos 1))))
  adds_one : node P n ≡ Count → Does P n 4 (Plain (op.Binary (dyadic.Arithmetic Add)))
  answers : node P n ≡ Program → Does P n 0 (Plain (op.Merge (port_of (result_of (node P P.main)))))

-- the place that the part of a row with this node shows: the answer's is main's, any other's its row's
abbrev pub place_shown : Checked → ℕ → Node → ℕ
place_shown P e Program = place P P.main
place_shown P e _ = e

true_false : true ≡ Rattle.std.proofs.Common.false → ⊥
true_false h = cc

some_is : {A : Type 0} {x y : A} → Some x ≡ Some y → x ≡ y
some_is h = cc

same_form : (o f : Form) (e e' : ℕ) → Some (piece o e) ≡ Some (piece f e') → (o ≡ f) × (e' ≡ e)
same_form o f e e' h =
    let both : piece o e ≡ piece f e' = cc in (
      ap (λ (z : Rattle.id_build.specs.declared.arc.Piece.Piece). z.form) both,
      ap (λ (z : Rattle.id_build.specs.declared.arc.Piece.Piece). z.place) (sym both),
    )

-- a part that is made, as its row's node has it
pub record Doing (P : Checked) (n part : ℕ) (f : Form) (e : ℕ) : Type 0 where
  pub does : Does P n part f
  pub place_is : e ≡ place_shown P (place P n) (node P n)

-- the part k of those that are made for each binder
record PieceAt (P : Checked) (u : PortKind → Op) (e : ℕ) (bs : List ℕ) (k : ℕ) (f : Form) (e' : ℕ) : Type 0 where
  within : k < length bs
  form : f ≡ Plain (u (port_at P (get_or bs k 0)))
  place : e' ≡ e

piece_at : (P : Checked) (u : PortKind → Op) (e : ℕ) (bs : List ℕ) (k : ℕ) (f : Form) (e' : ℕ)
    → slice_get (for_each P u e bs) k ≡ Some (piece f e') → PieceAt P u e bs k f e'
piece_at P u e [] k f e' h = cc
piece_at P u e (b ∷ bs) zero f e' h =
    let z = same_form _ f _ e' h in record { within = omega arith; form = sym z.0; place = z.1 }
piece_at P u e (b ∷ bs) (suc k) f e' h =
    let z = piece_at P u e bs k f e' h in record { within = omega (arith, z.within); form = z.form; place = z.place }

piece_made : (P : Checked) (u : PortKind → Op) (e : ℕ) (bs : List ℕ) (k : ℕ) → k < length bs
    → slice_get (for_each P u e bs) k ≡ Some (piece (Plain (u (port_at P (get_or bs k 0)))) e)
piece_made P u e [] k h = absurd (omega (arith, h))
piece_made P u e (b ∷ bs) zero h = refl
piece_made P u e (b ∷ bs) (suc k) h = piece_made P u e bs k (omega (arith, h))

-- the part k of the sends to entries
record SendAt (P : Checked) (e : ℕ) (qs : List Entry) (k : ℕ) (f : Form) (e' : ℕ) : Type 0 where
  entry : Entry
  at : slice_get qs k ≡ Some entry
  form : f ≡ SendTo (port_at P entry.binder) entry.row entry.part
  place : e' ≡ e

send_at : (P : Checked) (e : ℕ) (qs : List Entry) (k : ℕ) (f : Form) (e' : ℕ)
    → slice_get (map (send_to P e) qs) k ≡ Some (piece f e') → SendAt P e qs k f e'
send_at P e [] k f e' h = cc
send_at P e (q ∷ qs) zero f e' h =
    let z = same_form _ f _ e' h in record { entry = q; at = refl; form = sym z.0; place = z.1 }
send_at P e (q ∷ qs) (suc k) f e' h =
    let z = send_at P e qs k f e' h in record { entry = z.entry; at = z.at; form = z.form; place = z.place }

send_made : (P : Checked) (e : ℕ) (qs : List Entry) (k : ℕ) (q : Entry) → slice_get qs k ≡ Some q
    → slice_get (map (send_to P e) qs) k ≡ Some (piece (SendTo (port_at P q.binder) q.row q.part) e)
send_made P e [] k q h = cc
send_made P e (r ∷ qs) zero q h = let is : r ≡ q = some_is h in ap (λ z. Some (send_to P e z)) is
send_made P e (r ∷ qs) (suc k) q h = send_made P e qs k q h

made_by : (P : Checked) (n part : ℕ) (f : Form) (e : ℕ) (m : Node) → node P n ≡ m
    → slice_get (made_of P n (place P n) m) part ≡ Some (piece f e)
    → Doing P n part f e
made_by P n zero f e Head is h = let b = same_form _ f _ e h in
    record {
      does = subst (Does P n _) b.0 (starts (ap begins_block is));
      place_is =
          b.1 ∙ ap (place_shown P (place P n)) (sym is);
    }
made_by P n (suc zero) f e Head is h = let b = same_form _ f _ e h in
    record { does = subst (Does P n _) b.0 (returns is); place_is = b.1 ∙ ap (place_shown P (place P n)) (sym is) }
made_by P n (suc (suc k)) f e Head is h = cc
made_by P n zero f e (Param x k) is h = let b = same_form _ f _ e h in
    record { does = subst (Does P n _) b.0 (enters is); place_is = b.1 ∙ ap (place_shown P (place P n)) (sym is) }
made_by P n (suc j) f e (Param x k) is h = cc
made_by P n zero f e (Literal c) is h = let b = same_form _ f _ e h in
    record { does = subst (Does P n _) b.0 (constant is); place_is = b.1 ∙ ap (place_shown P (place P n)) (sym is) }
made_by P n (suc j) f e (Literal c) is h = cc
made_by P n j f e (Name x) is h = cc
made_by P n zero f e (Unary o a) is h = let b = same_form _ f _ e h in
    record { does = subst (Does P n _) b.0 (unary is); place_is = b.1 ∙ ap (place_shown P (place P n)) (sym is) }
made_by P n (suc j) f e (Unary o a) is h = cc
made_by P n zero f e (Binary o a c) is h = let b = same_form _ f _ e h in
    record { does = subst (Does P n _) b.0 (binary is); place_is = b.1 ∙ ap (place_shown P (place P n)) (sym is) }
made_by P n (suc j) f e (Binary o a b) is h = cc
made_by P n zero f e (Split t) is h = let b = same_form _ f _ e h in
    record {
      does = subst (Does P n _) b.0 (turns_on (of_arms is));
      place_is =
          b.1 ∙ ap (place_shown P (place P n)) (sym is);
    }
made_by P n (suc k) f e (Split t) is h =
    let z = piece_at P op.Switch (place P n) (imports_of P n) k f e h in
    record {
      does = subst (Does P n _) (sym z.form) (hands k (of_arms is) z.within);
      place_is =
          z.place ∙ ap (place_shown P (place P n)) (sym is);
    }
made_by P n zero f e (If s x y) is h = let b = same_form _ f _ e h in
    record { does = subst (Does P n _) b.0 (joins is); place_is = b.1 ∙ ap (place_shown P (place P n)) (sym is) }
made_by P n (suc j) f e (If s x y) is h = cc
made_by P n zero f e (Enter x) is h = let b = same_form _ f _ e h in
    record {
      does = subst (Does P n _) b.0 (opens (of_call is));
      place_is =
          b.1 ∙ ap (place_shown P (place P n)) (sym is);
    }
made_by P n (suc j) f e (Enter x) is h = cc
made_by P n zero f e (Arg s k v) is h = let b = same_form _ f _ e h in
    record { does = subst (Does P n _) b.0 (passes is); place_is = b.1 ∙ ap (place_shown P (place P n)) (sym is) }
made_by P n (suc j) f e (Arg s k v) is h = cc
made_by P n zero f e (Call s c) is h = let b = same_form _ f _ e h in
    record { does = subst (Does P n _) b.0 (gets is); place_is = b.1 ∙ ap (place_shown P (place P n)) (sym is) }
made_by P n (suc j) f e (Call s c) is h = cc
made_by P n j f e (Block b) is h = cc
made_by P n zero f e (Binding x a) is h = let b = same_form _ f _ e h in
    record { does = subst (Does P n _) b.0 (names is); place_is = b.1 ∙ ap (place_shown P (place P n)) (sym is) }
made_by P n (suc j) f e (Binding x a) is h = cc
made_by P n j f e (Def x g k b) is h = cc
made_by P n zero f e Start is h = let b = same_form _ f _ e h in
    record {
      does = subst (Does P n _) b.0 (opens (of_loop is));
      place_is =
          b.1 ∙ ap (place_shown P (place P n)) (sym is);
    }
made_by P n (suc k) f e Start is h =
    let z = send_at P (place P n) (loop_entries P (n + 1)) k f e h in
    record {
      does = subst (Does P n _) (sym z.form) (sends_in k z.entry is z.at);
      place_is =
          z.place ∙ ap (place_shown P (place P n)) (sym is);
    }
made_by P n zero f e (LoopHead s) is h = let b = same_form _ f _ e h in
    record {
      does = subst (Does P n _) b.0 (starts (ap begins_block is));
      place_is =
          b.1 ∙ ap (place_shown P (place P n)) (sym is);
    }
made_by P n (suc zero) f e (LoopHead s) is h = let b = same_form _ f _ e h in
    record { does = subst (Does P n _) b.0 (gives_back is); place_is = b.1 ∙ ap (place_shown P (place P n)) (sym is) }
made_by P n (suc (suc k)) f e (LoopHead s) is h = cc
made_by P n zero f e Variable is h = let b = same_form _ f _ e h in
    record { does = subst (Does P n _) b.0 (varies is); place_is = b.1 ∙ ap (place_shown P (place P n)) (sym is) }
made_by P n (suc j) f e Variable is h = cc
made_by P n k f e Entries is h =
    let z = piece_at P op.Merge (place P n) (imports_of P (block P n)) k f e h in
    record {
      does = subst (Does P n _) (sym z.form) (takes_in k is z.within);
      place_is =
          z.place ∙ ap (place_shown P (place P n)) (sym is);
    }
made_by P n zero f e (Switches t) is h = let b = same_form _ f _ e h in
    record {
      does = subst (Does P n _) b.0 (turns_on (of_turns is));
      place_is =
          b.1 ∙ ap (place_shown P (place P n)) (sym is);
    }
made_by P n (suc k) f e (Switches t) is h =
    let z = piece_at P op.Switch (place P n) (imports_of P n) k f e h in
    record {
      does = subst (Does P n _) (sym z.form) (hands k (of_turns is) z.within);
      place_is =
          z.place ∙ ap (place_shown P (place P n)) (sym is);
    }
made_by P n zero f e Turn is h = let b = same_form _ f _ e h in
    record { does = subst (Does P n _) b.0 (moves_on is); place_is = b.1 ∙ ap (place_shown P (place P n)) (sym is) }
made_by P n (suc k) f e Turn is h =
    let z = piece_at P op.Next (place P n) (turned P (block P n)) k f e h in
    record {
      does = subst (Does P n _) (sym z.form) (moves_name k is z.within);
      place_is =
          z.place ∙ ap (place_shown P (place P n)) (sym is);
    }
made_by P n j f e (NextUse x) is h = cc
made_by P n zero f e (Next x k o v) is h = let b = same_form _ f _ e h in
    record { does = subst (Does P n _) b.0 (advances is); place_is = b.1 ∙ ap (place_shown P (place P n)) (sym is) }
made_by P n (suc j) f e (Next x k o v) is h = cc
made_by P n j f e Body is h = cc
made_by P n zero f e (Reset v) is h = let b = same_form _ f _ e h in
    record { does = subst (Does P n _) b.0 (resets is); place_is = b.1 ∙ ap (place_shown P (place P n)) (sym is) }
made_by P n (suc j) f e (Reset v) is h = cc
made_by P n zero f e (Loop g w l) is h = let b = same_form _ f _ e h in
    record { does = subst (Does P n _) b.0 (gets_last is); place_is = b.1 ∙ ap (place_shown P (place P n)) (sym is) }
made_by P n (suc j) f e (Loop g w l) is h = cc
made_by P n zero f e (Array nested u w) is h =
    let b = same_form _ f _ e h in
    record { does = subst (Does P n _) b.0 (allocates is); place_is = b.1 ∙ ap (place_shown P (place P n)) (sym is) }
made_by P n (suc j) f e (Array nested u w) is h = cc
made_by P n zero f e (Fetch u i) is h =
    let b = same_form _ f _ e h in
    record {
      does = subst (Does P n _) b.0 (addresses (of_fetch is));
      place_is =
          b.1 ∙ ap (place_shown P (place P n)) (sym is);
    }
made_by P n (suc zero) f e (Fetch u i) is h =
    let b = same_form _ f _ e h in
    record { does = subst (Does P n _) b.0 (fetches is); place_is = b.1 ∙ ap (place_shown P (place P n)) (sym is) }
made_by P n (suc (suc zero)) f e (Fetch u i) is h =
    let b = same_form _ f _ e h in
    record { does = subst (Does P n _) b.0 (gets_reply is); place_is = b.1 ∙ ap (place_shown P (place P n)) (sym is) }
made_by P n (suc (suc (suc j))) f e (Fetch u i) is h = cc
made_by P n zero f e (Address u i) is h =
    let b = same_form _ f _ e h in
    record {
      does = subst (Does P n _) b.0 (addresses (of_store is));
      place_is =
          b.1 ∙ ap (place_shown P (place P n)) (sym is);
    }
made_by P n (suc j) f e (Address u i) is h = cc
made_by P n zero f e (Store u v) is h =
    let b = same_form _ f _ e h in
    record { does = subst (Does P n _) b.0 (stores is); place_is = b.1 ∙ ap (place_shown P (place P n)) (sym is) }
made_by P n (suc j) f e (Store u v) is h = cc
made_by P n zero f e (Bounds u w) is h =
    let b = same_form _ f _ e h in
    record { does = subst (Does P n _) b.0 (bounds_meet is); place_is = b.1 ∙ ap (place_shown P (place P n)) (sym is) }
made_by P n (suc zero) f e (Bounds u w) is h =
    let b = same_form _ f _ e h in
    record { does = subst (Does P n _) b.0 (begins_index is); place_is = b.1 ∙ ap (place_shown P (place P n)) (sym is) }
made_by P n (suc (suc j)) f e (Bounds u w) is h = cc
made_by P n zero f e (Carried k) is h =
    let b = same_form _ f _ e h in
    record { does = subst (Does P n _) b.0 (carries is); place_is = b.1 ∙ ap (place_shown P (place P n)) (sym is) }
made_by P n (suc j) f e (Carried k) is h = cc
made_by P n j f e (Within w) is h = cc
made_by P n zero f e Count is h =
    let b = same_form _ f _ e h in
    record { does = subst (Does P n _) b.0 (meets_bound is); place_is = b.1 ∙ ap (place_shown P (place P n)) (sym is) }
made_by P n (suc zero) f e Count is h =
    let b = same_form _ f _ e h in
    record { does = subst (Does P n _) b.0 (goes_further is); place_is = b.1 ∙ ap (place_shown P (place P n)) (sym is) }
made_by P n (suc (suc zero)) f e Count is h =
    let b = same_form _ f _ e h in
    record { does = subst (Does P n _) b.0 (hands_index is); place_is = b.1 ∙ ap (place_shown P (place P n)) (sym is) }
made_by P n (suc (suc (suc zero))) f e Count is h =
    let b = same_form _ f _ e h in
    record { does = subst (Does P n _) b.0 (has_one is); place_is = b.1 ∙ ap (place_shown P (place P n)) (sym is) }
made_by P n (suc (suc (suc (suc zero)))) f e Count is h =
    let b = same_form _ f _ e h in
    record { does = subst (Does P n _) b.0 (adds_one is); place_is = b.1 ∙ ap (place_shown P (place P n)) (sym is) }
made_by P n (suc (suc (suc (suc (suc j))))) f e Count is h = cc
made_by P n j f e (Index x) is h = cc
made_by P n j f e Span is h = cc
made_by P n zero f e Program is h = let b = same_form _ f _ e h in
    record { does = subst (Does P n _) b.0 (answers is); place_is = b.1 ∙ ap (place_shown P (place P n)) (sym is) }
made_by P n (suc j) f e Program is h = cc

pub doing : {P : Checked} {n part : ℕ} {f : Form} {e : ℕ} → Makes P n part f e → Doing P n part f e
doing {P} {n} {part} {f} {e} h = made_by P n part f e (node P n) refl h.at

made_at : (P : Checked) (n part : ℕ) (m : Node) (f : Form) → n < length (rows P) → node P n ≡ m
    → slice_get (made_of P n (place P n) m) part ≡ Some (piece f (place_shown P (place P n) m))
    → Makes P n part f (place_shown P (place P n) (node P n))
made_at P n part m f within is h = record {
  within = within;
  at = subst (λ z. slice_get (made_of P n (place P n) z) part ≡ Some (piece f (place_shown P (place P n) z))) (sym is)
      h;
}

-- what the node says is made
pub makes : {P : Checked} {n part : ℕ} {f : Form} → n < length (rows P) → Does P n part f
    → Makes P n part f (place_shown P (place P n) (node P n))
makes {P} {n} within (starts is) = by_head (node P n) refl is
  where
    by_head : (m : Node) → node P n ≡ m → begins_block (node P n) ≡ true
        → Makes P n 0 (Plain (op.Merge Signal)) (place_shown P (place P n) (node P n))
    by_head Head is b = made_at P n 0 Head _ within is refl
    by_head (LoopHead s) is b = made_at P n 0 (LoopHead s) _ within is refl
    by_head _ is b = absurd (true_false (sym b ∙ ap begins_block is))
makes {P} {n} within (returns is) = made_at P n 1 Head _ within is refl
makes {P} {n} within (enters {x = x} {k = k} is) = made_at P n 0 (Param x k) _ within is refl
makes {P} {n} within (constant {c = c} is) = made_at P n 0 (Literal c) _ within is refl
makes {P} {n} within (unary {o = o} {a = a} is) = made_at P n 0 (Unary o a) _ within is refl
makes {P} {n} within (binary {o = o} {a = a} {b = b} is) = made_at P n 0 (Binary o a b) _ within is refl
makes {P} {n} within (turns_on {t = t} (of_arms is)) = made_at P n 0 (Split t) _ within is refl
makes {P} {n} within (turns_on {t = t} (of_turns is)) = made_at P n 0 (Switches t) _ within is refl
makes {P} {n} within (hands {t = t} k (of_arms is) less) = made_at P n (suc k) (Split t) _ within is
    (piece_made P op.Switch (place P n) (imports_of P n) k less)
makes {P} {n} within (hands {t = t} k (of_turns is) less) = made_at P n (suc k) (Switches t) _ within is
    (piece_made P op.Switch (place P n) (imports_of P n) k less)
makes {P} {n} within (joins {s = s} {x = x} {y = y} is) = made_at P n 0 (If s x y) _ within is refl
makes {P} {n} within (opens (of_call {x = x} is)) = made_at P n 0 (Enter x) _ within is refl
makes {P} {n} within (opens (of_loop is)) = made_at P n 0 Start _ within is refl
makes {P} {n} within (passes {e = e} {k = k} {v = v} is) = made_at P n 0 (Arg e k v) _ within is refl
makes {P} {n} within (gets {e = e} {c = c} is) = made_at P n 0 (Call e c) _ within is refl
makes {P} {n} within (names {x = x} {a = a} is) = made_at P n 0 (Binding x a) _ within is refl
makes {P} {n} within (sends_in k q is at) =
    made_at P n (suc k) Start _ within is (send_made P (place P n) (loop_entries P (n + 1)) k q at)
makes {P} {n} within (gives_back {s = s} is) = made_at P n 1 (LoopHead s) _ within is refl
makes {P} {n} within (varies is) = made_at P n 0 Variable _ within is refl
makes {P} {n} within (takes_in k is less) =
    made_at P n k Entries _ within is (piece_made P op.Merge (place P n) (imports_of P (block P n)) k less)
makes {P} {n} within (moves_on is) = made_at P n 0 Turn _ within is refl
makes {P} {n} within (moves_name k is less) =
    made_at P n (suc k) Turn _ within is (piece_made P op.Next (place P n) (turned P (block P n)) k less)
makes {P} {n} within (advances {x = x} {k = k} {o = o} {v = v} is) = made_at P n 0 (Next x k o v) _ within is refl
makes {P} {n} within (resets {v = v} is) = made_at P n 0 (Reset v) _ within is refl
makes {P} {n} within (gets_last {h = h} {w = w} {l = l} is) = made_at P n 0 (Loop h w l) _ within is refl
makes {P} {n} within (allocates {nested = nested} {a = a} {b = b} is) =
    made_at P n 0 (Array nested a b) _ within is refl
makes {P} {n} within (addresses {t = t} {i = i} (of_fetch is)) = made_at P n 0 (Fetch t i) _ within is refl
makes {P} {n} within (addresses {t = t} {i = i} (of_store is)) = made_at P n 0 (Address t i) _ within is refl
makes {P} {n} within (fetches {t = t} {i = i} is) = made_at P n 1 (Fetch t i) _ within is refl
makes {P} {n} within (gets_reply {t = t} {i = i} is) = made_at P n 2 (Fetch t i) _ within is refl
makes {P} {n} within (stores {a = a} {v = v} is) = made_at P n 0 (Store a v) _ within is refl
makes {P} {n} within (bounds_meet {a = a} {b = b} is) = made_at P n 0 (Bounds a b) _ within is refl
makes {P} {n} within (begins_index {a = a} {b = b} is) = made_at P n 1 (Bounds a b) _ within is refl
makes {P} {n} within (carries {k = k} is) = made_at P n 0 (Carried k) _ within is refl
makes {P} {n} within (meets_bound is) = made_at P n 0 Count _ within is refl
makes {P} {n} within (goes_further is) = made_at P n 1 Count _ within is refl
makes {P} {n} within (hands_index is) = made_at P n 2 Count _ within is refl
makes {P} {n} within (has_one is) = made_at P n 3 Count _ within is refl
makes {P} {n} within (adds_one is) = made_at P n 4 Count _ within is refl
makes {P} {n} within (answers is) = made_at P n 0 Program _ within is refl

pub part_of : {P : Checked} {n part : ℕ} {f : Form} → n < length (rows P) → Does P n part f → IsPart P n part
part_of within d = record { form = _; place = _; makes = makes within d }

-- ---- arcs

-- how many entries the loop with the head h carries on beside those of its variables
abbrev pub carries_on : Checked → ℕ → ℕ
carries_on P h = length (carried P h)

-- what comes from there feeds this port of the part of the row n
pub data Arc (P : Checked) (n : ℕ) : ℕ → Port → Origin → Type 0 where
  to_back : node P n ≡ Head → Arc P n 1 One (origin P (body_of (node P (end_of P n))))
  to_literal : {c : Constant} → node P n ≡ Literal c → Arc P n 0 Zero (trigger_of (region P n))
  to_unary : {o : UnaryOp} {a : ℕ} → node P n ≡ Unary o a → Arc P n 0 Zero (origin P a)
  to_left : {o : BinaryOp} {a b : ℕ} → node P n ≡ Binary o a b → Arc P n 0 Zero (origin P a)
  to_right : {o : BinaryOp} {a b : ℕ} → node P n ≡ Binary o a b → Arc P n 0 One (origin P b)
  to_test : {t : ℕ} → Tests P n t → Arc P n 0 Zero (origin P t)
  to_trigger : {t : ℕ} → Tests P n t → Arc P n 0 One (trigger_of (region P n))
  to_import_test : {t : ℕ} (k : ℕ) → Tests P n t → k < length (imports_of P n) → Arc P n (suc k) Zero (origin P t)
  to_import : {t : ℕ} (k : ℕ) → Tests P n t → k < length (imports_of P n)
      → Arc P n (suc k) One (name_in P (region P n) (get_or (imports_of P n) k 0))
  to_then : {s x y : ℕ} → node P n ≡ If s x y → Arc P n 0 Zero (origin P x)
  to_else : {s x y : ℕ} → node P n ≡ If s x y → Arc P n 0 Zero (origin P y)
  to_enter : {h q : ℕ} → Begins P n h q → Arc P n 0 Zero (trigger_of (region P n))
  to_context : {e k v : ℕ} → node P n ≡ Arg e k v → Arc P n 0 Zero (output e)
  to_argument : {e k v : ℕ} → node P n ≡ Arg e k v → Arc P n 0 One (origin P v)
  to_label : {x a : ℕ} → node P n ≡ Binding x a → Arc P n 0 Zero (origin P a)
  to_loop_context : (k : ℕ) → node P n ≡ Start → k < length (entering P (n + 1))
      → Arc P n (suc (carries_on P (n + 1) + k)) Zero (output n)
  to_entering : (k : ℕ) → node P n ≡ Start → k < length (entering P (n + 1)) →
      Arc P n (suc (carries_on P (n + 1) + k)) One (name_in P (region P n) (get_or (entering P (n + 1)) k 0))
  to_carried_context : {a b : ℕ} (k : ℕ) → node P n ≡ Start → node P (n - 1) ≡ Bounds a b → has_index P (n + 1) ≡ true
      → k < 3 → Arc P n (suc k) Zero (output n)
  to_first_index : {a b : ℕ} → node P n ≡ Start → node P (n - 1) ≡ Bounds a b → has_index P (n + 1) ≡ true
      → Arc P n 1 One (pieces.part_of (n - 1) 1)
  to_first_bound : {a b : ℕ} → node P n ≡ Start → node P (n - 1) ≡ Bounds a b → has_index P (n + 1) ≡ true
      → Arc P n 2 One (origin P b)
  to_first_flag : {a b : ℕ} → node P n ≡ Start → node P (n - 1) ≡ Bounds a b → has_index P (n + 1) ≡ true
      → Arc P n 3 One (output (n - 1))
  to_head : {s : ℕ} → node P n ≡ LoopHead s → Arc P n 0 Zero (output (turn_row P n))
  to_loop_back : {s : ℕ} → node P n ≡ LoopHead s → Arc P n 1 One (output (end_of P n - 2))
  to_variable : node P n ≡ Variable → Arc P n 0 Zero (output (next_of P n))
  to_entry : (k : ℕ) → node P n ≡ Entries → k < length (imports_of P (block P n)) →
      Arc P n k Zero (pieces.part_of (turn_row P (block P n)) (suc (carries_on P (block P n) + k)))
  to_turn : node P n ≡ Turn → Arc P n 0 Zero (trigger_of (region P n))
  to_turn_name : (k : ℕ) → node P n ≡ Turn → k < length (imports_of P (block P n)) →
      Arc P n (suc (carries_on P (block P n) + k)) Zero (name_in P (region P n) (get_or (imports_of P (block P n)) k 0))
  to_next_index : node P n ≡ Turn → has_index P (block P n) ≡ true → Arc P n 1 Zero (pieces.part_of (n - 1) 4)
  to_next_bound : node P n ≡ Turn → has_index P (block P n) ≡ true
      → Arc P n 2 Zero (name_in P (region P n) (block P n + 2))
  to_next_flag : node P n ≡ Turn → has_index P (block P n) ≡ true → Arc P n 3 Zero (output (n - 1))
  to_next : {x k o v : ℕ} → node P n ≡ Next x k o v → Arc P n 0 Zero (origin P v)
  to_reset : {v : ℕ} → node P n ≡ Reset v → Arc P n 0 Zero (origin P v)
  to_low : {nested : Truth} {a b : ℕ} → node P n ≡ Array nested a b → Arc P n 0 Zero (origin P a)
  to_high : {nested : Truth} {a b : ℕ} → node P n ≡ Array nested a b → Arc P n 0 One (origin P b)
  to_target : {t i : ℕ} → Addresses P n t i → Arc P n 0 Zero (origin P t)
  to_index : {t i : ℕ} → Addresses P n t i → Arc P n 0 One (origin P i)
  to_fetch : {t i : ℕ} → node P n ≡ Fetch t i → Arc P n 1 Zero (output n)
  to_store : {a v : ℕ} → node P n ≡ Store a v → Arc P n 0 Zero (output a)
  to_stored : {a v : ℕ} → node P n ≡ Store a v → Arc P n 0 One (origin P v)
  to_lower : {a b : ℕ} → node P n ≡ Bounds a b → Arc P n 0 Zero (origin P a)
  to_upper : {a b : ℕ} → node P n ≡ Bounds a b → Arc P n 0 One (origin P b)
  to_first_test : {a b : ℕ} → node P n ≡ Bounds a b → Arc P n 1 Zero (output n)
  to_first : {a b : ℕ} → node P n ≡ Bounds a b → Arc P n 1 One (origin P a)
  to_carried : {k : Kind} → node P n ≡ Carried k
      → Arc P n 0 Zero (pieces.part_of (turn_row P (block P n)) (n - block P n))
  to_index_now : node P n ≡ Count → Arc P n 0 Zero (output (block P n + 1))
  to_bound : node P n ≡ Count → Arc P n 0 One (name_in P (region P n) (block P n + 2))
  to_further_test : node P n ≡ Count → Arc P n 1 Zero (output n)
  to_further : node P n ≡ Count → Arc P n 1 One (trigger_of (region P n))
  to_last_test : node P n ≡ Count → Arc P n 2 Zero (output n)
  to_last : node P n ≡ Count → Arc P n 2 One (output (block P n + 1))
  to_one : node P n ≡ Count → Arc P n 3 Zero (pieces.part_of n 1)
  to_add : node P n ≡ Count → Arc P n 4 Zero (pieces.part_of n 2)
  to_add_one : node P n ≡ Count → Arc P n 4 One (pieces.part_of n 3)

moved : {P : Checked} {n : ℕ} (s t : Origin) (part k : ℕ) (p q : Port) → feed s part p ≡ feed t k q → Arc P n k q t
    → Arc P n part p s
moved {P} {n} s t part k p q is a =
    let origin_is : s ≡ t = ap (λ (z : Rattle.id_build.specs.declared.arc.Feed.Feed). z.origin) is in
    let part_is : part ≡ k = ap (λ (z : Rattle.id_build.specs.declared.arc.Feed.Feed). z.part) is in
    let port_is : p ≡ q = ap (λ (z : Rattle.id_build.specs.declared.arc.Feed.Feed). z.port) is in
    subst (λ (z : ℕ × (Port × Origin)). Arc P n z.0 z.1.0 z.1.1) {x = (k, (q, t))} {y = (part, (p, s))}
    (λ i. (sym part_is i, (sym port_is i, sym origin_is i))) a

-- what feeds the switches of imports
data ImportFed (P : Checked) (t : Origin) (r : Region) (j : ℕ) (bs : List ℕ) (s : Origin) (part : ℕ) (p : Port) : Type 0
  where
    by_test : (k : ℕ) → k < length bs → part ≡ j + k → p ≡ Zero → s ≡ t → ImportFed P t r j bs s part p
    by_name : (k : ℕ) → k < length bs → part ≡ j + k → p ≡ One → s ≡ name_in P r (get_or bs k 0)
        → ImportFed P t r j bs s part p

import_fed : (P : Checked) (t : Origin) (r : Region) (j : ℕ) (bs : List ℕ) (s : Origin) (part : ℕ) (p : Port)
    → Among (feed s part p) (import_feeds P t r j bs) → ImportFed P t r j bs s part p
import_fed P t r j [] s part p h = absurd h
import_fed P t r j (b ∷ bs) s part p (inl is) =
    by_test 0 (omega arith) (let z : part ≡ j = ap (λ (y : Rattle.id_build.specs.declared.arc.Feed.Feed). y.part) is in
    omega (arith, z))
    (ap (λ (y : Rattle.id_build.specs.declared.arc.Feed.Feed). y.port) is)
    (ap (λ (y : Rattle.id_build.specs.declared.arc.Feed.Feed). y.origin) is)
import_fed P t r j (b ∷ bs) s part p (inr (inl is)) =
    by_name 0 (omega arith) (let z : part ≡ j = ap (λ (y : Rattle.id_build.specs.declared.arc.Feed.Feed). y.part) is in
    omega (arith, z))
    (ap (λ (y : Rattle.id_build.specs.declared.arc.Feed.Feed). y.port) is)
    (ap (λ (y : Rattle.id_build.specs.declared.arc.Feed.Feed). y.origin) is)
import_fed P t r j (b ∷ bs) s part p (inr (inr h)) = behind (import_fed P t r (j + 1) bs s part p h)
  where
    behind : ImportFed P t r (j + 1) bs s part p → ImportFed P t r j (b ∷ bs) s part p
    behind (by_test k less at q is) = by_test (suc k) (omega (arith, less)) (omega (arith, at)) q is
    behind (by_name k less at q is) = by_name (suc k) (omega (arith, less)) (omega (arith, at)) q is

as_arc : {P : Checked} {n : ℕ} {t : ℕ} {s : Origin} {part : ℕ} {p : Port} → Tests P n t
    → ImportFed P (origin P t) (region P n) 1 (imports_of P n) s part p → Arc P n part p s
as_arc {P} {n} {t} {s} {part} {p} is (by_test k less at q from) =
    let part_is : part ≡ suc k = omega (arith, at) in
    subst (λ (z : ℕ × (Port × Origin)). Arc P n z.0 z.1.0 z.1.1) {x = (suc k, (Zero, origin P t))} {y = (part, (p, s))}
    (λ i. (sym part_is i, (sym q i, sym from i))) (to_import_test k is less)
as_arc {P} {n} {t} {s} {part} {p} is (by_name k less at q from) =
    let part_is : part ≡ suc k = omega (arith, at) in
    subst (λ (z : ℕ × (Port × Origin)). Arc P n z.0 z.1.0 z.1.1) {x =
    (suc k, (One, name_in P (region P n) (get_or (imports_of P n) k 0)))}
    {y = (part, (p, s))} (λ i. (sym part_is i, (sym q i, sym from i)))
    (to_import k is less)

-- the sends to the entries of a loop
as_send : {P : Checked} {n : ℕ} {s : Origin} {part : ℕ} {p : Port} → node P n ≡ Start
    → ImportFed P (output n) (region P n) (1 + carries_on P (n + 1)) (entering P (n + 1)) s part p → Arc P n part p s
as_send {P} {n} {s} {part} {p} is (by_test k less at q from) =
    let part_is : part ≡ suc (carries_on P (n + 1) + k) = omega (arith, at) in
    subst (λ (z : ℕ × (Port × Origin)). Arc P n z.0 z.1.0 z.1.1) {x =
    (suc (carries_on P (n + 1) + k), (Zero, output n))} {y = (part, (p, s))}
    (λ i. (sym part_is i, (sym q i, sym from i))) (to_loop_context k is less)
as_send {P} {n} {s} {part} {p} is (by_name k less at q from) =
    let part_is : part ≡ suc (carries_on P (n + 1) + k) = omega (arith, at) in
    subst (λ (z : ℕ × (Port × Origin)). Arc P n z.0 z.1.0 z.1.1)
    {x = (suc (carries_on P (n + 1) + k), (One, name_in P (region P n) (get_or (entering P (n + 1)) k 0)))}
    {y = (part, (p, s))}
    (λ i. (sym part_is i, (sym q i, sym from i))) (to_entering k is less)

-- a loop whose `Start` has bounds before it has an index
some_three : (P : Checked) {n h w l : ℕ} (x : IsLoop (rows P) n h w l) → x.carried ≡ 3 → has_index P h ≡ true
some_three P {h = h} x three = go x.carried three (x.before_test).carried
  where
    go : (c : ℕ) → c ≡ 3 → AreCarried (rows P) h c → has_index P h ≡ true
    go c e nothing = absurd (omega (arith, e))
    go c e (an_index i b f) = ap is_carried i

bounds_has : (P : Checked) (n a b : ℕ) → n < length (rows P) → node P n ≡ Start → node P (n - 1) ≡ Bounds a b
    → has_index P (n + 1) ≡ true
bounds_has P zero a b within is at = let bad : Start ≡ Bounds a b = sym is ∙ at in cc
bounds_has P (suc n) a b within is at =
    let back : suc n - 1 ≡ n = omega arith in
    let z = (table_of P).bounds_of n a b (omega (arith, within)) (ap (node P) (sym back) ∙ at) in
    let head : n + 2 ≡ suc n + 1 = omega arith in
    ap (has_index P) (sym head) ∙ some_three P ((table_of P).loop_is z.0 (n + 2) z.1) z.2

-- the sends to the entries of what it carries on
bounds_arc : (P : Checked) (s : Origin) (n part : ℕ) (p : Port) (m : Node) → n < length (rows P) → node P n ≡ Start
    → node P (n - 1) ≡ m → Among (feed s part p) (bounds_feeds P n m) → Arc P n part p s
bounds_arc P s n part p (Bounds a b) within is at (inl h) =
    moved s _ part 1 p Zero h (to_carried_context 0 is at (bounds_has P n a b within is at) (omega arith))
bounds_arc P s n part p (Bounds a b) within is at (inr (inl h)) =
    moved s _ part 1 p One h (to_first_index is at (bounds_has P n a b within is at))
bounds_arc P s n part p (Bounds a b) within is at (inr (inr (inl h))) =
    moved s _ part 2 p Zero h (to_carried_context 1 is at (bounds_has P n a b within is at) (omega arith))
bounds_arc P s n part p (Bounds a b) within is at (inr (inr (inr (inl h)))) =
    moved s _ part 2 p One h (to_first_bound is at (bounds_has P n a b within is at))
bounds_arc P s n part p (Bounds a b) within is at (inr (inr (inr (inr (inl h))))) =
    moved s _ part 3 p Zero h (to_carried_context 2 is at (bounds_has P n a b within is at) (omega arith))
bounds_arc P s n part p (Bounds a b) within is at (inr (inr (inr (inr (inr (inl h)))))) =
    moved s _ part 3 p One h (to_first_flag is at (bounds_has P n a b within is at))
bounds_arc P s n part p (Bounds a b) within is at (inr (inr (inr (inr (inr (inr h)))))) = absurd h
bounds_arc P s n part p _ within is at h = absurd h

-- what feeds the entries of a loop's imports
record EntryFed (w i j : ℕ) (bs : List ℕ) (s : Origin) (part : ℕ) (p : Port) : Type 0 where
  slot : ℕ
  less : slot < length bs
  at : part ≡ j + slot
  port : p ≡ Zero
  from : s ≡ pieces.part_of w (i + slot)

entry_fed : (w i j : ℕ) (bs : List ℕ) (s : Origin) (part : ℕ) (p : Port) → Among (feed s part p) (entry_feeds w i j bs)
    → EntryFed w i j bs s part p
entry_fed w i j [] s part p h = absurd h
entry_fed w i j (b ∷ bs) s part p (inl is) =
    let first : j ≡ j + 0 = omega arith in
    let from : i ≡ i + 0 = omega arith in
    record {
      slot = 0;
      less = omega arith;
      at = ap (λ (y : Rattle.id_build.specs.declared.arc.Feed.Feed). y.part) is ∙ first;
      port = ap (λ (y : Rattle.id_build.specs.declared.arc.Feed.Feed). y.port) is;
      from = ap (λ (y : Rattle.id_build.specs.declared.arc.Feed.Feed). y.origin) is ∙ ap (pieces.part_of w) from;
    }
entry_fed w i j (b ∷ bs) s part p (inr h) =
    let z = entry_fed w (i + 1) (j + 1) bs s part p h in
    let up : j + 1 + z.slot ≡ j + suc z.slot = omega arith in
    let over : i + 1 + z.slot ≡ i + suc z.slot = omega arith in
    record {
      slot = suc z.slot;
      less = omega (arith, z.less);
      at = z.at ∙ up;
      port = z.port;
      from =
          z.from ∙ ap (pieces.part_of w) over;
    }

as_entry : {P : Checked} {n : ℕ} {s : Origin} {part : ℕ} {p : Port} → node P n ≡ Entries
    → EntryFed (turn_row P (block P n)) (1 + carries_on P (block P n)) 0 (imports_of P (block P n)) s part p
    → Arc P n part p s
as_entry {P} {n} {s} {part} {p} is x =
    let h = block P n in
    let part_is : part ≡ x.slot = omega (arith, x.at) in
    let next : 1 + carries_on P h + x.slot ≡ suc (carries_on P h + x.slot) = omega arith in
    let from : s ≡ pieces.part_of (turn_row P h) (suc (carries_on P h + x.slot)) =
    x.from ∙ ap (pieces.part_of (turn_row P h)) next in
    subst (λ (z : ℕ × (Port × Origin)). Arc P n z.0 z.1.0 z.1.1)
    {x = (x.slot, (Zero, pieces.part_of (turn_row P h) (suc (carries_on P h + x.slot))))} {y = (part, (p, s))}
    (λ i. (sym part_is i, (sym x.port i, sym from i))) (to_entry x.slot is x.less)

-- what feeds the parts that hand imports on
record TurnFed (P : Checked) (r : Region) (j : ℕ) (bs : List ℕ) (s : Origin) (part : ℕ) (p : Port) : Type 0 where
  slot : ℕ
  less : slot < length bs
  at : part ≡ j + slot
  port : p ≡ Zero
  from : s ≡ name_in P r (get_or bs slot 0)

turn_fed : (P : Checked) (r : Region) (j : ℕ) (bs : List ℕ) (s : Origin) (part : ℕ) (p : Port)
    → Among (feed s part p) (turn_feeds P r j bs) → TurnFed P r j bs s part p
turn_fed P r j [] s part p h = absurd h
turn_fed P r j (b ∷ bs) s part p (inl is) =
    let first : j ≡ j + 0 = omega arith in
    record {
      slot = 0;
      less = omega arith;
      at = ap (λ (y : Rattle.id_build.specs.declared.arc.Feed.Feed). y.part) is ∙ first;
      port = ap (λ (y : Rattle.id_build.specs.declared.arc.Feed.Feed). y.port) is;
      from = ap (λ (y : Rattle.id_build.specs.declared.arc.Feed.Feed). y.origin) is;
    }
turn_fed P r j (b ∷ bs) s part p (inr h) =
    let z = turn_fed P r (j + 1) bs s part p h in
    let up : j + 1 + z.slot ≡ j + suc z.slot = omega arith in
    record { slot = suc z.slot; less = omega (arith, z.less); at = z.at ∙ up; port = z.port; from = z.from }

as_turn : {P : Checked} {n : ℕ} {s : Origin} {part : ℕ} {p : Port} → node P n ≡ Turn
    → TurnFed P (region P n) (1 + carries_on P (block P n)) (imports_of P (block P n)) s part p → Arc P n part p s
as_turn {P} {n} {s} {part} {p} is x =
    let c = carries_on P (block P n) in
    let part_is : part ≡ suc (c + x.slot) = omega (arith, x.at) in
    subst (λ (z : ℕ × (Port × Origin)). Arc P n z.0 z.1.0 z.1.1)
    {x = (suc (c + x.slot), (Zero, name_in P (region P n) (get_or (imports_of P (block P n)) x.slot 0)))} {y =
    (part, (p, s))}
    (λ i. (sym part_is i, (sym x.port i, sym x.from i))) (to_turn_name x.slot is x.less)

-- and what the loop carries on
carried_arc : (P : Checked) (s : Origin) (n part : ℕ) (p : Port) → node P n ≡ Turn
    → Among (feed s part p) (carried_feeds P n (region P n) (block P n))
    → Arc P n part p s
carried_arc P s n part p is among = go (has_index P (block P n)) refl among
  where
    go : (t : Truth) → has_index P (block P n) ≡ t
        → Among (feed s part p)
        (cond t (feed (pieces.part_of (n - 1) 4) 1 Zero ∷ feed (name_in P (region P n) (block P n + 2)) 2 Zero
        ∷ feed (output (n - 1)) 3 Zero ∷ []) [])
        → Arc P n part p s
    go true has (inl h) = moved s _ part 1 p Zero h (to_next_index is has)
    go true has (inr (inl h)) = moved s _ part 2 p Zero h (to_next_bound is has)
    go true has (inr (inr (inl h))) = moved s _ part 3 p Zero h (to_next_flag is has)
    go true has (inr (inr (inr h))) = absurd h
    go false has h = absurd h

arc_by : (P : Checked) (s : Origin) (n part : ℕ) (p : Port) (m : Node) → n < length (rows P) → node P n ≡ m
    → Among (feed s part p) (feeds_of P n (region P n) m) → Arc P n part p s
arc_by P s n part p Head within is (inl h) = moved s _ part 1 p One h (to_back is)
arc_by P s n part p Head within is (inr h) = absurd h
arc_by P s n part p (Param x k) within is h = absurd h
arc_by P s n part p (Literal c) within is (inl h) = moved s _ part 0 p Zero h (to_literal is)
arc_by P s n part p (Literal c) within is (inr h) = absurd h
arc_by P s n part p (Name x) within is h = absurd h
arc_by P s n part p (Unary o a) within is (inl h) = moved s _ part 0 p Zero h (to_unary is)
arc_by P s n part p (Unary o a) within is (inr h) = absurd h
arc_by P s n part p (Binary o a b) within is (inl h) = moved s _ part 0 p Zero h (to_left is)
arc_by P s n part p (Binary o a b) within is (inr (inl h)) = moved s _ part 0 p One h (to_right is)
arc_by P s n part p (Binary o a b) within is (inr (inr h)) = absurd h
arc_by P s n part p (Split t) within is (inl h) = moved s _ part 0 p Zero h (to_test (of_arms is))
arc_by P s n part p (Split t) within is (inr (inl h)) = moved s _ part 0 p One h (to_trigger (of_arms is))
arc_by P s n part p (Split t) within is (inr (inr h)) =
    as_arc (of_arms is) (import_fed P (origin P t) (region P n) 1 (imports_of P n) s part p h)
arc_by P s n part p (If t x y) within is (inl h) = moved s _ part 0 p Zero h (to_then is)
arc_by P s n part p (If t x y) within is (inr (inl h)) = moved s _ part 0 p Zero h (to_else is)
arc_by P s n part p (If t x y) within is (inr (inr h)) = absurd h
arc_by P s n part p (Enter x) within is (inl h) = moved s _ part 0 p Zero h (to_enter (of_call is))
arc_by P s n part p (Enter x) within is (inr h) = absurd h
arc_by P s n part p (Arg e k v) within is (inl h) = moved s _ part 0 p Zero h (to_context is)
arc_by P s n part p (Arg e k v) within is (inr (inl h)) = moved s _ part 0 p One h (to_argument is)
arc_by P s n part p (Arg e k v) within is (inr (inr h)) = absurd h
arc_by P s n part p (Call e c) within is h = absurd h
arc_by P s n part p (Block b) within is h = absurd h
arc_by P s n part p (Binding x a) within is (inl h) = moved s _ part 0 p Zero h (to_label is)
arc_by P s n part p (Binding x a) within is (inr h) = absurd h
arc_by P s n part p (Def x g k b) within is h = absurd h
arc_by P s n part p Start within is (inl h) = moved s _ part 0 p Zero h (to_enter (of_loop is))
arc_by P s n part p Start within is (inr h) =
    elim (Among-either (feed s part p) (bounds_feeds P n (node P (n - 1)))
    (import_feeds P (output n) (region P n) (1 + carries_on P (n + 1)) (entering P (n + 1))) h) [
      | inl k ↦ bounds_arc P s n part p (node P (n - 1)) within is refl k
      | inr k ↦ as_send is
          (import_fed P (output n) (region P n) (1 + carries_on P (n + 1)) (entering P (n + 1)) s part p k)
    ]
arc_by P s n part p (LoopHead t) within is (inl h) = moved s _ part 0 p Zero h (to_head is)
arc_by P s n part p (LoopHead t) within is (inr (inl h)) = moved s _ part 1 p One h (to_loop_back is)
arc_by P s n part p (LoopHead t) within is (inr (inr h)) = absurd h
arc_by P s n part p Variable within is (inl h) = moved s _ part 0 p Zero h (to_variable is)
arc_by P s n part p Variable within is (inr h) = absurd h
arc_by P s n part p Entries within is h =
    as_entry is
    (entry_fed (turn_row P (block P n)) (1 + carries_on P (block P n)) 0 (imports_of P (block P n)) s part p h)
arc_by P s n part p (Switches t) within is (inl h) = moved s _ part 0 p Zero h (to_test (of_turns is))
arc_by P s n part p (Switches t) within is (inr (inl h)) = moved s _ part 0 p One h (to_trigger (of_turns is))
arc_by P s n part p (Switches t) within is (inr (inr h)) =
    as_arc (of_turns is) (import_fed P (origin P t) (region P n) 1 (imports_of P n) s part p h)
arc_by P s n part p Turn within is (inl h) = moved s _ part 0 p Zero h (to_turn is)
arc_by P s n part p Turn within is (inr h) =
    let c = block P n in
    elim (Among-either (feed s part p) (carried_feeds P n (region P n) c)
    (turn_feeds P (region P n) (1 + carries_on P c) (imports_of P c)) h) [
      | inl k ↦ carried_arc P s n part p is k
      | inr k ↦ as_turn is (turn_fed P (region P n) (1 + carries_on P c) (imports_of P c) s part p k)
    ]
arc_by P s n part p (NextUse x) within is h = absurd h
arc_by P s n part p (Next x k o v) within is (inl h) = moved s _ part 0 p Zero h (to_next is)
arc_by P s n part p (Next x k o v) within is (inr h) = absurd h
arc_by P s n part p Body within is h = absurd h
arc_by P s n part p (Reset v) within is (inl h) = moved s _ part 0 p Zero h (to_reset is)
arc_by P s n part p (Reset v) within is (inr h) = absurd h
arc_by P s n part p (Loop g w l) within is h = absurd h
arc_by P s n part p (Array nested a b) within is (inl h) = moved s _ part 0 p Zero h (to_low is)
arc_by P s n part p (Array nested a b) within is (inr (inl h)) = moved s _ part 0 p One h (to_high is)
arc_by P s n part p (Array nested a b) within is (inr (inr h)) = absurd h
arc_by P s n part p (Fetch t i) within is (inl h) = moved s _ part 0 p Zero h (to_target (of_fetch is))
arc_by P s n part p (Fetch t i) within is (inr (inl h)) = moved s _ part 0 p One h (to_index (of_fetch is))
arc_by P s n part p (Fetch t i) within is (inr (inr (inl h))) = moved s _ part 1 p Zero h (to_fetch is)
arc_by P s n part p (Fetch t i) within is (inr (inr (inr h))) = absurd h
arc_by P s n part p (Address t i) within is (inl h) = moved s _ part 0 p Zero h (to_target (of_store is))
arc_by P s n part p (Address t i) within is (inr (inl h)) = moved s _ part 0 p One h (to_index (of_store is))
arc_by P s n part p (Address t i) within is (inr (inr h)) = absurd h
arc_by P s n part p (Store a v) within is (inl h) = moved s _ part 0 p Zero h (to_store is)
arc_by P s n part p (Store a v) within is (inr (inl h)) = moved s _ part 0 p One h (to_stored is)
arc_by P s n part p (Store a v) within is (inr (inr h)) = absurd h
arc_by P s n part p (Bounds a b) within is (inl h) = moved s _ part 0 p Zero h (to_lower is)
arc_by P s n part p (Bounds a b) within is (inr (inl h)) = moved s _ part 0 p One h (to_upper is)
arc_by P s n part p (Bounds a b) within is (inr (inr (inl h))) = moved s _ part 1 p Zero h (to_first_test is)
arc_by P s n part p (Bounds a b) within is (inr (inr (inr (inl h)))) = moved s _ part 1 p One h (to_first is)
arc_by P s n part p (Bounds a b) within is (inr (inr (inr (inr h)))) = absurd h
arc_by P s n part p (Carried k) within is (inl h) = moved s _ part 0 p Zero h (to_carried is)
arc_by P s n part p (Carried k) within is (inr h) = absurd h
arc_by P s n part p (Within f) within is h = absurd h
arc_by P s n part p Count within is (inl h) = moved s _ part 0 p Zero h (to_index_now is)
arc_by P s n part p Count within is (inr (inl h)) = moved s _ part 0 p One h (to_bound is)
arc_by P s n part p Count within is (inr (inr (inl h))) = moved s _ part 1 p Zero h (to_further_test is)
arc_by P s n part p Count within is (inr (inr (inr (inl h)))) = moved s _ part 1 p One h (to_further is)
arc_by P s n part p Count within is (inr (inr (inr (inr (inl h))))) = moved s _ part 2 p Zero h (to_last_test is)
arc_by P s n part p Count within is (inr (inr (inr (inr (inr (inl h)))))) = moved s _ part 2 p One h (to_last is)
arc_by P s n part p Count within is (inr (inr (inr (inr (inr (inr (inl h))))))) = moved s _ part 3 p Zero h (to_one is)
arc_by P s n part p Count within is (inr (inr (inr (inr (inr (inr (inr (inl h)))))))) =
    moved s _ part 4 p Zero h (to_add is)
arc_by P s n part p Count within is (inr (inr (inr (inr (inr (inr (inr (inr (inl h))))))))) =
    moved s _ part 4 p One h (to_add_one is)
arc_by P s n part p Count within is (inr (inr (inr (inr (inr (inr (inr (inr (inr h))))))))) = absurd h
arc_by P s n part p (Index x) within is h = absurd h
arc_by P s n part p Span within is h = absurd h
arc_by P s n part p Program within is h = absurd h

-- each arc is one that its row's node says
pub fed : {P : Checked} {s : Origin} {n part : ℕ} {p : Port} → Feeds P s n part p → Arc P n part p s
fed {P} {s} {n} {part} {p} h = arc_by P s n part p (node P n) h.within refl h.among

-- each binder whose value goes into a loop has its entry there
import_entry : (e j : ℕ) (bs : List ℕ) (k : ℕ) → k < length bs
    → (q : Entry) × (slice_get (import_entries e j bs) k ≡ Some q)
import_entry e j [] k less = absurd (omega (arith, less))
import_entry e j (b ∷ bs) zero less = (_, refl)
import_entry e j (b ∷ bs) (suc k) less = import_entry e (j + 1) bs k (omega (arith, less))

entries_at : (P : Checked) (v e : ℕ) (ms bs : List ℕ) (k : ℕ) → k < length (map (first_binder P) ms ++ bs)
    → (q : Entry) × (slice_get (variable_entries v ms ++ import_entries e 0 bs) k ≡ Some q)
entries_at P v e [] bs k less = import_entry e 0 bs k less
entries_at P v e (m ∷ ms) bs zero less = (_, refl)
entries_at P v e (m ∷ ms) bs (suc k) less = entries_at P (v + 1) e ms bs k (omega (arith, less))

behind_carried : (cs : List ℕ) (qs : List Entry) (k : ℕ)
    → slice_get (map param_entry cs ++ qs) (length cs + k) ≡ slice_get qs k
behind_carried [] qs k = let at : 0 + k ≡ k = omega arith in ap (slice_get qs) at
behind_carried (c ∷ cs) qs k =
    let at : length (c ∷ cs) + k ≡ suc (length cs + k) = omega arith in
    ap (slice_get (map param_entry (c ∷ cs) ++ qs)) at ∙ behind_carried cs qs k

pub entered_at : (P : Checked) (h k : ℕ) → k < length (entering P h)
    → (q : Entry) × (slice_get (loop_entries P h) (carries_on P h + k) ≡ Some q)
entered_at P h k less =
    let z = entries_at P (first_variable P h) (entries_row P h) (nexts_of P h) (imports_of P h) k less in
    (z.0, behind_carried (carried P h) _ k ∙ z.1)

-- and so has each of what is carried on
carried_entry : (cs : List ℕ) (qs : List Entry) (k : ℕ) → k < length cs
    → slice_get (map param_entry cs ++ qs) k ≡ Some (param_entry (get_or cs k 0))
carried_entry [] qs k less = absurd (omega (arith, less))
carried_entry (c ∷ cs) qs zero less = refl
carried_entry (c ∷ cs) qs (suc k) less = carried_entry cs qs k (omega (arith, less))

pub three_carried : (P : Checked) (h : ℕ) → has_index P h ≡ true → carried P h ≡ ((h + 1) ∷ (h + 2) ∷ (h + 3) ∷ [])
three_carried P h has = ap (λ t. cond t ((h + 1) ∷ (h + 2) ∷ (h + 3) ∷ []) []) has

pub none_carried : (P : Checked) (h : ℕ) → has_index P h ≡ false → carried P h ≡ []
none_carried P h none = ap (λ t. cond t ((h + 1) ∷ (h + 2) ∷ (h + 3) ∷ []) []) none

pub carried_at : (P : Checked) (h k : ℕ) → has_index P h ≡ true → k < 3
    → slice_get (loop_entries P h) k ≡ Some (param_entry (get_or (carried P h) k 0))
carried_at P h k has less =
    carried_entry (carried P h) _ k (subst (λ cs. k < length cs) (sym (three_carried P h has)) less)

-- what a loop hands on: what it carries on comes before its imports
pub behind_turned : (P : Checked) (h k : ℕ) → k < length (imports_of P h) → carries_on P h + k < length (turned P h)
behind_turned P h k less = omega (arith, less, append_length (carried P h) (imports_of P h))

pub three_turned : (P : Checked) (h : ℕ) → has_index P h ≡ true → (k : ℕ) → k < 3 → k < length (turned P h)
three_turned P h has k less =
    let three : length (carried P h) ≡ 3 = ap length (three_carried P h has) in
    omega (arith, less, three, append_length (carried P h) (imports_of P h))

-- what is fed is a part
fed_part : {P : Checked} {n part : ℕ} {p : Port} {s : Origin} → n < length (rows P) → Arc P n part p s → IsPart P n part
fed_part within (to_back is) = part_of within (returns is)
fed_part within (to_literal is) = part_of within (constant is)
fed_part within (to_unary is) = part_of within (unary is)
fed_part within (to_left is) = part_of within (binary is)
fed_part within (to_right is) = part_of within (binary is)
fed_part within (to_test is) = part_of within (turns_on is)
fed_part within (to_trigger is) = part_of within (turns_on is)
fed_part within (to_import_test k is less) = part_of within (hands k is less)
fed_part within (to_import k is less) = part_of within (hands k is less)
fed_part within (to_then is) = part_of within (joins is)
fed_part within (to_else is) = part_of within (joins is)
fed_part within (to_enter is) = part_of within (opens is)
fed_part within (to_context is) = part_of within (passes is)
fed_part within (to_argument is) = part_of within (passes is)
fed_part within (to_label is) = part_of within (names is)
fed_part {P} {n} within (to_loop_context k is less) =
    let z = entered_at P (n + 1) k less in part_of within (sends_in (carries_on P (n + 1) + k) z.0 is z.1)
fed_part {P} {n} within (to_entering k is less) =
    let z = entered_at P (n + 1) k less in part_of within (sends_in (carries_on P (n + 1) + k) z.0 is z.1)
fed_part within (to_head is) = part_of within (starts (ap begins_block is))
fed_part within (to_loop_back is) = part_of within (gives_back is)
fed_part within (to_variable is) = part_of within (varies is)
fed_part within (to_entry k is less) = part_of within (takes_in k is less)
fed_part within (to_turn is) = part_of within (moves_on is)
fed_part {P} {n} within (to_turn_name k is less) =
    part_of within (moves_name (carries_on P (block P n) + k) is (behind_turned P (block P n) k less))
fed_part within (to_next is) = part_of within (advances is)
fed_part within (to_reset is) = part_of within (resets is)
fed_part within (to_low is) = part_of within (allocates is)
fed_part within (to_high is) = part_of within (allocates is)
fed_part within (to_target is) = part_of within (addresses is)
fed_part within (to_index is) = part_of within (addresses is)
fed_part within (to_fetch is) = part_of within (fetches is)
fed_part within (to_store is) = part_of within (stores is)
fed_part within (to_stored is) = part_of within (stores is)
fed_part {P} {n} within (to_carried_context k is at has less) =
    part_of within (sends_in k _ is (carried_at P (n + 1) k has less))
fed_part {P} {n} within (to_first_index is at has) =
    part_of within (sends_in 0 _ is (carried_at P (n + 1) 0 has (omega arith)))
fed_part {P} {n} within (to_first_bound is at has) =
    part_of within (sends_in 1 _ is (carried_at P (n + 1) 1 has (omega arith)))
fed_part {P} {n} within (to_first_flag is at has) =
    part_of within (sends_in 2 _ is (carried_at P (n + 1) 2 has (omega arith)))
fed_part {P} {n} within (to_next_index is has) =
    part_of within (moves_name 0 is (three_turned P (block P n) has 0 (omega arith)))
fed_part {P} {n} within (to_next_bound is has) =
    part_of within (moves_name 1 is (three_turned P (block P n) has 1 (omega arith)))
fed_part {P} {n} within (to_next_flag is has) =
    part_of within (moves_name 2 is (three_turned P (block P n) has 2 (omega arith)))
fed_part within (to_lower is) = part_of within (bounds_meet is)
fed_part within (to_upper is) = part_of within (bounds_meet is)
fed_part within (to_first_test is) = part_of within (begins_index is)
fed_part within (to_first is) = part_of within (begins_index is)
fed_part within (to_carried is) = part_of within (carries is)
fed_part within (to_index_now is) = part_of within (meets_bound is)
fed_part within (to_bound is) = part_of within (meets_bound is)
fed_part within (to_further_test is) = part_of within (goes_further is)
fed_part within (to_further is) = part_of within (goes_further is)
fed_part within (to_last_test is) = part_of within (hands_index is)
fed_part within (to_last is) = part_of within (hands_index is)
fed_part within (to_one is) = part_of within (has_one is)
fed_part within (to_add is) = part_of within (adds_one is)
fed_part within (to_add_one is) = part_of within (adds_one is)

pub target_part : {P : Checked} {s : Origin} {n part : ℕ} {p : Port} → Feeds P s n part p → IsPart P n part
target_part h = fed_part h.within (fed h)
