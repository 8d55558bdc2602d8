-- What feeds a port: it has one origin, save that of a conditional, and some ports have none.
use Rattle.std.proofs.Common.{◌≡◌, ◌⊎◌, inl, inr, ℕ, zero, suc, ◌+◌, ◌-◌, ◌<◌, Bool as Truth, true, false, cond, Option}
use Rattle.std.proofs.Common.{Some, None, List, []}
use Rattle.std.proofs.Common.{◌∷◌, length, get_or, unwrap_or, refl, sym, ◌∙◌, ap}
use Rattle.std.proofs.Common.{subst, arith}
use Rattle.id_value.specs.declared.Kind.{Kind}
use Rattle.id_value.specs.List.{Among}
use Rattle.id_table.specs.declared.row.Region.{Region}
use Rattle.id_table.specs.declared.row.Node.{Node}
use Rattle.id_table.specs.declared.row.Node.TheVariants.{Head, Param, Literal, Unary, Binary, Split, If, Enter, Arg}
use Rattle.id_table.specs.declared.row.Node.TheVariants.{Call}
use Rattle.id_table.specs.declared.row.Node.TheVariants.{Binding, Program}
use Rattle.id_table.specs.declared.row.Node.TheVariants.{Start, LoopHead, Variable, Entries, Switches, Turn, Next}
use Rattle.id_table.specs.declared.row.Node.TheVariants.{Reset, Loop}
use Rattle.id_table.specs.declared.row.Node.TheVariants.{Array, Fetch, Address, Store, Bounds, Carried, Count}
use Rattle.id_table.specs.Loops.{upper_of}
use Rattle.id_check.specs.declared.checked.Checked.{Checked}
use Rattle.id_check.specs.Programs.{region, rows}
use Rattle.id_instr.specs.declared.dests.Port.{Port}
use Rattle.id_instr.specs.declared.dests.Port.TheVariants.{Zero, One}
use Rattle.id_desugar.specs.Ends.{end_of}
use Rattle.id_desugar.specs.Regions.{has_index, imports_of}
use Rattle.id_build.specs.declared.arc.Origin.{Origin}
use Rattle.id_build.specs.Rows.{node, body_of, feed, feeds_of, import_feeds, name_in, origin}
use Rattle.id_build.specs.Rows.{output, trigger_of, block, entering, turn_row, next_of}
use Rattle.id_build.specs.Rows as pieces
use Rattle.id_build.specs.Schemas.{Feeds}
use Rattle.id_laws.specs.Activations.{of_call, of_loop, Tests, of_arms, of_turns}
use Rattle.id_laws.specs.Topics.{of_fetch, of_store}
use Rattle.id_laws.proofs.Rows.Arcs.{Arc, carries_on, fed, none_carried, three_carried, to_add, to_add_one, to_argument}
use Rattle.id_laws.proofs.Rows.Arcs.{to_back, to_bound, to_carried, to_carried_context, to_context, to_else, to_enter}
use Rattle.id_laws.proofs.Rows.Arcs.{to_entering, to_entry, to_fetch, to_first, to_first_bound, to_first_flag}
use Rattle.id_laws.proofs.Rows.Arcs.{to_first_index, to_first_test, to_further, to_further_test, to_head, to_high}
use Rattle.id_laws.proofs.Rows.Arcs.{to_import, to_import_test, to_index, to_index_now, to_label, to_last, to_last_test}
use Rattle.id_laws.proofs.Rows.Arcs.{to_left, to_literal, to_loop_back, to_loop_context, to_low, to_lower, to_next}
use Rattle.id_laws.proofs.Rows.Arcs.{to_next_bound, to_next_flag, to_next_index, to_one, to_reset, to_right, to_store}
use Rattle.id_laws.proofs.Rows.Arcs.{to_stored, to_target, to_test, to_then, to_trigger, to_turn, to_turn_name}
use Rattle.id_laws.proofs.Rows.Arcs.{to_unary}
use Rattle.id_laws.proofs.Rows.Arcs.{to_upper, to_variable}

-- what feeds the second port of a `send` of the loop that begins at the row n
abbrev bounded_feeder : Checked → ℕ → Region → ℕ → Option Origin
bounded_feeder P n r zero = Some (pieces.part_of (n - 1) 1)
bounded_feeder P n r (suc zero) = Some (origin P (unwrap_or (upper_of (node P (n - 1))) 0))
bounded_feeder P n r (suc (suc zero)) = Some (output (n - 1))
bounded_feeder P n r (suc (suc (suc k))) = Some (name_in P r (get_or (entering P (n + 1)) k 0))

abbrev start_feeder : Checked → ℕ → Region → ℕ → Option Origin
start_feeder P n r k =
    cond (has_index P (n + 1)) (bounded_feeder P n r k) (Some (name_in P r (get_or (entering P (n + 1)) k 0)))

-- and what a part that hands on to the next iteration of the loop with the head h
abbrev further_feeder : Checked → ℕ → Region → ℕ → ℕ → Option Origin
further_feeder P n r h zero = Some (pieces.part_of (n - 1) 4)
further_feeder P n r h (suc zero) = Some (name_in P r (h + 2))
further_feeder P n r h (suc (suc zero)) = Some (output (n - 1))
further_feeder P n r h (suc (suc (suc k))) = Some (name_in P r (get_or (imports_of P h) k 0))

abbrev turn_feeder : Checked → ℕ → Region → ℕ → ℕ → Option Origin
turn_feeder P n r h k =
    cond (has_index P h) (further_feeder P n r h k) (Some (name_in P r (get_or (imports_of P h) k 0)))

-- what feeds this port of the part of the row n, in this region with this node, which is no conditional
abbrev feeder : Checked → ℕ → Region → Node → ℕ → Port → Option Origin
feeder P n r Head (suc zero) One = Some (origin P (body_of (node P (end_of P n))))
feeder P n r (Literal c) zero Zero = Some (trigger_of r)
feeder P n r (Unary o a) zero Zero = Some (origin P a)
feeder P n r (Binary o a b) zero Zero = Some (origin P a)
feeder P n r (Binary o a b) zero One = Some (origin P b)
feeder P n r (Split t) part Zero = Some (origin P t)
feeder P n r (Split t) zero One = Some (trigger_of r)
feeder P n r (Split t) (suc k) One = Some (name_in P r (get_or (imports_of P n) k 0))
feeder P n r (Enter x) zero Zero = Some (trigger_of r)
feeder P n r (Arg e k v) zero Zero = Some (output e)
feeder P n r (Arg e k v) zero One = Some (origin P v)
feeder P n r (Binding x a) zero Zero = Some (origin P a)
feeder P n r Start zero Zero = Some (trigger_of r)
feeder P n r Start (suc k) Zero = Some (output n)
feeder P n r Start (suc k) One = start_feeder P n r k
feeder P n r (LoopHead s) zero Zero = Some (output (turn_row P n))
feeder P n r (LoopHead s) (suc zero) One = Some (output (end_of P n - 2))
feeder P n r Variable zero Zero = Some (output (next_of P n))
feeder P n r Entries k Zero = Some (pieces.part_of (turn_row P (block P n)) (suc (carries_on P (block P n) + k)))
feeder P n r (Switches t) part Zero = Some (origin P t)
feeder P n r (Switches t) zero One = Some (trigger_of r)
feeder P n r (Switches t) (suc k) One = Some (name_in P r (get_or (imports_of P n) k 0))
feeder P n r Turn zero Zero = Some (trigger_of r)
feeder P n r Turn (suc k) Zero = turn_feeder P n r (block P n) k
feeder P n r (Next x k o v) zero Zero = Some (origin P v)
feeder P n r (Reset v) zero Zero = Some (origin P v)
feeder P n r (Array nested a b) zero Zero = Some (origin P a)
feeder P n r (Array nested a b) zero One = Some (origin P b)
feeder P n r (Fetch t i) zero Zero = Some (origin P t)
feeder P n r (Fetch t i) zero One = Some (origin P i)
feeder P n r (Fetch t i) (suc zero) Zero = Some (output n)
feeder P n r (Address t i) zero Zero = Some (origin P t)
feeder P n r (Address t i) zero One = Some (origin P i)
feeder P n r (Store a v) zero Zero = Some (output a)
feeder P n r (Store a v) zero One = Some (origin P v)
feeder P n r (Bounds a b) zero Zero = Some (origin P a)
feeder P n r (Bounds a b) zero One = Some (origin P b)
feeder P n r (Bounds a b) (suc zero) Zero = Some (output n)
feeder P n r (Bounds a b) (suc zero) One = Some (origin P a)
feeder P n r (Carried k) zero Zero = Some (pieces.part_of (turn_row P (block P n)) (n - block P n))
feeder P n r Count zero Zero = Some (output (block P n + 1))
feeder P n r Count zero One = Some (name_in P r (block P n + 2))
feeder P n r Count (suc zero) Zero = Some (output n)
feeder P n r Count (suc zero) One = Some (trigger_of r)
feeder P n r Count (suc (suc zero)) Zero = Some (output n)
feeder P n r Count (suc (suc zero)) One = Some (output (block P n + 1))
feeder P n r Count (suc (suc (suc zero))) Zero = Some (pieces.part_of n 1)
feeder P n r Count (suc (suc (suc (suc zero)))) Zero = Some (pieces.part_of n 2)
feeder P n r Count (suc (suc (suc (suc zero)))) One = Some (pieces.part_of n 3)
feeder P n r _ part p = None

-- an arc from an arm goes to a conditional
pub record FromArm (P : Checked) (n : ℕ) (s : Origin) : Type 0 where
  pub split : ℕ
  pub then : ℕ
  pub otherwise : ℕ
  pub node : node P n ≡ If split then otherwise
  pub from : (s ≡ origin P then) ⊎ (s ≡ origin P otherwise)

-- behind those of what is carried on come the names
entering_feeder : (P : Checked) (n : ℕ) (r : Region) (k : ℕ)
    → start_feeder P n r (carries_on P (n + 1) + k) ≡ Some (name_in P r (get_or (entering P (n + 1)) k 0))
entering_feeder P n r k = go (has_index P (n + 1)) refl
  where
    go : (t : Truth) → has_index P (n + 1) ≡ t
        → start_feeder P n r (carries_on P (n + 1) + k) ≡ Some (name_in P r (get_or (entering P (n + 1)) k 0))
    go true has =
        let at : carries_on P (n + 1) + k ≡ suc (suc (suc k)) =
        omega (arith, ap length (three_carried P (n + 1) has)) in
        ap (start_feeder P n r) at
        ∙ ap (λ t. cond t (bounded_feeder P n r (suc (suc (suc k))))
        (Some (name_in P r (get_or (entering P (n + 1)) (suc (suc (suc k))) 0)))) has
    go false none =
        let at : carries_on P (n + 1) + k ≡ k = omega (arith, ap length (none_carried P (n + 1) none)) in
        ap (start_feeder P n r) at
        ∙ ap (λ t. cond t (bounded_feeder P n r k) (Some (name_in P r (get_or (entering P (n + 1)) k 0)))) none

turned_feeder : (P : Checked) (n : ℕ) (r : Region) (h k : ℕ)
    → turn_feeder P n r h (carries_on P h + k) ≡ Some (name_in P r (get_or (imports_of P h) k 0))
turned_feeder P n r h k = go (has_index P h) refl
  where
    go : (t : Truth) → has_index P h ≡ t
        → turn_feeder P n r h (carries_on P h + k) ≡ Some (name_in P r (get_or (imports_of P h) k 0))
    go true has =
        let at : carries_on P h + k ≡ suc (suc (suc k)) = omega (arith, ap length (three_carried P h has)) in
        ap (turn_feeder P n r h) at
        ∙ ap (λ t. cond t (further_feeder P n r h (suc (suc (suc k))))
        (Some (name_in P r (get_or (imports_of P h) (suc (suc (suc k))) 0)))) has
    go false none =
        let at : carries_on P h + k ≡ k = omega (arith, ap length (none_carried P h none)) in
        ap (turn_feeder P n r h) at
        ∙ ap (λ t. cond t (further_feeder P n r h k) (Some (name_in P r (get_or (imports_of P h) k 0)))) none

feeder_is : {P : Checked} {n part : ℕ} {p : Port} {s : Origin} → Arc P n part p s
    → (feeder P n (region P n) (node P n) part p ≡ Some s) ⊎ FromArm P n s
feeder_is {P} {n} (to_back is) = inl (ap (λ m. feeder P n (region P n) m 1 One) is)
feeder_is {P} {n} (to_literal is) = inl (ap (λ m. feeder P n (region P n) m 0 Zero) is)
feeder_is {P} {n} (to_unary is) = inl (ap (λ m. feeder P n (region P n) m 0 Zero) is)
feeder_is {P} {n} (to_left is) = inl (ap (λ m. feeder P n (region P n) m 0 Zero) is)
feeder_is {P} {n} (to_right is) = inl (ap (λ m. feeder P n (region P n) m 0 One) is)
feeder_is {P} {n} (to_test (of_arms is)) = inl (ap (λ m. feeder P n (region P n) m 0 Zero) is)
feeder_is {P} {n} (to_test (of_turns is)) = inl (ap (λ m. feeder P n (region P n) m 0 Zero) is)
feeder_is {P} {n} (to_trigger (of_arms is)) = inl (ap (λ m. feeder P n (region P n) m 0 One) is)
feeder_is {P} {n} (to_trigger (of_turns is)) = inl (ap (λ m. feeder P n (region P n) m 0 One) is)
feeder_is {P} {n} (to_import_test k (of_arms is) less) = inl (ap (λ m. feeder P n (region P n) m (suc k) Zero) is)
feeder_is {P} {n} (to_import_test k (of_turns is) less) = inl (ap (λ m. feeder P n (region P n) m (suc k) Zero) is)
feeder_is {P} {n} (to_import k (of_arms is) less) = inl (ap (λ m. feeder P n (region P n) m (suc k) One) is)
feeder_is {P} {n} (to_import k (of_turns is) less) = inl (ap (λ m. feeder P n (region P n) m (suc k) One) is)
feeder_is {P} {n} (to_then {s = s} {x = x} {y = y} is) =
    inr (record { split = s; then = x; otherwise = y; node = is; from = inl refl })
feeder_is {P} {n} (to_else {s = s} {x = x} {y = y} is) =
    inr (record { split = s; then = x; otherwise = y; node = is; from = inr refl })
feeder_is {P} {n} (to_enter (of_call is)) = inl (ap (λ m. feeder P n (region P n) m 0 Zero) is)
feeder_is {P} {n} (to_enter (of_loop is)) = inl (ap (λ m. feeder P n (region P n) m 0 Zero) is)
feeder_is {P} {n} (to_context is) = inl (ap (λ m. feeder P n (region P n) m 0 Zero) is)
feeder_is {P} {n} (to_argument is) = inl (ap (λ m. feeder P n (region P n) m 0 One) is)
feeder_is {P} {n} (to_label is) = inl (ap (λ m. feeder P n (region P n) m 0 Zero) is)
feeder_is {P} {n} (to_loop_context k is less) =
    inl (ap (λ m. feeder P n (region P n) m (suc (carries_on P (n + 1) + k)) Zero) is)
feeder_is {P} {n} (to_entering k is less) =
    inl (ap (λ m. feeder P n (region P n) m (suc (carries_on P (n + 1) + k)) One) is
    ∙ entering_feeder P n (region P n) k)
feeder_is {P} {n} (to_carried_context k is at has less) = inl (ap (λ m. feeder P n (region P n) m (suc k) Zero) is)
feeder_is {P} {n} (to_first_index is at has) =
    inl (ap (λ m. feeder P n (region P n) m 1 One) is
    ∙ ap (λ t. cond t (bounded_feeder P n (region P n) 0)
    (Some (name_in P (region P n) (get_or (entering P (n + 1)) 0 0)))) has)
feeder_is {P} {n} (to_first_bound is at has) =
    inl (ap (λ m. feeder P n (region P n) m 2 One) is
    ∙ ap (λ t. cond t (bounded_feeder P n (region P n) 1)
    (Some (name_in P (region P n) (get_or (entering P (n + 1)) 1 0)))) has
    ∙ ap (λ m. Some (origin P (unwrap_or (upper_of m) 0))) at)
feeder_is {P} {n} (to_first_flag is at has) =
    inl (ap (λ m. feeder P n (region P n) m 3 One) is
    ∙ ap (λ t. cond t (bounded_feeder P n (region P n) 2)
    (Some (name_in P (region P n) (get_or (entering P (n + 1)) 2 0)))) has)
feeder_is {P} {n} (to_head is) = inl (ap (λ m. feeder P n (region P n) m 0 Zero) is)
feeder_is {P} {n} (to_loop_back is) = inl (ap (λ m. feeder P n (region P n) m 1 One) is)
feeder_is {P} {n} (to_variable is) = inl (ap (λ m. feeder P n (region P n) m 0 Zero) is)
feeder_is {P} {n} (to_entry k is less) = inl (ap (λ m. feeder P n (region P n) m k Zero) is)
feeder_is {P} {n} (to_turn is) = inl (ap (λ m. feeder P n (region P n) m 0 Zero) is)
feeder_is {P} {n} (to_turn_name k is less) =
    inl (ap (λ m. feeder P n (region P n) m (suc (carries_on P (block P n) + k)) Zero) is
    ∙ turned_feeder P n (region P n) (block P n) k)
feeder_is {P} {n} (to_next_index is has) =
    inl (ap (λ m. feeder P n (region P n) m 1 Zero) is
    ∙ ap (λ t. cond t (further_feeder P n (region P n) (block P n) 0)
    (Some (name_in P (region P n) (get_or (imports_of P (block P n)) 0 0)))) has)
feeder_is {P} {n} (to_next_bound is has) =
    inl (ap (λ m. feeder P n (region P n) m 2 Zero) is
    ∙ ap (λ t. cond t (further_feeder P n (region P n) (block P n) 1)
    (Some (name_in P (region P n) (get_or (imports_of P (block P n)) 1 0)))) has)
feeder_is {P} {n} (to_next_flag is has) =
    inl (ap (λ m. feeder P n (region P n) m 3 Zero) is
    ∙ ap (λ t. cond t (further_feeder P n (region P n) (block P n) 2)
    (Some (name_in P (region P n) (get_or (imports_of P (block P n)) 2 0)))) has)
feeder_is {P} {n} (to_next is) = inl (ap (λ m. feeder P n (region P n) m 0 Zero) is)
feeder_is {P} {n} (to_reset is) = inl (ap (λ m. feeder P n (region P n) m 0 Zero) is)
feeder_is {P} {n} (to_low is) = inl (ap (λ m. feeder P n (region P n) m 0 Zero) is)
feeder_is {P} {n} (to_high is) = inl (ap (λ m. feeder P n (region P n) m 0 One) is)
feeder_is {P} {n} (to_target (of_fetch is)) = inl (ap (λ m. feeder P n (region P n) m 0 Zero) is)
feeder_is {P} {n} (to_target (of_store is)) = inl (ap (λ m. feeder P n (region P n) m 0 Zero) is)
feeder_is {P} {n} (to_index (of_fetch is)) = inl (ap (λ m. feeder P n (region P n) m 0 One) is)
feeder_is {P} {n} (to_index (of_store is)) = inl (ap (λ m. feeder P n (region P n) m 0 One) is)
feeder_is {P} {n} (to_fetch is) = inl (ap (λ m. feeder P n (region P n) m 1 Zero) is)
feeder_is {P} {n} (to_store is) = inl (ap (λ m. feeder P n (region P n) m 0 Zero) is)
feeder_is {P} {n} (to_stored is) = inl (ap (λ m. feeder P n (region P n) m 0 One) is)
feeder_is {P} {n} (to_lower is) = inl (ap (λ m. feeder P n (region P n) m 0 Zero) is)
feeder_is {P} {n} (to_upper is) = inl (ap (λ m. feeder P n (region P n) m 0 One) is)
feeder_is {P} {n} (to_first_test is) = inl (ap (λ m. feeder P n (region P n) m 1 Zero) is)
feeder_is {P} {n} (to_first is) = inl (ap (λ m. feeder P n (region P n) m 1 One) is)
feeder_is {P} {n} (to_carried is) = inl (ap (λ m. feeder P n (region P n) m 0 Zero) is)
feeder_is {P} {n} (to_index_now is) = inl (ap (λ m. feeder P n (region P n) m 0 Zero) is)
feeder_is {P} {n} (to_bound is) = inl (ap (λ m. feeder P n (region P n) m 0 One) is)
feeder_is {P} {n} (to_further_test is) = inl (ap (λ m. feeder P n (region P n) m 1 Zero) is)
feeder_is {P} {n} (to_further is) = inl (ap (λ m. feeder P n (region P n) m 1 One) is)
feeder_is {P} {n} (to_last_test is) = inl (ap (λ m. feeder P n (region P n) m 2 Zero) is)
feeder_is {P} {n} (to_last is) = inl (ap (λ m. feeder P n (region P n) m 2 One) is)
feeder_is {P} {n} (to_one is) = inl (ap (λ m. feeder P n (region P n) m 3 Zero) is)
feeder_is {P} {n} (to_add is) = inl (ap (λ m. feeder P n (region P n) m 4 Zero) is)
feeder_is {P} {n} (to_add_one is) = inl (ap (λ m. feeder P n (region P n) m 4 One) is)

none_some : {A : Type 0} {x : A} → None ≡ Some x → ⊥
none_some h = cc

-- no arc goes to a port of a part for which there is no feeder, save to a conditional's
not_fed : {P : Checked} {s : Origin} {n part : ℕ} {p : Port} (m : Node) → node P n ≡ m
    → ((r : Region) → feeder P n r m part p ≡ None) → ((t x y : ℕ) → If t x y ≡ m → ⊥) → Feeds P s n part p → ⊥
not_fed {P} {s} {n} {part} {p} m is none other h =
    elim (feeder_is (fed h)) [
      | inl x ↦ none_some (sym (none (region P n)) ∙ ap (λ z. feeder P n (region P n) z part p) (sym is) ∙ x)
      | inr x ↦ other x.split x.then x.otherwise (sym x.node ∙ is)
    ]

-- no arc goes to the label of a parameter, to the answer, to a call's merge or a loop's, or to what starts a procedure
pub param_unfed : {P : Checked} {n part : ℕ} {p : Port} {s : Origin} {x : ℕ} {k : Kind} → node P n ≡ Param x k
    → Feeds P s n part p → ⊥
param_unfed {x = x} {k = k} at h = not_fed (Param x k) at (λ r. refl) (λ t y z e. cc) h

pub answer_unfed : {P : Checked} {n part : ℕ} {p : Port} {s : Origin} → node P n ≡ Program → Feeds P s n part p → ⊥
answer_unfed at h = not_fed Program at (λ r. refl) (λ t y z e. cc) h

pub call_unfed : {P : Checked} {n part : ℕ} {p : Port} {s : Origin} {e c : ℕ} → node P n ≡ Call e c → Feeds P s n part p
    → ⊥
call_unfed {e = e} {c = c} at h = not_fed (Call e c) at (λ r. refl) (λ t y z i. cc) h

pub loop_unfed : {P : Checked} {n part : ℕ} {p : Port} {s : Origin} {g w l : ℕ} → node P n ≡ Loop g w l
    → Feeds P s n part p → ⊥
loop_unfed {g = g} {w = w} {l = l} at h = not_fed (Loop g w l) at (λ r. refl) (λ t y z i. cc) h

-- nor to that of a fetch
pub reply_unfed : {P : Checked} {n : ℕ} {p : Port} {s : Origin} {t i : ℕ} → node P n ≡ Fetch t i → Feeds P s n 2 p → ⊥
reply_unfed {t = t} {i = i} at h = not_fed (Fetch t i) at (λ r. refl) (λ u y z e. cc) h

head_none : (P : Checked) (n part : ℕ) (r : Region) → feeder P n r Head part Zero ≡ None
head_none P n zero r = refl
head_none P n (suc zero) r = refl
head_none P n (suc (suc k)) r = refl

pub head_unfed : {P : Checked} {n part : ℕ} {s : Origin} → node P n ≡ Head → Feeds P s n part Zero → ⊥
head_unfed {P} {n} {part} at h = not_fed Head at (λ r. head_none P n part r) (λ t y z i. cc) h

-- nor to what takes the way back of a loop
pub loop_head_unfed : {P : Checked} {n : ℕ} {s : Origin} {t : ℕ} → node P n ≡ LoopHead t → Feeds P s n 1 Zero → ⊥
loop_head_unfed {t = t} at h = not_fed (LoopHead t) at (λ r. refl) (λ u y z i. cc) h

none_there : {P : Checked} {n : ℕ} (part : ℕ) (p : Port) {s t : Origin} → FromArm P n s
    → feeder P n (region P n) (node P n) part p ≡ Some t → ⊥
none_there {P} {n} part p {s} {t} x e =
    let bad : None ≡ Some t = sym (ap (λ m. feeder P n (region P n) m part p) x.node) ∙ e in cc

-- a port is fed from one origin, save that of a conditional, which is fed from its arms
pub one_feed : {P : Checked} {s t : Origin} {n part : ℕ} {p : Port} → Feeds P s n part p → Feeds P t n part p
    → (s ≡ t) ⊎ (FromArm P n s × FromArm P n t)
one_feed {P} {s} {t} {n} {part} {p} h k =
    elim (feeder_is (fed h)) [
      | inl x ↦ elim (feeder_is (fed k)) [
        | inl y ↦ let both : Some s ≡ Some t = sym x ∙ y in inl (cc)
        | inr y ↦ absurd (none_there part p y x)
      ]
      | inr x ↦ elim (feeder_is (fed k)) [
        | inl y ↦ absurd (none_there part p x y)
        | inr y ↦ inr (x, y)
      ]
    ]

-- ---- what feeds the switches of an import

pub import_listed : (P : Checked) (t : Origin) (r : Region) (j : ℕ) (bs : List ℕ) (k : ℕ) → k < length bs
    → Among (feed t (j + k) Zero) (import_feeds P t r j bs)
    × Among (feed (name_in P r (get_or bs k 0)) (j + k) One) (import_feeds P t r j bs)
import_listed P t r j [] k h = absurd (omega (arith, h))
import_listed P t r j (b ∷ bs) zero h =
    let at : j + 0 ≡ j =
    omega arith in (inl (λ i. feed t (at i) Zero), inr (inl (λ i. feed (name_in P r b) (at i) One)))
import_listed P t r j (b ∷ bs) (suc k) h =
    let rest = import_listed P t r (j + 1) bs k (omega (arith, h)) in
    let at : (j + 1) + k ≡ j + suc k = omega arith in
    subst (λ m. Among (feed t m Zero) (import_feeds P t r j (b ∷ bs))
    × Among (feed (name_in P r (get_or bs k 0)) m One) (import_feeds P t r j (b ∷ bs))) at
    (inr (inr rest.0), inr (inr rest.1))

pub imports_fed : (P : Checked) (n t k : ℕ) → n < length (rows P) → Tests P n t → k < length (imports_of P n)
    → Feeds P (origin P t) n (suc k) Zero × Feeds P (name_in P (region P n) (get_or (imports_of P n) k 0)) n (suc k) One
imports_fed P n t k within tests less = (by tests).0
  where
    listed : Among (feed (origin P t) (1 + k) Zero) (import_feeds P (origin P t) (region P n) 1 (imports_of P n))
        × Among (feed (name_in P (region P n) (get_or (imports_of P n) k 0)) (1 + k) One)
        (import_feeds P (origin P t) (region P n) 1 (imports_of P n))
    listed = import_listed P (origin P t) (region P n) 1 (imports_of P n) k less

    at : 1 + k ≡ suc k
    at = omega arith

    by : Tests P n t
        → (Feeds P (origin P t) n (suc k) Zero
        × Feeds P (name_in P (region P n) (get_or (imports_of P n) k 0)) n (suc k) One) × Unit {0}
    by (of_arms is) = (
      (
        record {
          within = within;
          among = subst (λ (z : ℕ × Node). Among (feed (origin P t) z.0 Zero) (feeds_of P n (region P n) z.1)) {x =
              (1 + k, Split t)}
              {y = (suc k, node P n)} (λ i. (at i, sym is i)) (inr (inr listed.0));
        },
        record {
          within = within;
          among = subst
              (λ (z : ℕ × Node). Among (feed (name_in P (region P n) (get_or (imports_of P n) k 0)) z.0 One)
              (feeds_of P n (region P n) z.1))
              {x = (1 + k, Split t)} {y = (suc k, node P n)} (λ i. (at i, sym is i)) (inr (inr listed.1));
        },
      ),
      tt,
    )
    by (of_turns is) = (
      (
        record {
          within = within;
          among = subst (λ (z : ℕ × Node). Among (feed (origin P t) z.0 Zero) (feeds_of P n (region P n) z.1))
              {x = (1 + k, Switches t)} {y = (suc k, node P n)} (λ i. (at i, sym is i)) (inr (inr listed.0));
        },
        record {
          within = within;
          among = subst
              (λ (z : ℕ × Node). Among (feed (name_in P (region P n) (get_or (imports_of P n) k 0)) z.0 One)
              (feeds_of P n (region P n) z.1))
              {x = (1 + k, Switches t)} {y = (suc k, node P n)} (λ i. (at i, sym is i)) (inr (inr listed.1));
        },
      ),
      tt,
    )
