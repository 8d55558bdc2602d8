-- In a quiet run what a loop hands on comes to its next iteration, and what its `Start` takes in to its first.
use Rattle.std.proofs.Common.{◌≡◌, inl, ℕ, suc, ◌+◌, ◌<◌, true, cond, Some, List, length, get_or, slice_get, refl, sym}
use Rattle.std.proofs.Common.{◌∙◌, ap, subst, arith}
use Rattle.id_value.specs.List.{Among}
use Rattle.id_table.specs.declared.row.Node.TheVariants.{Start}
use Rattle.id_table.specs.Rows.{arm_at, top}
use Rattle.id_table.specs.Tables.{begins_block}
use Rattle.id_check.specs.declared.checked.Checked.{Checked}
use Rattle.id_check.specs.Programs.{region, rows}
use Rattle.id_instr.specs.declared.dests.Dest.{Dest}
use Rattle.id_instr.specs.declared.dests.Port.{Port}
use Rattle.id_instr.specs.declared.dests.Port.TheVariants.{Zero, One}
use Rattle.id_instr.specs.declared.instr.Op.TheVariants as op
use Rattle.id_instr.specs.declared.instr.PortKind.{PortKind}
use Rattle.id_instr.specs.declared.instr.PortKind.TheVariants as kinds
use Rattle.id_instr.specs.Graph.{Parts, arcs_on}
use Rattle.id_tag.specs.declared.Context.{Context}
use Rattle.id_tag.specs.declared.Value.{Value}
use Rattle.id_tag.specs.declared.Value.TheVariants as value
use Rattle.id_tag.specs.declared.Payload.TheVariants.{Token}
use Rattle.id_tag.specs.Kinds.{kind_of, same_kind}
use Rattle.id_ops.specs.declared.Operands.TheVariants.{One as Alone}
use Rattle.id_ops.specs.declared.Fired.TheVariants.{Out, Nothing, Entered, Moved, Sent}
use Rattle.id_ops.specs.Operators.{fired}
use Rattle.id_core.specs.Machines.{World}
use Rattle.id_source.specs.Sources.{Source}
use Rattle.id_desugar.specs.Regions.{imports_of}
use Rattle.id_build.specs.declared.arc.Origin.{Origin}
use Rattle.id_build.specs.declared.arc.Form.TheVariants.{SendTo}
use Rattle.id_build.specs.Rows.{Entry, entering, entries_row, loop_entries, name_in, node, output, port_at, trigger_of}
use Rattle.id_build.specs.Rows.{turn_row}
use Rattle.id_build.specs.Schemas.{Feeds, Numbered}
use Rattle.id_runs.specs.Activations.{Activation, at_iteration, tag_in}
use Rattle.id_runs.specs.Events.{Event, FiresAs}
use Rattle.id_runs.specs.Runs.{Reach, handled}
use Rattle.id_runs.specs.OneMessage.{Exclusive}
use Rattle.id_runs.proofs.Givings.{moved_sent}
use Rattle.id_laws.specs.Activations.{Opens, Speaks, Moves}
use Rattle.id_laws.proofs.Rows.Arcs.{carries_on, sends_in, starts}
use Rattle.id_laws.proofs.Rows.Assumed.{IsKnown}
use Rattle.id_laws.proofs.Completeness.Firings.{IsSettled, PartFired, alone_fired, both_formed, came, sent_handled}
use Rattle.id_laws.proofs.Completeness.Firings.{spoken}
use Rattle.id_laws.proofs.Rows.Loops.{LoopOf, turn_within}
use Rattle.id_laws.proofs.Rows.LoopFacts.{entering_fed, entry_does, entry_fed, entry_within, head_fed, turn_does}
use Rattle.id_laws.proofs.Rows.LoopFacts.{turn_fed, turn_name_does, turn_name_fed}
use Rattle.id_laws.proofs.Paths.Sent.{dests_are}

module _ (S : Source) (g : Parts) (number : ℕ → ℕ
    → ℕ) (numbered : Numbered S.checked g number) (known : IsKnown S.checked) (count : ℕ)
    (only : Exclusive g S.inputs count)
    (s : World) (run : List Event) (r : Reach g S.inputs count s run) (quiet : IsSettled S s) where
  abbrev P : Checked
  P = S.checked

  -- what moves to an iteration came to all that it feeds there
  pub moved_came : (a : Activation) (t : Origin) (k n part : ℕ) (p : Port) (v : Value) → Moves S number run a t k v
      → Feeds P t n part p → Among (Token (tag_in (at_iteration a.context k) (number n part)) p v) (handled run)
  moved_came a t k n part p v x feeds =
      let d : Dest = record { instr = number n part; port = p } in
      let to = numbered.sends t n part p feeds in
      let u = tag_in a (number t.row t.part) in
      let there = subst (λ b. Among d (arcs_on b to.instr)) x.on to.lists in
      let here = subst (λ ds. Among d ds) (sym (dests_are true _ to.instr to.at)) there in
      sent_handled S g number numbered known count only s run r quiet x.fires
      (Token (tag_in (at_iteration a.context k) (number n part)) p v)
      (moved_sent g u k v d here)

  -- a `next` moves a value of its kind to the next iteration, a `reset` to the first
  pub next_moves : (a : Activation) (n part : ℕ) (k : PortKind) (v : Value)
      → PartFired S g number numbered known count only s run r quiet a n part (op.Next k) (Alone v)
      → same_kind (kind_of v) k ≡ true
      → Moves S number run a (record { row = n; part = part; side = true }) (suc a.iteration) v
  next_moves a n part k v x fits =
      let t = tag_in a (number n part) in
      let up : a.iteration + 1 ≡ suc a.iteration = omega arith in
      let is : fired (op.Next k) t (Alone v) x.fresh ≡ Moved (suc a.iteration) v =
      ap (λ b. cond b (Moved (a.iteration + 1) v) Nothing) fits ∙ ap
      (λ j. Moved j v) up in
      record { on = refl; fires = subst (λ z. FiresAs run t z) is x.fires }

  pub reset_moves : (a : Activation) (n part : ℕ) (k : PortKind) (v : Value)
      → PartFired S g number numbered known count only s run r quiet a n part (op.Reset k) (Alone v)
      → same_kind (kind_of v) k ≡ true → Moves S number run a (record { row = n; part = part; side = true }) 0 v
  reset_moves a n part k v x fits =
      let t = tag_in a (number n part) in
      let is : fired (op.Reset k) t (Alone v) x.fresh ≡ Moved 0 v = ap (λ b. cond b (Moved 0 v) Nothing) fits in
      record { on = refl; fires = subst (λ z. FiresAs run t z) is x.fires }

  -- a merge lets a value of its kind out
  pub merge_out : (k : PortKind) (v : Value) → same_kind (kind_of v) k ≡ true
      → cond (same_kind (kind_of v) k) (Out v) Nothing ≡ Out v
  merge_out k v fits = ap (λ b. cond b (Out v) Nothing) fits

  module _ {h : ℕ} (x : LoopOf P h) (c : Context) (k : ℕ) where
    abbrev this : Activation
    this = at_iteration c k

    abbrev next : Activation
    next = at_iteration c (suc k)

    abbrev w : ℕ
    w = (x.the).switches

    -- where the body is on in an iteration, the loop is in the next one
    pub turned_again : Speaks S number run this (trigger_of (arm_at w true)) value.Signal
        → Speaks S number run next (trigger_of (top h)) value.Signal
    turned_again on =
        let n = turn_row P h in
        let signal =
        came S g number numbered known count only s run r quiet this (trigger_of (arm_at w true)) n 0 Zero value.Signal
        on (turn_fed known x) in
        let turns =
        alone_fired S g number numbered known count only s run r quiet this n 0 (op.Next kinds.Signal) Zero value.Signal
        (turn_within P known h x)
        (turn_does known x) refl signal in
        let moves = next_moves this n 0 kinds.Signal value.Signal turns refl in
        let again = moved_came this (output n) (suc k) h 0 Zero value.Signal moves (head_fed known x) in
        let head =
        alone_fired S g number numbered known count only s run r quiet next h 0 (op.Merge kinds.Signal) Zero
        value.Signal x.within
        (starts (ap begins_block x.head)) refl again in
        spoken S g number numbered known count only s run r quiet next h 0 (op.Merge kinds.Signal) (Alone value.Signal)
        value.Signal head (λ f. refl)

    -- and what it imports comes there
    pub name_again : (j : ℕ) (v : Value) → j < length (imports_of P h)
        → same_kind (kind_of v) (port_at P (get_or (imports_of P h) j 0)) ≡ true
        → Speaks S number run this (name_in P (arm_at w true) (get_or (imports_of P h) j 0)) v
        → Speaks S number run next (record { row = entries_row P h; part = j; side = true }) v
    name_again j v less fits says =
        let b = get_or (imports_of P h) j 0 in
        let n = turn_row P h in
        let e = entries_row P h in
        let part = suc (carries_on P h + j) in
        let name =
        came S g number numbered known count only s run r quiet this (name_in P (arm_at w true) b) n part Zero v says
        (turn_name_fed known x j less) in
        let turns =
        alone_fired S g number numbered known count only s run r quiet this n part (op.Next (port_at P b)) Zero v
        (turn_within P known h x)
        (turn_name_does known x j less) refl name in
        let moves = next_moves this n part (port_at P b) v turns fits in
        let again =
        moved_came this (record { row = n; part = part; side = true }) (suc k) e j Zero v moves
        (entry_fed known x j less) in
        let entry =
        alone_fired S g number numbered known count only s run r quiet next e j (op.Merge (port_at P b)) Zero v
        (entry_within known x)
        (entry_does known x j less) refl again in
        spoken S g number numbered known count only s run r quiet next e j (op.Merge (port_at P b)) (Alone v) v entry
        (λ f. merge_out (port_at P b) v fits)

  -- what a `Start` sends came to its entry, where it is of its kind
  pub sent_in : (a : Activation) (n k : ℕ) (c : Context) (q : Entry) (t : Origin) (v : Value) → n < length (rows P)
      → node P n ≡ Start → Opens S number run a n c → slice_get (loop_entries P (n + 1)) k ≡ Some q
      → same_kind (kind_of v) (port_at P q.binder) ≡ true → Feeds P (output n) n (suc k) Zero → Feeds P t n (suc k) One
      → Speaks S number run a t v → Among (Token (tag_in (at_iteration c 0) (number q.row q.part)) Zero v) (handled run)
  sent_in a n k c q t v within is opened at fits to_context to_value says =
      let speaks : Speaks S number run a (output n) (value.Context c) =
      record { fired = Entered c; fires = opened; gives = (refl, refl) } in
      let context_in =
      came S g number numbered known count only s run r quiet a (output n) n (suc k) Zero (value.Context c) speaks
      to_context in
      let value_in = came S g number numbered known count only s run r quiet a t n (suc k) One v says to_value in
      let fired_so =
      both_formed S g number numbered known count only s run r quiet a n (suc k)
      (SendTo (port_at P q.binder) q.row q.part)
      (value.Context c) v within (sends_in k q is at) refl context_in value_in in
      let into = tag_in (at_iteration c 0) (number q.row q.part) in
      let sent : cond (same_kind (kind_of v) (port_at P q.binder)) (Sent into v) Nothing ≡ Sent into v =
      ap (λ z. cond z (Sent into v) Nothing) fits in
      sent_handled S g number numbered known count only s run r quiet
      (subst (λ z. FiresAs run (tag_in a (number n (suc k))) z) sent fired_so.fires)
      (Token into Zero v) (inl refl)

  -- so did the names that it takes in
  pub entered_in : (a : Activation) (n k : ℕ) (c : Context) (q : Entry) (v : Value) → n < length (rows P)
      → node P n ≡ Start → Opens S number run a n c → k < length (entering P (n + 1))
      → slice_get (loop_entries P (n + 1)) (carries_on P (n + 1) + k) ≡ Some q
      → same_kind (kind_of v) (port_at P q.binder) ≡ true
      → Speaks S number run a (name_in P (region P n) (get_or (entering P (n + 1)) k 0)) v
      → Among (Token (tag_in (at_iteration c 0) (number q.row q.part)) Zero v) (handled run)
  entered_in a n k c q v within is opened less at fits says =
      let feeds = entering_fed known within is less in
      sent_in a n (carries_on P (n + 1) + k) c q (name_in P (region P n) (get_or (entering P (n + 1)) k 0)) v within is
      opened at fits feeds.0 feeds.1 says
