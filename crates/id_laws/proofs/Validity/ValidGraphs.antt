-- Every graph that the schemas give a program is valid.
use Rattle.std.proofs.Common.{◌≡◌, ℕ, ◌+◌, ◌<◌, ◌==◌, true, Some, List, [], length, slice_get, refl}
use Rattle.std.proofs.Common.{sym, ◌∙◌, ap, subst, arith}
use Rattle.std.specs.Option.{option_and_then}
use Rattle.id_value.specs.declared.Kind.{Kind}
use Rattle.id_value.specs.declared.Kind.TheVariants as kinds
use Rattle.id_value.specs.List.{Among}
use Rattle.id_value.proofs.AmongLemmas.{Among-map, Among-from_at}
use Rattle.id_table.specs.declared.row.Row.{Row}
use Rattle.id_table.specs.declared.row.Node.TheVariants.{Enter as EnterNode, Arg, Start}
use Rattle.id_table.specs.Rows.{at}
use Rattle.id_table.specs.Tables.{begins_block}
use Rattle.id_table.specs.Turns.{params_at}
use Rattle.id_check.specs.declared.checked.Checked.{Checked}
use Rattle.id_check.specs.Programs.{rows}
use Rattle.id_instr.specs.declared.dests.Dest.{Dest}
use Rattle.id_instr.specs.declared.instr.Op.{Op}
use Rattle.id_instr.specs.declared.instr.Op.TheVariants.{Merge, Back}
use Rattle.id_instr.specs.declared.instr.Instr.{Instr}
use Rattle.id_instr.specs.declared.instr.Block.{Block}
use Rattle.id_instr.specs.Held.{held_kind}
use Rattle.id_instr.specs.Ports.{port_kind, sends}
use Rattle.id_instr.specs.Graph.{Parts, arcs, kind_at}
use Rattle.id_source.specs.Sources.{source}
use Rattle.id_desugar.specs.Ends.{end_of}
use Rattle.id_build.specs.Rows.{node, answer_row, port_at, port_of, result_of, called, op_by, param_of, Entry, entries}
use Rattle.id_build.specs.Rows.{loop_entries, param_entry, entries_by}
use Rattle.id_build.specs.Schemas.{Numbered, Schemas, block_of}
use Rattle.id_valid.specs.Roles.{op_at, back_kind}
use Rattle.id_valid.specs.Validator.{is_value, IsAnswer, IsTaken, IsEntered, IsSentTo, AreNamed, IsSound, IsValid}
use Rattle.id_laws.specs.Activations.{main_head, Begins, of_call, of_loop}
use Rattle.id_laws.specs.Topics.{of_fetch}
use Rattle.id_laws.proofs.Rows.Arcs.{Does, starts, returns, enters, constant, unary, binary, turns_on, hands, joins}
use Rattle.id_laws.proofs.Rows.Arcs.{names}
use Rattle.id_laws.proofs.Rows.Arcs.{answers, makes, sends_in, gives_back, varies, takes_in, moves_on, moves_name}
use Rattle.id_laws.proofs.Rows.Arcs.{advances}
use Rattle.id_laws.proofs.Rows.Arcs.{resets, gets_last, allocates, addresses, fetches, bounds_meet, begins_index}
use Rattle.id_laws.proofs.Rows.Arcs.{carries}
use Rattle.id_laws.proofs.Rows.Arcs.{meets_bound, goes_further, hands_index, has_one, adds_one, gets_reply, stores}
use Rattle.id_laws.proofs.Rows.Arcs.{opens}
use Rattle.id_laws.proofs.Rows.Arcs.{passes, gets}
use Rattle.id_laws.proofs.Rows.Blocks.{a_param, all_listed}
use Rattle.id_laws.proofs.Rows.LoopRows.{loop_merge}
use Rattle.id_build.proofs.EndsLemmas.{end_is}
use Rattle.id_build.proofs.LoopsLemmas.{the_loop, start_head}
use Rattle.id_laws.proofs.Rows.Assumed.{IsKnown}
use Rattle.id_laws.proofs.Rows.Start.{main_block, main_is_head, main_within, the_block}
use Rattle.id_laws.proofs.Validity.ValidCounts.{any_among, all_among}
use Rattle.id_laws.proofs.Validity.ValidKinds.{typed}
use Rattle.id_laws.proofs.Validity.ValidPorts.{cell_at, port_is}
use Rattle.id_laws.proofs.Validity.ValidTests.{same_number}
use Rattle.id_build.specs.declared.arc.Form.{Form}
use Rattle.id_laws.proofs.Rows.Calls.{arg_at, call_at, called_head}
use Rattle.id_laws.proofs.Validity.ValidFeeds.{counts_side, fed as port_fed}
use Rattle.id_laws.proofs.Validity.ValidRoles.{op_made, block_among, entry_there, fills, does_at, stands}

pub is_value_port : (k : Kind) → is_value (port_of k) ≡ true
is_value_port kinds.Int = refl
is_value_port kinds.Bool = refl
is_value_port kinds.Array = refl
is_value_port kinds.Nested = refl

module _ (P : Checked) (known : IsKnown P) (g : Parts) (number : ℕ → ℕ → ℕ) (numbered : Numbered P g number) where
  abbrev R : List Row
  R = rows P

  -- ---- what is sent is taken

  taken : (n : ℕ) (i : Instr) (to : Dest) → slice_get g.instrs n ≡ Some i → Among to (arcs i) → IsTaken g.instrs i.op to
  taken n i to at h =
      let side = counts_side i to h in
      let a = numbered.no_more n side.0 to (record { instr = i; at = at; lists = side.1 }) in
      let t = typed P known a.origin a.row a.part to.port a.feeds in
      let s = t.source in
      let q = t.target in
      let out : sends i.op ≡ Some t.kind =
      ap sends (does_at P known g number numbered n i s.within s.does a.from at) ∙ s.out number in
      let m = numbered.made a.row a.part _ _ (makes q.within q.does) in
      let there : slice_get g.instrs to.instr ≡ Some m.instr = ap (slice_get g.instrs) (sym a.goes) ∙ m.at in
      let into : kind_at g.instrs to ≡ Some t.kind =
      ap (option_and_then (λ (x : Instr). port_kind x.op to.port)) there ∙ ap (λ (o : Op). port_kind o to.port) m.op
      ∙ q.into number in
      rw out into

  -- ---- what operators name

  -- an `enter` names the first instruction of a block, whose `back` is of the kind of the call's merge
  enter_named : (n x : ℕ) → n < length R → node P n ≡ EnterNode x
      → IsEntered g (number (called P n) 0) (number (end_of P n) 0)
  enter_named n x within is =
      let k = known in
      let c = call_at k within is in
      let h = called P n in
      let head = called_head k within is in
      let end : end_of P h ≡ c.callee =
      (k.table).one_def (end_of P h) c.callee h (end_is P (k.table) h head.0 head.1) c.def in
      let result_is : port_of (result_of (node P (end_of P h))) ≡ port_at P (end_of P n) =
      ap (λ z. port_of (result_of (node P z))) end ∙ ap (λ z. port_of (result_of z)) (c.def).node
      ∙ sym (port_is P (end_of P n) (c.def).result
      (k.call_kind (end_of P n) n c.count x c.callee c.def c.within c.node)) in
      record {
        kind = port_at P (end_of P n);
        first = any_among (λ (b : Block). b.first == number h 0) (block_of P number h) g.blocks
            (block_among P known g number numbered h head.0 (ap begins_block head.1))
            (same_number (number h 0) (number h 0) refl);
        back = ap (op_at g) (sym (numbered.second_behind h (all_listed P h head.0 (ap begins_block head.1))))
            ∙ op_made P known g number numbered head.0 (returns head.1) ∙ ap (λ z. Some (Back z)) result_is;
        reply = op_made P known g number numbered c.within (gets c.node);
      }

  -- a `send` names the entry of a parameter
  send_named : (n e k v : ℕ) → n < length R → node P n ≡ Arg e k v
      → IsSentTo g (port_at P (param_of P e k)) (number (param_of P e k) 0)
  send_named n e k v within is =
      let b = param_of P e k in
      let z = arg_at known within is in
      let h = called P e in
      let head = called_head known z.enter_within z.enter in
      let to = known.passed n e k v within is in
      let among = Among-from_at b (params_at R h) k to.0 in
      let x = a_param R h (length R) b among in
      let listed : Among (param_entry b) (entries P h) =
      subst (λ m. Among (param_entry b) (entries_by P h m)) (sym head.1)
      (Among-map param_entry b (params_at R h) among) in
      record {
        entry = entry_there P known g number numbered h (param_entry b) head.0 (ap begins_block head.1) listed;
        merge = op_made P known g number numbered x.within (enters (x.param).is);
      }

  -- a `Start` names the first instruction of its loop, and each of its `send`s an entry of that
  start_named : (n : ℕ) → n < length R → node P n ≡ Start → IsEntered g (number (n + 1) 0) (number (end_of P (n + 1)) 0)
  start_named n within is =
      let h = n + 1 in
      let head = start_head P n within is in
      let c = the_loop P h n head.0 head.1 in
      record {
        kind = port_at P (end_of P h);
        first = any_among (λ (b : Block). b.first == number h 0) (block_of P number h) g.blocks
            (block_among P known g number numbered h head.0 (ap begins_block head.1))
            (same_number (number h 0) (number h 0) refl);
        back = ap (op_at g) (sym (numbered.second_behind h (all_listed P h head.0 (ap begins_block head.1))))
            ∙ op_made P known g number numbered head.0 (gives_back head.1);
        reply = op_made P known g number numbered c.within (gets_last c.node);
      }

  begin_named : (n h q : ℕ) → n < length R → Begins P n h q → IsEntered g (number h 0) (number q 0)
  begin_named n h q within (of_call {x = x} is) = enter_named n x within is
  begin_named n h q within (of_loop is) = start_named n within is

  entry_named : (n k : ℕ) (q : Entry) → n < length R → node P n ≡ Start → slice_get (loop_entries P (n + 1)) k ≡ Some q
      → IsSentTo g (port_at P q.binder) (number q.row q.part)
  entry_named n k q within is at =
      let head = start_head P n within is in
      let among = Among-from_at q (loop_entries P (n + 1)) k at in
      let z = loop_merge P (n + 1) n q head.0 head.1 among in
      record {
        entry = entry_there P known g number numbered (n + 1) q head.0 (ap begins_block head.1)
            (subst (λ m. Among q (entries_by P (n + 1) m)) (sym head.1) among);
        merge = op_made P known g number numbered z.within z.does;
      }

  named : {n part : ℕ} {o : Form} → n < length R → Does P n part o → AreNamed g (op_by number o)
  named within (starts is) = tt
  named within (returns is) = tt
  named within (enters is) = tt
  named within (constant is) = tt
  named within (unary is) = tt
  named within (binary is) = tt
  named within (turns_on is) = tt
  named within (hands k is less) = tt
  named within (joins is) = tt
  named {n} within (opens {h = h} {q = q} is) = begin_named n h q within is
  named {n} within (passes {e = e} {k = k} {v = v} is) = send_named n e k v within is
  named within (gets is) = tt
  named within (names is) = tt
  named within (answers is) = tt
  named {n} within (sends_in k q is at) = entry_named n k q within is at
  named within (gives_back is) = tt
  named within (varies is) = tt
  named within (takes_in k is less) = tt
  named within (moves_on is) = tt
  named within (moves_name k is less) = tt
  named within (advances is) = tt
  named within (resets is) = tt
  named within (gets_last is) = tt
  named within (allocates is) = tt
  named within (addresses is) = tt
  named {n} within (fetches {t = t} {i = i} is) =
      let c = cell_at P known n t i within (of_fetch is) in
      op_made P known g number numbered within (gets_reply is)
      ∙ ap (λ k. Some (Merge k)) (c.held ∙ ap held_kind (sym c.holds))
  named within (gets_reply is) = tt
  named within (stores is) = tt
  named within (bounds_meet is) = tt
  named within (begins_index is) = tt
  named within (carries is) = tt
  named within (meets_bound is) = tt
  named within (goes_further is) = tt
  named within (hands_index is) = tt
  named within (has_one is) = tt
  named within (adds_one is) = tt

  -- ---- the answer

  answer : IsAnswer g
  answer =
      let k = known in
      let main = main_head P in
      let S = source P [] in
      let within = main_within S g number numbered k in
      let is = main_is_head S g number numbered k in
      let end : end_of P main ≡ P.main =
      (k.table).one_def (end_of P main) P.main main (end_is P (k.table) main within is) k.main in
      let result = port_of (result_of (node P P.main)) in
      let last : answer_row P < length R = (let some = (k.table).some in omega (arith, some)) in
      let back : op_at g (number main 0 + 1) ≡ Some (Back result) =
      ap (op_at g) (sym (numbered.second_behind main (all_listed P main within (ap begins_block is))))
      ∙ op_made P known g number numbered within (returns is)
      ∙ ap (λ e. Some (Back (port_of (result_of (node P e))))) end in
      record {
        kind = result;
        block = the_block S g number numbered k;
        merge = ap (op_at g) (sym numbered.answer_first)
            ∙ op_made P known g number numbered last (answers (k.table).ends);
        value = is_value_port (result_of (node P P.main));
        main = main_block S g number numbered k;
        result = ap (option_and_then back_kind) back;
      }

  sound : (n : ℕ) → IsSound g n
  sound n = record {
    answer = λ e. answer;
    roles = fills P known g number numbered n;
    taken = λ i at. all_among (IsTaken g.instrs i.op) (arcs i) (λ to h. taken n i to at h);
    named = λ o at. (let x = stands P known g number numbered n o (slice_get g.instrs n) refl at in
        subst (AreNamed g) x.op_is (named x.within x.does));
    fed = λ o at p h. port_fed P known g number numbered n o p at h;
  }

-- every graph that the schemas give a program is valid
pub validity : (P : Checked) → IsKnown P → (g : Parts) → Schemas P g → IsValid g
validity P known g schemas = record { sound = sound P known g schemas.number schemas.numbered }
