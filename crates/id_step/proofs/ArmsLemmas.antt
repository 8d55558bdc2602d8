-- Lemmas on what arms fire, record and send: it is the element step, by what came of the token where this waited
-- before.
use Rattle.std.proofs.Common.{◌≡◌, ◌<◌, ◌+◌, ◌^◌, ◌++◌, [], arith, ℕ, List, Some, false, length, map, refl, sym, ap}
use Rattle.std.proofs.Common.{subst, ◌∙◌}
use Rattle.std.proofs.lemmas.List.{length-map}
use Rattle.std.specs.Prelude.{slice_get}
use Rattle.id_instr.specs.Graph.{arcs_on}
use Rattle.id_instr.specs.declared.dests.Dest.{Dest}
use Rattle.id_instr.specs.declared.instr.Instr.{Instr}
use Rattle.id_tag.specs.Plains.{message_of, tag_in, whole}
use Rattle.id_tag.specs.declared.Message.{Message}
use Rattle.id_tag.specs.declared.plain.Plain.{Plain}
use Rattle.id_tag.specs.declared.plain.PlainToken.{PlainToken}
use Rattle.id_tag.specs.declared.Context.{Context}
use Rattle.id_tag.specs.declared.Value.TheVariants as value
use Rattle.id_instr.specs.Ports.{two_ports}
use Rattle.id_instr.specs.declared.instr.Op.{Op}
use Rattle.id_match.specs.Waiting.{Store}
use Rattle.id_ops.specs.declared.Fired.TheVariants.{Entered}
use Rattle.id_ops.specs.declared.Fresh.{Fresh}
use Rattle.id_ops.specs.Operators.{fired, side_of}
use Rattle.id_step.specs.declared.step.PlainOperands.TheVariants as operands
use Rattle.id_ops.specs.PlainFired.{fired_of}
use Rattle.id_ops.specs.declared.plain_fired.PlainFired.{PlainFired}
use Rattle.id_ops.specs.declared.plain_fired.PlainFired.TheVariants.{Nothing, Out, Side, Moved, Sent, Addressed, Asked}
use Rattle.id_ops.specs.declared.plain_fired.PlainFired.TheVariants.{Stored}
use Rattle.id_record.specs.Sends.{numbered, started, token_to}
use Rattle.id_record.proofs.SendsLemmas.{numbered-append}
use Rattle.id_record.specs.declared.step.Step.TheVariants as step
use Rattle.id_record.specs.declared.step.Verdict.TheVariants.{Went}
use Rattle.id_step.specs.Firings.{Enters, IsFiring, IsPlainFiring, operands_in}
use Rattle.id_step.specs.Handled.{IsRecorded, outputs_at, token_outcome, token_sends}
use Rattle.id_step.specs.Steps.{fired_verdict, fresh_numbers, next_numbers, next_stamp}
use Rattle.id_step.specs.Storage.{element_at, state_of}
use Rattle.id_step.specs.Stretches.{PutsTo, Spreads, TakesNear, element_with, far_after, near_after}
use Rattle.id_step.specs.declared.storage.Storage.{Storage}
use Rattle.id_step.proofs.FiringsLemmas.{IsStepBy, plain_outcome}
use Rattle.id_step.proofs.ShortLemmas.{step_full, step_plain}
use Rattle.id_step.proofs.StretchesLemmas.{numbered_beside, spreads_both, spreads_plain}
use Rattle.id_step.proofs.TakesLemmas.{treats}

-- what the event of a plain token that fires this at its instruction sends
abbrev pub sends_by : Storage → Instr → PlainToken → ℕ → PlainFired → List Message
sends_by d i t stamp p = outputs_at d stamp (token_sends i (tag_in t) (fired_of (tag_in t) p))

-- what was fired, recorded and sent so is the element step
pub took_fired : (d d' : Storage) (i : Instr) (t : PlainToken) (stamp : ℕ) (p : PlainFired)
    (near near' list list' : List Message) (w : Store) → slice_get d.log.graph.instrs t.instr ≡ Some i
    → stamp ≡ next_stamp (state_of d) (message_of t) → stamp < 2 ^ 32
    → IsRecorded d d' (message_of t) stamp (token_outcome d i (tag_in t) (fired_of (tag_in t) p) step.Went)
    → near' ≡ near_after p near (sends_by d i t stamp p) → list' ≡ far_after p list (sends_by d i t stamp p)
    → IsPlainFiring i.op w d.waiting t p
    → TakesNear (element_with d w) (element_at d') (message_of t) near near' list list' step.Went
took_fired d d' i t stamp p near near' list list' w own next small done near_is far_is comes = record {
  sent = sends_by d i t stamp p;
  takes = treats w d d' t i (fired_of (tag_in t) p) Went stamp [] (sends_by d i t stamp p)
      (step_plain d.log.graph d.log.element (record (state_of d) { waiting = w }) t i d.waiting p own comes) next small
      done refl;
  spreads =
      spreads_plain p t (Some i.op) (λ q. arcs_on (side_of (fired_of (tag_in t) q)) i) d.log.element _ stamp near near'
      list list' (sends_by d i t stamp p)
      refl near_is far_is;
}

-- what goes under the tag comes near, one token for each destination
pub puts_near : (p : PlainFired) (i : Instr) (t : PlainToken) (ds : List Dest) (u : Plain) (n position stamp : ℕ)
    (near : List Message) → PutsTo p i ds u
    → near ++ numbered n position stamp 0 (map (token_to (tag_in t) (whole u)) ds)
    ≡ near_after p near (numbered n position stamp 0 (token_sends i (tag_in t) (fired_of (tag_in t) p)))
puts_near (Out v) i t ds u n position stamp near (at, is) = rw (at, is) refl
puts_near (Side b v) i t ds u n position stamp near (at, is) = rw (at, is) refl
puts_near (Addressed c) i t ds u n position stamp near (at, is) = rw (at, is) refl
puts_near Nothing i t ds u n position stamp near is = absurd is
puts_near (Moved j v) i t ds u n position stamp near is = absurd is
puts_near (Sent r v) i t ds u n position stamp near is = absurd is
puts_near (Asked c r) i t ds u n position stamp near is = absurd is
puts_near (Stored c v) i t ds u n position stamp near is = absurd is

-- and nothing of it to the list
pub puts_none : (p : PlainFired) (i : Instr) (ds : List Dest) (u : Plain) (list xs : List Message) → PutsTo p i ds u
    → list ≡ far_after p list xs
puts_none (Out v) i ds u list xs is = refl
puts_none (Side b v) i ds u list xs is = refl
puts_none (Addressed c) i ds u list xs is = refl
puts_none Nothing i ds u list xs is = absurd is
puts_none (Moved j v) i ds u list xs is = absurd is
puts_none (Sent r v) i ds u list xs is = absurd is
puts_none (Asked c r) i ds u list xs is = absurd is
puts_none (Stored c v) i ds u list xs is = absurd is

-- ---- a block that is entered

one_fires : (op : Op) (w : Store) (t : PlainToken) → two_ports op ≡ false → IsFiring op w w t (operands.One t.value)
one_fires op w t one = record { fires = rw one refl; waits = rw one refl }

enters_fires : (op : Op) (t : PlainToken) (block reply : ℕ) (n : Fresh) → Enters op t block reply
    → fired op (tag_in t) (operands_in (operands.One t.value)) n ≡ Entered n.context
enters_fires op t block reply n is = rw (is.enters, is.signal) refl

-- what starts the block comes to the end of the list, and its context to what is near
pub took_entered : (d d' : Storage) (i : Instr) (t : PlainToken) (stamp block reply : ℕ) (x : Context)
    (near near' list list' : List Message) → slice_get d.log.graph.instrs t.instr ≡ Some i
    → stamp ≡ next_stamp (state_of d) (message_of t) → stamp < 2 ^ 32
    → two_ports i.op ≡ false → Enters i.op t block reply
    → (fresh_numbers d.log.element d.contexts d.structures).context ≡ x
    → IsRecorded d d' (message_of t) stamp (token_outcome d i (tag_in t) (Entered x) step.Went)
    → near' ≡ near ++ outputs_at d stamp (map (token_to (tag_in t) (value.Context x)) i.dests)
    → list' ≡ list
    ++ numbered d.log.element (length d.log.events) stamp (length i.dests) (started (Some i.op) (tag_in t) x)
    → TakesNear (element_at d) (element_at d') (message_of t) near near' list list' step.Went
took_entered d d' i t stamp block reply x near near' list list' own next small one enters new done near_is list_is =
    let ds = map (token_to (tag_in t) (value.Context x)) i.dests in
    let ss = started (Some i.op) (tag_in t) x in
    let first = outputs_at d stamp ds in
    let second = numbered d.log.element (length d.log.events) stamp (length i.dests) ss in
    let many : 0 + length ds ≡ length i.dests =
    omega (arith, length-map i.dests (token_to (tag_in t) (value.Context x))) in
    let apart : outputs_at d stamp (ds ++ ss) ≡ first ++ second =
    numbered-append d.log.element (length d.log.events) stamp 0 ds ss
    ∙ ap (λ k. first ++ numbered d.log.element (length d.log.events) stamp k ss) many in
    let fires = enters_fires i.op t block reply (next_numbers d.log.element (state_of d)) enters ∙ ap Entered new in
    record {
      sent = outputs_at d stamp (ds ++ ss);
      takes = treats d.waiting d d' t i (Entered x) Went stamp [] (outputs_at d stamp (ds ++ ss))
          (subst (λ f. IsStepBy d.log.graph d.log.element (state_of d) (message_of t)
          (plain_outcome i t d.waiting d.cells f (fired_verdict f))) fires
          (step_full d.log.graph d.log.element (state_of d) t i d.waiting (operands.One t.value) own
          (one_fires i.op d.waiting t one))) next small done refl;
      spreads = subst (λ xs. Spreads (message_of t) near near' list list' xs) (sym apart)
          (spreads_both (message_of t) (tag_in t) near near' list list' first second (λ count. refl) near_is list_is
          (numbered_beside d.log.element (length d.log.events) stamp 0 (tag_in t) (value.Context x) i.dests));
    }
