-- Lemmas on specs/Takes.antt: what is recorded and sent at a storage is the element step, also where what waits and the
-- cells have changed before; and whether it went well.
use Rattle.std.proofs.Common.{◌≡◌, ◌<◌, ◌^◌, ◌-◌, ◌++◌, ◌||◌, ℕ, Bool, List, Some, true, false, Ok, Err, length, refl}
use Rattle.std.proofs.Common.{sym, ap, subst, ◌∙◌}
use Rattle.std.proofs.Common.{◌==◌, arith}
use Rattle.std.specs.Prelude.{IsTrue}
use Rattle.std.proofs.lemmas.Bool.{eqb-true}
use Rattle.std.proofs.Math.Nat.{le-max_left, le-max_right}
use Rattle.id_tag.specs.declared.Message.{Message}
use Rattle.id_match.specs.Waiting.{Store}
use Rattle.id_bank.specs.Cells.{Cells}
use Rattle.id_value.specs.declared.FaultKind.{FaultKind}
use Rattle.id_record.specs.declared.step.Fault.TheVariants.{Operator}
use Rattle.id_record.specs.declared.step.Step.{Step}
use Rattle.id_record.specs.declared.step.Step.TheVariants as step
use Rattle.id_instr.specs.declared.instr.Instr.{Instr}
use Rattle.id_tag.specs.declared.plain.PlainToken.{PlainToken}
use Rattle.id_tag.specs.Plains.{message_of, tag_in}
use Rattle.id_ops.specs.declared.Fired.{Fired}
use Rattle.id_record.specs.declared.step.Verdict.{Verdict}
use Rattle.id_record.specs.Events.{full_step, tag_of}
use Rattle.id_record.specs.Sends.{numbered}
use Rattle.id_step.specs.declared.step.Short.{Short}
use Rattle.id_step.specs.declared.step.Short.TheVariants as short
use Rattle.id_step.specs.declared.step.TakeError.{TakeError}
use Rattle.id_step.specs.declared.storage.Storage.{Storage}
use Rattle.id_step.specs.Storage.{TreatsFrom, element_at, state_of}
use Rattle.id_step.specs.Handled.{IsRecorded, IsSent, recorded, token_outcome, token_sends}
use Rattle.id_step.specs.Replays.{ElementView}
use Rattle.id_step.specs.Shorts.{HandlesShortAt}
use Rattle.id_step.specs.Steps.{Outcome, State, is_ended, next_stamp}
use Rattle.id_step.specs.Takes.{GoesAt, HandlesAt, Takes}
use Rattle.id_step.proofs.FiringsLemmas.{IsStepBy, plain_outcome}

-- the element e, where this waits and the cells have this
abbrev pub changed : ElementView → Store → Cells → ElementView
changed e w b = record e { state = record e.state { waiting = w; cells = b } }

-- a message that was recorded with its outcome at this stamp, which is the next, and sent for was taken
pub takes_recorded : (e : ElementView) (w : Store) (b : Cells) (d new : Storage) (m : Message) (n : ℕ) (o p : Outcome)
    (s : Step) (rest before list : List Message) → IsStepBy e.graph e.number e.state m p → element_at d ≡ changed e w b
    → n ≡ next_stamp e.state m → n < 2 ^ 64 → o ≡ p → s ≡ p.step → before ≡ rest
    → IsRecorded d new m n o → IsSent d before list n o.sends → Takes e (element_at new) m rest list s
takes_recorded e w b d new m n o p s rest before list by at is below comes step same done sends = record {
  stamp = subst (λ k. k < 2 ^ 64) is below;
  step = step ∙ sym by.step;
  element =
      done.element
      ∙ ap (λ v. recorded v m n o) at
      ∙ ap (λ k. recorded (changed e w b) m k o) is
      ∙ ap (recorded (changed e w b) m (next_stamp e.state m)) comes
      ∙ ap (λ x. record e { state = x }) (sym by.state);
  outputs =
      sends
      ∙ ap (λ xs. xs ++ numbered d.log.element (length d.log.events) n 0 o.sends) same
      ∙ ap (λ (v : ElementView). rest ++ numbered v.number (length v.state.events) n 0 o.sends) at
      ∙ ap (λ k. rest ++ numbered e.number (length e.state.events) k 0 o.sends) is
      ∙ ap (λ (x : Outcome). rest ++ numbered e.number (length e.state.events) (next_stamp e.state m) 0 x.sends) comes
      ∙ ap (λ xs. rest ++ xs) (sym by.outputs);
}

-- a storage treats a plain token where the element step makes of it what it has recorded and sent
pub treats : (w : Store) (d new : Storage) (t : PlainToken) (i : Instr) (f : Fired) (v : Verdict) (n : ℕ)
    (list after : List Message)
    → IsStepBy d.log.graph d.log.element (record (state_of d) { waiting = w }) (message_of t)
    (plain_outcome i t d.waiting d.cells f v) → n ≡ next_stamp (state_of d) (message_of t) → n < 2 ^ 32
    → IsRecorded d new (message_of t) n (token_outcome d i (tag_in t) f (full_step (message_of t).payload v))
    → IsSent d list after n (token_sends i (tag_in t) f)
    → TreatsFrom w d new (message_of t) list after (Some (full_step (message_of t).payload v))
treats w d new t i f v n list after by is small done sends =
    takes_recorded (record (element_at d) { state = record (state_of d) { waiting = w } }) d.waiting d.cells d new _ n _
    _ _ _ list after
    by refl is (omega (arith, small)) refl refl refl done sends

-- ---- messages that leave their list

-- no stamp is left where the next would not be small
not_ended : (s : State) (m : Message) → next_stamp s m < 2 ^ 64 → IsTrue (is_ended s m) → ⊥
not_ended s m small end = go (s.stamp == 2 ^ 64 - 1) (m.stamp == 2 ^ 64 - 1) refl refl end
  where
    go : (a b : Bool) → (s.stamp == 2 ^ 64 - 1) ≡ a → (m.stamp == 2 ^ 64 - 1) ≡ b → IsTrue (a || b) → ⊥
    go true b l r t = let is = eqb-true s.stamp (2 ^ 64 - 1) l in omega (arith, is, le-max_left s.stamp m.stamp, small)
    go false true l r t =
        let is = eqb-true m.stamp (2 ^ 64 - 1) r in omega (arith, is, le-max_right s.stamp m.stamp, small)
    go false false l r t = cc

-- ---- whether it went well

pub goes_well : {k : ℕ} {e e' : ElementView} {list list' : List Message} → HandlesAt k e e' list list' (Ok step.Went)
    → GoesAt k e e' list list' (Ok true)
goes_well h = record { step = Ok step.Went; handles = h; well = refl }

pub goes_not : {k : ℕ} {e e' : ElementView} {list list' : List Message} (x : TakeError)
    → HandlesAt k e e' list list' (Err x) → GoesAt k e e' list list' (Err x)
goes_not x h = record { step = Err x; handles = h; well = refl }

pub goes_ill : (k : ℕ) (e e' : ElementView) (list list' : List Message) (s : Short) (f : FaultKind) → s ≡ short.Failed f
    → HandlesShortAt k e e' list list' (Ok s) → GoesAt k e e' list list' (Ok false)
goes_ill k e e' list list' s f is short =
    let h = subst (λ (q : Short). HandlesShortAt k e e' list list' (Ok q)) is short in
    record {
      step = Ok (step.Fault (Operator f (tag_of h.message.payload)));
      handles = record {
        message = h.message;
        at = h.at;
        handles = record {
          becomes = h.becomes;
          fits = h.fits;
          ended = (λ i. cc, λ end. absurd (not_ended e.state h.message h.becomes.stamp end));
        };
      };
      well = refl;
    }
