-- Lemmas on specs/Firings.antt: the outcome is what the code computes in parts.
use Rattle.std.proofs.Common.{◌≡◌, ◌+◌, ◌++◌, ◌∷◌, ℕ, Some, [], length, refl, sym, ap, ◌∙◌}
use Rattle.std.specs.Prelude.{slice_get}
use Rattle.id_tag.specs.declared.Message.{Message}
use Rattle.id_instr.specs.declared.dests.Port.{Port}
use Rattle.id_instr.specs.declared.instr.Instr.{Instr}
use Rattle.id_instr.specs.declared.instr.Op.{Op}
use Rattle.id_instr.specs.declared.instr.Op.TheVariants.{Const, Unary, Binary, Merge, Switch, Back, Enter, Send, Next}
use Rattle.id_instr.specs.declared.instr.Op.TheVariants.{Reset, Alloc, Address, Fetch, Store as Stores}
use Rattle.id_instr.specs.Graph.{Parts, arcs_on}
use Rattle.id_tag.specs.declared.Tag.{Tag}
use Rattle.id_tag.specs.declared.Value.{Value}
use Rattle.id_tag.specs.declared.Payload.TheVariants.{Token}
use Rattle.id_match.specs.Waiting.{Store}
use Rattle.id_bank.specs.Cells.{Cells}
use Rattle.id_record.specs.declared.step.Verdict.{Verdict}
use Rattle.id_record.specs.declared.step.Step.TheVariants.{Went, Stuck}
use Rattle.id_ops.specs.declared.Fresh.{Fresh}
use Rattle.id_ops.specs.declared.Fired.{Fired}
use Rattle.id_ops.specs.declared.Fired.TheVariants.{Out, Side, Moved, Entered, Sent, Asked, Stored, Failed, Nothing}
use Rattle.id_ops.specs.Operators.{fired, side_of}
use Rattle.id_step.specs.declared.step.Arrival.{Arrival}
use Rattle.id_step.specs.declared.step.Arrival.TheVariants.{Fires, Waits, Blocked}
use Rattle.id_record.specs.Events.{full_step}
use Rattle.id_step.specs.Steps.{State, next_stamp, outputs_of, outcome, outcome_of, state_after, step_of}
use Rattle.id_step.specs.Steps.{Outcome, allocated_by, arrival, arriving}
use Rattle.id_step.specs.Steps.{at_instr, fired_step, fired_verdict, made_by, waiting_after}
use Rattle.id_record.specs.Sends.{numbered, sent}
use Rattle.id_step.specs.declared.step.PlainOperands.{PlainOperands}
use Rattle.id_step.specs.Firings.{IsFiring, IsPlainFiring, arrival_in, firing_of, operands_in, verdict_of}
use Rattle.id_ops.specs.declared.plain_fired.PlainFired.{PlainFired}
use Rattle.id_ops.specs.PlainFired.{fired_of}
use Rattle.id_record.specs.declared.step.Verdict.TheVariants as verdict
use Rattle.id_tag.specs.declared.plain.PlainToken.{PlainToken}
use Rattle.id_tag.specs.Plains.{tag_in, whole}

-- the outcome of an arrival in the parts that the code computes
abbrev pub computed : Fresh → Instr → Tag → Port → Value → Store → Cells → Arrival → Outcome
computed n i t p v w b a = record {
  fired = firing_of i t n a;
  sends = sent (Some i.op) (arcs_on (side_of (firing_of i t n a)) i) t (firing_of i t n a);
  step = full_step (Token t p v) (verdict_of a (firing_of i t n a));
  waiting = w;
  cells = b;
  made = made_by (firing_of i t n a);
  allocated = allocated_by i.op (firing_of i t n a);
}

fired_step-computed : (t : Tag) (p : Port) (v : Value) (f : Fired)
    → fired_step t f ≡ full_step (Token t p v) (fired_verdict f)
fired_step-computed t p v (Out x) = refl
fired_step-computed t p v (Side b x) = refl
fired_step-computed t p v (Moved k x) = refl
fired_step-computed t p v (Entered c) = refl
fired_step-computed t p v (Sent u x) = refl
fired_step-computed t p v (Asked c r) = refl
fired_step-computed t p v (Stored c x w) = refl
fired_step-computed t p v (Failed f) = refl
fired_step-computed t p v Nothing = refl

-- an operator that fires nothing makes no structure
none_allocated : (o : Op) → allocated_by o Nothing ≡ 0
none_allocated (Alloc nested) = refl
none_allocated (Const v) = refl
none_allocated (Unary f) = refl
none_allocated (Binary f) = refl
none_allocated (Merge k) = refl
none_allocated (Switch k) = refl
none_allocated (Back k) = refl
none_allocated (Enter b r) = refl
none_allocated (Send k n) = refl
none_allocated (Next k) = refl
none_allocated (Reset k) = refl
none_allocated (Address nested) = refl
none_allocated (Fetch nested r) = refl
none_allocated (Stores nested) = refl

pub arriving-computed : (n : Fresh) (i : Instr) (t : Tag) (p : Port) (v : Value) (w : Store) (b : Cells) (a : Arrival) →
    arriving n i t w b a ≡ computed n i t p v w b a
arriving-computed n i t p v w b (Fires o) =
    let f = fired i.op t o n in
    ap (λ s. record {
      fired = f;
      sends = sent (Some i.op) (arcs_on (side_of f) i) t f;
      step = s;
      waiting = w;
      cells = b;
      made = made_by f;
      allocated = allocated_by i.op f;
    }) (fired_step-computed t p v f)
arriving-computed n i t p v w b Waits =
    ap (λ k. record { fired = Nothing; sends = []; step = Went; waiting = w; cells = b; made = 0; allocated = k })
    (sym (none_allocated i.op))
arriving-computed n i t p v w b Blocked =
    ap (λ k. record { fired = Nothing; sends = []; step = Stuck; waiting = w; cells = b; made = 0; allocated = k })
    (sym (none_allocated i.op))

-- the outcome of a token, where the code has computed its parts
pub reacted : (n : Fresh) (i : Instr) (t : Tag) (p : Port) (v : Value) (w later : Store) (b : Cells) (a : Arrival)
    (f : Fired) (d : Verdict) → a ≡ arrival i.op w t p v → later ≡ waiting_after i.op w t p v → f ≡ firing_of i t n a
    → d ≡ verdict_of a f
    → at_instr n w b t p v (Some i) ≡ record {
      fired = f;
      sends = sent (Some i.op) (arcs_on (side_of f) i) t f;
      step = full_step (Token t p v) d;
      waiting = later;
      cells = b;
      made = made_by f;
      allocated = allocated_by i.op f;
    }
reacted n i t p v w later b a f d ea el ef ed =
    rw (ed, ef, ea, el) (arriving-computed n i t p v (waiting_after i.op w t p v) b (arrival i.op w t p v))

-- ---- plain tokens

-- the outcome of a plain token that has this fired, where these wait afterwards
abbrev pub plain_outcome : Instr → PlainToken → Store → Cells → Fired → Verdict → Outcome
plain_outcome i t later b f d = record {
  fired = f;
  sends = sent (Some i.op) (arcs_on (side_of f) i) (tag_in t) f;
  step = full_step (Token (tag_in t) t.port (whole t.value)) d;
  waiting = later;
  cells = b;
  made = made_by f;
  allocated = allocated_by i.op f;
}

-- the outcome where the code has computed its parts
plain_reacted : (g : Parts) (n : Fresh) (w later : Store) (b : Cells) (t : PlainToken) (i : Instr) (f : Fired)
    (d : Verdict) → slice_get g.instrs t.instr ≡ Some i → later ≡ waiting_after i.op w (tag_in t) t.port (whole t.value)
    → f ≡ firing_of i (tag_in t) n (arrival_in i.op w t) → d ≡ verdict_of (arrival_in i.op w t) f
    → outcome g n w b (Token (tag_in t) t.port (whole t.value)) ≡ plain_outcome i t later b f d
plain_reacted g n w later b t i f d there waits fires comes =
    ap (λ o. at_instr n w b (tag_in t) t.port (whole t.value) o) there
    ∙ reacted n i (tag_in t) t.port (whole t.value) w later b (arrival_in i.op w t) f d refl waits fires comes

-- the outcome of one that fires this in small numbers
pub short_outcome : (g : Parts) (n : Fresh) (w later : Store) (b : Cells) (t : PlainToken) (i : Instr) (p : PlainFired)
    → slice_get g.instrs t.instr ≡ Some i → IsPlainFiring i.op w later t p
    → outcome g n w b (Token (tag_in t) t.port (whole t.value))
    ≡ plain_outcome i t later b (fired_of (tag_in t) p) verdict.Went
short_outcome g n w later b t i p there is =
    plain_reacted g n w later b t i (fired_of (tag_in t) p) verdict.Went there is.waits (sym (is.fires i n refl))
    (sym is.went)

-- the outcome of one that fires these operands
pub fires_outcome : (g : Parts) (n : Fresh) (w later : Store) (b : Cells) (t : PlainToken) (i : Instr)
    (o : PlainOperands) → slice_get g.instrs t.instr ≡ Some i → IsFiring i.op w later t o
    → outcome g n w b (Token (tag_in t) t.port (whole t.value))
    ≡ plain_outcome i t later b (fired i.op (tag_in t) (operands_in o) n)
    (fired_verdict (fired i.op (tag_in t) (operands_in o) n))
fires_outcome g n w later b t i o there firing =
    let f = fired i.op (tag_in t) (operands_in o) n in
    plain_reacted g n w later b t i f (fired_verdict f) there firing.waits
    (sym (ap (firing_of i (tag_in t) n) firing.fires)) (sym (ap (λ a. verdict_of a f) firing.fires))

-- the state after a message of this outcome
abbrev pub state_by : ℕ → State → Message → Outcome → State
state_by e s m o = record {
  waiting = o.waiting;
  cells = o.cells;
  stamp = next_stamp s m;
  contexts = s.contexts + o.made;
  structures = s.structures + o.allocated;
  events = s.events ++ record {
    element = e;
    stamp = next_stamp s m;
    message = m;
    fired = o.fired;
    outputs = numbered e (length s.events) (next_stamp s m) 0 o.sends;
    step = o.step;
  } ∷ [];
}

-- what the element step on a message is, by its outcome
pub record IsStepBy (g : Parts) (e : ℕ) (s : State) (m : Message) (o : Outcome) : Type 0 where
  pub step : step_of g e s m ≡ o.step
  pub state : state_after g e s m ≡ state_by e s m o
  pub outputs : outputs_of g e s m ≡ numbered e (length s.events) (next_stamp s m) 0 o.sends

pub step_by : (g : Parts) (e : ℕ) (s : State) (m : Message) (o : Outcome) → outcome_of g e s m ≡ o → IsStepBy g e s m o
step_by g e s m o is = record {
  step = ap (λ x. x.step) is;
  state = ap (state_by e s m) is;
  outputs = ap (λ x. numbered e (length s.events) (next_stamp s m) 0 x.sends) is;
}
