-- Waiting and firing in any run: what waits came by an event, what fired met its partner, and what was handled waits,
-- has fired or was blocked.
use Rattle.std.proofs.Common.{◌≡◌, ◌⊎◌, inl, inr, ℕ, zero, suc, Bool, true, false, Option, Some, None, List, ◌∷◌, set}
use Rattle.std.proofs.Common.{replicate, slice_get, refl, sym, ◌∙◌, ap, subst}
use Rattle.std.proofs.lemmas.Bool.{cases_eq}
use Rattle.std.specs.FinMap.{get, get-empty}
use Rattle.id_instr.specs.declared.dests.Port.{Port}
use Rattle.id_instr.specs.declared.dests.Port.TheVariants.{Zero, One}
use Rattle.id_instr.specs.declared.instr.Instr.{Instr}
use Rattle.id_instr.specs.Ports.{two_ports}
use Rattle.id_instr.specs.Graph.{Parts}
use Rattle.id_tag.specs.declared.Tag.{Tag}
use Rattle.id_tag.specs.declared.Value.{Value}
use Rattle.id_tag.specs.declared.Payload.{Payload}
use Rattle.id_tag.specs.declared.Payload.TheVariants.{Token}
use Rattle.id_tag.specs.Tags.{tag_cmp}
use Rattle.id_tag.specs.Routes.{tag_route, route_of}
use Rattle.id_match.specs.declared.meeting.Half.{Half}
use Rattle.id_match.specs.Ports.{other_port}
use Rattle.id_ops.specs.declared.Fresh.{Fresh}
use Rattle.id_ops.specs.declared.Fired.{Fired}
use Rattle.id_ops.specs.declared.Operands.{Operands}
use Rattle.id_ops.specs.declared.Operands.TheVariants as operands
use Rattle.id_ops.specs.Operators.{fired}
use Rattle.id_core.specs.Steps.{State, next_numbers, outcome, state_after}
use Rattle.id_core.specs.Machines.{World, taken_from}
use Rattle.id_value.specs.declared.Constant.{Constant}
use Rattle.id_value.specs.List.{Among}
use Rattle.id_value.proofs.AmongLemmas.{Among-map}
use Rattle.id_value.proofs.PlacesLemmas.{slice_get-set, set-here, set-elsewhere}
use Rattle.id_runs.specs.Events.{Arrival, Waits, Blocked, Fires, Event, Took, payload_of, FiresAs}
use Rattle.id_runs.specs.Runs.{fires_on, happens, Reach, begin, deliver, handled}
use Rattle.id_runs.proofs.Events.{half, operands_by, tag_cases, Effect, nowhere, alone as fires_alone, first, meets}
use Rattle.id_runs.proofs.Events.{again, Taking, Aside, Handling, of_token, of_cell, handling, taken, took_token}
use Rattle.id_runs.proofs.Events.{payload_of-happens}

-- ---- what waits came by an event

-- since some event the value waits at the port
pub record Waited (run : List Event) (t : Tag) (p : Port) (v : Value) : Type 0 where
  pub element : ℕ
  pub among : Among (Took element t p v Waits) run

waited_later : {run : List Event} {t : Tag} {p : Port} {v : Value} (e : Event) → Waited run t p v
    → Waited (e ∷ run) t p v
waited_later e w = record { element = w.element; among = inr w.among }

replicated : (n m : ℕ) (e f : State) → slice_get (replicate n e) m ≡ Some f → f ≡ e
replicated zero m e f h = cc
replicated (suc n) zero e f h = cc
replicated (suc n) (suc m) e f h = replicated n m e f h

still_waits : (g : Parts) (fresh : Fresh) (n : ℕ) (t : Tag) (p : Port) (v : Value) (o : Option Half) (a : Arrival)
    (o' : Option Half) (run : List Event) → Effect g fresh t p v o a o'
    → ((h : Half) → o ≡ Some h → Waited run t h.port h.value) → (h : Half) → o' ≡ Some h →
    Waited (Took n t p v a ∷ run) t h.port h.value
still_waits g fresh n t p v o a o' run (nowhere at f q) old h e = waited_later _ (old h (sym q ∙ e))
still_waits g fresh n t p v o a o' run (fires_alone i at two f q) old h e = waited_later _ (old h (sym q ∙ e))
still_waits g fresh n t p v o a o' run (first i at two f b q) old h e =
    let both : Some (half p v) ≡ Some h = sym q ∙ e in
    let is : half p v ≡ h = cc in
    subst (λ (x : Half). Waited (Took n t p v a ∷ run) t x.port x.value) is
    (record { element = n; among = inl (ap (Took n t p v) (sym f)) })
still_waits g fresh n t p v o a o' run (meets i u at two f b q) old h e = let no_half : None ≡ Some h = sym q ∙ e in cc
still_waits g fresh n t p v o a o' run (again i u at two f b q) old h e = waited_later _ (old h (sym q ∙ e))

-- what waits after an event, where what waited before it came by one
waits_now : (g : Parts) (n : ℕ) (e : State) (x : Payload) (run : List Event) (t : Tag) (h : Half) →
    ((t' : Tag) (h' : Half) → get e.waiting t' ≡ Some h' → Waited run t' h'.port h'.value)
    → Handling g n e x → get (outcome g (next_numbers n e) e.waiting e.cells x).waiting t ≡ Some h
    → Waited (happens g n e x ∷ run) t h.port h.value
waits_now g n e x run t h before (of_cell aside) there =
    waited_later _ (before t h (ap (λ y. get y t) (sym aside.still) ∙ there))
waits_now g n e x run t h before (of_token new) there =
    elim (tag_cases t new.tag) [
      | inl same ↦
          subst (λ (z : Event × Tag). Waited (z.0 ∷ run) z.1 h.port h.value) (λ i. (sym new.is i, sym same i))
          (still_waits g new.fresh n new.tag new.port new.value _ _ _ run new.effect
          (λ h' e'. before new.tag h' e') h
          (ap (λ u. get (outcome g (next_numbers n e) e.waiting e.cells x).waiting u) (sym same) ∙ there))
      | inr other ↦ waited_later _ (before t h (sym (new.others t other) ∙ there))
    ]

pub waited : (g : Parts) (vs : List Constant) (count : ℕ) (s : World) (run : List Event) → Reach g vs count s run
    → (n : ℕ) (e : State) (t : Tag) (h : Half) → slice_get s.elements n ≡ Some e → get e.waiting t ≡ Some h
    → Waited run t h.port h.value
waited g vs count s run begin n e t h at w =
    let fresh_one = replicated count n _ e at in
    let nothing : None ≡ Some h = sym (get-empty tag_cmp t) ∙ ap (λ (x : State). get x.waiting t) (sym fresh_one) ∙ w in
    cc
waited g vs count s run (deliver {s = s₀} {run = run₀} k m e r f at) n x t h got w =
    let before = waited g vs count s₀ run₀ r in
    let n₀ = route_of m.payload count in
    elim (slice_get-set s₀.elements n₀ n (state_after g n₀ e m) x got) [
      | inl q ↦ waits_now g n₀ e m.payload run₀ t h (λ t' h' e'. before n₀ e t' h' at e') (handling g n₀ e m.payload)
          (ap (λ (y : State). get y.waiting t) (sym q.1) ∙ w)
      | inr old ↦ waited_later _ (before n x t h old w)
    ]

-- ---- what fired met its partner

-- the operands of a firing by a token: it alone, where the operator has one port, or it and its partner, which waited
pub data Met (run : List Event) (t : Tag) (p : Port) (v : Value) (two : Bool) (ops : Operands) : Type 0 where
  alone : two ≡ false → ops ≡ operands.One v → Met run t p v two ops
  with_partner : (u : Value) → two ≡ true → ops ≡ operands_by p v u → Waited run t (other_port p) u
      → Met run t p v two ops

-- what fired by a token is the instruction at its tag
pub record Firing (g : Parts) (run : List Event) (t : Tag) (p : Port) (v : Value) (ops : Operands) (f : Fired) : Type 0
  where
    pub instr : Instr
    pub fresh : Fresh
    pub at : slice_get g.instrs t.instr ≡ Some instr
    pub is : f ≡ fired instr.op t ops fresh
    pub met : Met run t p v (two_ports instr.op) ops

firing_later : {g : Parts} {run : List Event} {t : Tag} {p : Port} {v : Value} {ops : Operands} {f : Fired} (e : Event)
    → Firing g run t p v ops f → Firing g (e ∷ run) t p v ops f
firing_later {run = run} {t = t} {p = p} {v = v} {ops = ops} e x =
    record { instr = x.instr; fresh = x.fresh; at = x.at; is = x.is; met = later x.met }
  where
    later : {two : Bool} → Met run t p v two ops → Met (e ∷ run) t p v two ops
    later (alone b q) = alone b q
    later (with_partner u b q w) = with_partner u b q (waited_later e w)

firing_now : (g : Parts) (fresh : Fresh) (n : ℕ) (t : Tag) (p : Port) (v : Value) (o : Option Half) (a : Arrival)
    (o' : Option Half) (ops : Operands)
    (f : Fired) (run : List Event)
    → Effect g fresh t p v o a o' → a ≡ Fires ops f → ((h : Half) → o ≡ Some h → Waited run t h.port h.value)
    → Firing g (Took n t p v a ∷ run) t p v ops f
firing_now g fresh n t p v o a o' ops f run (nowhere at z q) is old = let bad : Waits ≡ Fires ops f = sym z ∙ is in cc
firing_now g fresh n t p v o a o' ops f run (fires_alone i at two z q) is old =
    let same : Fires ops f ≡ fires_on fresh i t (operands.One v) = sym is ∙ z in
    let ops_is : ops ≡ operands.One v = cc in
    let f_is : f ≡ fired i.op t (operands.One v) fresh = cc in
    record {
      instr = i;
      fresh = fresh;
      at = at;
      is = f_is ∙ ap (λ x. fired i.op t x fresh) (sym ops_is);
      met =
          alone two ops_is;
    }
firing_now g fresh n t p v o a o' ops f run (first i at two z b q) is old =
    let bad : Waits ≡ Fires ops f = sym z ∙ is in cc
firing_now g fresh n t p v o a o' ops f run (meets i u at two z b q) is old =
    let same : Fires ops f ≡ fires_on fresh i t (operands_by p v u) = sym is ∙ z in
    let ops_is : ops ≡ operands_by p v u = cc in
    let f_is : f ≡ fired i.op t (operands_by p v u) fresh = cc in
    record {
      instr = i;
      fresh = fresh;
      at = at;
      is = f_is ∙ ap (λ x. fired i.op t x fresh) (sym ops_is);
      met = with_partner u two ops_is (waited_later _ (old (half (other_port p) u) b));
    }
firing_now g fresh n t p v o a o' ops f run (again i u at two z b q) is old =
    let bad : Blocked ≡ Fires ops f = sym z ∙ is in cc

module _ (g : Parts) (vs : List Constant) (count : ℕ) where
  pub firing : (s : World) (run : List Event) → Reach g vs count s run
      → (n : ℕ) (t : Tag) (p : Port) (v : Value) (ops : Operands) (f : Fired)
      → Among (Took n t p v (Fires ops f)) run → Firing g run t p v ops f
  firing s run begin n t p v ops f among = absurd among
  firing s run (deliver {s = s₀} {run = run₀} k m e r fl at) n t p v ops f (inr old) =
      firing_later _ (firing s₀ run₀ r n t p v ops f old)
  firing s run (deliver {s = s₀} {run = run₀} k m e r fl at) n t p v ops f (inl is) =
      let n₀ = route_of m.payload count in
      let new = taken (handling g n₀ e m.payload) (took_token g n₀ e m.payload n t p v (Fires ops f) is) in
      let same : Took n t p v (Fires ops f) ≡ Took n₀ new.tag new.port new.value new.arrival = is ∙ new.is in
      let tag_is : new.tag ≡ t = cc in
      let port_is : new.port ≡ p = cc in
      let value_is : new.value ≡ v = cc in
      let arrival_is : new.arrival ≡ Fires ops f = cc in
      subst (λ (z : Event × (Tag × (Port × Value))). Firing g (z.0 ∷ run₀) z.1.0 z.1.1.0 z.1.1.1 ops f)
      (λ i. (sym new.is i, (tag_is i, (port_is i, value_is i))))
      (firing_now g new.fresh n₀ new.tag new.port new.value _ new.arrival _ ops f run₀ new.effect arrival_is
      (λ h w. waited g vs count s₀ run₀ r n₀ e new.tag h at w))

-- the operands of a firing were handled under its tag: the only one at some port, or two at their ports
pub data OperandsHandled (run : List Event) (t : Tag) (two : Bool) (ops : Operands) : Type 0 where
  one_handled : (p : Port) (v : Value) → ops ≡ operands.One v → two ≡ false → Among (Token t p v) (handled run)
      → OperandsHandled run t two ops
  two_handled : (v w : Value) → ops ≡ operands.Two v w → two ≡ true → Among (Token t Zero v) (handled run)
      → Among (Token t One w) (handled run) → OperandsHandled run t two ops

pub waited_handled : (run : List Event) (t : Tag) (p : Port) (v : Value) → Waited run t p v
    → Among (Token t p v) (handled run)
waited_handled run t p v w = Among-map payload_of (Took w.element t p v Waits) run w.among

met_handled : (run : List Event) (t : Tag) (p : Port) (v : Value) (two : Bool) (ops : Operands)
    → Among (Token t p v) (handled run) → Met run t p v two ops
    → OperandsHandled run t two ops
met_handled run t p v two ops here (alone b q) = one_handled p v q b here
met_handled run t Zero v two ops here (with_partner u b q w) = two_handled v u q b here (waited_handled run t One u w)
met_handled run t One v two ops here (with_partner u b q w) = two_handled u v q b (waited_handled run t Zero u w) here

-- the instruction at the tag has fired on these operands
pub record FiredOn (g : Parts) (run : List Event) (t : Tag) (i : Instr) (ops : Operands) : Type 0 where
  pub fresh : Fresh
  pub at : slice_get g.instrs t.instr ≡ Some i
  pub fires : FiresAs run t (fired i.op t ops fresh)
  pub operands_are : fires.operands ≡ ops

-- a firing, with its instruction and its operands, which were handled
pub record HasFired (g : Parts) (run : List Event) (t : Tag) (f : Fired) (ops : Operands) : Type 0 where
  pub instr : Instr
  pub fresh : Fresh
  pub at : slice_get g.instrs t.instr ≡ Some instr
  pub is : f ≡ fired instr.op t ops fresh
  pub handled_are : OperandsHandled run t (two_ports instr.op) ops

module _ (g : Parts) (vs : List Constant) (count : ℕ) where
  -- what fired was handled
  pub has_fired : (s : World) (run : List Event) → Reach g vs count s run → {t : Tag} {f : Fired} (x : FiresAs run t f)
      → HasFired g run t f x.operands
  has_fired s run r {t} {f} x =
      let y = firing g vs count s run r x.element t x.port x.value x.operands f x.among in
      record {
        instr = y.instr;
        fresh = y.fresh;
        at = y.at;
        is = y.is;
        handled_are = met_handled run t x.port x.value (two_ports (y.instr).op) x.operands
            (Among-map payload_of (Took x.element t x.port x.value (Fires x.operands f)) run x.among) y.met;
      }

-- ---- what was handled waits, has fired or was blocked

-- the operand at the port is v
abbrev pub IsOperand : Operands → Port → Value → Type 0
IsOperand (operands.One x) p v = x ≡ v
IsOperand (operands.Two x y) Zero v = x ≡ v
IsOperand (operands.Two x y) One v = y ≡ v

came_operand : (p : Port) (v u : Value) → IsOperand (operands_by p v u) p v
came_operand Zero v u = refl
came_operand One v u = refl

met_operand : (p : Port) (v u : Value) → IsOperand (operands_by p v u) (other_port p) u
met_operand Zero v u = refl
met_operand One v u = refl

-- v waits at port p of the tag, at the element that the tag is for
pub record WaitsAt (count : ℕ) (s : World) (t : Tag) (p : Port) (v : Value) : Type 0 where
  pub state : State
  pub at : slice_get s.elements (tag_route t count) ≡ Some state
  pub there : get state.waiting t ≡ Some (half p v)

-- v at port p of the tag has fired its instruction
pub record FiredWith (run : List Event) (t : Tag) (p : Port) (v : Value) : Type 0 where
  pub fired : Fired
  pub fires : FiresAs run t fired
  pub is : IsOperand fires.operands p v

-- a token under the tag was blocked
pub record BlockedAt (run : List Event) (t : Tag) : Type 0 where
  pub element : ℕ
  pub port : Port
  pub value : Value
  pub among : Among (Took element t port value Blocked) run

-- what becomes of a token that was handled
abbrev pub Settled : ℕ → World → List Event → Tag → Port → Value → Type 0
Settled count s run t p v = WaitsAt count s t p v ⊎ (FiredWith run t p v ⊎ BlockedAt run t)

-- a later event leaves what has fired and what was blocked
later : {run : List Event} {t : Tag} {p : Port} {v : Value} {W : Type 0} (e : Event)
    → FiredWith run t p v ⊎ BlockedAt run t → W ⊎ (FiredWith (e ∷ run) t p v ⊎ BlockedAt (e ∷ run) t)
later e (inl f) =
    let x = f.fires in
    inr (inl (record {
      fired = f.fired;
      fires = record {
        element = x.element;
        port = x.port;
        value = x.value;
        operands = x.operands;
        among =
            inr x.among;
      };
      is = f.is;
    }))
later e (inr b) = inr (inr (record { element = b.element; port = b.port; value = b.value; among = inr b.among }))

-- the event as a firing on its operands
new_fired : (n : ℕ) (t : Tag) (q : Port) (w : Value) (a : Arrival) (run : List Event) (ops : Operands) (f : Fired)
    (p : Port) (v : Value) → a ≡ Fires ops f → IsOperand ops p v → FiredWith (Took n t q w a ∷ run) t p v
new_fired n t q w a run ops f p v e is = record {
  fired = f;
  fires = record { element = n; port = q; value = w; operands = ops; among = inl (ap (Took n t q w) (sym e)) };
  is = is;
}

-- under the tag of the new event, with o under the tag before and o' afterwards: the tokens of before
settled_here : (g : Parts) (fresh : Fresh) (n : ℕ) (t : Tag) (q : Port) (w : Value) (a : Arrival) (run : List Event)
    (o o' : Option Half) (p : Port) (v : Value) → Effect g fresh t q w o a o'
    → (o ≡ Some (half p v)) ⊎ (FiredWith run t p v ⊎ BlockedAt run t)
    → (o' ≡ Some (half p v)) ⊎ (FiredWith (Took n t q w a ∷ run) t p v ⊎ BlockedAt (Took n t q w a ∷ run) t)
settled_here g fresh n t q w a run o o' p v x (inr f) = later _ f
settled_here g fresh n t q w a run o o' p v (nowhere at f z) (inl h) = inl (z ∙ h)
settled_here g fresh n t q w a run o o' p v (fires_alone i at two f z) (inl h) = inl (z ∙ h)
settled_here g fresh n t q w a run o o' p v (first i at two f b z) (inl h) =
    let bad : None ≡ Some (half p v) = sym b ∙ h in cc
settled_here g fresh n t q w a run o o' p v (meets i u at two f b z) (inl h) =
    let both : Some (half (other_port q) u) ≡ Some (half p v) = sym b ∙ h in
    let is : half (other_port q) u ≡ half p v = cc in
    inr (inl (subst (λ (y : Half). FiredWith (Took n t q w a ∷ run) t y.port y.value) is
    (new_fired n t q w a run (operands_by q w u) _ (other_port q) u f (met_operand q w u))))
settled_here g fresh n t q w a run o o' p v (again i u at two f b z) (inl h) = inl (z ∙ h)

-- and its own token
settled_new : (g : Parts) (fresh : Fresh) (n : ℕ) (t : Tag) (p : Port) (v : Value) (a : Arrival) (run : List Event)
    (o o' : Option Half) (i : Instr) → Effect g fresh t p v o a o' → slice_get g.instrs t.instr ≡ Some i
    → two_ports i.op ≡ true
    → (o' ≡ Some (half p v)) ⊎ (FiredWith (Took n t p v a ∷ run) t p v ⊎ BlockedAt (Took n t p v a ∷ run) t)
settled_new g fresh n t p v a run o o' i (nowhere z f q) at b = let bad : None ≡ Some i = sym z ∙ at in cc
settled_new g fresh n t p v a run o o' i (fires_alone j z c f q) at b =
    let both : Some j ≡ Some i = sym z ∙ at in
    let is : j ≡ i = cc in
    let bad : false ≡ true = sym c ∙ ap (λ (x : Instr). two_ports x.op) is ∙ b in
    cc
settled_new g fresh n t p v a run o o' i (first j z c f m q) at b = inl q
settled_new g fresh n t p v a run o o' i (meets j u z c f m q) at b =
    inr (inl (new_fired n t p v a run (operands_by p v u) _ p v f (came_operand p v u)))
settled_new g fresh n t p v a run o o' i (again j u z c f m q) at b = inr
    (inr (record { element = n; port = p; value = v; among = inl (ap (Took n t p v) (sym f)) }))

-- what waited under another tag still waits
waits_on : (count : ℕ) (s s' : World) (n : ℕ) (e e' : State) (t : Tag) (p : Port) (v : Value)
    → slice_get s.elements n ≡ Some e → s'.elements ≡ set s.elements n e' → get e'.waiting t ≡ get e.waiting t
    → WaitsAt count s t p v → WaitsAt count s' t p v
waits_on count s s' n e e' t p v at is same w =
    elim (cases_eq (tag_route t count) n) [
      | inl here ↦
          let both : Some w.state ≡ Some e = sym w.at ∙ ap (slice_get s.elements) here ∙ at in
          let one : w.state ≡ e = cc in
          record {
            state = e';
            at = ap (λ xs. slice_get xs (tag_route t count)) is ∙ ap (slice_get (set s.elements n e')) here
                ∙ set-here s.elements n e' e at;
            there = same ∙ ap (λ (y : State). get y.waiting t) (sym one) ∙ w.there;
          }
      | inr other ↦ record {
        state = w.state;
        at = ap (λ xs. slice_get xs (tag_route t count)) is ∙ set-elsewhere s.elements n (tag_route t count) e' other
            ∙ w.at;
        there = w.there;
      }
    ]

-- the element that a token is for is that of its tag
routed : (count : ℕ) (x : Payload) (t : Tag) (p : Port) (v : Value) → x ≡ Token t p v
    → route_of x count ≡ tag_route t count
routed count x t p v e = ap (λ y. route_of y count) e

-- every token for an operator of two ports that was handled waits, has fired or was blocked
pub settled : (g : Parts) (vs : List Constant) (count : ℕ) (s : World) (run : List Event) → Reach g vs count s run
    → (t : Tag) (p : Port) (v : Value) (i : Instr)
    → slice_get g.instrs t.instr ≡ Some i → two_ports i.op ≡ true → Among (Token t p v) (handled run)
    → Settled count s run t p v
settled g vs count s run begin t p v i at b h = absurd h
settled g vs count s run (deliver {s = s₀} {run = run₀} k m e r f q) t p v i at b h =
    by_handling (handling g (route_of m.payload count) e m.payload)
    (λ old. settled g vs count s₀ run₀ r t p v i at b old)
  where
    n : ℕ
    n = route_of m.payload count

    e' : State
    e' = state_after g n e m

    s' : World
    s' = taken_from g k s₀ m n e

    -- an event on a cell leaves what waits
    by_cell : Aside g n e m.payload → Settled count s₀ run₀ t p v
        → Settled count s' (happens g n e m.payload ∷ run₀) t p v
    by_cell aside (inl w) = inl (waits_on count s₀ s' n e e' t p v q refl (ap (λ y. get y t) aside.still) w)
    by_cell aside (inr z) = later (happens g n e m.payload) z

    by_token : Taking g n e m.payload → (Among (Token t p v) (handled run₀) → Settled count s₀ run₀ t p v) →
        Settled count s' (happens g n e m.payload ∷ run₀) t p v
    by_token new before_it = by_tag (tag_cases t new.tag) h before_it
      where
        event : Event
        event = Took n new.tag new.port new.value new.arrival

        here : n ≡ tag_route new.tag count
        here = routed count m.payload new.tag new.port new.value new.says

        -- as the run has the event
        as_happened : {u : Tag} {p : Port} {v : Value} → Settled count s' (event ∷ run₀) u p v
            → Settled count s' (happens g n e m.payload ∷ run₀) u p v
        as_happened {u} {p} {v} x = subst (λ z. Settled count s' (z ∷ run₀) u p v) (sym new.is) x

        state_is : (w : WaitsAt count s₀ new.tag p v) → get e.waiting new.tag ≡ Some (half p v)
        state_is w =
            let both : Some w.state ≡ Some e = sym w.at ∙ ap (slice_get s₀.elements) (sym here) ∙ q in
            let one : w.state ≡ e = cc in
            ap (λ (y : State). get y.waiting new.tag) (sym one) ∙ w.there

        there_now : {u : Port} {x : Value}
            → (get (outcome g (next_numbers n e) e.waiting e.cells m.payload).waiting new.tag ≡ Some (half u x)) ⊎
            (FiredWith (event ∷ run₀) new.tag u x ⊎ BlockedAt (event ∷ run₀) new.tag)
            → Settled count s' (event ∷ run₀) new.tag u x
        there_now (inl w) =
            inl (record {
              state = e';
              at =
                  ap (slice_get (set s₀.elements n e')) (sym here) ∙ set-here s₀.elements n e' e q;
              there = w;
            })
        there_now (inr z) = inr z

        before : Settled count s₀ run₀ new.tag p v
            → (get e.waiting new.tag ≡ Some (half p v)) ⊎ (FiredWith run₀ new.tag p v ⊎ BlockedAt run₀ new.tag)
        before (inl w) = inl (state_is w)
        before (inr z) = inr z

        old_token : t ≡ new.tag → Settled count s₀ run₀ t p v → Settled count s' (event ∷ run₀) t p v
        old_token is x =
            subst (λ u. Settled count s' (event ∷ run₀) u p v) (sym is)
            (there_now (settled_here g new.fresh n new.tag new.port new.value new.arrival run₀ _ _ p v new.effect
            (before (subst (λ u. Settled count s₀ run₀ u p v) is x))))

        own_token : t ≡ new.tag → p ≡ new.port → v ≡ new.value → Settled count s' (event ∷ run₀) t p v
        own_token is port_is value_is =
            subst (λ (z : Tag × (Port × Value)). Settled count s' (event ∷ run₀) z.0 z.1.0 z.1.1) {x =
            (new.tag, (new.port, new.value))} {y = (t, (p, v))}
            (λ j. (sym is j, (sym port_is j, sym value_is j)))
            (there_now (settled_new g new.fresh n new.tag new.port new.value new.arrival run₀ _ _ i new.effect
            (ap (λ (u : Tag). slice_get g.instrs u.instr) (sym is) ∙ at) b))

        elsewhere : (t ≡ new.tag → ⊥) → Settled count s₀ run₀ t p v → Settled count s' (event ∷ run₀) t p v
        elsewhere other (inl w) = inl (waits_on count s₀ s' n e e' t p v q refl (new.others t other) w)
        elsewhere other (inr z) = later event z

        by_tag : (t ≡ new.tag) ⊎ (t ≡ new.tag → ⊥) → Among (Token t p v) (handled (happens g n e m.payload ∷ run₀))
            → (Among (Token t p v) (handled run₀) → Settled count s₀ run₀ t p v)
            → Settled count s' (happens g n e m.payload ∷ run₀) t p v
        by_tag (inl is) (inl token) before_it =
            let same : Token t p v ≡ payload_of event = token ∙ ap payload_of new.is in
            as_happened (own_token is (cc) (cc))
        by_tag (inl is) (inr old) before_it = as_happened (old_token is (before_it old))
        by_tag (inr other) (inl token) before_it =
            let same : Token t p v ≡ payload_of event = token ∙ ap payload_of new.is in
            absurd (other (cc))
        by_tag (inr other) (inr old) before_it = as_happened (elsewhere other (before_it old))

    by_handling : Handling g n e m.payload → (Among (Token t p v) (handled run₀) → Settled count s₀ run₀ t p v) →
        Settled count s' (happens g n e m.payload ∷ run₀) t p v
    by_handling (of_token new) before_it = by_token new before_it
    by_handling (of_cell aside) before_it = elim h [
      | inl is ↦ absurd (aside.no_token t p v (sym (is ∙ payload_of-happens g n e m.payload)))
      | inr old ↦ by_cell aside (before_it old)
    ]
