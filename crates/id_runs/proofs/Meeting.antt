-- Tokens for operators of one port fire; where each key comes at most once, no token is blocked, and tokens that meet
-- fire.
use Rattle.std.proofs.Common.{◌≡◌, inl, inr, ℕ, true, false, Option, Some, None, List, ◌∷◌, slice_get, refl, sym, ◌∙◌}
use Rattle.std.proofs.Common.{ap, ap₂, subst, arith}
use Rattle.std.specs.FinMap.{get}
use Rattle.id_instr.specs.declared.dests.Port.{Port}
use Rattle.id_instr.specs.declared.dests.Port.TheVariants.{Zero, One}
use Rattle.id_instr.specs.declared.instr.Instr.{Instr}
use Rattle.id_instr.specs.Ports.{two_ports}
use Rattle.id_instr.specs.Graph.{Parts}
use Rattle.id_tag.specs.declared.Tag.{Tag}
use Rattle.id_tag.specs.declared.Value.{Value}
use Rattle.id_tag.specs.declared.Payload.TheVariants.{Token}
use Rattle.id_tag.specs.Routes.{route_of}
use Rattle.id_match.specs.declared.meeting.Half.{Half}
use Rattle.id_ops.specs.declared.Fresh.{Fresh}
use Rattle.id_ops.specs.declared.Operands.TheVariants as operands
use Rattle.id_ops.specs.Operators.{fired}
use Rattle.id_core.specs.Steps.{State}
use Rattle.id_core.specs.Machines.{World}
use Rattle.id_value.specs.declared.Constant.{Constant}
use Rattle.id_value.specs.List.{Among}
use Rattle.id_runs.specs.Events.{Arrival, Waits, Blocked, Fires, Event, Took, payload_of, FiresAs}
use Rattle.id_runs.specs.Keys.{AtPort}
use Rattle.id_runs.specs.Runs.{fires_on, Reach, begin, deliver, handled, flying}
use Rattle.id_runs.specs.OneMessage.{Exclusive}
use Rattle.id_runs.proofs.Events.{half, operands_by, Effect, nowhere, alone as fires_alone, first, meets, again}
use Rattle.id_runs.proofs.Events.{handling, taken, took_token, payload_of-happens}
use Rattle.id_runs.proofs.Keys.{counts, one_message}
use Rattle.id_runs.proofs.Messages.{was_flying}
use Rattle.id_runs.proofs.Waiting.{waited, waited_handled, OperandsHandled, one_handled, two_handled, HasFired}
use Rattle.id_runs.proofs.Waiting.{has_fired, FiredOn, FiredWith, BlockedAt, Settled, settled}
use Rattle.id_runs.proofs.OneMessage.{few as few_of, at_most_one}

one_instr : (o : Option Instr) {i j : Instr} → o ≡ Some i → o ≡ Some j → i ≡ j
one_instr o e f = cc

two_differ : {i j : Instr} → i ≡ j → two_ports i.op ≡ true → two_ports j.op ≡ false → ⊥
two_differ e a b = let bad : true ≡ false = sym a ∙ ap (λ (x : Instr). two_ports x.op) e ∙ b in cc

alone_arrival : (g : Parts) (fresh : Fresh) (t : Tag) (p : Port) (v : Value) (o : Option Half) (a : Arrival)
    (o' : Option Half) (i : Instr) → Effect g fresh t p v o a o'
    → slice_get g.instrs t.instr ≡ Some i → two_ports i.op ≡ false → a ≡ fires_on fresh i t (operands.One v)
alone_arrival g fresh t p v o a o' i (nowhere z f q) at b = let bad : None ≡ Some i = sym z ∙ at in cc
alone_arrival g fresh t p v o a o' i (fires_alone j z c f q) at b =
    f ∙ ap (λ (y : Instr). fires_on fresh y t (operands.One v)) (one_instr _ z at)
alone_arrival g fresh t p v o a o' i (first j z c f n q) at b = absurd (two_differ (one_instr _ z at) c b)
alone_arrival g fresh t p v o a o' i (meets j u z c f n q) at b = absurd (two_differ (one_instr _ z at) c b)
alone_arrival g fresh t p v o a o' i (again j u z c f n q) at b = absurd (two_differ (one_instr _ z at) c b)

fired_later : {g : Parts} {run : List Event} {t : Tag} {i : Instr} (ops : _) (e : Event) → FiredOn g run t i ops
    → FiredOn g (e ∷ run) t i ops
fired_later ops e f =
    let x = f.fires in
    record {
      fresh = f.fresh;
      at = f.at;
      fires = record {
        element = x.element;
        port = x.port;
        value = x.value;
        operands = x.operands;
        among =
            inr x.among;
      };
      operands_are = f.operands_are;
    }

-- a token for an operator of one port fires it
pub alone : (g : Parts) (vs : List Constant) (count : ℕ) (s : World) (run : List Event) → Reach g vs count s run
    → (t : Tag) (p : Port) (v : Value) (i : Instr)
    → slice_get g.instrs t.instr ≡ Some i → two_ports i.op ≡ false → Among (Token t p v) (handled run)
    → FiredOn g run t i (operands.One v)
alone g vs count s run begin t p v i at b h = absurd h
alone g vs count s run (deliver {s = s₀} {run = run₀} k m e r f q) t p v i at b (inl is) =
    let n = route_of m.payload count in
    let new = taken (handling g n e m.payload) (sym (is ∙ payload_of-happens g n e m.payload)) in
    let same : Token t p v ≡ Token new.tag new.port new.value = is ∙ ap payload_of new.is in
    let tag_is : new.tag ≡ t = cc in
    let value_is : new.value ≡ v = cc in
    let fires_now = alone_arrival g new.fresh new.tag new.port new.value _ new.arrival _ i new.effect
    (ap (λ (u : Tag). slice_get g.instrs u.instr) tag_is ∙ at) b in
    record {
      fresh = new.fresh;
      at = at;
      fires = record {
        element = n;
        port = new.port;
        value = v;
        operands = operands.One v;
        among = inl (sym (new.is ∙ (λ j. Took n (tag_is j) new.port (value_is j) (fires_now j)) ∙
            (λ j. Took n t new.port v (fires_on new.fresh i (tag_is j) (operands.One (value_is j))))));
      };
      operands_are = refl;
    }
alone g vs count s run (deliver {s = s₀} {run = run₀} k m e r f q) t p v i at b (inr old) =
    fired_later (operands.One v) _
    (alone g vs count s₀ run₀ r t p v i at b old)

blocked_waits : (g : Parts) (fresh : Fresh) (t : Tag) (p : Port) (v : Value) (o : Option Half) (a : Arrival)
    (o' : Option Half) → Effect g fresh t p v o a o' → a ≡ Blocked → (u : Value) × (o ≡ Some (half p u))
blocked_waits g fresh t p v o a o' (nowhere z f q) e = let bad : Waits ≡ Blocked = sym f ∙ e in cc
blocked_waits g fresh t p v o a o' (fires_alone j z c f q) e =
    let bad : fires_on fresh j t (operands.One v) ≡ Blocked = sym f ∙ e in cc
blocked_waits g fresh t p v o a o' (first j z c f n q) e = let bad : Waits ≡ Blocked = sym f ∙ e in cc
blocked_waits g fresh t p v o a o' (meets j u z c f n q) e =
    let bad : fires_on fresh j t (operands_by p v u) ≡ Blocked = sym f ∙ e in cc
blocked_waits g fresh t p v o a o' (again j u z c f n q) e = (u, n)

module _ (g : Parts) (vs : List Constant) (count : ℕ) (only : Exclusive g vs count) where
  -- no token is blocked
  pub never_blocked : (s : World) (run : List Event) → Reach g vs count s run → (n : ℕ) (t : Tag) (p : Port) (v : Value)
      → Among (Took n t p v Blocked) run → ⊥
  never_blocked s run begin n t p v among = absurd among
  never_blocked s run (deliver {s = s₀} {run = run₀} k m e r f q) n t p v (inl is) =
      let n₀ = route_of m.payload count in
      let new = taken (handling g n₀ e m.payload) (took_token g n₀ e m.payload n t p v Blocked is) in
      let same : Took n t p v Blocked ≡ Took n₀ new.tag new.port new.value new.arrival = is ∙ new.is in
      let blocked : new.arrival ≡ Blocked = cc in
      let w = blocked_waits g new.fresh new.tag new.port new.value _ new.arrival _ new.effect blocked in
      let before =
      waited_handled run₀ new.tag new.port w.0 (waited g vs count s₀ run₀ r n₀ e new.tag (half new.port w.0) q w.1) in
      let flies = subst (λ y. Among y (flying s₀)) (ap payload_of new.is) (was_flying g k s₀ m n₀ e f) in
      let j = AtPort new.tag new.port in
      omega (
        arith,
        at_most_one g vs count only s₀ run₀ r j,
        counts j (Token new.tag new.port new.value) (flying s₀) flies refl,
        counts j (Token new.tag new.port w.0) (handled run₀) before refl,
      )
  never_blocked s run (deliver {s = s₀} {run = run₀} k m e r f q) n t p v (inr old) =
      never_blocked s₀ run₀ r n t p v old

  -- what was handled at a port of a tag is one value
  pub one_value : (s : World) (run : List Event) → Reach g vs count s run → (t : Tag) (p : Port) (v w : Value)
      → Among (Token t p v) (handled run) → Among (Token t p w) (handled run) → v ≡ w
  one_value s run r t p v w a b =
      let same : Token t p v ≡ Token t p w =
      one_message (AtPort t p) (Token t p v) (Token t p w) (handled run) (few_of g vs count only s run r (AtPort t p))
      a b refl refl in
      cc

  -- an operator of two ports whose operands were handled has fired on them
  pub met : (s : World) (run : List Event) → Reach g vs count s run → (t : Tag) (v w : Value) (i : Instr)
      → slice_get g.instrs t.instr ≡ Some i → two_ports i.op ≡ true
      → Among (Token t Zero v) (handled run) → Among (Token t One w) (handled run)
      → FiredOn g run t i (operands.Two v w)
  met s run r t v w i at b hv hw =
      go (settled g vs count s run r t Zero v i at b hv) (settled g vs count s run r t One w i at b hw)
    where
      on_them : {f : _} (x : FiresAs run t f) → HasFired g run t f x.operands → FiredOn g run t i (operands.Two v w)
      on_them {f} x y = by (y.handled_are)
        where
          same : y.instr ≡ i
          same = let both : Some y.instr ≡ Some i = sym y.at ∙ at in cc

          by : OperandsHandled run t (two_ports (y.instr).op) x.operands → FiredOn g run t i (operands.Two v w)
          by (one_handled p u e c k) =
              let bad : false ≡ true = sym c ∙ ap (λ (z : Instr). two_ports z.op) same ∙ b in cc
          by (two_handled u u' e c k l) =
              let first_is : u ≡ v = one_value s run r t Zero u v k hv in
              let second_is : u' ≡ w = one_value s run r t One u' w l hw in
              let operands_are : x.operands ≡ operands.Two v w = e ∙ ap₂ operands.Two first_is second_is in
              let is : f ≡ fired i.op t (operands.Two v w) y.fresh =
              y.is ∙ (λ j. fired (same j).op t (operands_are j) y.fresh) in
              record {
                fresh = y.fresh;
                at = at;
                fires = record {
                  element = x.element;
                  port = x.port;
                  value = x.value;
                  operands = x.operands;
                  among = subst (λ z. Among (Took x.element t x.port x.value (Fires x.operands z)) run) is x.among;
                };
                operands_are = operands_are;
              }

      by : (p : Port) (u : Value) → FiredWith run t p u → FiredOn g run t i (operands.Two v w)
      by p u f = on_them f.fires (has_fired g vs count s run r f.fires)

      stuck : {A : Type 0} → BlockedAt run t → A
      stuck z = absurd (never_blocked s run r z.element t z.port z.value z.among)

      go : Settled count s run t Zero v → Settled count s run t One w → FiredOn g run t i (operands.Two v w)
      go (inr (inl f)) z = by Zero v f
      go (inr (inr z)) y = stuck z
      go (inl a) (inr (inl f)) = by One w f
      go (inl a) (inr (inr z)) = stuck z
      go (inl a) (inl c) =
          let both : Some a.state ≡ Some c.state = sym a.at ∙ c.at in
          let same : a.state ≡ c.state = cc in
          let halves : Some (half Zero v) ≡ Some (half One w) =
          sym a.there ∙ ap (λ (y : State). get y.waiting t) same ∙ c.there in
          let one_half : half Zero v ≡ half One w = cc in
          let bad : Zero ≡ One = ap (λ (y : Half). y.port) one_half in
          cc
