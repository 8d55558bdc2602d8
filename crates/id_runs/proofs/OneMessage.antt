-- At most one message in flight or handled has a key, in a graph where one event alone sends for each.
use Rattle.std.proofs.Common.{◌≡◌, ◌⊎◌, inl, inr, false, ℕ, zero, suc, ◌+◌, ◌≤◌, Some, List, ◌∷◌, slice_get, refl, sym}
use Rattle.std.proofs.Common.{◌∙◌, ap, subst, arith}
use Rattle.std.specs.List.{remove}
use Rattle.id_instr.specs.declared.dests.Port.{Port}
use Rattle.id_instr.specs.declared.dests.Port.TheVariants.{Zero, One}
use Rattle.id_instr.specs.declared.instr.Instr.{Instr}
use Rattle.id_instr.specs.Graph.{Parts}
use Rattle.id_instr.specs.Ports.{two_ports}
use Rattle.id_tag.specs.declared.Value.{Value}
use Rattle.id_tag.specs.declared.Tag.{Tag}
use Rattle.id_tag.specs.declared.Payload.{Payload}
use Rattle.id_tag.specs.declared.Payload.TheVariants.{Token}
use Rattle.id_tag.specs.declared.Message.{Message}
use Rattle.id_tag.specs.Routes.{route_of}
use Rattle.id_match.specs.Ports.{other_port}
use Rattle.id_ops.specs.declared.Fired.{Fired}
use Rattle.id_core.specs.Steps.{State}
use Rattle.id_core.specs.Machines.{World, taken_from}
use Rattle.id_value.specs.declared.Constant.{Constant}
use Rattle.id_value.specs.List.{Among}
use Rattle.id_value.proofs.AmongLemmas.{Among-map}
use Rattle.id_value.proofs.PlacesLemmas.{slice_get-image}
use Rattle.id_runs.specs.Events.{Waits, Event, Took, payload_of, sends_of, FiresAs, fired_event, FiresOnce}
use Rattle.id_runs.specs.Keys.{Key, AtPort, key_of}
use Rattle.id_runs.specs.Runs.{happens, Reach, begin, deliver, handled, flying, Moving}
use Rattle.id_runs.specs.OneMessage.{count_for, Few, AtMostOne, Exclusive}
use Rattle.id_runs.proofs.Events.{payload_of-happens}
use Rattle.id_runs.proofs.Keys.{hit, count_none, count_cons, count_append, count_remove, counts, counted, one_event}
use Rattle.id_runs.proofs.Messages.{origin, flying_after, was_flying}
use Rattle.id_runs.proofs.Waiting.{Waited, Met, alone, with_partner, Firing, firing}

port_is : (p q : Port) → (q ≡ p) ⊎ (q ≡ other_port p)
port_is Zero Zero = inl refl
port_is Zero One = inr refl
port_is One Zero = inr refl
port_is One One = inl refl

none : (a b : ℕ) → (1 ≤ a → ⊥) → (1 ≤ b → ⊥) → a + b ≡ 0
none zero zero f g = refl
none (suc a) b f g = absurd (f (omega arith))
none zero (suc b) f g = absurd (g (omega arith))

module _ (g : Parts) (vs : List Constant) (count : ℕ) (only : Exclusive g vs count) where
  -- each token handled for an operator of one port is for its port 0
  abbrev AtFirst : List Event → Type 0
  AtFirst run =
      (t : Tag) (p : Port) (v : Value) (i : Instr) → Among (Token t p v) (handled run)
      → slice_get g.instrs t.instr ≡ Some i → two_ports i.op ≡ false
      → p ≡ Zero

  -- where that is so, and what was handled has each key at most once, each tag has fired once
  once_by : (s : World) (run : List Event) → Reach g vs count s run → AtFirst run → Few run → FiresOnce run
  once_by s run r first few t f f' x y = by (z.met)
    where
      z : Firing g run t x.port x.value x.operands f
      z = firing g vs count s run r x.element t x.port x.value x.operands f x.among

      took : {h : Fired} (a : FiresAs run t h) → Among (payload_of (fired_event a)) (handled run)
      took a = Among-map payload_of (fired_event a) run a.among

      at_port : (p : Port) → x.port ≡ p → y.port ≡ p → fired_event x ≡ fired_event y
      at_port p a b =
          one_event (AtPort t p) (fired_event x) (fired_event y) run (few (AtPort t p)) x.among y.among
          (ap (AtPort t) a) (ap (AtPort t) b)

      -- the other firing would be by the token that waited
      by_waiting : (u : Value) → Waited run t (other_port x.port) u → y.port ≡ other_port x.port
          → fired_event x ≡ fired_event y
      by_waiting u w b =
          let q = other_port x.port in
          let same : Took w.element t q u Waits ≡ fired_event y =
          one_event (AtPort t q) (Took w.element t q u Waits) (fired_event y) run (few (AtPort t q))
          w.among y.among refl (ap (AtPort t) b) in
          cc

      by : Met run t x.port x.value (two_ports (z.instr).op) x.operands → fired_event x ≡ fired_event y
      by (alone one e) =
          at_port Zero (first t x.port x.value z.instr (took x) z.at one)
          (first t y.port y.value z.instr (took y) z.at one)
      by (with_partner u two e w) =
          elim (port_is x.port y.port) [ inl b ↦ at_port x.port refl b | inr b ↦ by_waiting u w b ]

  -- where what was handled has each key at most once, each tag has fired once: so it was before the last message, which
  -- was in flight then
  pub fires_once : (s : World) (run : List Event) → Reach g vs count s run → Few run → FiresOnce run
  fires_once s run begin few = λ t f f' x y. absurd x.among
  fires_once s run (deliver {s = s₀} {run = run₀} k m e r f q) few =
      let n = route_of m.payload count in
      let new = happens g n e m.payload in
      let before = fires_once s₀ run₀ r (λ j. omega (arith, few j, count_cons j (payload_of new) (handled run₀))) in
      once_by s run (deliver k m e r f q)
      (λ t p v i among at one. only.first_port s₀ run₀ r before t p v i (was_moving (Token t p v) among) at one) few
    where
      was_moving : (x : Payload) → Among x (handled (happens g (route_of m.payload count) e m.payload ∷ run₀))
          → Moving s₀ run₀ x
      was_moving x (inl is) =
          inl (subst (λ y. Among y (flying s₀)) (sym is) (was_flying g k s₀ m (route_of m.payload count) e f))
      was_moving x (inr old) = inr old

  -- the message that an event takes, before and after it
  took_one : (k : ℕ) (s : World) (m : Message) (n : ℕ) (e : State) (j : Key) → slice_get s.flight k ≡ Some m
      → hit j (payload_of (happens g n e m.payload)) + count_for j (remove (flying s) k) ≡ count_for j (flying s)
  took_one k s m n e j f =
      ap (λ y. hit j y + count_for j (remove (flying s) k)) (payload_of-happens g n e m.payload)
      ∙ count_remove j m.payload (flying s) k (slice_get-image (λ (y : Message). y.payload) s.flight k m f)

  total : (k : ℕ) (s : World) (run : List Event) (m : Message) (n : ℕ) (e : State) (j : Key)
      → slice_get s.flight k ≡ Some m → let new = happens g n e m.payload in
      count_for j (flying (taken_from g k s m n e)) + count_for j (handled (new ∷ run)) ≡
      count_for j (flying s) + count_for j (handled run) + count_for j (sends_of g new)
  total k s run m n e j f =
      let new = happens g n e m.payload in
      omega (
        arith,
        ap (count_for j) (flying_after g k s m n e),
        count_append j (remove (flying s) k) (sends_of g new),
        took_one k s m n e j f,
        count_cons j (payload_of new) (handled run),
      )

  few_handled : (k : ℕ) (s : World) (run : List Event) (m : Message) (n : ℕ) (e : State) → slice_get s.flight k ≡ Some m
      → AtMostOne s run → Few (happens g n e m.payload ∷ run)
  few_handled k s run m n e f few j =
      omega (arith, few j, took_one k s m n e j f, count_cons j (payload_of (happens g n e m.payload)) (handled run))

  -- the event is no earlier one: its message would have been handled before
  not_again : (k : ℕ) (s : World) (run : List Event) (m : Message) (n : ℕ) (e : State) → slice_get s.flight k ≡ Some m
      → AtMostOne s run → (old : Event) → Among old run
      → happens g n e m.payload ≡ old → ⊥
  not_again k s run m n e f few old among is =
      let x = payload_of (happens g n e m.payload) in
      omega (
        arith,
        few (key_of x),
        counts (key_of x) x (flying s) (was_flying g k s m n e f) refl,
        counts (key_of x) (payload_of old) (handled run) (Among-map payload_of old run among)
            (ap (λ y. key_of (payload_of y)) (sym is)),
      )

  -- what an event sends has the key of nothing that was there
  no_second : (k : ℕ) (s : World) (run : List Event) (m : Message) (e : State) → Reach g vs count s run
      → slice_get s.flight k ≡ Some m → slice_get s.elements (route_of m.payload count) ≡ Some e → AtMostOne s run
      → (x y : Payload) → Among x (sends_of g (happens g (route_of m.payload count) e m.payload)) → Moving s run y
      → key_of x ≡ key_of y → ⊥
  no_second k s run m e r f q few x y out moved is =
      let n = route_of m.payload count in
      let new = happens g n e m.payload in
      let s' = taken_from g k s m n e in
      let r' : Reach g vs count s' (new ∷ run) = deliver k m e r f q in
      let now = few_handled k s run m n e f few in
      let once = fires_once s' (new ∷ run) r' now in
      elim (origin g vs count s run r y moved) [
        | inl start ↦ only.not_at_start s' (new ∷ run) r' now once new (inl refl) x y out start is
        | inr by ↦ not_again k s run m n e f few by.event by.among
            (only.one_sender s' (new ∷ run) r' now once new by.event (inl refl) (inr by.among) x y out by.sends is)
      ]

  one_more : (k : ℕ) (s : World) (run : List Event) (m : Message) (e : State) → Reach g vs count s run
      → slice_get s.flight k ≡ Some m → slice_get s.elements (route_of m.payload count) ≡ Some e → AtMostOne s run
      → (j : Key) (c : ℕ) → let n = route_of m.payload count in
      let new = happens g n e m.payload in
      count_for j (sends_of g new) ≡ c
      → count_for j (flying (taken_from g k s m n e)) + count_for j (handled (new ∷ run)) ≤ 1
  one_more k s run m e r f q few j zero is = omega (arith, total k s run m (route_of m.payload count) e j f, few j)
  one_more k s run m e r f q few j (suc c) is =
      let n = route_of m.payload count in
      let new = happens g n e m.payload in
      let s' = taken_from g k s m n e in
      let r' : Reach g vs count s' (new ∷ run) = deliver k m e r f q in
      let now = few_handled k s run m n e f few in
      let out = counted j (sends_of g new) (omega arith) in
      let none_before : count_for j (flying s) + count_for j (handled run) ≡ 0 =
      none (count_for j (flying s)) (count_for j (handled run))
      (λ h. let b = counted j (flying s) h in
      no_second k s run m e r f q few out.0 b.0 out.1 (inl b.1) (out.2 ∙ sym b.2))
      (λ h. let b = counted j (handled run) h in
      no_second k s run m e r f q few out.0 b.0 out.1 (inr b.1) (out.2 ∙ sym b.2)) in
      omega (
        arith,
        total k s run m n e j f,
        only.sends_once s' (new ∷ run) r' now (fires_once s' (new ∷ run) r' now) new (inl refl) j,
      )

  -- at most one message has a key
  pub at_most_one : (s : World) (run : List Event) → Reach g vs count s run → AtMostOne s run
  at_most_one s run begin j = omega (arith, only.starts_once j, count_none j)
  at_most_one s run (deliver {s = s₀} {run = run₀} k m e r f q) j =
      one_more k s₀ run₀ m e r f q (at_most_one s₀ run₀ r) j
      (count_for j (sends_of g (happens g (route_of m.payload count) e m.payload))) refl

  pub few : (s : World) (run : List Event) → Reach g vs count s run → Few run
  few s run r j = omega (arith, at_most_one s run r j)

  -- so a tag fires once
  pub fired_once : (s : World) (run : List Event) → Reach g vs count s run → FiresOnce run
  fired_once s run r = fires_once s run r (few s run r)
