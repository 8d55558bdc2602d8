-- Where messages come from and where they go, in any run.
use Rattle.std.proofs.Common.{◌≡◌, inl, inr, ℕ, ◌+◌, length, Some, List, [], ◌∷◌, ◌++◌, map, slice_get, refl, sym, ◌∙◌}
use Rattle.std.proofs.Common.{ap, subst}
use Rattle.std.proofs.lemmas.List.{map-append}
use Rattle.std.specs.List.{remove}
use Rattle.id_instr.specs.Graph.{Parts}
use Rattle.id_instr.specs.declared.dests.Port.TheVariants.{Zero}
use Rattle.id_tag.specs.declared.Payload.{Payload}
use Rattle.id_tag.specs.declared.Payload.TheVariants.{Token}
use Rattle.id_tag.specs.declared.Value.{Value}
use Rattle.id_bank.specs.declared.cell.ReadAnswer.TheVariants.{Now, Deferred}
use Rattle.id_bank.specs.declared.cell.WriteAnswer.TheVariants.{Readers, Second}
use Rattle.id_tag.specs.declared.Tag.{Tag}
use Rattle.id_tag.specs.declared.Message.{Message}
use Rattle.id_tag.specs.Routes.{route_of}
use Rattle.id_ops.specs.declared.Fired.{Fired}
use Rattle.id_record.specs.Records.{sent_by}
use Rattle.id_core.specs.Steps.{State, next_numbers, numbered, outputs_of, next_stamp, outcome}
use Rattle.id_core.specs.Machines.{World, taken_from}
use Rattle.id_value.specs.declared.Constant.{Constant}
use Rattle.id_value.specs.List.{Among}
use Rattle.id_value.proofs.AmongLemmas.{Among-from_at, Among-from_map, Among-left, Among-right, Among-either}
use Rattle.id_value.proofs.PlacesLemmas.{Among-from_remove, taken-or-left, map-remove, slice_get-image}
use Rattle.id_runs.specs.Events.{Waits, Blocked, Fires, Event, Took, Looked, Wrote, payload_of, sends_of, FiresAs}
use Rattle.id_runs.specs.Events.{fired_event, FiresOnce}
use Rattle.id_runs.specs.Cells.{Replies, at_once, by_fill}
use Rattle.id_runs.specs.Runs.{happens, Reach, begin, deliver, handled, flying, Origin, Moving}
use Rattle.id_runs.proofs.Events.{payload_of-happens, outcome_sends}

abbrev said : Message → Payload
said m = m.payload

numbered_payloads : (n position stamp k : ℕ) (xs : List Payload) → map said (numbered n position stamp k xs) ≡ xs
numbered_payloads n position stamp k [] = refl
numbered_payloads n position stamp k (x ∷ xs) = ap (λ ys. x ∷ ys) (numbered_payloads n position stamp (k + 1) xs)

pub sent_payloads : (g : Parts) (n : ℕ) (e : State) (m : Message)
    → map said (outputs_of g n e m) ≡ sends_of g (happens g n e m.payload)
sent_payloads g n e m =
    numbered_payloads n (length e.events) (next_stamp e m) 0
    (outcome g (next_numbers n e) e.waiting e.cells m.payload).sends ∙ outcome_sends g n e m.payload

-- what is in flight after an event: what is left of before, and what the event sends
pub flying_after : (g : Parts) (k : ℕ) (s : World) (m : Message) (n : ℕ) (e : State)
    → flying (taken_from g k s m n e) ≡ remove (flying s) k ++ sends_of g (happens g n e m.payload)
flying_after g k s m n e =
    map-append said (remove s.flight k) (outputs_of g n e m)
    ∙ (λ i. map-remove said s.flight k i ++ sent_payloads g n e m i)

-- the message that an event takes was in flight
pub was_flying : (g : Parts) (k : ℕ) (s : World) (m : Message) (n : ℕ) (e : State) → slice_get s.flight k ≡ Some m
    → Among (payload_of (happens g n e m.payload)) (flying s)
was_flying g k s m n e f =
    subst (λ y. Among y (flying s)) (sym (payload_of-happens g n e m.payload))
    (Among-from_at m.payload (flying s) k (slice_get-image said s.flight k m f))

sent_later : {g : Parts} (vs : List Constant) {run : List Event} {x : Payload} (e : Event) → Origin g vs run x
    → Origin g vs (e ∷ run) x
sent_later vs e (inl s) = inl s
sent_later vs e (inr s) = inr (record { event = s.event; among = inr s.among; sends = s.sends })

module _ (g : Parts) (vs : List Constant) (count : ℕ) where
  -- what is in flight or was handled was there at the start, or an event sent it
  pub origin : (s : World) (run : List Event) → Reach g vs count s run → (x : Payload) → Moving s run x
      → Origin g vs run x
  origin s run begin x (inl h) = inl h
  origin s run begin x (inr h) = absurd h
  origin s run (deliver {s = s₀} {run = run₀} k m e r f q) x (inl h) =
      let new = happens g (route_of m.payload count) e m.payload in
      elim (Among-either x (remove (flying s₀) k) (sends_of g new)
      (subst (Among x) (flying_after g k s₀ m (route_of m.payload count) e) h)) [
        | inl old ↦ sent_later vs new (origin s₀ run₀ r x (inl (Among-from_remove x (flying s₀) k old)))
        | inr out ↦ inr (record { event = new; among = inl refl; sends = out })
      ]
  origin s run (deliver {s = s₀} {run = run₀} k m e r f q) x (inr (inl is)) =
      let n = route_of m.payload count in
      sent_later vs (happens g n e m.payload)
      (origin s₀ run₀ r x (inl (subst (λ y. Among y (flying s₀)) (sym is) (was_flying g k s₀ m n e f))))
  origin s run (deliver {s = s₀} {run = run₀} k m e r f q) x (inr (inr old)) =
      sent_later vs _ (origin s₀ run₀ r x (inr old))

  -- what is in flight or was handled stays so
  moves_on : (k : ℕ) (s : World) (run : List Event) (m : Message) (e : State) (x : Payload)
      → slice_get s.flight k ≡ Some m → Moving s run x → let n =
      route_of m.payload count in Moving (taken_from g k s m n e) (happens g n e m.payload ∷ run) x
  moves_on k s run m e x f (inl h) =
      let n = route_of m.payload count in
      elim (taken-or-left x m.payload (flying s) k (slice_get-image said s.flight k m f) h) [
        | inl is ↦ inr (inl (is ∙ sym (payload_of-happens g n e m.payload)))
        | inr left ↦ inl (subst (Among x) (sym (flying_after g k s m n e)) (Among-left x _ _ left))
      ]
  moves_on k s run m e x f (inr h) = inr (inr h)

  -- what was there at the start or was sent is in flight or was handled
  pub moving : (s : World) (run : List Event) → Reach g vs count s run → (x : Payload) → Origin g vs run x
      → Moving s run x
  moving s run begin x (inl h) = inl h
  moving s run begin x (inr h) = absurd h.among
  moving s run (deliver {s = s₀} {run = run₀} k m e r f q) x (inl h) =
      moves_on k s₀ run₀ m e x f (moving s₀ run₀ r x (inl h))
  moving s run (deliver {s = s₀} {run = run₀} k m e r f q) x (inr h) =
      elim h.among [
        | inl new ↦ inl (subst (Among x) (sym (flying_after g k s₀ m (route_of m.payload count) e))
            (Among-right x (remove (flying s₀) k) _ (subst (λ y. Among x (sends_of g y)) new h.sends)))
        | inr old ↦ moves_on k s₀ run₀ m e x f
            (moving s₀ run₀ r x (inr (record { event = h.event; among = old; sends = h.sends })))
      ]

  -- where nothing is in flight, what was there at the start or was sent was handled
  pub arrived : (s : World) (run : List Event) → Reach g vs count s run → s.flight ≡ [] → (x : Payload)
      → Origin g vs run x → Among x (handled run)
  arrived s run r quiet x from =
      elim (moving s run r x from) [
        | inl flies ↦ absurd (subst (λ ms. Among x (map said ms)) quiet flies)
        | inr done ↦ done
      ]

-- how an event sends the message: it has fired, or it answers a read
pub data SentFrom (g : Parts) (run : List Event) (e : Event) (x : Payload) : Type 0 where
  by_firing : (t : Tag) (f : Fired) (y : FiresAs run t f) → fired_event y ≡ e → Among x (sent_by g t f)
      → SentFrom g run e x
  by_answer : (t : Tag) (v : Value) → x ≡ Token t Zero v → Replies run t v e → SentFrom g run e x

pub sent_from : (g : Parts) (run : List Event) (e : Event) → Among e run → (x : Payload) → Among x (sends_of g e)
    → SentFrom g run e x
sent_from g run (Took n t p v Waits) among x out = absurd out
sent_from g run (Took n t p v Blocked) among x out = absurd out
sent_from g run (Took n t p v (Fires ops f)) among x out =
    by_firing t f (record { element = n; port = p; value = v; operands = ops; among = among }) refl out
sent_from g run (Looked n c t (Now v)) among x (inl is) = by_answer t v is (at_once n c among)
sent_from g run (Looked n c t (Now v)) among x (inr none) = absurd none
sent_from g run (Looked n c t Deferred) among x out = absurd out
sent_from g run (Wrote n c v w (Readers ts)) among x out =
    let t = Among-from_map (λ u. Token u Zero v) x ts out in
    by_answer t.0 v t.2 (by_fill n c w ts among t.1)
sent_from g run (Wrote n c v w (Second u)) among x out = absurd out

-- two firings under equal tags are one event
pub one_firing : {run : List Event} {t t' : Tag} {f f' : Fired} → FiresOnce run → t ≡ t'
    → (x : FiresAs run t f) (y : FiresAs run t' f') → fired_event x ≡ fired_event y
one_firing {run} {t} {t'} {f} {f'} once e x =
    subst (λ u. (y : FiresAs run u f') → fired_event x ≡ fired_event y) e (λ y. once t f f' x y)
