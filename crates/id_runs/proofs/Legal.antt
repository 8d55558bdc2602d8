-- Runs by positions and legal lists of events give each other (specs/Legal.antt).
use Rattle.std.proofs.Common.{◌≡◌, ℕ, zero, suc, Bool, true, false, cond, Option, Some, None, List, [], ◌∷◌, ◌++◌}
use Rattle.std.proofs.Common.{slice_get, slice_set, refl, sym, ap, ◌∙◌, subst}
use Rattle.std.specs.List.{cons_option, remove}
use Rattle.id_instr.specs.Graph.{Parts}
use Rattle.id_tag.specs.declared.Message.{Message}
use Rattle.id_tag.specs.Routes.{route_of}
use Rattle.id_core.specs.Events.{EventView}
use Rattle.id_core.specs.Steps.{State, event_of, is_ended, outputs_of, state_after}
use Rattle.id_core.specs.Machines.{World, delivered, event_at, event_of_given, event_of_routed, given_to, routed_to}
use Rattle.id_core.specs.Machines.{run, start, taken_from}
use Rattle.id_runs.specs.Legal.{CanFollow, InSomeOrder, none, keep, swap, next, IsSameBut, LeadTo, no_more, follow}
use Rattle.id_runs.specs.Legal.{LegalLists, after_event, happened}

-- ---- lists in some order

module _ {A : Type 0} where
  same_order : (xs : List A) → InSomeOrder xs xs
  same_order [] = none
  same_order (x ∷ xs) = keep x (same_order xs)

  turned : {xs ys : List A} → InSomeOrder xs ys → InSomeOrder ys xs
  turned none = none
  turned (keep x h) = keep x (turned h)
  turned (swap x y) = swap y x
  turned (next h k) = next (turned k) (turned h)

  with_more : {xs ys : List A} (zs : List A) → InSomeOrder xs ys → InSomeOrder (xs ++ zs) (ys ++ zs)
  with_more zs none = same_order zs
  with_more zs (keep x h) = keep x (with_more zs h)
  with_more zs (swap x y) = swap x y
  with_more zs (next h k) = next (with_more zs h) (with_more zs k)

  -- the item at a place comes to the front
  to_front : (xs : List A) (k : ℕ) (x : A) → slice_get xs k ≡ Some x → InSomeOrder xs (x ∷ remove xs k)
  to_front [] k x h = absurd cc
  to_front (y ∷ xs) zero x h =
      let is : y ≡ x = cc in subst (λ z. InSomeOrder (y ∷ xs) (z ∷ xs)) is (same_order (y ∷ xs))
  to_front (y ∷ xs) (suc k) x h = next (keep y (to_front xs k x h)) (swap y x)

  -- where an item stands in the other list, and what is left of both without it
  record Place (xs ys : List A) (k : ℕ) (x : A) : Type 0 where
    to : ℕ
    there : slice_get ys to ≡ Some x
    rest : InSomeOrder (remove xs k) (remove ys to)

  place_of : {xs ys : List A} → InSomeOrder xs ys → (k : ℕ) (x : A) → slice_get xs k ≡ Some x → Place xs ys k x
  place_of none k x h = absurd cc
  place_of (keep y p) zero x h = record { to = 0; there = h; rest = p }
  place_of (keep y p) (suc k) x h =
      let q = place_of p k x h in record { to = suc q.to; there = q.there; rest = keep y q.rest }
  place_of (swap {xs} y z) zero x h = record { to = 1; there = h; rest = same_order (z ∷ xs) }
  place_of (swap {xs} y z) (suc zero) x h = record { to = 0; there = h; rest = same_order (y ∷ xs) }
  place_of (swap {xs} y z) (suc (suc k)) x h = record { to = suc (suc k); there = h; rest = swap y z }
  place_of (next p q) k x h =
      let a = place_of p k x h in
      let b = place_of q a.to x a.there in
      record { to = b.to; there = b.there; rest = next a.rest b.rest }

module _ (g : Parts) (count : ℕ) where
  -- ---- the events of a run are a legal list

  abbrev Follows : List ℕ → Type 0
  Follows ks = (w : World) → LeadTo g count w (happened g count ks w) (run g count ks w)

  given : (ks : List ℕ) → Follows ks → (k : ℕ) (w : World) (m : Message) (o : Option State)
      → slice_get w.flight k ≡ Some m → slice_get w.elements (route_of m.payload count) ≡ o
      → LeadTo g count w
      (cons_option (event_of_given g (route_of m.payload count) m o)
      (happened g count ks (given_to g k w m (route_of m.payload count) o)))
      (run g count ks (given_to g k w m (route_of m.payload count) o))
  given ks more k w m None at is = more w
  given ks more k w m (Some e) at is = go (is_ended e m) refl
    where
      go : (ended : Bool) → is_ended e m ≡ ended
          → LeadTo g count w (cons_option (cond ended None (Some (event_of g (route_of m.payload count) e m)))
          (happened g count ks (cond ended w (taken_from g k w m (route_of m.payload count) e))))
          (run g count ks (cond ended w (taken_from g k w m (route_of m.payload count) e)))
      go true h = more w
      go false h =
          let f : CanFollow g count w (event_of g (route_of m.payload count) e m) =
          record {
            others = remove w.flight k;
            flying = to_front w.flight k m at;
            state = e;
            element = is;
            left = h;
            made = refl;
          } in
          follow f (more (taken_from g k w m (route_of m.payload count) e))

  routed : (ks : List ℕ) → Follows ks → (k : ℕ) (w : World) (o : Option Message) → slice_get w.flight k ≡ o
      → LeadTo g count w (cons_option (event_of_routed g count w o) (happened g count ks (routed_to g count k w o)))
      (run g count ks (routed_to g count k w o))
  routed ks more k w None at = more w
  routed ks more k w (Some m) at = given ks more k w m (slice_get w.elements (route_of m.payload count)) at refl

  happened_lead : (ks : List ℕ) → Follows ks
  happened_lead [] w = no_more
  happened_lead (k ∷ ks) w = routed ks (happened_lead ks) k w (slice_get w.flight k) refl

  -- ---- a legal list is that of a run

  record IsRunFrom (w x : World) (es : List EventView) : Type 0 where
    positions : List ℕ
    events : happened g count positions w ≡ es
    end : IsSameBut (run g count positions w) x

  -- delivering the message of an event that can follow makes the event
  module _ (w x : World) (v : EventView) (same : IsSameBut w x) (f : CanFollow g count x v) (k : ℕ)
      (at : slice_get w.flight k ≡ Some v.message)
      (rest : InSomeOrder f.others (remove w.flight k)) where
    abbrev n : ℕ
    n = route_of v.message.payload count

    element : slice_get w.elements n ≡ Some f.state
    element = ap (λ es. slice_get es n) same.elements ∙ f.element

    made : event_at g count w k ≡ Some v
    made = ap (event_of_routed g count w) at ∙ ap (event_of_given g n v.message) element
        ∙ ap (λ b. cond b None (Some (event_of g n f.state v.message))) f.left
        ∙ ap Some f.made

    taken : delivered g count w k ≡ taken_from g k w v.message n f.state
    taken = ap (routed_to g count k w) at ∙ ap (given_to g k w v.message n) element
        ∙ ap (λ b. cond b w (taken_from g k w v.message n f.state)) f.left

    sent : outputs_of g n f.state v.message ≡ v.outputs
    sent = ap (λ (e : EventView). e.outputs) f.made

    same_after : IsSameBut (delivered g count w k) (after_event g count x v f)
    same_after = subst (λ (y : World). IsSameBut y (after_event g count x v f)) (sym taken) (record {
      elements = ap (λ es. slice_set es n (state_after g n f.state v.message)) same.elements;
      flight = subst (λ (ms : List Message). InSomeOrder (remove w.flight k ++ ms) (f.others ++ v.outputs)) (sym sent)
          (with_more v.outputs (turned rest));
    })

  lead_run : {x y : World} {es : List EventView} → LeadTo g count x es y → (u : World) → IsSameBut u x
      → IsRunFrom u y es
  lead_run no_more u same = record { positions = []; events = refl; end = same }
  lead_run (follow {w} {x} {v} {vs} f l) u same =
      let all : InSomeOrder (v.message ∷ f.others) u.flight = turned (next same.flight f.flying) in
      let p = place_of all 0 v.message refl in
      let r = lead_run l (delivered g count u p.to) (same_after u w v same f p.to p.there p.rest) in
      record {
        positions = p.to ∷ r.positions;
        events = ap (λ o. cons_option o (happened g count r.positions (delivered g count u p.to)))
            (made u w v same f p.to p.there p.rest) ∙
            ap (λ ws. v ∷ ws) r.events;
        end = r.end;
      }

pub legal : LegalLists
legal = record {
  of_runs = λ g vs count ks. happened_lead g count ks (start g vs count);
  are_runs = λ g vs count es l.
      let r = lead_run g count l.lead (start g vs count) (record {
        elements = refl;
        flight =
            same_order (start g vs count).flight;
      }) in
      record { positions = r.positions; events = r.events; end = r.end };
}
