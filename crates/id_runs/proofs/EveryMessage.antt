-- What holds of the messages at the start, and of what each event sends where it holds of what was handled, holds of
-- every message of a run.
use Rattle.std.proofs.Common.{inl, inr, ℕ, List, ◌∷◌, refl, sym, subst}
use Rattle.std.specs.List.{remove}
use Rattle.id_instr.specs.Graph.{Parts}
use Rattle.id_tag.specs.declared.Payload.{Payload}
use Rattle.id_tag.specs.Routes.{route_of}
use Rattle.id_core.specs.Machines.{World}
use Rattle.id_value.specs.declared.Constant.{Constant}
use Rattle.id_value.specs.List.{Among}
use Rattle.id_value.proofs.AmongLemmas.{Among-either}
use Rattle.id_value.proofs.PlacesLemmas.{Among-from_remove}
use Rattle.id_runs.specs.Events.{Event, sends_of}
use Rattle.id_runs.specs.Runs.{happens, Reach, begin, deliver, handled, flying, starting, Moving}
use Rattle.id_runs.proofs.Messages.{flying_after, was_flying}

-- each event of a run sends what Q holds of, where Q holds of what was handled up to then; `happened` is what is known
-- of the events of the finished run
abbrev pub Passes : Parts → List Constant → ℕ → (Event → Type 0) → (Payload → Type 0) → Type 0
Passes g vs count happened Q =
    (s : World) (run : List Event) → Reach g vs count s run → (e : Event) → Among e run
    → ((h : Event) → Among h run → happened h)
    → ((x : Payload) → Among x (handled run) → Q x) → (x : Payload) → Among x (sends_of g e) → Q x

module _ (g : Parts) (vs : List Constant) (count : ℕ) (happened : Event → Type 0) (Q : Payload → Type 0)
    (starts : (x : Payload) → Among x (starting g vs) → Q x) (passes : Passes g vs count happened Q) where
  -- Q holds of what is in flight and of what was handled
  pub every_message : (s : World) (run : List Event) → Reach g vs count s run → ((e : Event) → Among e run → happened e)
      → (x : Payload) → Moving s run x → Q x
  every_message s run begin known x (inl h) = starts x h
  every_message s run begin known x (inr h) = absurd h
  every_message s run (deliver {s = s₀} {run = run₀} k m e r f q) known x moved =
      let n = route_of m.payload count in
      let new = happens g n e m.payload in
      let before = λ (y : Payload) (z : Moving s₀ run₀ y). every_message s₀ run₀ r (λ h a. known h (inr a)) y z in
      let now : (y : Payload) → Among y (handled (new ∷ run₀)) → Q y = λ y z. elim z [
        | inl is ↦ before y (inl (subst (λ u. Among u (flying s₀)) (sym is) (was_flying g k s₀ m n e f)))
        | inr old ↦ before y (inr old)
      ] in
      elim moved [
        | inl flies ↦ elim
            (Among-either x (remove (flying s₀) k) (sends_of g new)
            (subst (Among x) (flying_after g k s₀ m n e) flies)) [
              | inl left ↦ before x (inl (Among-from_remove x (flying s₀) k left))
              | inr out ↦ passes _ (new ∷ run₀) (deliver k m e r f q) new (inl refl) known now x out
            ]
        | inr done ↦ now x done
      ]
