-- Lemmas on specs/Replays.antt: a record goes on by one message.
use Rattle.std.proofs.Common.{◌≡◌, ℕ, List, [], ◌∷◌, ◌++◌, refl, sym, ap, subst, ◌∙◌, arith}
use Rattle.std.proofs.lemmas.List.{map_push}
use Rattle.std.specs.Prelude.{All, ◌<◌, ◌≤◌, ◌-◌, ◌^◌, Option, None, Some}
use Rattle.std.specs.FinMap.{empty}
use Rattle.std.proofs.lemmas.List.Elements.{All-nil, All-push}
use Rattle.id_instr.specs.declared.dests.Port.{Port}
use Rattle.id_tag.specs.declared.Tag.{Tag}
use Rattle.id_tag.specs.declared.Value.{Value}
use Rattle.id_tag.specs.declared.Message.{Message}
use Rattle.id_match.specs.Waiting.{waits}
use Rattle.id_match.proofs.KeyedLemmas.{waits-empty}
use Rattle.id_record.specs.declared.step.Step.{Step}
use Rattle.id_step.specs.Fits.{IsFor}
use Rattle.id_step.proofs.OutcomeLemmas.{CellsFit-empty, CellsFit-take, WaitingFits-take, counted-take, numbered-take}
use Rattle.id_instr.specs.Graph.{Parts}
use Rattle.id_step.specs.Steps.{State, fresh, state_after, event_of}
use Rattle.id_step.specs.Takes.{Becomes, Takes}
use Rattle.id_step.specs.Replays.{after_all, messages, IsReplayed, IsLegal, CellsFit, WaitingFits, ElementView, Replays}

-- one more message is one more step
after_all-push : (g : Parts) (n : ℕ) (s : State) (ms : List Message) (m : Message)
    → after_all g n s (ms ++ m ∷ []) ≡ state_after g n (after_all g n s ms) m
after_all-push g n s [] m = refl
after_all-push g n s (x ∷ ms) m = after_all-push g n (state_after g n s x) ms m

-- a replayed state is replayed after one more message
pub IsReplayed-take : (g : Parts) (n : ℕ) (s : State) (m : Message) → IsReplayed g n s
    → IsReplayed g n (state_after g n s m)
IsReplayed-take g n s m replayed =
    ap (λ x. state_after g n x m) replayed
    ∙ sym (after_all-push g n fresh (messages s.events) m)
    ∙ ap (after_all g n fresh) (sym (map_push (λ e. e.message) s.events (event_of g n s m)))

-- an element that has handled nothing replays
pub Replays-fresh : (e : ElementView) → e.state ≡ fresh → Replays e
Replays-fresh e is = record {
  state = let P : State → Type 0 = λ s. IsReplayed e.graph e.number s in subst P (sym is) refl;
  legal = let P : State → Type 0 =
      λ s. All (IsLegal e.graph e.count e.number) s.events in
      subst P (sym is) (All-nil (IsLegal e.graph e.count e.number));
  waiting =
      let P : State → Type 0 =
      λ s. WaitingFits e.graph s in subst P (sym is) (λ t p v waits. absurd (none t p v waits));
  cells = let P : State → Type 0 = λ s. CellsFit e.graph s in subst P (sym is) (CellsFit-empty e.graph 0);
  counted = let P : State → Type 0 = λ s. s.contexts ≤ s.stamp in subst P (sym is) (omega arith);
  numbered = let P : State → Type 0 = λ s. s.structures ≤ s.stamp in subst P (sym is) (omega arith);
} where
  none : (t : Tag) (p : Port) (v : Value) → waits empty t p ≡ Some v → ⊥
  none t p v waits = let nothing = waits-empty t p in cc

-- an element that replays does so after one more message
pub Replays-take : (e : ElementView) (m : Message) → IsFor e.graph e.count e.number m → m.stamp < 2 ^ 64 - 1
    → e.state.stamp < 2 ^ 64 - 1 → Replays e →
    Replays (record e { state = state_after e.graph e.number e.state m })
Replays-take e m is_for left last replays = record {
  state = IsReplayed-take e.graph e.number e.state m replays.state;
  legal = All-push (IsLegal e.graph e.count e.number) e.state.events (event_of e.graph e.number e.state m) replays.legal
      (record { for_it = is_for; stamp_left = left; stamp = omega (arith, left, last) });
  waiting = WaitingFits-take e.graph e.number e.state m replays.waiting is_for.fits;
  cells = CellsFit-take e.graph e.number e.state m replays.cells is_for.fits;
  counted = counted-take e.graph e.number e.state m replays.counted;
  numbered = numbered-take e.graph e.number e.state m replays.numbered;
}

-- and after one that it has taken
pub Replays-takes : (e e' : ElementView) (m : Message) (rest list : List Message) (s : Step)
    → IsFor e.graph e.count e.number m → Takes e e' m rest list s
    → Replays e → Replays e'
Replays-takes e e' m rest list s is_for takes replays =
    subst Replays (sym takes.element)
    (Replays-take e m is_for (omega (arith, takes.stamp)) (omega (arith, takes.stamp)) replays)

-- whatever became of a message
pub Replays-becomes : (e e' : ElementView) (m : Message) (list rest list' : List Message) (o : Option Step)
    → IsFor e.graph e.count e.number m → Becomes e e' m list rest list' o → Replays e → Replays e'
Replays-becomes e e' m list rest list' (Some s) is_for done replays =
    Replays-takes e e' m rest list' s is_for done replays
Replays-becomes e e' m list rest list' None is_for done replays = subst Replays (sym done.element) replays
