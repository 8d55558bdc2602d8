-- Whatever a message tells, its activation is live.
use Rattle.std.proofs.Common.{◌≡◌, ℕ, List, sym, ap, subst}
use Rattle.id_table.specs.declared.row.Region.{Region}
use Rattle.id_tag.specs.declared.Context.{Context}
use Rattle.id_tag.specs.declared.Value.{Value}
use Rattle.id_tag.specs.declared.Payload.{Payload}
use Rattle.id_tag.specs.declared.Payload.TheVariants.{Token, Read, Write}
use Rattle.id_source.specs.Sources.{Source}
use Rattle.id_runs.specs.Activations.{Activation, activation_of, at_iteration}
use Rattle.id_runs.specs.Events.{Event}
use Rattle.id_runs.specs.Keys.{Key, AtPort, ByFetch, ByStore, key_of}
use Rattle.id_laws.specs.Activations.{Live, at_start, on_side, entered, again, ReturnsTo, to_answer, to_row}
use Rattle.id_laws.specs.Topics.{Topic, Turned, ValueOf, NameIn, TestOf, ResultOf, WayBack, ContextOf, CellOf, Nothing}
use Rattle.id_laws.specs.Topics.{SaidOf, BoundIn, IndexOf, FlagOf, SaidIndex, FirstIndex, FirstFlag, SaidFirst}
use Rattle.id_laws.specs.Topics.{NextIndex, NextFlag, SaidNext, LastIndex}
use Rattle.id_laws.specs.Topics.{AndOne, GoesFurther}
use Rattle.id_laws.specs.Topics.{Tells, Told, topic_at}
use Rattle.id_laws.proofs.Rows.Tokens.{token_is}

-- the activation under which messages with this key move
abbrev pub under : Key → Activation
under (AtPort t p) = activation_of t
under (ByFetch t) = activation_of t
under (ByStore t) = activation_of t

module _ (S : Source) (number : ℕ → ℕ → ℕ) (run : List Event) where
  -- some region is live under the activation
  abbrev pub IsLive : Activation → Type 0
  IsLive a = (r : Region) × Live S number run a r

  -- a context that is live is so at its first iteration
  first_live : {a : Activation} {r : Region} → Live S number run a r → IsLive (at_iteration a.context 0)
  first_live at_start = (_, at_start)
  first_live (on_side within tests live says goes) = first_live live
  first_live (entered within begins live opened) = (_, entered within begins live opened)
  first_live (again within is live says goes) = first_live live

  -- and so is one whose block returns somewhere
  return_live : {c : Context} {h : ℕ} {a : Activation} {n : ℕ} → ReturnsTo S number run c h a n
      → IsLive (at_iteration c 0)
  return_live to_answer = (_, at_start)
  return_live (to_row within begins live opened) = (_, entered within begins live opened)

  moved_live : (a : Activation) → a.iteration ≡ 0 → IsLive (at_iteration a.context 0) → IsLive a
  moved_live a first live = subst (λ k. IsLive (at_iteration a.context k)) (sym first) live

  topic_live : (a : Activation) (t : Topic) (v : Value) → Tells S number run a t v → IsLive a
  topic_live a (Turned r) v told = (r, told.1)
  topic_live a (ValueOf e) v told = (_, told.0)
  topic_live a (NameIn r b) v told = (r, told.0)
  topic_live a (TestOf n) v told = (_, told.live)
  topic_live a (ResultOf h) v told = moved_live a told.at_first (first_live told.live)
  topic_live a (WayBack h) v told = moved_live a told.at_first (return_live told.returns)
  topic_live a (ContextOf n) v told = (_, told.live)
  topic_live a (CellOf n) v told = (_, told.live)
  topic_live a (SaidOf e) v told = (_, told.0)
  topic_live a (BoundIn r h) v told = (r, told.0)
  topic_live a (IndexOf h) v told = (_, told.live)
  topic_live a (FlagOf h) v told = (_, told.live)
  topic_live a (SaidIndex h) v told = (_, told.0)
  topic_live a (FirstIndex h) v told = (_, told.0)
  topic_live a (FirstFlag h) v told = (_, told.0)
  topic_live a (SaidFirst h) v told = (_, told.0)
  topic_live a (NextIndex h) v told = (_, (told.0).live)
  topic_live a (NextFlag h) v told = (_, told.live)
  topic_live a (SaidNext h) v told = (_, (told.0).live)
  topic_live a (LastIndex h) v told = (_, (told.counts).live)
  topic_live a (AndOne h) v told = (_, (told.1).live)
  topic_live a (GoesFurther h) v told = (_, (told.1).live)
  topic_live a Nothing v told = absurd told

  -- the activation of a message that tells what its port wants, asks or puts is live
  pub told_live : (x : Payload) → Told S number run x → IsLive (under (key_of x))
  told_live (Token t p v) told =
      subst IsLive (sym (ap activation_of (token_is told.is).0))
      (topic_live told.activation (topic_at S.checked told.row told.part told.port) told.value told.tells)
  told_live (Read c t) told = subst IsLive (sym (ap activation_of told.is)) (_, told.live)
  told_live (Write c v w) told = subst IsLive (sym (ap activation_of told.is)) (_, told.live)
