-- The list of messages in flight, as its messages.
use Rattle.std.specs.Prelude.{◌≡◌, ◌≢◌, ◌≤◌, ◌<◌, ℕ, List, Option, Some, option_map, slice_get}
use Rattle.id_tag.specs.declared.Context.{Context}
use Rattle.id_tag.specs.declared.Message.{Message}
use Rattle.id_tag.specs.declared.Payload.{Payload}
use Rattle.id_tag.specs.declared.Payload.TheVariants.{Token, Read, Write}
use Rattle.id_tag.specs.declared.Tag.{Tag}

-- the messages, in order, and for how many more there is room
pub record QueueView : Type 0 where
  pub messages : List Message
  pub room : ℕ

-- the tag that a message comes from or goes to: a token's own, that of a read's reply, or that of a write's store
abbrev pub home : Payload → Tag
home (Token t q v) = t
home (Read c t) = t
home (Write c v t) = t

-- the context of a message: that of this tag
abbrev pub context_of : Message → Context
context_of m = (home m.payload).context

-- the context of the message at this position, if there is one
abbrev pub context_at : List Message → ℕ → Option Context
context_at ms k = option_map context_of (slice_get ms k)

-- no message from this position on, and before that one, is of this context
abbrev pub AreOthers : List Message → ℕ → ℕ → Option Context → Type 0
AreOthers ms from to c = (j : ℕ) → from ≤ j → j < to → context_at ms j ≢ c

-- from this position on, the first message of this context is at that one
pub record IsFirstOf (c : Context) (ms : List Message) (from k : ℕ) : Type 0 where
  pub far : from ≤ k
  pub is : context_at ms k ≡ Some c
  pub before : AreOthers ms from k (Some c)
