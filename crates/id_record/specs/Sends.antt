-- What a firing sends, and the messages that carry it (docs/MACHINE.md, "Element step").
use Rattle.std.specs.Prelude.{ℕ, ◌+◌, ◌<◌, ◌^◌, Option, Some, List, [], ◌∷◌, ◌++◌, map}
use Rattle.id_instr.specs.declared.instr.Op.{Op}
use Rattle.id_instr.specs.declared.instr.Op.TheVariants.{Enter}
use Rattle.id_instr.specs.declared.dests.Dest.{Dest}
use Rattle.id_instr.specs.declared.dests.Port.TheVariants.{Zero}
use Rattle.id_tag.specs.declared.Context.{Context}
use Rattle.id_tag.specs.declared.Tag.{Tag}
use Rattle.id_tag.specs.declared.Value.{Value}
use Rattle.id_tag.specs.declared.Value.TheVariants as value
use Rattle.id_tag.specs.declared.Sender.TheVariants as sender
use Rattle.id_tag.specs.declared.Payload.{Payload}
use Rattle.id_tag.specs.declared.Payload.TheVariants.{Token, Read, Write}
use Rattle.id_tag.specs.declared.Message.{Message}
use Rattle.id_ops.specs.declared.Fired.{Fired}
use Rattle.id_ops.specs.declared.Fired.TheVariants.{Out, Side, Moved, Entered, Sent, Asked, Stored, Failed}
use Rattle.id_ops.specs.declared.Fired.TheVariants.{Nothing}
use Rattle.id_ops.specs.Operators.{tag_within}

-- a token to this destination, under the context and iteration of the tag
abbrev pub token_to : Tag → Value → Dest → Payload
token_to t v d = Token (record { context = t.context; iteration = t.iteration; instr = d.instr }) d.port v

-- the tag of another instruction, under the same context and iteration
abbrev pub beside : Tag → ℕ → Tag
beside t n = record { context = t.context; iteration = t.iteration; instr = n }

-- the tag of the same instruction in the same context, at this iteration
abbrev pub moved_to : Tag → ℕ → Tag
moved_to t i = record { context = t.context; iteration = i; instr = t.instr }

-- what an `enter` under the tag starts in a context: a signal goes to the block's first instruction, and the tag of the
-- reply to port 0 of the second
abbrev pub started : Option Op → Tag → Context → List Payload
started (Some (Enter b r)) t c =
    Token (tag_within c b) Zero value.Signal ∷ Token (tag_within c (b + 1)) Zero (value.Continuation (beside t r))
    ∷ []
started _ t c = []

-- how many messages that is
abbrev pub count_started : Option Op → ℕ
count_started (Some (Enter b r)) = 2
count_started _ = 0

-- a block that the operator names has a second instruction
abbrev pub HasSecond : Option Op → Type 0
HasSecond (Some (Enter b r)) = b + 1 < 2 ^ 32
HasSecond _ = Unit {0}

-- what a firing of the operator sends, with the destinations on its side: one token to each in order, at the tag's
-- iteration or at the one that it moved to, of an entered block also what starts it, or one token to port 0 of a tag,
-- or a read or a write of a cell
abbrev pub sent : Option Op → List Dest → Tag → Fired → List Payload
sent o ds t (Out v) = map (token_to t v) ds
sent o ds t (Side b v) = map (token_to t v) ds
sent o ds t (Moved i v) = map (token_to (moved_to t i) v) ds
sent o ds t (Entered c) = map (token_to t (value.Context c)) ds ++ started o t c
sent o ds t (Sent u v) = Token u Zero v ∷ []
sent o ds t (Asked c r) = Read c r ∷ []
sent o ds t (Stored c v w) = Write c v w ∷ []
sent o ds t (Failed f) = []
sent o ds t Nothing = []

-- a value for each of these replies, in order: to port 0 of its tag
abbrev pub replies : Value → List Tag → List Payload
replies v ts = map (λ t. Token t Zero v) ts

-- each payload as a message of the element n, from the position in its record, with numbers from k and this stamp
abbrev pub numbered : ℕ → ℕ → ℕ → ℕ → List Payload → List Message
numbered n position stamp k [] = []
numbered n position stamp k (x ∷ xs) =
    record { payload = x; sender = sender.Element n; position = position; output = k; stamp = stamp }
    ∷ numbered n position stamp (k + 1) xs
