-- What starts a block: a signal for its first instruction, and the way back for its second.
use Rattle.std.proofs.Common.{◌≡◌, inl, inr, ℕ, ◌+◌, Option, Some, None, true, map, refl, sym, subst}
use Rattle.id_value.specs.List.{Among}
use Rattle.id_value.proofs.AmongLemmas.{Among-right}
use Rattle.id_instr.specs.declared.dests.Port.TheVariants.{Zero}
use Rattle.id_instr.specs.declared.instr.Op.{Op}
use Rattle.id_instr.specs.declared.instr.Op.TheVariants as op
use Rattle.id_instr.specs.Graph.{Parts}
use Rattle.id_valid.specs.Roles.{op_at}
use Rattle.id_tag.specs.declared.Context.{Context}
use Rattle.id_tag.specs.declared.Tag.{Tag}
use Rattle.id_tag.specs.declared.Value.TheVariants as value
use Rattle.id_tag.specs.declared.Payload.{Payload}
use Rattle.id_tag.specs.declared.Payload.TheVariants.{Token}
use Rattle.id_ops.specs.declared.Fired.TheVariants as fires
use Rattle.id_ops.specs.Operators.{tag_within}
use Rattle.id_record.specs.Records.{dests_at, sent_by}
use Rattle.id_record.specs.Sends.{beside, started, token_to}

-- the message is one of the two that an `enter` starts its block with
pub data Starts (o : Option Op) (t : Tag) (c : Context) (x : Payload) : Type 0 where
  first : (b r : ℕ) → o ≡ Some (op.Enter b r) → x ≡ Token (tag_within c b) Zero value.Signal → Starts o t c x
  second : (b r : ℕ) → o ≡ Some (op.Enter b r) → x ≡ Token (tag_within c (b + 1)) Zero (value.Continuation (beside t r))
      → Starts o t c x

pub starts_as : (t : Tag) (c : Context) (x : Payload) (o : Option Op) → Among x (started o t c) → Starts o t c x
starts_as t c x (Some (op.Enter b r)) (inl e) = first b r refl e
starts_as t c x (Some (op.Enter b r)) (inr (inl e)) = second b r refl e
starts_as t c x (Some (op.Enter b r)) (inr (inr h)) = absurd h
starts_as t c x None h = absurd h
starts_as t c x (Some (op.Const k)) h = absurd h
starts_as t c x (Some (op.Unary k)) h = absurd h
starts_as t c x (Some (op.Binary k)) h = absurd h
starts_as t c x (Some (op.Merge k)) h = absurd h
starts_as t c x (Some (op.Switch k)) h = absurd h
starts_as t c x (Some (op.Back k)) h = absurd h
starts_as t c x (Some (op.Send k n)) h = absurd h
starts_as t c x (Some (op.Next k)) h = absurd h
starts_as t c x (Some (op.Reset k)) h = absurd h
starts_as t c x (Some (op.Alloc nested)) h = absurd h
starts_as t c x (Some (op.Address nested)) h = absurd h
starts_as t c x (Some (op.Fetch nested r)) h = absurd h
starts_as t c x (Some (op.Store nested)) h = absurd h

-- both are sent
pub first_sent : (g : Parts) (t : Tag) (c : Context) (b r : ℕ) → op_at g t.instr ≡ Some (op.Enter b r)
    → Among (Token (tag_within c b) Zero value.Signal) (sent_by g t (fires.Entered c))
first_sent g t c b r is =
    let x = Token (tag_within c b) Zero value.Signal in
    Among-right x (map (token_to t (value.Context c)) (dests_at g t.instr true)) (started (op_at g t.instr) t c)
    (subst (λ o. Among x (started o t c)) (sym is) (inl refl))

pub second_sent : (g : Parts) (t : Tag) (c : Context) (b r : ℕ) → op_at g t.instr ≡ Some (op.Enter b r)
    → Among (Token (tag_within c (b + 1)) Zero (value.Continuation (beside t r))) (sent_by g t (fires.Entered c))
second_sent g t c b r is =
    let x = Token (tag_within c (b + 1)) Zero (value.Continuation (beside t r)) in
    Among-right x (map (token_to t (value.Context c)) (dests_at g t.instr true)) (started (op_at g t.instr) t c)
    (subst (λ o. Among x (started o t c)) (sym is) (inr (inl refl)))
