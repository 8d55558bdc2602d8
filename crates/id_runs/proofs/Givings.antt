-- What a firing sends: each value that it gives on a side goes to the destinations on that side, or one goes to a tag.
use Rattle.std.proofs.Common.{◌≡◌, inl, inr, ℕ, Bool, true, List, map, refl, sym, subst, ◌∙◌}
use Rattle.id_instr.specs.declared.dests.Dest.{Dest}
use Rattle.id_instr.specs.declared.dests.Port.TheVariants.{Zero}
use Rattle.id_instr.specs.Graph.{Parts}
use Rattle.id_tag.specs.declared.Tag.{Tag}
use Rattle.id_tag.specs.declared.Context.{Context}
use Rattle.id_tag.specs.declared.Value.{Value}
use Rattle.id_tag.specs.declared.Value.TheVariants as value
use Rattle.id_valid.specs.Roles.{op_at}
use Rattle.id_record.specs.Sends.{started}
use Rattle.id_tag.specs.declared.Payload.{Payload}
use Rattle.id_tag.specs.declared.Payload.TheVariants.{Token, Read, Write}
use Rattle.id_tag.specs.declared.Cell.{Cell}
use Rattle.id_ops.specs.declared.Fired.{Fired}
use Rattle.id_ops.specs.declared.Fired.TheVariants as fires
use Rattle.id_record.specs.Records.{dests_at, sent_by}
use Rattle.id_core.specs.Steps.{moved_to, token_to}
use Rattle.id_value.specs.List.{Among}
use Rattle.id_value.proofs.AmongLemmas.{Among-either, Among-left, Among-map, Among-from_map, Among-one}
use Rattle.id_runs.specs.Events.{Event, FiresAs, fired_event, FiresOnce, GivesOn}

-- how a firing under the tag sends the message: along an arc from the side on which it gives the value, along an arc at
-- the iteration to which it moves the value, to a tag, to start the block that it enters, or to a cell as a read or a
-- write
pub data SentAs (g : Parts) (t : Tag) (f : Fired) (x : Payload) : Type 0 where
  along : (b : Bool) (v : Value) (d : Dest) → GivesOn f b v → Among d (dests_at g t.instr b) → x ≡ token_to t v d
      → SentAs g t f x
  moving : (i : ℕ) (v : Value) (d : Dest) → f ≡ fires.Moved i v → Among d (dests_at g t.instr true)
      → x ≡ token_to (moved_to t i) v d → SentAs g t f x
  to_tag : (u : Tag) (v : Value) → f ≡ fires.Sent u v → x ≡ Token u Zero v → SentAs g t f x
  to_start : (c : Context) → f ≡ fires.Entered c → Among x (started (op_at g t.instr) t c) → SentAs g t f x
  reading : (c : Cell) (u : Tag) → f ≡ fires.Asked c u → x ≡ Read c u → SentAs g t f x
  writing : (c : Cell) (v : Value) (u : Tag) → f ≡ fires.Stored c v u → x ≡ Write c v u → SentAs g t f x

along_side : (g : Parts) (t : Tag) (f : Fired) (x : Payload) (b : Bool) (v : Value) → GivesOn f b v
    → Among x (map (token_to t v) (dests_at g t.instr b)) → SentAs g t f x
along_side g t f x b v gives h =
    let d = Among-from_map (token_to t v) x (dests_at g t.instr b) h in
    along b v d.0 gives d.1 d.2

-- whatever a firing sends it sends so
pub sent_as : (g : Parts) (t : Tag) (f : Fired) (x : Payload) → Among x (sent_by g t f) → SentAs g t f x
sent_as g t (fires.Out v) x h = along_side g t (fires.Out v) x true v (refl, refl) h
sent_as g t (fires.Side b v) x h = along_side g t (fires.Side b v) x b v (refl, refl) h
sent_as g t (fires.Moved i v) x h =
    let d = Among-from_map (token_to (moved_to t i) v) x (dests_at g t.instr true) h in
    moving i v d.0 refl d.1 d.2
sent_as g t (fires.Entered c) x h =
    elim (Among-either x (map (token_to t (value.Context c)) (dests_at g t.instr true)) (started (op_at g t.instr) t c)
    h) [
      | inl a ↦ along_side g t (fires.Entered c) x true (value.Context c) (refl, refl) a
      | inr a ↦ to_start c refl a
    ]
sent_as g t (fires.Sent u v) x h = to_tag u v refl (Among-one x (Token u Zero v) h)
sent_as g t (fires.Asked c u) x h = reading c u refl (Among-one x (Read c u) h)
sent_as g t (fires.Stored c v u) x h = writing c v u refl (Among-one x (Write c v u) h)
sent_as g t (fires.Failed k) x h = absurd h
sent_as g t fires.Nothing x h = absurd h

to_each : (g : Parts) (t : Tag) (b c : Bool) (v w : Value) (d : Dest) → b ≡ c → v ≡ w → Among d (dests_at g t.instr b)
    → Among (token_to t v d) (map (token_to t w) (dests_at g t.instr c))
to_each g t b c v w d side value h =
    subst (λ z. Among (token_to t z d) (map (token_to t w) (dests_at g t.instr c))) (sym value)
    (Among-map (token_to t w) d (dests_at g t.instr c) (subst (λ z. Among d (dests_at g t.instr z)) side h))

-- a value that a firing gives on a side goes to each destination on it
pub gives_sent : (g : Parts) (t : Tag) (f : Fired) (b : Bool) (v : Value) (d : Dest) → GivesOn f b v
    → Among d (dests_at g t.instr b) → Among (token_to t v d) (sent_by g t f)
gives_sent g t (fires.Out w) b v d gives h = to_each g t b true v w d gives.0 gives.1 h
gives_sent g t (fires.Side c w) b v d gives h = to_each g t b c v w d gives.0 gives.1 h
gives_sent g t (fires.Moved i w) b v d gives h = absurd gives
gives_sent g t (fires.Entered c) b v d gives h =
    Among-left (token_to t v d) (map (token_to t (value.Context c)) (dests_at g t.instr true))
    (started (op_at g t.instr) t c)
    (to_each g t b true v (value.Context c) d gives.0 gives.1 h)
gives_sent g t (fires.Sent u w) b v d gives h = absurd gives
gives_sent g t (fires.Asked c u) b v d gives h = absurd gives
gives_sent g t (fires.Stored c w u) b v d gives h = absurd gives
gives_sent g t (fires.Failed k) b v d gives h = absurd gives
gives_sent g t fires.Nothing b v d gives h = absurd gives

-- a value that moves to an iteration goes to each destination there
pub moved_sent : (g : Parts) (t : Tag) (i : ℕ) (v : Value) (d : Dest) → Among d (dests_at g t.instr true)
    → Among (token_to (moved_to t i) v d) (sent_by g t (fires.Moved i v))
moved_sent g t i v d h = Among-map (token_to (moved_to t i) v) d (dests_at g t.instr true) h

-- a firing gives one value, on one side
pub gives_one : (f : Fired) (b c : Bool) (v w : Value) → GivesOn f b v → GivesOn f c w → (b ≡ c) × (v ≡ w)
gives_one (fires.Out u) b c v w x y = (x.0 ∙ sym y.0, x.1 ∙ sym y.1)
gives_one (fires.Side a u) b c v w x y = (x.0 ∙ sym y.0, x.1 ∙ sym y.1)
gives_one (fires.Moved i u) b c v w x y = absurd x
gives_one (fires.Entered k) b c v w x y = (x.0 ∙ sym y.0, x.1 ∙ sym y.1)
gives_one (fires.Sent t u) b c v w x y = absurd x
gives_one (fires.Asked d u) b c v w x y = absurd x
gives_one (fires.Stored d z u) b c v w x y = absurd x
gives_one (fires.Failed k) b c v w x y = absurd x
gives_one fires.Nothing b c v w x y = absurd x

-- one event fires once
pub same_firing : {run : List Event} {t : Tag} {f f' : Fired} (x : FiresAs run t f) (y : FiresAs run t f')
    → fired_event x ≡ fired_event y → f ≡ f'
same_firing x y e = cc

-- so an instruction gives one value under a tag, on one side
pub gives_once : {run : List Event} {t : Tag} {f f' : Fired} → FiresOnce run → FiresAs run t f → FiresAs run t f'
    → (b c : Bool) (v w : Value) → GivesOn f b v → GivesOn f' c w → (b ≡ c) × (v ≡ w)
gives_once {t = t} {f = f} {f' = f'} once x y b c v w gives gives' =
    let same : f' ≡ f = sym (same_firing x y (once t f f' x y)) in
    gives_one f b c v w gives (subst (λ z. GivesOn z c w) same gives')
