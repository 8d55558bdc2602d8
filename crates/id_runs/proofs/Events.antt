-- What comes of a token, by what waits under its tag, and what waits there afterwards.
use Rattle.std.proofs.Common.{◌≡◌, ◌⊎◌, inl, inr, ℕ, Bool, true, false, cond, Option, Some, None, List, [], slice_get}
use Rattle.std.proofs.Common.{refl, sym, ◌∙◌, ap, subst}
use Rattle.std.specs.Option.{option_map, option_map_or}
use Rattle.std.specs.FinMap.{get, get-insert, get-remove}
use Rattle.std.specs.Cmp.{eq_by_cmp_equiv}
use Rattle.std.specs.Ordering.{eq_by_cmp, is_eq}
use Rattle.std.specs.declared.cmp.Ordering.{Ordering}
use Rattle.std.specs.declared.cmp.Ordering.TheVariants.{Less, Equal, Greater}
use Rattle.id_instr.specs.declared.dests.Port.{Port}
use Rattle.id_instr.specs.declared.dests.Port.TheVariants.{Zero, One}
use Rattle.id_instr.specs.declared.instr.Instr.{Instr}
use Rattle.id_value.specs.declared.UnaryOp.TheVariants.{Neg}
use Rattle.id_instr.specs.declared.instr.Op.{Op}
use Rattle.id_instr.specs.declared.instr.Op.TheVariants.{Unary}
use Rattle.id_instr.specs.Ports.{two_ports}
use Rattle.id_instr.specs.Graph.{Parts, arcs_on}
use Rattle.id_tag.specs.declared.Tag.{Tag}
use Rattle.id_tag.specs.declared.Value.{Value}
use Rattle.id_tag.specs.declared.Payload.{Payload}
use Rattle.id_tag.specs.declared.Payload.TheVariants.{Token, Read, Write}
use Rattle.id_tag.specs.declared.Cell.{Cell}
use Rattle.id_tag.specs.Tags.{tag_cmp, same_tag}
use Rattle.id_tag.proofs.TagsLemmas.{tags_total, exact_tags, one_from_same_tag}
use Rattle.id_valid.specs.Roles.{op_at}
use Rattle.id_bank.specs.declared.cell.WriteAnswer.{WriteAnswer}
use Rattle.id_bank.specs.declared.cell.WriteAnswer.TheVariants.{Readers, Second}
use Rattle.id_bank.specs.Cells.{Cells, read_after, write_after}
use Rattle.id_match.specs.declared.meeting.Half.{Half}
use Rattle.id_match.specs.declared.meeting.Offered.{Offered}
use Rattle.id_match.specs.declared.meeting.Offered.TheVariants.{Kept, Pair, Taken}
use Rattle.id_match.specs.Ports.{other_port}
use Rattle.id_match.specs.Waiting.{Store, at_port, answer_of, store_after, offer_answer, offer_after}
use Rattle.id_ops.specs.declared.Fresh.{Fresh}
use Rattle.id_ops.specs.declared.Operands.{Operands}
use Rattle.id_ops.specs.declared.Operands.TheVariants as operands
use Rattle.id_ops.specs.declared.Fired.{Fired}
use Rattle.id_ops.specs.declared.Fired.TheVariants as fires
use Rattle.id_record.specs.declared.step.Step.{Step}
use Rattle.id_record.specs.declared.step.Step.TheVariants.{Stuck, Fault}
use Rattle.id_record.specs.declared.step.Fault.TheVariants.{SecondStore}
use Rattle.id_record.specs.declared.step.Verdict.TheVariants as verdict
use Rattle.id_record.specs.Events.{full_step}
use Rattle.id_step.specs.Steps.{State, Outcome, arrival_of, arrival, waiting_after, fired_step, made_by}
use Rattle.id_step.specs.Steps.{allocated_by, next_numbers, arriving, at_instr, outcome, fill_verdict}
use Rattle.id_runs.specs.Events.{Arrival, Waits, Blocked, Fires, Event, Took, Looked, Wrote, payload_of, sent_on}
use Rattle.id_runs.specs.Events.{sends_of, fired_on, fired_in, step_on, came_to}
use Rattle.id_runs.specs.Runs.{fires_on, offered_to, arrival_at, happens}

-- a value that waits at a port
abbrev pub half : Port → Value → Half
half p v = record { port = p; value = v }

-- the operands where v came to port p, and u to the other
abbrev pub operands_by : Port → Value → Value → Operands
operands_by Zero v u = operands.Two v u
operands_by One v u = operands.Two u v

-- ---- tags

same : (u t : Tag) (b : Bool) → eq_by_cmp tag_cmp u t ≡ b → b ≡ true → u ≡ t
same u t b e h = exact_tags u t (tie _ (e ∙ h))
  where
    tie : (r : Ordering) → is_eq r ≡ true → r ≡ Equal
    tie Less e = cc
    tie Equal e = refl
    tie Greater e = cc

-- whether two tags are one
pub tag_cases : (u t : Tag) → (u ≡ t) ⊎ (u ≡ t → ⊥)
tag_cases u t = go (eq_by_cmp tag_cmp u t) refl
  where
    go : (b : Bool) → eq_by_cmp tag_cmp u t ≡ b → (u ≡ t) ⊎ (u ≡ t → ⊥)
    go true e = inl (same u t true e refl)
    go false e =
        inr (λ p. let q : true ≡ false = sym ((eq_by_cmp_equiv tags_total).refl u) ∙ ap (λ x. eq_by_cmp tag_cmp u x) p
        ∙ e in cc)

tag_itself : (t : Tag) → eq_by_cmp tag_cmp t t ≡ true
tag_itself t = (eq_by_cmp_equiv tags_total).refl t

tag_other : (u t : Tag) → (u ≡ t → ⊥) → eq_by_cmp tag_cmp u t ≡ false
tag_other u t n = go (eq_by_cmp tag_cmp u t) refl
  where
    go : (b : Bool) → eq_by_cmp tag_cmp u t ≡ b → eq_by_cmp tag_cmp u t ≡ false
    go true e = absurd (n (same u t true e refl))
    go false e = e

-- ---- what an offer does under the tag, and under others

abbrev answer_at : Option Half → Port → Value → Offered
answer_at o p v = answer_of p v (at_port o p) (at_port o (other_port p))

others_stay : (w : Store) (t : Tag) (p : Port) (v : Value) (u : Tag) (a : Offered) → (u ≡ t → ⊥)
    → get (store_after w t p v a) u ≡ get w u
others_stay w t p v u Kept n =
    get-insert tags_total w t (half p v) u ∙ ap (λ b. cond b (Some (half p v)) (get w u)) (tag_other u t n)
others_stay w t p v u (Pair x y) n = get-remove tags_total w t u ∙ ap (λ b. cond b None (get w u)) (tag_other u t n)
others_stay w t p v u Taken n = refl

kept_there : (w : Store) (t : Tag) (p : Port) (v : Value) → get (store_after w t p v Kept) t ≡ Some (half p v)
kept_there w t p v =
    get-insert tags_total w t (half p v) t ∙ ap (λ b. cond b (Some (half p v)) (get w t)) (tag_itself t)

left_there : (w : Store) (t : Tag) (p : Port) (v x y : Value) → get (store_after w t p v (Pair x y)) t ≡ None
left_there w t p v x y = get-remove tags_total w t t ∙ ap (λ b. cond b None (get w t)) (tag_itself t)

-- ---- what comes of a token

-- the token at port p of the tag t, with h under its tag before and h' after: it comes to nothing, it fires alone, it
-- waits, it meets its partner, or its port was filled
pub data Effect (g : Parts) (fresh : Fresh) (t : Tag) (p : Port) (v : Value) (h : Option Half) (a : Arrival)
    (h' : Option Half) : Type 0 where
  nowhere : slice_get g.instrs t.instr ≡ None → a ≡ Waits → h' ≡ h → Effect g fresh t p v h a h'
  alone : (i : Instr) → slice_get g.instrs t.instr ≡ Some i → two_ports i.op ≡ false
      → a ≡ fires_on fresh i t (operands.One v) → h' ≡ h → Effect g fresh t p v h a h'
  first : (i : Instr) → slice_get g.instrs t.instr ≡ Some i → two_ports i.op ≡ true → a ≡ Waits → h ≡ None
      → h' ≡ Some (half p v) → Effect g fresh t p v h a h'
  meets : (i : Instr) (u : Value) → slice_get g.instrs t.instr ≡ Some i → two_ports i.op ≡ true
      → a ≡ fires_on fresh i t (operands_by p v u) → h ≡ Some (half (other_port p) u) → h' ≡ None
      → Effect g fresh t p v h a h'
  again : (i : Instr) (u : Value) → slice_get g.instrs t.instr ≡ Some i → two_ports i.op ≡ true → a ≡ Blocked
      → h ≡ Some (half p u) → h' ≡ h → Effect g fresh t p v h a h'

abbrev stores : Option Instr → Store → Tag → Port → Value → Store
stores None w t p v = w
stores (Some i) w t p v = waiting_after i.op w t p v

two_cases : (g : Parts) (fresh : Fresh) (w : Store) (t : Tag) (p : Port) (v : Value) (i : Instr)
    → slice_get g.instrs t.instr ≡ Some i → two_ports i.op ≡ true
    → (o : Option Half) → get w t ≡ o
    → Effect g fresh t p v o (offered_to fresh i t (answer_at o p v)) (get (store_after w t p v (answer_at o p v)) t)
two_cases g fresh w t p v i at two None e = first i at two refl refl (kept_there w t p v)
two_cases g fresh w t p v i at two (Some h) e = by_port h.port h.value p e
  where
    by_port : (q : Port) (u : Value) (r : Port) → get w t ≡ Some (half q u)
        → Effect g fresh t r v (Some (half q u)) (offered_to fresh i t (answer_at (Some (half q u)) r v))
        (get (store_after w t r v (answer_at (Some (half q u)) r v)) t)
    by_port Zero u Zero e = again i u at two refl refl e
    by_port Zero u One e = meets i u at two refl refl (left_there w t One v u v)
    by_port One u Zero e = meets i u at two refl refl (left_there w t Zero v v u)
    by_port One u One e = again i u at two refl refl e

effect_at : (g : Parts) (fresh : Fresh) (w : Store) (t : Tag) (p : Port) (v : Value) (i : Instr) (b : Bool)
    → slice_get g.instrs t.instr ≡ Some i → two_ports i.op ≡ b
    → Effect g fresh t p v (get w t)
    (cond b (offered_to fresh i t (offer_answer w t p v)) (fires_on fresh i t (operands.One v)))
    (get (cond b (offer_after w t p v) w) t)
effect_at g fresh w t p v i true at e = two_cases g fresh w t p v i at e (get w t) refl
effect_at g fresh w t p v i false at e = alone i at e refl refl

effect_in : (g : Parts) (fresh : Fresh) (w : Store) (t : Tag) (p : Port) (v : Value) (o : Option Instr)
    → slice_get g.instrs t.instr ≡ o
    → Effect g fresh t p v (get w t) (arrival_at fresh o w t p v) (get (stores o w t p v) t)
effect_in g fresh w t p v None e = nowhere e refl refl
effect_in g fresh w t p v (Some i) e = effect_at g fresh w t p v i (two_ports i.op) e refl

-- ---- the event as the machine's step has it

-- how many contexts an arrival takes
abbrev pub made_in : Arrival → ℕ
made_in Waits = 0
made_in Blocked = 0
made_in (Fires ops f) = made_by f

-- how many structures an arrival at an operator takes
abbrev pub allocated_in : Option Op → Arrival → ℕ
allocated_in None a = 0
allocated_in (Some o) Waits = 0
allocated_in (Some o) Blocked = 0
allocated_in (Some o) (Fires ops f) = allocated_by o f

-- the outcome is that of the event: what it sends and fires and comes to, what waits and what the cells have
-- afterwards, and what it takes
record IsOutcome (x : Outcome) (xs : List Payload) (f : Fired) (z : Step) (w : Store) (b : Cells) (m n : ℕ) : Type 0
  where
    sends : x.sends ≡ xs
    fired : x.fired ≡ f
    step : x.step ≡ z
    waiting : x.waiting ≡ w
    cells : x.cells ≡ b
    made : x.made ≡ m
    allocated : x.allocated ≡ n

-- of an arrival at an instruction
abbrev ArrivesAs : Outcome → Option Instr → Tag → Arrival → Store → Cells → Type 0
ArrivesAs x o t y w b =
    IsOutcome x (sent_on (option_map (λ i. i.op) o) (λ s. option_map_or (arcs_on s) o []) t y) (fired_on y)
    (step_on t y) w b (made_in y)
    (allocated_in (option_map (λ i. i.op) o) y)

same_answer : (n : Fresh) (i : Instr) (t : Tag) (w : Store) (b : Cells) (a : Offered) →
    ArrivesAs (arriving n i t w b (arrival_of a)) (Some i) t (offered_to n i t a) w b
same_answer n i t w b Kept =
    record { sends = refl; fired = refl; step = refl; waiting = refl; cells = refl; made = refl; allocated = refl }
same_answer n i t w b (Pair v u) =
    record { sends = refl; fired = refl; step = refl; waiting = refl; cells = refl; made = refl; allocated = refl }
same_answer n i t w b Taken =
    record { sends = refl; fired = refl; step = refl; waiting = refl; cells = refl; made = refl; allocated = refl }

-- an operator with one port, as `neg`, fires alone
same_outcome : (n : Fresh) (i : Instr) (t : Tag) (w w' : Store) (b : Cells) (p : Port) (v : Value) (a : Offered)
    (c : Bool) → ArrivesAs (arriving n i t w' b (cond c (arrival_of a) (arrival (Unary Neg) w t p v))) (Some i) t
    (cond c (offered_to n i t a) (fires_on n i t (operands.One v))) w' b
same_outcome n i t w w' b p v a true = same_answer n i t w' b a
same_outcome n i t w w' b p v a false =
    record { sends = refl; fired = refl; step = refl; waiting = refl; cells = refl; made = refl; allocated = refl }

by_instr : (n : Fresh) (w : Store) (b : Cells) (t : Tag) (p : Port) (v : Value) (o : Option Instr)
    → ArrivesAs (at_instr n w b t p v o) o t (arrival_at n o w t p v) (stores o w t p v) b
by_instr n w b t p v None =
    record { sends = refl; fired = refl; step = refl; waiting = refl; cells = refl; made = refl; allocated = refl }
by_instr n w b t p v (Some i) =
    same_outcome n i t w (waiting_after i.op w t p v) b p v (offer_answer w t p v) (two_ports i.op)

-- how many contexts and how many structures the event takes
abbrev pub made_at : Event → ℕ
made_at (Took n t p v a) = made_in a
made_at (Looked n c t a) = 0
made_at (Wrote n c v w a) = 0

abbrev pub allocated_at : Parts → Event → ℕ
allocated_at g (Took n t p v a) = allocated_in (op_at g t.instr) a
allocated_at g (Looked n c t a) = 0
allocated_at g (Wrote n c v w a) = 0

-- what waits, and what the cells have, after a message
abbrev pub waiting_by : Parts → State → Payload → Store
waiting_by g e (Token t p v) = stores (slice_get g.instrs t.instr) e.waiting t p v
waiting_by g e (Read c t) = e.waiting
waiting_by g e (Write c v w) = e.waiting

abbrev pub cells_by : State → Payload → Cells
cells_by e (Token t p v) = e.cells
cells_by e (Read c t) = read_after e.cells c t
cells_by e (Write c v w) = write_after e.cells c v w

-- the machine's outcome is that of the event
happened : (g : Parts) (n : ℕ) (e : State) (x : Payload)
    → let h = happens g n e x in
    IsOutcome (outcome g (next_numbers n e) e.waiting e.cells x) (sends_of g h) (fired_in h) (came_to h)
    (waiting_by g e x) (cells_by e x) (made_at h)
    (allocated_at g h)
happened g n e (Token t p v) = by_instr (next_numbers n e) e.waiting e.cells t p v (slice_get g.instrs t.instr)
happened g n e (Read c t) =
    record { sends = refl; fired = refl; step = refl; waiting = refl; cells = refl; made = refl; allocated = refl }
happened g n e (Write c v w) =
    record { sends = refl; fired = refl; step = refl; waiting = refl; cells = refl; made = refl; allocated = refl }

abbrev outcome_at : Parts → ℕ → State → Payload → Outcome
outcome_at g n e x = outcome g (next_numbers n e) e.waiting e.cells x

pub outcome_sends : (g : Parts) (n : ℕ) (e : State) (x : Payload)
    → (outcome_at g n e x).sends ≡ sends_of g (happens g n e x)
outcome_sends g n e x = (happened g n e x).sends

pub outcome_fired : (g : Parts) (n : ℕ) (e : State) (x : Payload)
    → (outcome_at g n e x).fired ≡ fired_in (happens g n e x)
outcome_fired g n e x = (happened g n e x).fired

pub outcome_step : (g : Parts) (n : ℕ) (e : State) (x : Payload) → (outcome_at g n e x).step ≡ came_to (happens g n e x)
outcome_step g n e x = (happened g n e x).step

pub outcome_cells : (g : Parts) (n : ℕ) (e : State) (x : Payload) → (outcome_at g n e x).cells ≡ cells_by e x
outcome_cells g n e x = (happened g n e x).cells

pub outcome_made : (g : Parts) (n : ℕ) (e : State) (x : Payload) → (outcome_at g n e x).made ≡ made_at (happens g n e x)
outcome_made g n e x = (happened g n e x).made

pub outcome_allocated : (g : Parts) (n : ℕ) (e : State) (x : Payload)
    → (outcome_at g n e x).allocated ≡ allocated_at g (happens g n e x)
outcome_allocated g n e x = (happened g n e x).allocated

-- the event has the message's payload
pub payload_of-happens : (g : Parts) (n : ℕ) (e : State) (x : Payload) → payload_of (happens g n e x) ≡ x
payload_of-happens g n e (Token t p v) = refl
payload_of-happens g n e (Read c t) = refl
payload_of-happens g n e (Write c v w) = refl

-- what an event on a token is: its effect under its tag, and none under others
pub record Taking (g : Parts) (n : ℕ) (e : State) (x : Payload) : Type 0 where
  pub tag : Tag
  pub port : Port
  pub value : Value
  pub arrival : Arrival
  pub fresh : Fresh
  pub says : x ≡ Token tag port value
  pub is : happens g n e x ≡ Took n tag port value arrival
  pub effect : Effect g fresh tag port value (get e.waiting tag) arrival
      (get (outcome g (next_numbers n e) e.waiting e.cells x).waiting tag)
  pub others : (u : Tag) → (u ≡ tag → ⊥)
      → get (outcome g (next_numbers n e) e.waiting e.cells x).waiting u ≡ get e.waiting u

-- what one on a cell is: what waits still waits, and no token was taken
pub record Aside (g : Parts) (n : ℕ) (e : State) (x : Payload) : Type 0 where
  pub no_token : (t : Tag) (p : Port) (v : Value) → x ≡ Token t p v → ⊥
  pub still : (outcome g (next_numbers n e) e.waiting e.cells x).waiting ≡ e.waiting

-- an event is on a token or on a cell
pub data Handling (g : Parts) (n : ℕ) (e : State) (x : Payload) : Type 0 where
  of_token : Taking g n e x → Handling g n e x
  of_cell : Aside g n e x → Handling g n e x

stores_other : (w : Store) (t : Tag) (p : Port) (v : Value) (u : Tag) (b : Bool) → (u ≡ t → ⊥)
    → get (cond b (offer_after w t p v) w) u ≡ get w u
stores_other w t p v u true n = others_stay w t p v u _ n
stores_other w t p v u false n = refl

other_instr : (w : Store) (t : Tag) (p : Port) (v : Value) (u : Tag) (o : Option Instr) → (u ≡ t → ⊥)
    → get (stores o w t p v) u ≡ get w u
other_instr w t p v u None n = refl
other_instr w t p v u (Some i) n = stores_other w t p v u (two_ports i.op) n

taking : (g : Parts) (n : ℕ) (e : State) (t : Tag) (p : Port) (v : Value) → Taking g n e (Token t p v)
taking g n e t p v =
    let o = slice_get g.instrs t.instr in
    let next = next_numbers n e in
    let waiting_is = (by_instr next e.waiting e.cells t p v o).waiting in
    record {
      tag = t;
      port = p;
      value = v;
      arrival = arrival_at next o e.waiting t p v;
      fresh = next;
      says = refl;
      is = refl;
      effect = subst (λ s. Effect g next t p v (get e.waiting t) (arrival_at next o e.waiting t p v) (get s t))
          (sym waiting_is)
          (effect_in g next e.waiting t p v o refl);
      others = λ u differs. ap (λ s. get s u) waiting_is ∙ other_instr e.waiting t p v u o differs;
    }

pub handling : (g : Parts) (n : ℕ) (e : State) (x : Payload) → Handling g n e x
handling g n e (Token t p v) = of_token (taking g n e t p v)
handling g n e (Read c t) = of_cell (record { no_token = λ u q v is. cc; still = refl })
handling g n e (Write c v w) = of_cell (record { no_token = λ u q v is. cc; still = refl })

-- an event that handled a token is one on it
pub taken : {g : Parts} {n : ℕ} {e : State} {x : Payload} {t : Tag} {p : Port} {v : Value} → Handling g n e x
    → x ≡ Token t p v → Taking g n e x
taken (of_token new) is = new
taken {t = t} {p = p} {v = v} (of_cell aside) is = absurd (aside.no_token t p v is)

-- an event on a token handled it
pub took_token : (g : Parts) (n : ℕ) (e : State) (x : Payload) (m : ℕ) (t : Tag) (p : Port) (v : Value) (a : Arrival)
    → Took m t p v a ≡ happens g n e x →
    x ≡ Token t p v
took_token g n e x m t p v a is = sym (payload_of-happens g n e x) ∙ sym (ap payload_of is)

-- ---- what an event came to

stuck_fired : (t : Tag) (f : Fired) → fired_step t f ≡ Stuck → ⊥
stuck_fired t (fires.Out v) e = cc
stuck_fired t (fires.Side b v) e = cc
stuck_fired t (fires.Moved i v) e = cc
stuck_fired t (fires.Entered c) e = cc
stuck_fired t (fires.Sent u v) e = cc
stuck_fired t (fires.Asked c u) e = cc
stuck_fired t (fires.Stored c v w) e = cc
stuck_fired t (fires.Failed k) e = cc
stuck_fired t fires.Nothing e = cc

-- an event on a token came to `Stuck` only where its port was filled
pub stuck_blocked : (t : Tag) (a : Arrival) → step_on t a ≡ Stuck → a ≡ Blocked
stuck_blocked t Waits e = cc
stuck_blocked t Blocked e = refl
stuck_blocked t (Fires ops f) e = absurd (stuck_fired t f e)

-- one on a cell only where a write finds its own origin
pub stuck_write : (c : Cell) (v : Value) (w : Tag) (a : WriteAnswer)
    → full_step (Write c v w) (fill_verdict w a) ≡ Stuck → a ≡ Second w
stuck_write c v w (Readers ts) e = cc
stuck_write c v w (Second x) e = by (same_tag x w) refl e
  where
    by : (b : Bool) → same_tag x w ≡ b → full_step (Write c v w) (cond b verdict.Stuck (verdict.Second x)) ≡ Stuck
        → Second x ≡ Second w
    by true is z = ap Second (one_from_same_tag x w is)
    by false is z = cc

-- where it finds another one, it comes to a fault that names both
pub second_step : (c : Cell) (v : Value) (w x : Tag) → (x ≡ w → ⊥)
    → full_step (Write c v w) (fill_verdict w (Second x)) ≡ Fault (SecondStore c x w)
second_step c v w x differ = by (same_tag x w) refl
  where
    by : (b : Bool) → same_tag x w ≡ b
        → full_step (Write c v w) (cond (same_tag x w) verdict.Stuck (verdict.Second x)) ≡ Fault (SecondStore c x w)
    by true is = absurd (differ (one_from_same_tag x w is))
    by false is = ap (λ b. full_step (Write c v w) (cond b verdict.Stuck (verdict.Second x))) is
