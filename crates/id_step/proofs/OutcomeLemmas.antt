-- The outcome of a message that fits: what is sent and what waits afterwards fit too.
use Rattle.std.proofs.Common.{◌≡◌, ℕ, ◌+◌, ◌≤◌, ◌<◌, Bool, true, false, cond, Option, Some, None, List, [], ◌∷◌}
use Rattle.std.proofs.Common.{length, refl, sym, ap, subst, ◌∙◌, ⊎_elim, arith}
use Rattle.std.specs.Prelude.{All, slice_get, option_map, option_and_then, is_some}
use Rattle.std.proofs.lemmas.List.Elements.{All-nil, All-cons, All-head, All-push, All-tail, All-weaker}
use Rattle.id_instr.specs.declared.dests.Port.{Port}
use Rattle.id_instr.specs.declared.dests.Port.TheVariants as port
use Rattle.id_instr.specs.declared.instr.Instr.{Instr}
use Rattle.id_instr.specs.declared.instr.Op.{Op}
use Rattle.id_instr.specs.declared.instr.Op.TheVariants.{Const, Unary, Binary, Merge, Switch, Back, Enter, Send, Next}
use Rattle.id_instr.specs.declared.instr.Op.TheVariants.{Reset, Alloc, Address, Fetch, Store as Stores}
use Rattle.id_instr.specs.Ports.{port_kind, two_ports}
use Rattle.id_instr.specs.Graph.{Parts}
use Rattle.id_tag.specs.declared.Tag.{Tag}
use Rattle.id_tag.specs.declared.Value.{Value}
use Rattle.id_tag.specs.declared.Payload.{Payload}
use Rattle.id_tag.specs.declared.Payload.TheVariants.{Token, Read, Write}
use Rattle.id_tag.specs.declared.Message.{Message}
use Rattle.id_tag.specs.Kinds.{kind_of}
use Rattle.id_valid.specs.Validator.{IsValid}
use Rattle.std.specs.FinMap.{empty, get, get-empty, get-insert, insert}
use Rattle.std.specs.Ordering.{eq_by_cmp}
use Rattle.std.proofs.lemmas.Map.Views.{tells_apart}
use Rattle.id_tag.specs.declared.Cell.{Cell}
use Rattle.id_tag.specs.Tags.{cell_cmp}
use Rattle.id_tag.proofs.TagsLemmas.{cells_total, exact_cells}
use Rattle.id_bank.specs.Cells.{Cells, CellState, Present, Deferred, read_answer, state_read, write_answer}
use Rattle.id_bank.specs.Cells.{state_written}
use Rattle.id_match.specs.Ports.{other_port}
use Rattle.id_match.specs.Waiting.{Store, waits, answer_of, offer_answer, offer_after}
use Rattle.id_ops.specs.declared.Operands.TheVariants as operands
use Rattle.id_ops.specs.declared.Fresh.{Fresh}
use Rattle.id_ops.specs.declared.Fired.{Fired}
use Rattle.id_ops.specs.declared.Fired.TheVariants.{Out, Side, Moved, Entered, Sent, Asked, Stored, Failed, Nothing}
use Rattle.id_ops.specs.Operators.{fired}
use Rattle.id_step.specs.declared.step.Arrival.{Arrival}
use Rattle.id_step.specs.declared.step.Arrival.TheVariants.{Fires, Waits, Blocked}
use Rattle.id_step.specs.Fits.{TokenFits, ReplyFits, PayloadFits, Fits, held_in}
use Rattle.id_step.specs.Steps.{State, allocated_by, answer_sends, arrival, arrival_of, arriving, at_instr}
use Rattle.id_step.specs.Steps.{fill_sends, made_by, next_numbers, next_stamp, outcome, outputs_of, state_after}
use Rattle.id_step.specs.Steps.{waiting_after}
use Rattle.id_record.specs.Events.{tag_of}
use Rattle.id_record.specs.Sends.{numbered}
use Rattle.id_step.specs.Replays.{CellFits, CellsFit, WaitingFits}
use Rattle.id_step.proofs.FitsLemmas.{TokenFits-later, ReplyFits-later, WriteFits-later, offer_came}
use Rattle.id_step.proofs.SentLemmas.{OperandsFit, fired_fits, replies_fit, sent_fits}

-- everything that waits fits at the stamp
abbrev AllFit : Parts → ℕ → Store → Type 0
AllFit g stamp w = (t : Tag) (p : Port) (v : Value) → waits w t p ≡ Some v → TokenFits g stamp t p v

-- what arrives fits: the operands, if it fires
abbrev ArrivalFits : Parts → ℕ → Tag → Arrival → Type 0
ArrivalFits g stamp t (Fires o) = OperandsFit g stamp t o
ArrivalFits g stamp t Waits = Unit {0}
ArrivalFits g stamp t Blocked = Unit {0}

-- a pair fits where the value and its partner do
pair_fits : (g : Parts) (stamp : ℕ) (t : Tag) (p : Port) (v : Value) (here there : Option Value)
    → TokenFits g stamp t p v
    → ((x : Value) → there ≡ Some x → TokenFits g stamp t (other_port p) x)
    → ArrivalFits g stamp t (arrival_of (answer_of p v here there))
pair_fits g stamp t p v (Some x) there fits partner = tt
pair_fits g stamp t p v None None fits partner = tt
pair_fits g stamp t port.Zero v None (Some x) fits partner = (fits, partner x refl)
pair_fits g stamp t port.One v None (Some x) fits partner = (partner x refl, fits)

-- a port of an operator with one port is port 0
pub one_port : (g : Parts) (stamp : ℕ) (t : Tag) (p : Port) (v : Value) (i : Instr)
    → slice_get g.instrs t.instr ≡ Some i → two_ports i.op ≡ false →
    TokenFits g stamp t p v → TokenFits g stamp t port.Zero v
one_port g stamp t port.Zero v i is one fits = fits
one_port g stamp t port.One v i is one fits = absurd (no_second (port_kind i.op port.One) one there)
  where
    there : port_kind i.op port.One ≡ Some (kind_of v)
    there = sym (ap (λ o. option_and_then (λ i. port_kind i.op port.One) o) is) ∙ fits.kind

    no_second : {K : Type 0} {k : K} (o : Option K) → is_some o ≡ false → o ≡ Some k → ⊥
    no_second None e f = cc
    no_second (Some k) e f = cc

-- what arrives at an instruction fits
arrival_fits : (g : Parts) (stamp : ℕ) (w : Store) (t : Tag) (p : Port) (v : Value) (i : Instr)
    → slice_get g.instrs t.instr ≡ Some i → AllFit g stamp w →
    TokenFits g stamp t p v → ArrivalFits g stamp t (arrival i.op w t p v)
arrival_fits g stamp w t p v i is waiting fits = by_ports (two_ports i.op) refl
  where
    by_ports : (b : Bool) → two_ports i.op ≡ b
        → ArrivalFits g stamp t (cond b (arrival_of (offer_answer w t p v)) (Fires (operands.One v)))
    by_ports true e = pair_fits g stamp t p v (waits w t p) (waits w t (other_port p)) fits (waiting t (other_port p))
    by_ports false e = one_port g stamp t p v i is e fits

-- what is sent on an arrival fits
arriving_fits : (g : Parts) (stamp : ℕ) (n : Fresh) (w : Store) (b : Cells) (t : Tag) (i : Instr) (a : Arrival)
    → IsValid g →
    slice_get g.instrs t.instr ≡ Some i → t.iteration < stamp → ArrivalFits g stamp t a
    → All (PayloadFits g stamp) (arriving n i t w b a).sends
arriving_fits g stamp n w b t i (Fires o) valid is in_time fits =
    sent_fits g stamp t i (fired i.op t o n) valid is (omega (arith, in_time))
    (fired_fits g stamp t i.op o n valid (ap (option_map (λ i. i.op)) is) in_time fits)
arriving_fits g stamp n w b t i Waits valid is in_time fits = All-nil (PayloadFits g stamp)
arriving_fits g stamp n w b t i Blocked valid is in_time fits = All-nil (PayloadFits g stamp)

-- everything that cells hold fits at the stamp
abbrev AllHeld : Parts → ℕ → Cells → Type 0
AllHeld g stamp b = (c : Cell) (x : CellState) → get b c ≡ Some x → CellFits g stamp c x

-- what a cell may have fits it at the stamp
abbrev MayHave : Parts → ℕ → Cell → Option CellState → Type 0
MayHave g stamp c o = (x : CellState) → o ≡ Some x → CellFits g stamp c x

-- the answer to a read fits at its reply
answer_fits : (g : Parts) (stamp : ℕ) (c : Cell) (t : Tag) (o : Option CellState) → MayHave g stamp c o
    → ReplyFits g stamp c t →
    All (PayloadFits g stamp) (answer_sends t (read_answer o))
answer_fits g stamp c t None held fits = All-nil (PayloadFits g stamp)
answer_fits g stamp c t (Some (Present v w)) held fits = replies_fit g stamp c v (t ∷ []) (held (Present v w) refl)
    (All-cons (ReplyFits g stamp c) t [] fits (All-nil (ReplyFits g stamp c)))
answer_fits g stamp c t (Some (Deferred ts)) held fits = All-nil (PayloadFits g stamp)

-- what a cell holds fits at the replies that waited
fill_fits : (g : Parts) (stamp : ℕ) (c : Cell) (v : Value) (o : Option CellState) → MayHave g stamp c o
    → kind_of v ≡ held_in c →
    All (PayloadFits g stamp) (fill_sends v (write_answer o))
fill_fits g stamp c v None held is = All-nil (PayloadFits g stamp)
fill_fits g stamp c v (Some (Present u w)) held is = All-nil (PayloadFits g stamp)
fill_fits g stamp c v (Some (Deferred ts)) held is = replies_fit g stamp c v ts is (held (Deferred ts) refl)

-- what a message sends fits, where the iteration in it is below the stamp
sends_fit : (g : Parts) (stamp : ℕ) (n : Fresh) (w : Store) (b : Cells) (x : Payload) → IsValid g → AllFit g stamp w
    → AllHeld g stamp b →
    (tag_of x).iteration < stamp → PayloadFits g stamp x
    → All (PayloadFits g stamp) (outcome g n w b x).sends
sends_fit g stamp n w b (Token t p v) valid waiting held in_time fits = at (slice_get g.instrs t.instr) refl
  where
    at : (o : Option Instr) → slice_get g.instrs t.instr ≡ o → All (PayloadFits g stamp) (at_instr n w b t p v o).sends
    at None is = All-nil (PayloadFits g stamp)
    at (Some i) is = arriving_fits g stamp n (waiting_after i.op w t p v) b t i (arrival i.op w t p v) valid is in_time
        (arrival_fits g stamp w t p v i is waiting fits)
sends_fit g stamp n w b (Read c t) valid waiting held in_time fits =
    answer_fits g stamp c t (get b c) (held c) fits.reply
sends_fit g stamp n w b (Write c v t) valid waiting held in_time fits =
    fill_fits g stamp c v (get b c) (held c) fits.kind

-- the messages fit where their payloads do
numbered_fit : (g : Parts) (n position stamp k : ℕ) (xs : List Payload) → All (PayloadFits g stamp) xs
    → All (Fits g) (numbered n position stamp k xs)
numbered_fit g n position stamp k [] fits = All-nil (Fits g)
numbered_fit g n position stamp k (x ∷ xs) fits =
    All-cons (Fits g) _ _ (All-head (PayloadFits g stamp) x xs fits)
    (numbered_fit g n position stamp (k + 1) xs (All-tail (PayloadFits g stamp) x xs fits))

-- what fits a payload at a stamp fits it at a later one
PayloadFits-later : (g : Parts) (a b : ℕ) (x : Payload) → a ≤ b → PayloadFits g a x → PayloadFits g b x
PayloadFits-later g a b (Token t p v) later fits = TokenFits-later g a b t p v later fits
PayloadFits-later g a b (Read c t) later fits =
    record { cell = fits.cell; reply = ReplyFits-later g a b c t later fits.reply }
PayloadFits-later g a b (Write c v t) later fits = WriteFits-later g a b c v t later fits

AllFit-later : (g : Parts) (a b : ℕ) (w : Store) → a ≤ b → AllFit g a w → AllFit g b w
AllFit-later g a b w later fit t p v is = TokenFits-later g a b t p v later (fit t p v is)

CellFits-later : (g : Parts) (a b : ℕ) (c : Cell) (x : CellState) → a ≤ b → CellFits g a c x → CellFits g b c x
CellFits-later g a b c (Present v w) later fits = fits
CellFits-later g a b c (Deferred ts) later fits =
    All-weaker (ReplyFits g a c) (ReplyFits g b c) (λ t. ReplyFits-later g a b c t later) ts fits

AllHeld-later : (g : Parts) (a b : ℕ) (m : Cells) → a ≤ b → AllHeld g a m → AllHeld g b m
AllHeld-later g a b m later held c x is = CellFits-later g a b c x later (held c x is)

-- an iteration that is in time at a stamp is below each later one
pub before_later : (g : Parts) (a b : ℕ) (x : Payload) → a < b → PayloadFits g a x → (tag_of x).iteration < b
before_later g a b (Token t p v) later fits = omega (arith, later, fits.in_time)
before_later g a b (Read c t) later fits = omega (arith, later, fits.reply.in_time)
before_later g a b (Write c v t) later fits = omega (arith, later, fits.in_time)

-- each output of a message that fits does fit
pub outputs_fit : (g : Parts) (n : ℕ) (s : State) (m : Message) → IsValid g → WaitingFits g s → CellsFit g s → Fits g m
    → All (Fits g) (outputs_of g n s m)
outputs_fit g n s m valid waiting cells fits =
    numbered_fit g n (length s.events) (next_stamp s m) 0 _
    (sends_fit g (next_stamp s m) (next_numbers n s) s.waiting s.cells m.payload valid
    (AllFit-later g s.stamp (next_stamp s m) s.waiting (omega arith) waiting)
    (AllHeld-later g s.stamp (next_stamp s m) s.cells (omega arith) cells)
    (before_later g m.stamp (next_stamp s m) m.payload (omega arith) fits)
    (PayloadFits-later g m.stamp (next_stamp s m) m.payload (omega arith) fits))

-- what waits after an offer fits
offered_fit : (g : Parts) (stamp : ℕ) (w : Store) (t : Tag) (p : Port) (v : Value) → AllFit g stamp w
    → TokenFits g stamp t p v →
    AllFit g stamp (offer_after w t p v)
offered_fit g stamp w t p v waiting fits u q x is =
    ⊎_elim (λ before. waiting u q x before) (λ came. moved came) (offer_came w t p v u q x is)
  where
    moved : (t ≡ u) × (p ≡ q) × (v ≡ x) → TokenFits g stamp u q x
    moved (a, b, c) =
        subst (λ y. TokenFits g stamp u q y) c
        (subst (λ r. TokenFits g stamp u r v) b (subst (λ y. TokenFits g stamp y p v) a fits))

-- whatever arrives, what waits afterwards is what was handed on
arriving_waiting : (n : Fresh) (i : Instr) (t : Tag) (w : Store) (b : Cells) (a : Arrival)
    → (arriving n i t w b a).waiting ≡ w
arriving_waiting n i t w b (Fires o) = refl
arriving_waiting n i t w b Waits = refl
arriving_waiting n i t w b Blocked = refl

waiting_after_fits : (g : Parts) (stamp : ℕ) (w : Store) (t : Tag) (p : Port) (v : Value) (op : Op) → AllFit g stamp w
    → TokenFits g stamp t p v →
    AllFit g stamp (waiting_after op w t p v)
waiting_after_fits g stamp w t p v op waiting fits = by_ports (two_ports op)
  where
    by_ports : (b : Bool) → AllFit g stamp (cond b (offer_after w t p v) w)
    by_ports true = offered_fit g stamp w t p v waiting fits
    by_ports false = waiting

outcome_fits : (g : Parts) (stamp : ℕ) (n : Fresh) (w : Store) (b : Cells) (x : Payload) → AllFit g stamp w
    → PayloadFits g stamp x →
    AllFit g stamp (outcome g n w b x).waiting
outcome_fits g stamp n w b (Token t p v) waiting fits = at (slice_get g.instrs t.instr)
  where
    at : (o : Option Instr) → AllFit g stamp (at_instr n w b t p v o).waiting
    at None = waiting
    at (Some i) =
        subst (AllFit g stamp) (sym (arriving_waiting n i t (waiting_after i.op w t p v) b (arrival i.op w t p v)))
        (waiting_after_fits g stamp w t p v i.op waiting fits)
outcome_fits g stamp n w b (Read c t) waiting fits = waiting
outcome_fits g stamp n w b (Write c v t) waiting fits = waiting

-- after a message that fits, what waits fits
pub WaitingFits-take : (g : Parts) (n : ℕ) (s : State) (m : Message) → WaitingFits g s → Fits g m
    → WaitingFits g (state_after g n s m)
WaitingFits-take g n s m waiting fits =
    outcome_fits g (next_stamp s m) (next_numbers n s) s.waiting s.cells m.payload
    (AllFit-later g s.stamp (next_stamp s m) s.waiting (omega arith) waiting)
    (PayloadFits-later g m.stamp (next_stamp s m) m.payload (omega arith) fits)

-- ---- what the cells hold

arriving_cells : (n : Fresh) (i : Instr) (t : Tag) (w : Store) (b : Cells) (a : Arrival)
    → (arriving n i t w b a).cells ≡ b
arriving_cells n i t w b (Fires o) = refl
arriving_cells n i t w b Waits = refl
arriving_cells n i t w b Blocked = refl

token_cells : (n : Fresh) (w : Store) (b : Cells) (t : Tag) (p : Port) (v : Value) (o : Option Instr)
    → (at_instr n w b t p v o).cells ≡ b
token_cells n w b t p v None = refl
token_cells n w b t p v (Some i) = arriving_cells n i t (waiting_after i.op w t p v) b (arrival i.op w t p v)

-- a cell that changes to what fits
inserted_fits : (g : Parts) (stamp : ℕ) (b : Cells) (c : Cell) (x : CellState) → AllHeld g stamp b
    → CellFits g stamp c x → AllHeld g stamp (insert b c x)
inserted_fits g stamp b c x held fits d y is =
    go (eq_by_cmp cell_cmp d c) refl (sym (get-insert cells_total b c x d) ∙ is)
  where
    go : (e : Bool) → eq_by_cmp cell_cmp d c ≡ e → cond e (Some x) (get b d) ≡ Some y → CellFits g stamp d y
    go true e h =
        let same : x ≡ y = cc in
        let here : d ≡ c = tells_apart exact_cells d c e in
        subst (λ z. CellFits g stamp z y) (sym here) (subst (CellFits g stamp c) same fits)
    go false e h = held d y h

read_fits : (g : Parts) (stamp : ℕ) (c : Cell) (t : Tag) (o : Option CellState) → MayHave g stamp c o
    → ReplyFits g stamp c t →
    CellFits g stamp c (state_read t o)
read_fits g stamp c t None held fits = All-cons (ReplyFits g stamp c) t [] fits (All-nil (ReplyFits g stamp c))
read_fits g stamp c t (Some (Present v w)) held fits = held (Present v w) refl
read_fits g stamp c t (Some (Deferred ts)) held fits =
    All-push (ReplyFits g stamp c) ts t (held (Deferred ts) refl) fits

written_fits : (g : Parts) (stamp : ℕ) (c : Cell) (v : Value) (t : Tag) (o : Option CellState) → MayHave g stamp c o
    → kind_of v ≡ held_in c →
    CellFits g stamp c (state_written v t o)
written_fits g stamp c v t None held is = is
written_fits g stamp c v t (Some (Present u w)) held is = held (Present u w) refl
written_fits g stamp c v t (Some (Deferred ts)) held is = is

outcome_holds : (g : Parts) (stamp : ℕ) (n : Fresh) (w : Store) (b : Cells) (x : Payload) → AllHeld g stamp b
    → PayloadFits g stamp x →
    AllHeld g stamp (outcome g n w b x).cells
outcome_holds g stamp n w b (Token t p v) held fits =
    subst (AllHeld g stamp) (sym (token_cells n w b t p v (slice_get g.instrs t.instr))) held
outcome_holds g stamp n w b (Read c t) held fits =
    inserted_fits g stamp b c (state_read t (get b c)) held (read_fits g stamp c t (get b c) (held c) fits.reply)
outcome_holds g stamp n w b (Write c v t) held fits = inserted_fits g stamp b c (state_written v t (get b c)) held
    (written_fits g stamp c v t (get b c) (held c) fits.kind)

-- after a message that fits, what the cells hold fits
pub CellsFit-take : (g : Parts) (n : ℕ) (s : State) (m : Message) → CellsFit g s → Fits g m
    → CellsFit g (state_after g n s m)
CellsFit-take g n s m cells fits =
    outcome_holds g (next_stamp s m) (next_numbers n s) s.waiting s.cells m.payload
    (AllHeld-later g s.stamp (next_stamp s m) s.cells (omega arith) cells)
    (PayloadFits-later g m.stamp (next_stamp s m) m.payload (omega arith) fits)

-- no cell holds anything at first
pub CellsFit-empty : (g : Parts) (stamp : ℕ) (c : Cell) (x : CellState) → get (empty {R = cell_cmp}) c ≡ Some x
    → CellFits g stamp c x
CellsFit-empty g stamp c x is = absurd (none_some (sym (get-empty cell_cmp c) ∙ is))
  where
    none_some : {X : Type 0} {y : X} → None ≡ Some y → ⊥
    none_some e = cc

-- ---- how many contexts and structures are made

at_most_one : (f : Fired) → made_by f ≤ 1
at_most_one (Out v) = omega arith
at_most_one (Side b v) = omega arith
at_most_one (Moved i v) = omega arith
at_most_one (Entered c) = omega arith
at_most_one (Sent u v) = omega arith
at_most_one (Asked c r) = omega arith
at_most_one (Stored c v w) = omega arith
at_most_one (Failed k) = omega arith
at_most_one Nothing = omega arith

one_structure : (o : Op) (f : Fired) → allocated_by o f ≤ 1
one_structure (Alloc nested) (Out v) = omega arith
one_structure (Alloc nested) (Side b v) = omega arith
one_structure (Alloc nested) (Moved i v) = omega arith
one_structure (Alloc nested) (Entered c) = omega arith
one_structure (Alloc nested) (Sent u v) = omega arith
one_structure (Alloc nested) (Asked c r) = omega arith
one_structure (Alloc nested) (Stored c v w) = omega arith
one_structure (Alloc nested) (Failed k) = omega arith
one_structure (Alloc nested) Nothing = omega arith
one_structure (Const k) f = omega arith
one_structure (Unary k) f = omega arith
one_structure (Binary k) f = omega arith
one_structure (Merge k) f = omega arith
one_structure (Switch k) f = omega arith
one_structure (Back k) f = omega arith
one_structure (Enter k r) f = omega arith
one_structure (Send k r) f = omega arith
one_structure (Next k) f = omega arith
one_structure (Reset k) f = omega arith
one_structure (Address nested) f = omega arith
one_structure (Fetch nested r) f = omega arith
one_structure (Stores nested) f = omega arith

arriving_makes : (n : Fresh) (i : Instr) (t : Tag) (w : Store) (b : Cells) (a : Arrival) →
    ((arriving n i t w b a).made ≤ 1) × ((arriving n i t w b a).allocated ≤ 1)
arriving_makes n i t w b (Fires o) = (at_most_one (fired i.op t o n), one_structure i.op (fired i.op t o n))
arriving_makes n i t w b Waits = (omega arith, omega arith)
arriving_makes n i t w b Blocked = (omega arith, omega arith)

outcome_makes : (g : Parts) (n : Fresh) (w : Store) (b : Cells) (x : Payload)
    → ((outcome g n w b x).made ≤ 1) × ((outcome g n w b x).allocated ≤ 1)
outcome_makes g n w b (Token t p v) = at (slice_get g.instrs t.instr)
  where
    at : (o : Option Instr) → ((at_instr n w b t p v o).made ≤ 1) × ((at_instr n w b t p v o).allocated ≤ 1)
    at None = (omega arith, omega arith)
    at (Some i) = arriving_makes n i t (waiting_after i.op w t p v) b (arrival i.op w t p v)
outcome_makes g n w b (Read c t) = (omega arith, omega arith)
outcome_makes g n w b (Write c v t) = (omega arith, omega arith)

-- an event takes a stamp and at most one context, so the stamps run out first
pub counted-take : (g : Parts) (n : ℕ) (s : State) (m : Message) → s.contexts ≤ s.stamp
    → (state_after g n s m).contexts ≤ (state_after g n s m).stamp
counted-take g n s m counted =
    omega (arith, counted, (outcome_makes g (next_numbers n s) s.waiting s.cells m.payload).0)

-- and at most one structure
pub numbered-take : (g : Parts) (n : ℕ) (s : State) (m : Message) → s.structures ≤ s.stamp
    → (state_after g n s m).structures ≤ (state_after g n s m).stamp
numbered-take g n s m counted =
    omega (arith, counted, (outcome_makes g (next_numbers n s) s.waiting s.cells m.payload).1)
