-- Lemmas on what events of an element tell: an `enter` enters a context or does nothing, and an `alloc` brings
-- structures out for numbers.
use Rattle.std.proofs.Common.{◌≡◌, ◌⊎◌, inl, inr, ℕ, Bool, true, false, Option, Some, None, List, [], ◌++◌, map, refl}
use Rattle.std.proofs.Common.{sym, ap, ◌∙◌}
use Rattle.std.specs.Prelude.{ℤ, if◌then◌else◌, slice_get, option_map}
use Rattle.id_instr.specs.declared.dests.Dest.{Dest}
use Rattle.id_instr.specs.declared.dests.Port.{Port}
use Rattle.id_instr.specs.declared.dests.Port.TheVariants as port
use Rattle.id_instr.specs.declared.instr.Instr.{Instr}
use Rattle.id_instr.specs.declared.instr.Op.{Op}
use Rattle.id_instr.specs.declared.instr.Op.TheVariants.{Alloc, Enter}
use Rattle.id_instr.specs.Graph.{Parts, arcs_on}
use Rattle.id_instr.specs.Ports.{two_ports}
use Rattle.id_valid.specs.Roles.{op_at}
use Rattle.id_tag.specs.declared.Context.{Context}
use Rattle.id_tag.specs.declared.Structure.{Structure}
use Rattle.id_tag.specs.declared.Tag.{Tag}
use Rattle.id_tag.specs.declared.Payload.TheVariants.{Token}
use Rattle.id_tag.specs.declared.Value.{Value}
use Rattle.id_tag.specs.declared.Value.TheVariants as value
use Rattle.id_ops.specs.declared.Fired.TheVariants.{Out, Entered, Nothing}
use Rattle.id_ops.specs.declared.Fresh.{Fresh}
use Rattle.id_ops.specs.declared.Operands.{Operands}
use Rattle.id_ops.specs.declared.Operands.TheVariants.{One, Two}
use Rattle.id_ops.specs.Operators.{fired, fired_alloc, fired_enter, side_of}
use Rattle.id_match.specs.Waiting.{Store, answer_of, offer_answer, pair_of, waits}
use Rattle.id_match.specs.Ports.{other_port}
use Rattle.id_bank.specs.Cells.{Cells}
use Rattle.id_record.specs.Sends.{started, token_to}
use Rattle.id_record.specs.Tellings.{is_number}
use Rattle.id_step.specs.declared.step.Arrival.{Arrival}
use Rattle.id_step.specs.declared.step.Arrival.TheVariants.{Fires, Waits, Blocked}
use Rattle.id_step.specs.Steps.{Outcome, arrival, arrival_of, arriving, at_instr, firing, outcome, waiting_after}

-- ---- `enter`

-- it enters a context or fires nothing
enter-fires : (c : Context) (x : Operands) → (fired_enter c x ≡ Entered c) ⊎ (fired_enter c x ≡ Nothing)
enter-fires c (One value.Signal) = inl refl
enter-fires c x = inr refl

-- what an `enter` under the tag does: it enters a context, and sends last what starts its block there, or it fires and
-- sends nothing
abbrev pub Enters : Tag → ℕ → ℕ → Outcome → Type 0
Enters t k r o =
    ((c : Context) × (ds : List Dest) × (o.fired ≡ Entered c)
    × (o.sends ≡ map (token_to t (value.Context c)) ds ++ started (Some (Enter k r)) t c))
    ⊎ ((o.fired ≡ Nothing) × (o.sends ≡ []))

enters-by : (n : Fresh) (i : Instr) (t : Tag) (w : Store) (b : Cells) (a : Arrival) (k r : ℕ) → i.op ≡ Enter k r
    → Enters t k r (arriving n i t w b a)
enters-by n i t w b (Fires x) k r is = from (enter-fires n.context x)
  where
    same : fired i.op t x n ≡ fired_enter n.context x
    same = ap (λ o. fired o t x n) is

    ds : List Dest
    ds = arcs_on (side_of (Entered n.context)) i

    from : (fired_enter n.context x ≡ Entered n.context) ⊎ (fired_enter n.context x ≡ Nothing)
        → Enters t k r (firing i t w b (fired i.op t x n))
    from (inl entered) = inl (
      n.context,
      ds,
      same ∙ entered,
      ap (λ f. (firing i t w b f).sends) (same ∙ entered)
          ∙ ap (λ o. map (token_to t (value.Context n.context)) ds ++ started (Some o) t n.context) is,
    )
    from (inr nothing) = inr (same ∙ nothing, ap (λ f. (firing i t w b f).sends) (same ∙ nothing))
enters-by n i t w b Waits k r is = inr (refl, refl)
enters-by n i t w b Blocked k r is = inr (refl, refl)

enters-at : (n : Fresh) (w : Store) (b : Cells) (t : Tag) (p : Port) (v : Value) (o : Option Instr) (k r : ℕ)
    → option_map (λ i. i.op) o ≡ Some (Enter k r) → Enters t k r (at_instr n w b t p v o)
enters-at n w b t p v None k r is = inr (refl, refl)
enters-at n w b t p v (Some i) k r is =
    let op : i.op ≡ Enter k r = cc in
    enters-by n i t (waiting_after i.op w t p v) b (arrival i.op w t p v) k r op

pub enter-enters : (g : Parts) (n : Fresh) (w : Store) (b : Cells) (t : Tag) (p : Port) (v : Value) (k r : ℕ)
    → op_at g t.instr ≡ Some (Enter k r) → Enters t k r (outcome g n w b (Token t p v))
enter-enters g n w b t p v k r is = enters-at n w b t p v (slice_get g.instrs t.instr) k r is

-- ---- `alloc`

-- the value is among the operands that fire
abbrev pub Has : Value → Arrival → Type 0
Has v (Fires (One x)) = v ≡ x
Has v (Fires (Two x y)) = (v ≡ x) ⊎ (v ≡ y)
Has v Waits = Unit {0}
Has v Blocked = Unit {0}

has-pair : (p : Port) (v w : Value) → Has v (arrival_of (pair_of p v w))
has-pair port.Zero v w = inl refl
has-pair port.One v w = inr refl

has-answer : (p : Port) (v : Value) (here there : Option Value) → Has v (arrival_of (answer_of p v here there))
has-answer p v (Some w) there = tt
has-answer p v None None = tt
has-answer p v None (Some w) = has-pair p v w

has-arrival : (op : Op) (w : Store) (t : Tag) (p : Port) (v : Value) → Has v (arrival op w t p v)
has-arrival op w t p v = from (two_ports op)
  where
    from : (b : Bool) → Has v (if b then arrival_of (offer_answer w t p v) else Fires (One v))
    from true = has-answer p v (waits w t p) (waits w t (other_port p))
    from false = refl

among-numbers : (v : Value) (lo hi : ℤ) → (v ≡ value.Int lo) ⊎ (v ≡ value.Int hi) → is_number v ≡ true
among-numbers v lo hi (inl is) = ap is_number is
among-numbers v lo hi (inr is) = ap is_number is

-- a structure goes out for a number alone
alloc-fires : (v : Value) (nested : Bool) (n : Fresh) (x : Operands) → Has v (Fires x) → (s : Structure)
    → fired_alloc nested n x ≡ Out (value.Structure s) → is_number v ≡ true
alloc-fires v nested n (Two (value.Int lo) (value.Int hi)) has s made = among-numbers v lo hi has
alloc-fires v nested n x has s made = cc

alloc-by : (n : Fresh) (i : Instr) (t : Tag) (w : Store) (b : Cells) (v : Value) (a : Arrival) (nested : Bool)
    → i.op ≡ Alloc nested → Has v a → (s : Structure) → (arriving n i t w b a).fired ≡ Out (value.Structure s)
    → is_number v ≡ true
alloc-by n i t w b v (Fires x) nested is has s made =
    let same : fired i.op t x n ≡ fired_alloc nested n x = ap (λ o. fired o t x n) is in
    alloc-fires v nested n x has s (sym same ∙ made)
alloc-by n i t w b v Waits nested is has s made = cc
alloc-by n i t w b v Blocked nested is has s made = cc

alloc-at : (n : Fresh) (w : Store) (b : Cells) (t : Tag) (p : Port) (v : Value) (o : Option Instr) (nested : Bool)
    → option_map (λ i. i.op) o ≡ Some (Alloc nested) → (s : Structure)
    → (at_instr n w b t p v o).fired ≡ Out (value.Structure s) → is_number v ≡ true
alloc-at n w b t p v None nested is s made = cc
alloc-at n w b t p v (Some i) nested is s made =
    let op : i.op ≡ Alloc nested = cc in
    alloc-by n i t (waiting_after i.op w t p v) b v (arrival i.op w t p v) nested op (has-arrival i.op w t p v) s made

-- an `alloc` brings a structure out for a number
pub alloc-number : (g : Parts) (n : Fresh) (w : Store) (b : Cells) (t : Tag) (p : Port) (v : Value) (nested : Bool)
    → op_at g t.instr ≡ Some (Alloc nested) → (s : Structure)
    → (outcome g n w b (Token t p v)).fired ≡ Out (value.Structure s) → is_number v ≡ true
alloc-number g n w b t p v nested is s made = alloc-at n w b t p v (slice_get g.instrs t.instr) nested is s made
