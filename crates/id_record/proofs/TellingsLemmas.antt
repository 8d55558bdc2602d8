-- Lemmas on specs/Tellings.antt: short events that tell nothing.
use Rattle.std.proofs.Common.{arith, ◌≡◌, ℕ, Bool, true, false, Some, None, [], refl, ap}
use Rattle.std.specs.Prelude.{◌==◌, if◌then◌else◌}
use Rattle.std.proofs.lemmas.Bool.Decides.{nat_tests}
use Rattle.id_tag.specs.declared.plain.Plain.{Plain}
use Rattle.id_tag.specs.declared.plain.Plain.TheVariants as plain
use Rattle.id_tag.specs.declared.plain.PlainToken.{PlainToken}
use Rattle.id_tag.specs.Plains.{message_of, tag_in, whole}
use Rattle.id_ops.specs.declared.plain_fired.PlainFired.{PlainFired}
use Rattle.id_ops.specs.declared.plain_fired.PlainFired.TheVariants.{Nothing, Out, Side, Moved, Sent, Addressed, Asked, Stored}
use Rattle.id_ops.specs.PlainFired.{MakesNone, fired_of}
use Rattle.id_record.specs.declared.plain_firing.PlainFiring.{PlainFiring}
use Rattle.id_record.specs.declared.cell_event.CellAnswer.{CellAnswer}
use Rattle.id_record.specs.declared.cell_event.CellAnswer.TheVariants.{Deferred, Answered, Filled}
use Rattle.id_record.specs.declared.cell_event.CellEvent.{CellEvent}
use Rattle.id_record.specs.PlainFirings.{plain_firing}
use Rattle.id_record.specs.CellEvents.{cell_content, cell_event}
use Rattle.id_record.specs.declared.telling.Told.TheVariants.{Came}
use Rattle.id_record.specs.Tellings.{came_in, made_in, told_in}

-- what is not 0 does not pass for it
pub not_zero : (n : ℕ) → (n ≡ 0 → ⊥) → (n == 0) ≡ false
not_zero n other = from (n == 0) refl
  where
    zero_from : (n == 0) ≡ true → n ≡ 0
    zero_from is = grind (arith, nat_tests)

    from : (b : Bool) → (n == 0) ≡ b → (n == 0) ≡ false
    from true is = absurd (other (zero_from is))
    from false is = is

-- a token for another instruction than 0 does not tell its value
came-elsewhere : (m : PlainToken) → (m.instr == 0) ≡ false → came_in (message_of m).payload ≡ None
came-elsewhere m other =
    ap (λ b. if b then Some (record { tag = tag_in m; told = Came (whole m.value) }) else None) other

-- what makes no structure tells of none
made-none : (m : PlainToken) (v : Plain) (p : PlainFired) → MakesNone p v
    → made_in (message_of (record m { value = v })).payload (fired_of (tag_in m) p) ≡ None
made-none m (plain.Int k) (Out (plain.Structure n l h)) none = absurd none
made-none m plain.Signal (Out (plain.Structure n l h)) none = refl
made-none m (plain.Bool b) (Out (plain.Structure n l h)) none = refl
made-none m (plain.Context c) (Out (plain.Structure n l h)) none = refl
made-none m (plain.Continuation c k j) (Out (plain.Structure n l h)) none = refl
made-none m (plain.Structure c i k) (Out (plain.Structure n l h)) none = refl
made-none m (plain.Address c i) (Out (plain.Structure n l h)) none = refl
made-none m v (Out plain.Signal) none = refl
made-none m v (Out (plain.Int n)) none = refl
made-none m v (Out (plain.Bool b)) none = refl
made-none m v (Out (plain.Context n)) none = refl
made-none m v (Out (plain.Continuation n k j)) none = refl
made-none m v (Out (plain.Address n p)) none = refl
made-none m v Nothing none = refl
made-none m v (Side b w) none = refl
made-none m v (Moved i w) none = refl
made-none m v (Sent t w) none = refl
made-none m v (Addressed c) none = refl
made-none m v (Asked c r) none = refl
made-none m v (Stored c w) none = refl

-- a firing that makes no structure tells nothing but at instruction 0
pub plain-silent : (p : PlainFiring) → MakesNone p.fired p.token.now.value → (p.token.now.instr == 0) ≡ false
    → told_in (plain_firing p).message.payload (plain_firing p).reaction.fired ≡ []
plain-silent p none other = rw (came-elsewhere p.token.now other, made-none p.token.now p.token.now.value p.fired none) refl

-- a read or a write of a cell tells nothing
pub cell_event-silent : (v : CellEvent) → told_in (cell_event v).message.payload (cell_event v).reaction.fired ≡ []
cell_event-silent v = from v.answer
  where
    from : (f : CellAnswer) → told_in (cell_content f v.cell (tag_in v.token.now)).payload (cell_content f v.cell (tag_in v.token.now)).fired ≡ []
    from Deferred = refl
    from (Answered w) = refl
    from (Filled w r) = refl
