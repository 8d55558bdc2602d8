-- What the records of elements account for: each message that was there or was sent, and each that was taken or is
-- left (docs/MACHINE.md, "Runs").
use Rattle.std.specs.Prelude.{◌≡◌, ℕ, ◌+◌, List}
use Rattle.std.specs.List.{flat_map, sum_by}
use Rattle.id_tag.specs.declared.Message.{Message}
use Rattle.id_core.specs.Steps.{State}

-- what was sent, by the records of these states: the sum of the weights of all outputs of their events
abbrev pub sent_of : (Message → ℕ) → List State → ℕ
sent_of f ss = sum_by (λ s. sum_by f (flat_map (λ v. v.outputs) s.events)) ss

-- what was taken, by the records of these states: the sum of the weights of the messages of their events
abbrev pub taken_of : (Message → ℕ) → List State → ℕ
taken_of f ss = sum_by (λ s. sum_by (λ v. f v.message) s.events) ss

-- each message of the start and each that was sent was taken once or is left once, and nothing else was taken or is
-- left: however messages are weighed, both sides weigh the same
abbrev pub IsAccounted : List Message → List State → List Message → Type 0
IsAccounted start ss left =
    (f : Message → ℕ) → sum_by f start + sent_of f ss ≡ taken_of f ss + sum_by f left
