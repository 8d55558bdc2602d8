-- The codes of tags, cells, ports and values, by which models that hold them tell them apart.
use Rattle.std.specs.Prelude.{◌≡◌, ℕ, ℤ, Bool, true, false, ◌⊎◌, refl}
use Rattle.std.proofs.Common.{inl, inr}
use Rattle.std.specs.Coded.{Coded, code_by, coded×, coded⊎, coded_ℕ, coded_ℤ, coded_bool}
use Rattle.id_instr.specs.declared.dests.Port.{Port}
use Rattle.id_instr.specs.declared.dests.Port.TheVariants.{Zero, One}
use Rattle.id_tag.specs.declared.Context.{Context}
use Rattle.id_tag.specs.declared.Tag.{Tag}
use Rattle.id_tag.specs.declared.Structure.{Structure}
use Rattle.id_tag.specs.declared.Cell.{Cell}
use Rattle.id_tag.specs.declared.Value.{Value}
use Rattle.id_tag.specs.declared.Value.TheVariants as value

-- a context as a pair of numbers
abbrev pub coded_context : Coded Context
coded_context =
    code_by (ℕ × ℕ) (coded× coded_ℕ coded_ℕ) (λ c. (c.element, c.serial))
    (λ p. record { element = p.0; serial = p.1 }) (λ _. refl)

-- a tag as its context with a pair of numbers
abbrev pub coded_tag : Coded Tag
coded_tag =
    code_by (Context × (ℕ × ℕ)) (coded× coded_context (coded× coded_ℕ coded_ℕ))
    (λ t. (t.context, (t.iteration, t.instr)))
    (λ p. record { context = p.0; iteration = p.1.0; instr = p.1.1 })
    (λ _. refl)

-- a structure as its two numbers with its bounds, and whether it is nested
abbrev pub coded_structure : Coded Structure
coded_structure =
    code_by (((ℕ × ℕ) × (ℤ × ℤ)) × Bool)
    (coded× (coded× (coded× coded_ℕ coded_ℕ) (coded× coded_ℤ coded_ℤ)) coded_bool)
    (λ a. (((a.element, a.serial), (a.low, a.high)), a.nested))
    (λ p. record { element = p.0.0.0; serial = p.0.0.1; low = p.0.1.0; high = p.0.1.1; nested = p.1 })
    (λ _. refl)

-- a cell as its structure with its index
abbrev pub coded_cell : Coded Cell
coded_cell =
    code_by (Structure × ℤ) (coded× coded_structure coded_ℤ) (λ c. (c.structure, c.index))
    (λ p. record { structure = p.0; index = p.1 }) (λ _. refl)

-- whether the port is port 1
abbrev pub is_port_one : Port → Bool
is_port_one Zero = false
is_port_one One = true

-- port 1 or port 0
abbrev pub port_of : Bool → Port
port_of false = Zero
port_of true = One

-- whether a port is port 1 tells which port it is
pub port_of-is_port_one : (p : Port) → port_of (is_port_one p) ≡ p
port_of-is_port_one Zero = refl
port_of-is_port_one One = refl

-- a port as a truth value
abbrev pub coded_port : Coded Port
coded_port = code_by Bool coded_bool is_port_one port_of port_of-is_port_one

-- a truth value for a signal, or else a number, a truth value, a structure, a cell, a context or a tag
abbrev pub Parts : Type 0
Parts = Bool ⊎ (ℤ ⊎ (Bool ⊎ (Structure ⊎ (Cell ⊎ (Context ⊎ Tag)))))

-- what a value holds
abbrev pub parts_of : Value → Parts
parts_of value.Signal = inl false
parts_of (value.Int n) = inr (inl n)
parts_of (value.Bool b) = inr (inr (inl b))
parts_of (value.Structure a) = inr (inr (inr (inl a)))
parts_of (value.Address c) = inr (inr (inr (inr (inl c))))
parts_of (value.Context c) = inr (inr (inr (inr (inr (inl c)))))
parts_of (value.Continuation t) = inr (inr (inr (inr (inr (inr t)))))

-- the value that holds it
abbrev pub from_parts : Parts → Value
from_parts (inl _) = value.Signal
from_parts (inr (inl n)) = value.Int n
from_parts (inr (inr (inl b))) = value.Bool b
from_parts (inr (inr (inr (inl a)))) = value.Structure a
from_parts (inr (inr (inr (inr (inl c))))) = value.Address c
from_parts (inr (inr (inr (inr (inr (inl c)))))) = value.Context c
from_parts (inr (inr (inr (inr (inr (inr t)))))) = value.Continuation t

-- the value that holds what a value holds is that value
pub from_parts-parts_of : (v : Value) → from_parts (parts_of v) ≡ v
from_parts-parts_of value.Signal = refl
from_parts-parts_of (value.Int _) = refl
from_parts-parts_of (value.Bool _) = refl
from_parts-parts_of (value.Structure _) = refl
from_parts-parts_of (value.Address _) = refl
from_parts-parts_of (value.Context _) = refl
from_parts-parts_of (value.Continuation _) = refl

-- a value as what it holds
abbrev pub coded_value : Coded Value
coded_value =
    code_by Parts
    (coded⊎ coded_bool (coded⊎ coded_ℤ (coded⊎ coded_bool (coded⊎ coded_structure (coded⊎ coded_cell
    (coded⊎ coded_context coded_tag)))))) parts_of from_parts from_parts-parts_of
