-- Queues of what waits for binders.
use Rattle.std.specs.Prelude.{ℕ, zero, suc}
use Rattle.std.specs.Prelude.{List, [], ◌∷◌, length}
use Rattle.std.proofs.Common.{Vec, Global}
use Rattle.id_facts.specs.declared.queues.Queues.{Queues}
use Rattle.id_facts.specs.declared.queues.Wait.{Wait}
use Rattle.std.specs.Prelude.{◌≡◌, ◌<◌}
use Rattle.id_value.specs.List.{Among}

-- what waits in the queue of this number
abbrev pub queue : List (Vec Wait Global) → ℕ → List Wait
queue [] n = []
queue (v ∷ vs) zero = v.items
queue (v ∷ vs) (suc n) = queue vs n

-- how many queues there are
abbrev pub width : Queues → ℕ
width W = length W.queues.items

-- it waits in the queue of this number
abbrev pub IsIn : Queues → ℕ → Wait → Type 0
IsIn W c w = Among w (queue W.queues.items c)

-- the queues are the old ones, with this in the queue of this number
pub record Adds (V W : Queues) (c : ℕ) (w : Wait) : Type 0 where
  pub wide : width W ≡ width V
  pub kept : (a : ℕ) (x : Wait) → IsIn V a x → IsIn W a x
  pub added : c < width V → IsIn W c w
