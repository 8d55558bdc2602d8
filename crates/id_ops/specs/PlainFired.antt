-- What an instruction fires in small numbers.
use Rattle.std.specs.Prelude.{Bool, true, false}
use Rattle.id_tag.specs.declared.Tag.{Tag}
use Rattle.id_tag.specs.declared.Value.TheVariants as value
use Rattle.id_tag.specs.declared.plain.Plain.{Plain}
use Rattle.id_tag.specs.declared.plain.Plain.TheVariants.{Int, Structure}
use Rattle.id_tag.specs.Plains.{cell_of, whole}
use Rattle.id_ops.specs.declared.Fired.{Fired}
use Rattle.id_ops.specs.declared.Fired.TheVariants as fired
use Rattle.id_ops.specs.declared.plain_fired.PlainFired.{PlainFired}
use Rattle.id_ops.specs.declared.plain_fired.PlainFired.TheVariants.{Nothing, Out, Side, Moved, Sent}
use Rattle.id_ops.specs.declared.plain_fired.PlainFired.TheVariants.{Addressed, Asked, Stored}
use Rattle.id_ops.specs.declared.plain_fired.Target.{Target}

-- a target as any tag
abbrev pub target_tag : Target → Tag
target_tag t = record {
  context = record { element = t.element; serial = t.serial };
  iteration = t.iteration;
  instr = t.instr;
}

-- what is fired on operands of this tag, as any firing
abbrev pub fired_of : Tag → PlainFired → Fired
fired_of t Nothing = fired.Nothing
fired_of t (Out v) = fired.Out (whole v)
fired_of t (Side b v) = fired.Side b (whole v)
fired_of t (Moved i v) = fired.Moved i (whole v)
fired_of t (Sent u v) = fired.Sent (target_tag u) (whole v)
fired_of t (Addressed c) = fired.Out (value.Address (cell_of c))
fired_of t (Asked c r) =
    fired.Asked (cell_of c) (record { context = t.context; iteration = t.iteration; instr = r })
fired_of t (Stored c v) = fired.Stored (cell_of c) (whole v) t

-- whether something is sent, and no context is entered
abbrev pub is_sent : Fired → Bool
is_sent (fired.Out v) = true
is_sent (fired.Side b v) = true
is_sent (fired.Moved i v) = true
is_sent (fired.Sent t v) = true
is_sent (fired.Asked c r) = true
is_sent (fired.Stored c v o) = true
is_sent (fired.Entered c) = false
is_sent (fired.Failed f) = false
is_sent fired.Nothing = false

-- no structure goes out for a token of this value where that is a number, as one that was made would
abbrev pub MakesNone : PlainFired → Plain → Type 0
MakesNone (Out (Structure n l h)) (Int k) = ⊥
MakesNone f v = Unit {0}
