-- Activations: what the tags of one turn of a procedure or loop share (docs/MACHINE.md, "Messages").
use Rattle.std.specs.Prelude.{ℕ}
use Rattle.id_tag.specs.declared.Context.{Context}
use Rattle.id_tag.specs.declared.Tag.{Tag}

-- a context at an iteration
pub record Activation : Type 0 where
  pub context : Context
  pub iteration : ℕ

-- this iteration of the context
abbrev pub at_iteration : Context → ℕ → Activation
at_iteration c k = record { context = c; iteration = k }

-- the context that is there at the start
abbrev pub main_context : Context
main_context = record { element = 0; serial = 0 }

-- main's one turn
abbrev pub main_activation : Activation
main_activation = at_iteration main_context 0

-- the tag of an instruction under the activation
abbrev pub tag_in : Activation → ℕ → Tag
tag_in a n = record { context = a.context; iteration = a.iteration; instr = n }

-- the activation that a tag names
abbrev pub activation_of : Tag → Activation
activation_of t = at_iteration t.context t.iteration
