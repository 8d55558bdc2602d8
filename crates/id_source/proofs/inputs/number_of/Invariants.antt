-- The first parameter with the name is behind those so far.
use Rattle.std.proofs.Common.{◌≡◌, ◌+◌, drop}
use Rattle.std.specs.Option.{option_map}
use Rattle.id_source.specs.Inputs.{number_of}
use Rattle.id_source.proofs.inputs.number_of.Given as goal

abbrev pub invariant-loop-n : goal.invariant-loop-n
invariant-loop-n l = number_of l.params l.name ≡ option_map (λ k. l.n + k) (number_of (drop l.n l.params) l.name)
