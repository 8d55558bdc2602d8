-- The entries so far have their inputs, in order.
use Rattle.std.proofs.Common.{◌≡◌, ◌++◌, take}
use Rattle.id_core.specs.Machines.{input_messages}
use Rattle.id_core.proofs.machine.add_inputs.Given as goal

abbrev pub invariant-loop-index : goal.invariant-loop-index
invariant-loop-index l = l.flight.messages ≡ l.fn.flight.messages ++ input_messages 2 (take l.index l.entries) l.inputs
