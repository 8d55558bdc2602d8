use Rattle.std.proofs.Common.{◌≡◌, ◌++◌, drop}
use Rattle.id_table.specs.Texts.{texts}
use Rattle.id_table.proofs.names.copy_names.Given as goal

abbrev pub invariant-loop-key : goal.invariant-loop-key
invariant-loop-key l = l.names.items ++ texts (drop l.key-index l.keys) ≡ texts l.keys
