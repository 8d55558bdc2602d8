-- The rows so far wait.
use Rattle.std.proofs.Common.{take}
use Rattle.id_facts.specs.Cells.{items}
use Rattle.id_facts.specs.Waits.{WaitsFor}
use Rattle.id_facts.proofs.waits.wait_each.Given as goal

abbrev pub invariant-loop-user : goal.invariant-loop-user
invariant-loop-user l =
    WaitsFor l.checked (items l.cells) l.initial.waits l.waits l.path l.row (take l.user-index l.users)
