-- What the rules read.
use Rattle.std.specs.Prelude.{refl}
use Rattle.std.specs.Coded.{Coded, code_by, coded×}
use Rattle.id_check.specs.declared.checked.Checked.{Checked}
use Rattle.id_check.specs.contracts.checked.Checked as checked
use Rattle.id_check.specs.Programs.{rows}
use Rattle.id_facts.specs.declared.cells.Cells.{Cells}
use Rattle.id_facts.specs.contracts.cells.Cells as cells
use Rattle.id_facts.specs.declared.queues.Queues.{Queues}
use Rattle.id_facts.specs.contracts.queues.Queues as queues
use Rattle.id_facts.specs.Cells.{AreChained, items}
use Rattle.id_facts.specs.RowFacts.{AreBefore}
use Rattle.id_facts.specs.Waits.{AreWaits}
use Rattle.id_source.specs.declared.links.Links.{Links}
use Rattle.id_source.specs.contracts.links.Links as links
use Rattle.id_source.specs.Links.{AreArgs, AreReads, AreTurns}

-- a program, what its rows lead to, what waits for values, and the facts that are followed
pub record Read : Type 0 where
  pub checked : Checked
  pub links : Links
  pub waits : Queues
  pub cells : Cells

-- these as the tuple of them
abbrev pub coded_read : Coded Read
coded_read =
    code_by (Checked × (Links × (Queues × Cells)))
    (coded× checked.the_row.coded (coded× links.the_row.coded (coded× queues.the_row.coded cells.the_row.coded)))
    (λ r. (r.checked, (r.links, (r.waits, r.cells))))
    (λ p. record { checked = p.0; links = p.1.0; waits = p.1.1.0; cells = p.1.1.1 })
    (λ _. refl)

-- the links are those of the rows, each fact is found in its chain, behind all that it speaks of, and all that waits by
-- the facts is in its queue
pub record AreRead (r : Read) : Type 0 where
  pub turns : AreTurns (rows r.checked) r.links.turns
  pub reads : AreReads r.checked r.links.reads
  pub args : AreArgs r.checked r.links.args
  pub before : AreBefore (items r.cells)
  pub chained : AreChained r.cells
  pub waits : AreWaits r.checked r.links (items r.cells) r.waits
