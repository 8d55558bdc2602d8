-- What a number stands for is below.
use Rattle.id_desugar.proofs.column.Column.get.Goals as goal

pub returns-in-Some-clause-below : goal.returns-in-Some-clause-below
returns-in-Some-clause-below c = c.row_of.ensures.below
