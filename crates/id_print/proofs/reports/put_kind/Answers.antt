use Rattle.id_print.proofs.reports.put_kind.Goals as goal

pub returns-in-Overflow : goal.returns-in-Overflow
returns-in-Overflow g c = rw c.in-Overflow.is c.put.ensures

pub returns-in-DivisionByZero : goal.returns-in-DivisionByZero
returns-in-DivisionByZero g c = rw c.in-DivisionByZero.is c.put-in-DivisionByZero.ensures

pub returns-in-BadBounds : goal.returns-in-BadBounds
returns-in-BadBounds g c = rw c.in-BadBounds.is c.put-in-BadBounds.ensures

pub returns-in-OutOfBounds : goal.returns-in-OutOfBounds
returns-in-OutOfBounds g c = rw c.in-OutOfBounds.is c.put-in-OutOfBounds.ensures
