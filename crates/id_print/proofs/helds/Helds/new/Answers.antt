-- Both lists are in order, so that their lines are.
use Rattle.id_print.specs.Helds.{joined}
use Rattle.id_print.specs.Names.{HeldBefore, OfOneThing, held_cmp}
use Rattle.id_print.proofs.HeldsLemmas.{IsOrderOf-joined}
use Rattle.id_print.proofs.NamesLemmas.{Rises-sorted, helds_told}
use Rattle.id_print.proofs.helds.Helds.new.Goals as goal

pub returns-clause-sorted : goal.returns-clause-sorted
returns-clause-sorted c =
    IsOrderOf-joined c.args.shapes c.in_ok-shapes.shapes c.args.cells c.in_ok-cells.cells c.in_ok-shapes.ensures.same
    c.in_ok-shapes.ensures.up
    c.in_ok-cells.ensures.same c.in_ok-cells.ensures.up

pub returns-clause-rise : goal.returns-clause-rise
returns-clause-rise c = λ apart.
    Rises-sorted held_cmp HeldBefore OfOneThing helds_told (joined c.in_ok-shapes.shapes c.in_ok-cells.cells) _
    (IsOrderOf-joined c.args.shapes c.in_ok-shapes.shapes c.args.cells c.in_ok-cells.cells c.in_ok-shapes.ensures.same
    c.in_ok-shapes.ensures.up
    c.in_ok-cells.ensures.same c.in_ok-cells.ensures.up) apart
