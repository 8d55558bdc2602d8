-- what `write_at` says of the pages, said of the map that they stand for
use Rattle.std.proofs.Common.{◌≡◌, IfOk, sym, subst}
use Rattle.id_bank.specs.Cells.{write_answer, state_written}
use Rattle.id_bank.proofs.SlotsLemmas.{at_cell, insert-from_pages, same-from_pages}
use Rattle.id_bank.proofs.Bank.write.Goals as goal

pub returns-clause-answer : goal.returns-clause-answer
returns-clause-answer c =
    let there =
    at_cell c.self.inside.pages.entries c.write_at.ensures.was_unique _ c.self.view_is c.args.cell c.of.result
    c.of.ensures
    c.offset_of.result c.offset_of.ensures.value in
    subst (λ o. IfOk c.write_at.result (λ a. a ≡ write_answer o)) (sym there) c.write_at.ensures.answer

pub returns-clause-after : goal.returns-clause-after
returns-clause-after c =
    insert-from_pages c.self.inside.pages.entries c.write_at.ensures.was_unique _ c.self.view_is c.args.cell c.of.result
    c.of.ensures
    c.offset_of.result c.offset_of.ensures.value
    c.write_at.new.pages.entries c.write_at.ensures.unique c.write_at.ensures.others c.write_at.result
    (state_written c.args.value c.args.origin) c.write_at.ensures.at

pub returns-clause-err : goal.returns-clause-err
returns-clause-err c =
    same-from_pages c.self.inside.pages.entries c.write_at.ensures.was_unique _ c.self.view_is c.args.cell c.of.result
    c.of.ensures
    c.offset_of.result c.offset_of.ensures.value
    c.write_at.new.pages.entries c.write_at.ensures.unique c.write_at.ensures.others c.write_at.result
    c.write_at.ensures.err
