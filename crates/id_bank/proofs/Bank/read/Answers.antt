-- what `read_at` says of the pages, said of the map that they stand for
use Rattle.std.proofs.Common.{◌≡◌, IfOk, OnErr, sym, subst}
use Rattle.id_bank.specs.declared.cell.ReadAnswer.TheVariants.{Deferred as PutOff}
use Rattle.id_bank.specs.Cells.{read_answer, state_read}
use Rattle.id_bank.proofs.SlotsLemmas.{at_cell, insert-from_pages, same-from_pages}
use Rattle.id_bank.proofs.Bank.read.Goals as goal

pub returns-clause-answer : goal.returns-clause-answer
returns-clause-answer c =
    let there =
    at_cell c.self.inside.pages.entries c.read_at.ensures.was_unique _ c.self.view_is c.args.cell c.of.result
    c.of.ensures
    c.offset_of.result c.offset_of.ensures.value in
    subst (λ o. IfOk c.read_at.result (λ a. a ≡ read_answer o)) (sym there) c.read_at.ensures.answer

pub returns-clause-grows : goal.returns-clause-grows
returns-clause-grows c =
    let there =
    at_cell c.self.inside.pages.entries c.read_at.ensures.was_unique _ c.self.view_is c.args.cell c.of.result
    c.of.ensures
    c.offset_of.result c.offset_of.ensures.value in
    subst (λ o. OnErr c.read_at.result (read_answer o ≡ PutOff)) (sym there) c.read_at.ensures.grows

pub returns-clause-after : goal.returns-clause-after
returns-clause-after c =
    insert-from_pages c.self.inside.pages.entries c.read_at.ensures.was_unique _ c.self.view_is c.args.cell c.of.result
    c.of.ensures
    c.offset_of.result c.offset_of.ensures.value
    c.read_at.new.pages.entries c.read_at.ensures.unique c.read_at.ensures.others c.read_at.result
    (state_read c.args.reply) c.read_at.ensures.at

pub returns-clause-err : goal.returns-clause-err
returns-clause-err c =
    same-from_pages c.self.inside.pages.entries c.read_at.ensures.was_unique _ c.self.view_is c.args.cell c.of.result
    c.of.ensures
    c.offset_of.result c.offset_of.ensures.value
    c.read_at.new.pages.entries c.read_at.ensures.unique c.read_at.ensures.others c.read_at.result c.read_at.ensures.err
