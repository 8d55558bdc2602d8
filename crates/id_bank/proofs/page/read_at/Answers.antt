-- what `read_in` says of the page's slots, said of the pages
use Rattle.std.proofs.Common.{◌≡◌, ◌∙◌, sym, subst, Some, IfOk, OnOk, OnErr}
use Rattle.id_bank.specs.declared.cell.ReadAnswer.TheVariants.{Deferred as PutOff}
use Rattle.id_bank.specs.Cells.{read_answer, state_read}
use Rattle.id_bank.specs.Slots.{state_at, state_in}
use Rattle.id_bank.proofs.SlotsLemmas.{state_at-entry, state_at-written, others-written, unique-written}
use Rattle.id_bank.proofs.page.read_at.Goals as goal

pub returns-clause-answer : goal.returns-clause-answer
returns-clause-answer c =
    let was = sym (c.reach_page.ensures.same c.args.page c.args.offset) ∙
    state_at-entry c.reach_page.new.pages c.reach_page.ensures.unique c.in_ok-i.i c.args.page _ _ c.read_in.new.slots
    c.in_ok-i.ensures.found
    c.pair_mut-slots.ensures.value c.args.offset in
    subst (λ o. IfOk c.read_in.result (λ a. a ≡ read_answer o)) (sym was) c.read_in.ensures.answer

pub returns-clause-at : goal.returns-clause-at
returns-clause-at c =
    let was = sym (c.reach_page.ensures.same c.args.page c.args.offset) ∙
    state_at-entry c.reach_page.new.pages c.reach_page.ensures.unique c.in_ok-i.i c.args.page _ _ c.read_in.new.slots
    c.in_ok-i.ensures.found
    c.pair_mut-slots.ensures.value c.args.offset in
    let now =
    state_at-written c.reach_page.new.pages c.reach_page.ensures.unique c.in_ok-i.i c.args.page _ _ c.read_in.new.slots
    c.in_ok-i.ensures.found
    c.pair_mut-slots.ensures.value c.args.offset in
    subst (λ o. OnOk c.read_in.result
    (o ≡ Some (state_read c.args.reply (state_at c.args.pages.now.entries c.args.page c.args.offset)))) (sym now)
    (subst (λ o. OnOk c.read_in.result (state_in c.read_in.new.slots.items c.args.offset
    ≡ Some (state_read c.args.reply o))) (sym was) c.read_in.ensures.at)

pub returns-clause-others : goal.returns-clause-others
returns-clause-others c =
    λ p k apart. others-written c.reach_page.new.pages c.reach_page.ensures.unique c.in_ok-i.i c.args.page _ _
    c.read_in.new.slots c.in_ok-i.ensures.found
    c.pair_mut-slots.ensures.value c.args.offset c.read_in.ensures.others p k apart
    ∙ c.reach_page.ensures.same p k

pub returns-clause-err : goal.returns-clause-err
returns-clause-err c =
    let was = sym (c.reach_page.ensures.same c.args.page c.args.offset) ∙
    state_at-entry c.reach_page.new.pages c.reach_page.ensures.unique c.in_ok-i.i c.args.page _ _ c.read_in.new.slots
    c.in_ok-i.ensures.found
    c.pair_mut-slots.ensures.value c.args.offset in
    let now =
    state_at-written c.reach_page.new.pages c.reach_page.ensures.unique c.in_ok-i.i c.args.page _ _ c.read_in.new.slots
    c.in_ok-i.ensures.found
    c.pair_mut-slots.ensures.value c.args.offset in
    subst (λ o. OnErr c.read_in.result (o ≡ state_at c.args.pages.now.entries c.args.page c.args.offset)) (sym now)
    (subst (λ o. OnErr c.read_in.result (state_in c.read_in.new.slots.items c.args.offset ≡ o)) (sym was)
    c.read_in.ensures.err)

pub returns-clause-unique : goal.returns-clause-unique
returns-clause-unique c =
    unique-written c.reach_page.new.pages c.reach_page.ensures.unique c.in_ok-i.i c.args.page _ _ c.read_in.new.slots
    c.in_ok-i.ensures.found c.pair_mut-slots.ensures.value

pub returns-clause-grows : goal.returns-clause-grows
returns-clause-grows c =
    let was = sym (c.reach_page.ensures.same c.args.page c.args.offset) ∙
    state_at-entry c.reach_page.new.pages c.reach_page.ensures.unique c.in_ok-i.i c.args.page _ _ c.read_in.new.slots
    c.in_ok-i.ensures.found
    c.pair_mut-slots.ensures.value c.args.offset in
    subst (λ o. OnErr c.read_in.result (read_answer o ≡ PutOff)) (sym was) c.read_in.ensures.grows
