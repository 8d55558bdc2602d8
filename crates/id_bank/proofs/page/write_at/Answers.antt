-- what `write_in` says of the page's slots, said of the pages
use Rattle.std.proofs.Common.{◌≡◌, ◌∙◌, sym, subst, Some, IfOk, OnOk, OnErr}
use Rattle.id_bank.specs.Cells.{write_answer, state_written}
use Rattle.id_bank.specs.Slots.{state_at, state_in}
use Rattle.id_bank.proofs.SlotsLemmas.{state_at-entry, state_at-written, others-written, unique-written}
use Rattle.id_bank.proofs.page.write_at.Goals as goal

pub returns-clause-answer : goal.returns-clause-answer
returns-clause-answer c =
    let was = sym (c.reach_page.ensures.same c.args.page c.args.offset) ∙
    state_at-entry c.reach_page.new.pages c.reach_page.ensures.unique c.in_ok-i.i c.args.page _ _ c.write_in.new.slots
    c.in_ok-i.ensures.found
    c.pair_mut-slots.ensures.value c.args.offset in
    subst (λ o. IfOk c.write_in.result (λ a. a ≡ write_answer o)) (sym was) c.write_in.ensures.answer

pub returns-clause-at : goal.returns-clause-at
returns-clause-at c =
    let was = sym (c.reach_page.ensures.same c.args.page c.args.offset) ∙
    state_at-entry c.reach_page.new.pages c.reach_page.ensures.unique c.in_ok-i.i c.args.page _ _ c.write_in.new.slots
    c.in_ok-i.ensures.found
    c.pair_mut-slots.ensures.value c.args.offset in
    let now =
    state_at-written c.reach_page.new.pages c.reach_page.ensures.unique c.in_ok-i.i c.args.page _ _ c.write_in.new.slots
    c.in_ok-i.ensures.found
    c.pair_mut-slots.ensures.value c.args.offset in
    subst (λ o. OnOk c.write_in.result
    (o ≡ Some (state_written c.args.value c.args.origin (state_at c.args.pages.now.entries c.args.page c.args.offset))))
    (sym now)
    (subst (λ o. OnOk c.write_in.result (state_in c.write_in.new.slots.items c.args.offset
    ≡ Some (state_written c.args.value c.args.origin o))) (sym was)
    c.write_in.ensures.at)

pub returns-clause-others : goal.returns-clause-others
returns-clause-others c =
    λ p k apart. others-written c.reach_page.new.pages c.reach_page.ensures.unique c.in_ok-i.i c.args.page _ _
    c.write_in.new.slots c.in_ok-i.ensures.found
    c.pair_mut-slots.ensures.value c.args.offset c.write_in.ensures.others p k apart
    ∙ c.reach_page.ensures.same p k

pub returns-clause-err : goal.returns-clause-err
returns-clause-err c =
    let was = sym (c.reach_page.ensures.same c.args.page c.args.offset) ∙
    state_at-entry c.reach_page.new.pages c.reach_page.ensures.unique c.in_ok-i.i c.args.page _ _ c.write_in.new.slots
    c.in_ok-i.ensures.found
    c.pair_mut-slots.ensures.value c.args.offset in
    let now =
    state_at-written c.reach_page.new.pages c.reach_page.ensures.unique c.in_ok-i.i c.args.page _ _ c.write_in.new.slots
    c.in_ok-i.ensures.found
    c.pair_mut-slots.ensures.value c.args.offset in
    subst (λ o. OnErr c.write_in.result (o ≡ state_at c.args.pages.now.entries c.args.page c.args.offset)) (sym now)
    (subst (λ o. OnErr c.write_in.result (state_in c.write_in.new.slots.items c.args.offset ≡ o)) (sym was)
    c.write_in.ensures.err)

pub returns-clause-unique : goal.returns-clause-unique
returns-clause-unique c =
    unique-written c.reach_page.new.pages c.reach_page.ensures.unique c.in_ok-i.i c.args.page _ _ c.write_in.new.slots
    c.in_ok-i.ensures.found c.pair_mut-slots.ensures.value
