-- A message that is handled alone, and where a stretch has ended before it.
use Rattle.std.proofs.Common.{◌≡◌, ◌<◌, ◌-◌, List, length, refl, sym, ap, subst, ◌∙◌}
use Rattle.std.specs.List.{remove}
use Rattle.id_tag.specs.declared.Message.{Message}
use Rattle.id_step.specs.Replays.{ElementView}
use Rattle.id_step.specs.Storage.{element_at}
use Rattle.id_step.specs.Stretches.{GoesOn, OthersStay}
use Rattle.id_step.proofs.StretchesLemmas.{goes_alone, goes_behind, goes_none}
use Rattle.id_step.proofs.element.Element.run_from.Goals as goal

pub returns-then-self-gt256 : goal.returns-then-self-gt256
returns-then-self-gt256 g c =
    goes_alone c.args.limit c.args.position c.args.self.now _ c.args.list.now.messages _ _ c.requires.some
    c.requires.there c.take_from.ensures

pub returns-in-None : goal.returns-in-None
returns-in-None g c =
    goes_alone c.args.limit c.args.position c.args.self.now _ c.args.list.now.messages _ _ c.requires.some
    c.requires.there c.take_from-in-None.ensures

pub returns-in_err-open : goal.returns-in_err-open
returns-in_err-open g c = goes_none _ _ _ _ _ _ _ c.from_residual.ensures.0 refl c.open.ensures.same

pub returns-in_err-reserve : goal.returns-in_err-reserve
returns-in_err-reserve g c =
    goes_none _ _ _ _ _ _ _ c.from_residual-in_err-reserve.ensures.0 refl (c.reserve.ensures.messages
    ∙ c.open.ensures.same)

pub returns-in_err-reserve-2 : goal.returns-in_err-reserve-2
returns-in_err-reserve-2 g c =
    goes_none _ _ _ _ _ _ _ c.from_residual-in_err-reserve-2.ensures.0 c.self.view_is (c.reserve.ensures.messages
    ∙ c.open.ensures.same)

pub returns-in-Apart : goal.returns-in-Apart
returns-in-Apart g c =
    let a = c.args in
    let ran = c.in-Apart.ensures.ran in
    let list = c.reserve.new.self.messages in
    let list1 = c.run.new.list.messages in
    let r = c.take_from-in-Apart.result in
    let list2 = c.take_from-in-Apart.new.list.messages in
    let e2 = c.take_from-in-Apart.new.self in
    let same : list ≡ a.list.now.messages = c.reserve.ensures.messages ∙ c.open.ensures.same in
    let there : a.position < length list =
    subst (λ (xs : List Message). a.position < length xs) (sym same) c.requires.there in
    let before =
    subst (λ i. OthersStay (element_at c.self.inside.storage) a.position list (remove list1 i))
    (sym (ap (λ n. n - 1) c.len-last.ensures)) ran.1 in
    let goes =
    goes_behind ran.0.n a.limit a.position _ (element_at c.self.inside.storage) _ e2 list list1 list2 r ran.0.stretch
    ran.0.few before there
    c.take_from-in-Apart.ensures in
    subst (λ (v : ElementView). GoesOn a.limit a.position v e2 a.list.now.messages list2 r) c.self.view_is
    (subst (λ (xs : List Message). GoesOn a.limit a.position (element_at c.self.inside.storage) e2 xs list2 r) same
    goes)
