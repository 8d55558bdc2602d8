-- what the calls say of the front and of the halves, said of the store
use Rattle.std.proofs.Common.{◌≡◌, ◌∙◌, None, refl, sym, ap, subst, arith}
use Rattle.std.proofs.lemmas.Grind.{common_steps}
use Rattle.std.specs.FinMap.{entries, from_entries}
use Rattle.id_match.specs.declared.meeting.Offered.TheVariants.{Kept}
use Rattle.id_match.specs.Front.{IsKept, all_entries, front_half}
use Rattle.id_match.proofs.KeyedLemmas.{keyed_from_after, waits-offer_after}
use Rattle.id_match.specs.Waiting.{waits}
use Rattle.id_match.proofs.FrontLemmas.{none_behind, all_of_meets, all_of_put, behind_kept, behind_answer, behind_after, others_always, if_ok, on_ok, on_err}
use Rattle.id_match.proofs.Waiting.offer.Goals as goal

pub invariant_of-self : goal.invariant_of-self
invariant_of-self c =
    let is : from_entries (all_entries c.self.inside.front.items (entries c.self.inside.rear)) ≡ c.args.self.now = c.self.view_is ∙ c.make_room.ensures in
    (all_of_meets c.self.inside.front.items (entries c.self.inside.rear) _ is c.self.invariant c.args.port c.args.value _ c.args.tag _
    (c.in-Some.ensures.met c.self.invariant.placed) c.take.ensures.marks
    (none_behind c.self.inside.front.items (entries c.self.inside.rear) c.self.invariant _ c.in-Some.ensures.found)).0

pub returns-in-Some-clause-answer : goal.returns-in-Some-clause-answer
returns-in-Some-clause-answer c =
    let is : from_entries (all_entries c.self.inside.front.items (entries c.self.inside.rear)) ≡ c.args.self.now = c.self.view_is ∙ c.make_room.ensures in
    (all_of_meets c.self.inside.front.items (entries c.self.inside.rear) _ is c.self.invariant c.args.port c.args.value _ c.args.tag _
    (c.in-Some.ensures.met c.self.invariant.placed) c.take.ensures.marks
    (none_behind c.self.inside.front.items (entries c.self.inside.rear) c.self.invariant _ c.in-Some.ensures.found)).1

pub returns-in-Some-clause-after : goal.returns-in-Some-clause-after
returns-in-Some-clause-after c =
    let is : from_entries (all_entries c.self.inside.front.items (entries c.self.inside.rear)) ≡ c.args.self.now = c.self.view_is ∙ c.make_room.ensures in
    (all_of_meets c.self.inside.front.items (entries c.self.inside.rear) _ is c.self.invariant c.args.port c.args.value _ c.args.tag _
    (c.in-Some.ensures.met c.self.invariant.placed) c.take.ensures.marks
    (none_behind c.self.inside.front.items (entries c.self.inside.rear) c.self.invariant _ c.in-Some.ensures.found)).2

pub returns-in-Some-clause-keyed : goal.returns-in-Some-clause-keyed
returns-in-Some-clause-keyed c =
    let is : from_entries (all_entries c.self.inside.front.items (entries c.self.inside.rear)) ≡ c.args.self.now = c.self.view_is ∙ c.make_room.ensures in
    λ t p. ap (λ x. waits x t p) ((all_of_meets c.self.inside.front.items (entries c.self.inside.rear) _ is c.self.invariant c.args.port c.args.value _
    c.args.tag _ (c.in-Some.ensures.met c.self.invariant.placed) c.take.ensures.marks
    (none_behind c.self.inside.front.items (entries c.self.inside.rear) c.self.invariant _ c.in-Some.ensures.found)).2)
    ∙ waits-offer_after _ c.args.tag c.args.port c.args.value t p

pub invariant_of-self-then-put_value_before : goal.invariant_of-self-then-put_value_before
invariant_of-self-then-put_value_before c =
    let is : from_entries (all_entries c.self.inside.front.items (entries c.self.inside.rear)) ≡ c.args.self.now = c.self.view_is ∙ c.make_room.ensures in
    let same : c.take.new.front.items ≡ c.self.inside.front.items = grind (arith, common_steps) in
    let kept : IsKept c.take.new.front.items (entries c.self.inside.rear) = subst (λ f. IsKept f (entries c.self.inside.rear)) (sym same) c.self.invariant in
    let holds : from_entries (all_entries c.take.new.front.items (entries c.self.inside.rear)) ≡ c.args.self.now = ap (λ f. from_entries (all_entries f
    (entries c.self.inside.rear))) same ∙ is in
    (all_of_put c.take.new.front.items (entries c.self.inside.rear) _ holds kept c.args.port c.args.value _ c.args.tag
    (c.if-put_value_before.ensures.apart kept.marked refl)
    (c.if-put_value_before.ensures.free refl) (c.if-put_value_before.ensures.put refl) c.put_value_before.ensures.marks).0

pub returns-then-put_value_before-clause-answer : goal.returns-then-put_value_before-clause-answer
returns-then-put_value_before-clause-answer c =
    let is : from_entries (all_entries c.self.inside.front.items (entries c.self.inside.rear)) ≡ c.args.self.now = c.self.view_is ∙ c.make_room.ensures in
    let same : c.take.new.front.items ≡ c.self.inside.front.items = grind (arith, common_steps) in
    let kept : IsKept c.take.new.front.items (entries c.self.inside.rear) = subst (λ f. IsKept f (entries c.self.inside.rear)) (sym same) c.self.invariant in
    let holds : from_entries (all_entries c.take.new.front.items (entries c.self.inside.rear)) ≡ c.args.self.now = ap (λ f. from_entries (all_entries f
    (entries c.self.inside.rear))) same ∙ is in
    (all_of_put c.take.new.front.items (entries c.self.inside.rear) _ holds kept c.args.port c.args.value _ c.args.tag
    (c.if-put_value_before.ensures.apart kept.marked refl)
    (c.if-put_value_before.ensures.free refl) (c.if-put_value_before.ensures.put refl) c.put_value_before.ensures.marks).1

pub returns-then-put_value_before-clause-after : goal.returns-then-put_value_before-clause-after
returns-then-put_value_before-clause-after c =
    let is : from_entries (all_entries c.self.inside.front.items (entries c.self.inside.rear)) ≡ c.args.self.now = c.self.view_is ∙ c.make_room.ensures in
    let same : c.take.new.front.items ≡ c.self.inside.front.items = grind (arith, common_steps) in
    let kept : IsKept c.take.new.front.items (entries c.self.inside.rear) = subst (λ f. IsKept f (entries c.self.inside.rear)) (sym same) c.self.invariant in
    let holds : from_entries (all_entries c.take.new.front.items (entries c.self.inside.rear)) ≡ c.args.self.now = ap (λ f. from_entries (all_entries f
    (entries c.self.inside.rear))) same ∙ is in
    (all_of_put c.take.new.front.items (entries c.self.inside.rear) _ holds kept c.args.port c.args.value _ c.args.tag
    (c.if-put_value_before.ensures.apart kept.marked refl)
    (c.if-put_value_before.ensures.free refl) (c.if-put_value_before.ensures.put refl) c.put_value_before.ensures.marks).2

pub returns-then-put_value_before-clause-keyed : goal.returns-then-put_value_before-clause-keyed
returns-then-put_value_before-clause-keyed c =
    let is : from_entries (all_entries c.self.inside.front.items (entries c.self.inside.rear)) ≡ c.args.self.now = c.self.view_is ∙ c.make_room.ensures in
    let same : c.take.new.front.items ≡ c.self.inside.front.items = grind (arith, common_steps) in
    let kept : IsKept c.take.new.front.items (entries c.self.inside.rear) = subst (λ f. IsKept f (entries c.self.inside.rear)) (sym same) c.self.invariant in
    let holds : from_entries (all_entries c.take.new.front.items (entries c.self.inside.rear)) ≡ c.args.self.now = ap (λ f. from_entries (all_entries f
    (entries c.self.inside.rear))) same ∙ is in
    λ t p. ap (λ x. waits x t p) ((all_of_put c.take.new.front.items (entries c.self.inside.rear) _ holds kept c.args.port c.args.value _ c.args.tag
    (c.if-put_value_before.ensures.apart kept.marked refl) (c.if-put_value_before.ensures.free refl)
    (c.if-put_value_before.ensures.put refl) c.put_value_before.ensures.marks).2) ∙ waits-offer_after _ c.args.tag
    c.args.port c.args.value t p

pub invariant_of-self-else-put_value_before : goal.invariant_of-self-else-put_value_before
invariant_of-self-else-put_value_before c =
    let is : from_entries (all_entries c.self.inside.front.items (entries c.self.inside.rear)) ≡ c.args.self.now = c.self.view_is ∙ c.make_room.ensures in
    let taken : c.take.new.front.items ≡ c.self.inside.front.items = grind (arith, common_steps) in
    let same : c.put_value_before.new.front.items ≡ c.self.inside.front.items = (c.if-put_value_before.ensures.full refl) ∙ taken in
    let kept : IsKept c.put_value_before.new.front.items (entries c.self.inside.rear) = subst (λ f. IsKept f (entries c.self.inside.rear)) (sym same)
    c.self.invariant in
    let holds : from_entries (all_entries c.put_value_before.new.front.items (entries c.self.inside.rear)) ≡ c.args.self.now =
    ap (λ f. from_entries (all_entries
    f (entries c.self.inside.rear))) same ∙ is in
    let empty : front_half c.self.inside.front.items c.args.tag ≡ None = grind (arith, common_steps) in
    let free : front_half c.put_value_before.new.front.items c.args.tag ≡ None = ap (λ f. front_half f c.args.tag) same ∙ empty in
    let others = others_always (entries c.self.inside.rear) (entries c.offer_to.new.rear) c.offer_to.result c.args.tag c.offer_to.ensures.others
    (on_err c.offer_to.result (ap entries) c.offer_to.ensures.err) in
    behind_kept c.put_value_before.new.front.items (entries c.self.inside.rear) _ holds kept c.args.tag c.args.port c.args.value free
    _ c.offer_to.ensures.holds (entries c.offer_to.new.rear) others (c.offer_to.ensures.marked kept.marked)

pub returns-else-put_value_before-clause-answer : goal.returns-else-put_value_before-clause-answer
returns-else-put_value_before-clause-answer c =
    let is : from_entries (all_entries c.self.inside.front.items (entries c.self.inside.rear)) ≡ c.args.self.now = c.self.view_is ∙ c.make_room.ensures in
    let taken : c.take.new.front.items ≡ c.self.inside.front.items = grind (arith, common_steps) in
    let same : c.put_value_before.new.front.items ≡ c.self.inside.front.items = (c.if-put_value_before.ensures.full refl) ∙ taken in
    let kept : IsKept c.put_value_before.new.front.items (entries c.self.inside.rear) = subst (λ f. IsKept f (entries c.self.inside.rear)) (sym same)
    c.self.invariant in
    let holds : from_entries (all_entries c.put_value_before.new.front.items (entries c.self.inside.rear)) ≡ c.args.self.now =
    ap (λ f. from_entries (all_entries
    f (entries c.self.inside.rear))) same ∙ is in
    let empty : front_half c.self.inside.front.items c.args.tag ≡ None = grind (arith, common_steps) in
    let free : front_half c.put_value_before.new.front.items c.args.tag ≡ None = ap (λ f. front_half f c.args.tag) same ∙ empty in
    if_ok c.offer_to.result (λ a e. behind_answer c.put_value_before.new.front.items (entries c.self.inside.rear) _ holds kept c.args.tag c.args.port
    c.args.value free a e) c.offer_to.ensures.answer

pub returns-else-put_value_before-clause-after : goal.returns-else-put_value_before-clause-after
returns-else-put_value_before-clause-after c =
    let is : from_entries (all_entries c.self.inside.front.items (entries c.self.inside.rear)) ≡ c.args.self.now = c.self.view_is ∙ c.make_room.ensures in
    let taken : c.take.new.front.items ≡ c.self.inside.front.items = grind (arith, common_steps) in
    let same : c.put_value_before.new.front.items ≡ c.self.inside.front.items = (c.if-put_value_before.ensures.full refl) ∙ taken in
    let kept : IsKept c.put_value_before.new.front.items (entries c.self.inside.rear) = subst (λ f. IsKept f (entries c.self.inside.rear)) (sym same)
    c.self.invariant in
    let holds : from_entries (all_entries c.put_value_before.new.front.items (entries c.self.inside.rear)) ≡ c.args.self.now =
    ap (λ f. from_entries (all_entries
    f (entries c.self.inside.rear))) same ∙ is in
    let empty : front_half c.self.inside.front.items c.args.tag ≡ None = grind (arith, common_steps) in
    let free : front_half c.put_value_before.new.front.items c.args.tag ≡ None = ap (λ f. front_half f c.args.tag) same ∙ empty in
    let others = others_always (entries c.self.inside.rear) (entries c.offer_to.new.rear) c.offer_to.result c.args.tag c.offer_to.ensures.others
    (on_err c.offer_to.result (ap entries) c.offer_to.ensures.err) in
    on_ok c.offer_to.result (λ e. behind_after c.put_value_before.new.front.items (entries c.self.inside.rear) _ holds kept c.args.tag c.args.port c.args.value
    free _ c.offer_to.ensures.holds (entries c.offer_to.new.rear) others e) c.offer_to.ensures.at

pub returns-else-put_value_before-clause-keyed : goal.returns-else-put_value_before-clause-keyed
returns-else-put_value_before-clause-keyed c =
    let is : from_entries (all_entries c.self.inside.front.items (entries c.self.inside.rear)) ≡ c.args.self.now = c.self.view_is ∙ c.make_room.ensures in
    let taken : c.take.new.front.items ≡ c.self.inside.front.items = grind (arith, common_steps) in
    let same : c.put_value_before.new.front.items ≡ c.self.inside.front.items = (c.if-put_value_before.ensures.full refl) ∙ taken in
    let kept : IsKept c.put_value_before.new.front.items (entries c.self.inside.rear) = subst (λ f. IsKept f (entries c.self.inside.rear)) (sym same)
    c.self.invariant in
    let holds : from_entries (all_entries c.put_value_before.new.front.items (entries c.self.inside.rear)) ≡ c.args.self.now =
    ap (λ f. from_entries (all_entries
    f (entries c.self.inside.rear))) same ∙ is in
    let empty : front_half c.self.inside.front.items c.args.tag ≡ None = grind (arith, common_steps) in
    let free : front_half c.put_value_before.new.front.items c.args.tag ≡ None = ap (λ f. front_half f c.args.tag) same ∙ empty in
    let others = others_always (entries c.self.inside.rear) (entries c.offer_to.new.rear) c.offer_to.result c.args.tag c.offer_to.ensures.others
    (on_err c.offer_to.result (ap entries) c.offer_to.ensures.err) in
    keyed_from_after c.args.self.now _ c.args.tag c.args.port c.args.value c.offer_to.result (on_ok c.offer_to.result (λ e. behind_after
    c.put_value_before.new.front.items (entries c.self.inside.rear) _ holds kept c.args.tag c.args.port c.args.value free _ c.offer_to.ensures.holds
    (entries c.offer_to.new.rear) others e)
    c.offer_to.ensures.at)

pub returns-else-put_value_before-clause-grows : goal.returns-else-put_value_before-clause-grows
returns-else-put_value_before-clause-grows c =
    let is : from_entries (all_entries c.self.inside.front.items (entries c.self.inside.rear)) ≡ c.args.self.now = c.self.view_is ∙ c.make_room.ensures in
    let taken : c.take.new.front.items ≡ c.self.inside.front.items = grind (arith, common_steps) in
    let same : c.put_value_before.new.front.items ≡ c.self.inside.front.items = (c.if-put_value_before.ensures.full refl) ∙ taken in
    let kept : IsKept c.put_value_before.new.front.items (entries c.self.inside.rear) = subst (λ f. IsKept f (entries c.self.inside.rear)) (sym same)
    c.self.invariant in
    let holds : from_entries (all_entries c.put_value_before.new.front.items (entries c.self.inside.rear)) ≡ c.args.self.now =
    ap (λ f. from_entries (all_entries
    f (entries c.self.inside.rear))) same ∙ is in
    let empty : front_half c.self.inside.front.items c.args.tag ≡ None = grind (arith, common_steps) in
    let free : front_half c.put_value_before.new.front.items c.args.tag ≡ None = ap (λ f. front_half f c.args.tag) same ∙ empty in
    on_err c.offer_to.result (λ e. sym (behind_answer c.put_value_before.new.front.items (entries c.self.inside.rear) _ holds kept c.args.tag c.args.port
    c.args.value free Kept (sym e))) c.offer_to.ensures.grows
