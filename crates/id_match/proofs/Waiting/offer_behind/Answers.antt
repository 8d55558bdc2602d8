-- what the calls say of the front and of the halves, said of the store
use Rattle.std.proofs.Common.{◌≡◌, ◌∙◌, None, refl, sym, ap, subst}
use Rattle.std.specs.FinMap.{entries, from_entries}
use Rattle.id_tag.specs.Plains.{tag_in, whole}
use Rattle.id_match.specs.Front.{IsKept, all_entries, front_half}
use Rattle.id_match.specs.Meetings.{told}
use Rattle.id_match.proofs.FrontLemmas.{all_of_put, behind_kept, behind_answer, behind_after, others_always, if_some, on_err}
use Rattle.id_match.proofs.CallLemmas.{free_from_test}
use Rattle.id_match.proofs.Waiting.offer_behind.Goals as goal

pub invariant_of-self : goal.invariant_of-self
invariant_of-self c =
    let is : from_entries (all_entries c.self.inside.front.items (entries c.self.inside.rear)) ≡ c.args.self.now = c.self.view_is ∙ c.make_room.ensures in
    (all_of_put c.self.inside.front.items (entries c.self.inside.rear) _ is c.self.invariant c.args.token.now.port (whole c.args.token.now.value) _
    (tag_in c.args.token.now)
    (c.if-put_token_before.ensures.apart c.self.invariant.marked refl) (c.if-put_token_before.ensures.free refl)
    (c.if-put_token_before.ensures.put refl) c.put_token_before.ensures.marks).0

pub returns-then-put_token_before-clause-answer : goal.returns-then-put_token_before-clause-answer
returns-then-put_token_before-clause-answer c =
    let is : from_entries (all_entries c.self.inside.front.items (entries c.self.inside.rear)) ≡ c.args.self.now = c.self.view_is ∙ c.make_room.ensures in
    (all_of_put c.self.inside.front.items (entries c.self.inside.rear) _ is c.self.invariant c.args.token.now.port (whole c.args.token.now.value) _
    (tag_in c.args.token.now)
    (c.if-put_token_before.ensures.apart c.self.invariant.marked refl) (c.if-put_token_before.ensures.free refl)
    (c.if-put_token_before.ensures.put refl) c.put_token_before.ensures.marks).1

pub returns-then-put_token_before-clause-after : goal.returns-then-put_token_before-clause-after
returns-then-put_token_before-clause-after c =
    let is : from_entries (all_entries c.self.inside.front.items (entries c.self.inside.rear)) ≡ c.args.self.now = c.self.view_is ∙ c.make_room.ensures in
    (all_of_put c.self.inside.front.items (entries c.self.inside.rear) _ is c.self.invariant c.args.token.now.port (whole c.args.token.now.value) _
    (tag_in c.args.token.now)
    (c.if-put_token_before.ensures.apart c.self.invariant.marked refl) (c.if-put_token_before.ensures.free refl)
    (c.if-put_token_before.ensures.put refl) c.put_token_before.ensures.marks).2

pub invariant_of-self-else-put_token_before : goal.invariant_of-self-else-put_token_before
invariant_of-self-else-put_token_before c =
    let is : from_entries (all_entries c.self.inside.front.items (entries c.self.inside.rear)) ≡ c.args.self.now = c.self.view_is ∙ c.make_room.ensures in
    let same : c.put_token_before.new.front.items ≡ c.self.inside.front.items = c.if-put_token_before.ensures.full refl in
    let kept : IsKept c.put_token_before.new.front.items (entries c.self.inside.rear) = subst (λ f. IsKept f (entries c.self.inside.rear)) (sym same)
    c.self.invariant in
    let holds : from_entries (all_entries c.put_token_before.new.front.items (entries c.self.inside.rear)) ≡ c.args.self.now =
    ap (λ f. from_entries (all_entries
    f (entries c.self.inside.rear))) same ∙ is in
    let empty : front_half c.self.inside.front.items (tag_in c.args.token.now) ≡ None =
    free_from_test _ c.deref.result.now _ c.tag.result c.deref.ensures.value c.tag.ensures (sym c.if-has.ensures) in
    let free : front_half c.put_token_before.new.front.items (tag_in c.args.token.now) ≡ None = ap (λ f. front_half f (tag_in c.args.token.now)) same ∙ empty in
    let others = others_always (entries c.self.inside.rear) (entries c.offer_plain_to.new.rear) c.offer_plain_to.result (tag_in c.args.token.now)
    c.offer_plain_to.ensures.others (on_err c.offer_plain_to.result (ap entries) c.offer_plain_to.ensures.err) in
    behind_kept c.put_token_before.new.front.items (entries c.self.inside.rear) _ holds kept (tag_in c.args.token.now) c.args.token.now.port (whole
    c.args.token.now.value) free _ c.offer_plain_to.ensures.holds (entries c.offer_plain_to.new.rear) others
    (c.offer_plain_to.ensures.marked kept.marked)

pub returns-in_ok-met-clause-answer : goal.returns-in_ok-met-clause-answer
returns-in_ok-met-clause-answer c =
    let is : from_entries (all_entries c.self.inside.front.items (entries c.self.inside.rear)) ≡ c.args.self.now = c.self.view_is ∙ c.make_room.ensures in
    let same : c.put_token_before.new.front.items ≡ c.self.inside.front.items = c.if-put_token_before.ensures.full refl in
    let kept : IsKept c.put_token_before.new.front.items (entries c.self.inside.rear) = subst (λ f. IsKept f (entries c.self.inside.rear)) (sym same)
    c.self.invariant in
    let holds : from_entries (all_entries c.put_token_before.new.front.items (entries c.self.inside.rear)) ≡ c.args.self.now =
    ap (λ f. from_entries (all_entries
    f (entries c.self.inside.rear))) same ∙ is in
    let empty : front_half c.self.inside.front.items (tag_in c.args.token.now) ≡ None =
    free_from_test _ c.deref.result.now _ c.tag.result c.deref.ensures.value c.tag.ensures (sym c.if-has.ensures) in
    let free : front_half c.put_token_before.new.front.items (tag_in c.args.token.now) ≡ None = ap (λ f. front_half f (tag_in c.args.token.now)) same ∙ empty in
    if_some (told c.in_ok-met.met c.args.token.now) (λ a e. behind_answer c.put_token_before.new.front.items
    (entries c.self.inside.rear) _ holds kept (tag_in c.args.token.now) c.args.token.now.port (whole c.args.token.now.value) free a e)
    c.in_ok-met.ensures.answer

pub returns-in_ok-met-clause-after : goal.returns-in_ok-met-clause-after
returns-in_ok-met-clause-after c =
    let is : from_entries (all_entries c.self.inside.front.items (entries c.self.inside.rear)) ≡ c.args.self.now = c.self.view_is ∙ c.make_room.ensures in
    let same : c.put_token_before.new.front.items ≡ c.self.inside.front.items = c.if-put_token_before.ensures.full refl in
    let kept : IsKept c.put_token_before.new.front.items (entries c.self.inside.rear) = subst (λ f. IsKept f (entries c.self.inside.rear)) (sym same)
    c.self.invariant in
    let holds : from_entries (all_entries c.put_token_before.new.front.items (entries c.self.inside.rear)) ≡ c.args.self.now =
    ap (λ f. from_entries (all_entries
    f (entries c.self.inside.rear))) same ∙ is in
    let empty : front_half c.self.inside.front.items (tag_in c.args.token.now) ≡ None =
    free_from_test _ c.deref.result.now _ c.tag.result c.deref.ensures.value c.tag.ensures (sym c.if-has.ensures) in
    let free : front_half c.put_token_before.new.front.items (tag_in c.args.token.now) ≡ None = ap (λ f. front_half f (tag_in c.args.token.now)) same ∙ empty in
    let others = others_always (entries c.self.inside.rear) (entries c.offer_plain_to.new.rear) c.offer_plain_to.result (tag_in c.args.token.now)
    c.offer_plain_to.ensures.others (on_err c.offer_plain_to.result (ap entries) c.offer_plain_to.ensures.err) in
    if_some (told c.in_ok-met.met c.args.token.now) (λ a e. behind_after c.put_token_before.new.front.items
    (entries c.self.inside.rear) _ holds kept (tag_in c.args.token.now) c.args.token.now.port (whole c.args.token.now.value) free
    _ c.offer_plain_to.ensures.holds (entries c.offer_plain_to.new.rear) others e) c.in_ok-met.ensures.at
