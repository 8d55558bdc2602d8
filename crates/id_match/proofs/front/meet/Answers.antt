-- what comes of the pair comes of the front
use Rattle.std.proofs.Common.{◌≡◌, ◌≢◌, ◌<◌, ◌∙◌, IsSome, IfSome, length, get_or, sym, ap, subst, arith}
use Rattle.id_tag.specs.Plains.{tag_in, whole}
use Rattle.id_match.specs.Front.{IsSingle, empty_pair, pair_half, place, place_in}
use Rattle.id_match.specs.Meetings.{told}
use Rattle.id_match.specs.declared.front.Behind.TheVariants.{Nothing}
use Rattle.id_match.proofs.FrontLemmas.{place_below, if_some, alone_in}
use Rattle.id_match.proofs.CallLemmas.{read_at, same_marks, same_front, meets_here}
use Rattle.id_match.proofs.front.meet.Goals as goal

pub returns-clause-met : goal.returns-clause-met
returns-clause-met c = λ placed.
    let t = tag_in c.args.token.now in
    let f = c.args.front.now.items in
    let within : c.place_in-at.result < length f = omega arith in
    let some : 0 < length f = omega arith in
    let at : get_or f c.place_in-at.result empty_pair ≡ c.index_mut.result.now = read_at f _ _ within c.index_mut.ensures.value in
    let there : c.place_in-at.result ≡ place (tag_in c.args.token.now) (length f) = c.place_in-at.ensures.exact
    ∙ ap (λ k. place_in k c.args.token.now.instr c.len.result) c.key_of-key.ensures.exact ∙ (cc) in
    let single : IsSingle c.index_mut.result.now =
    subst IsSingle (ap (λ k. get_or f k empty_pair) (sym there) ∙ at) (placed.single (place t (length f)) empty_pair (place_below t _ some)) in
    if_some c.meet.result
    (λ met. if_some (told met c.args.token.now)
    (λ a m. meets_here f t some c.place_in-at.result there c.index_mut.result.now at c.meet.new.self c.args.token.now.port (whole c.args.token.now.value) a m))
    (c.meet.ensures.met single)

pub returns-clause-alone : goal.returns-clause-alone
returns-clause-alone c = λ es kept is.
    let t = tag_in c.args.token.now in
    let f = c.args.front.now.items in
    let within : c.place_in-at.result < length f = omega arith in
    let at : get_or f c.place_in-at.result empty_pair ≡ c.index_mut.result.now = read_at f _ _ within c.index_mut.ensures.value in
    let there : c.place_in-at.result ≡ place (tag_in c.args.token.now) (length f) = c.place_in-at.ensures.exact
    ∙ ap (λ k. place_in k c.args.token.now.instr c.len.result) c.key_of-key.ensures.exact ∙ (cc) in
    alone_in f t (omega arith) es kept c.meet.result is
    (subst (λ p. IfSome c.meet.result (λ _. p.first.behind ≢ Nothing → IsSome (pair_half p t)))
    (sym at ∙ ap (λ k. get_or f k empty_pair) there) c.meet.ensures.found)

pub returns-clause-apart : goal.returns-clause-apart
returns-clause-apart c =
    let f = c.args.front.now.items in
    let within : c.place_in-at.result < length f = omega arith in
    let at : get_or f c.place_in-at.result empty_pair ≡ c.index_mut.result.now = read_at f _ _ within c.index_mut.ensures.value in
    if_some c.meet.result (λ met same is. same_front f c.place_in-at.result within c.index_mut.result.now at c.meet.new.self (same is)) c.meet.ensures.apart

pub returns-clause-none : goal.returns-clause-none
returns-clause-none c = λ none.
    let f = c.args.front.now.items in
    let within : c.place_in-at.result < length f = omega arith in
    same_front f c.place_in-at.result within c.index_mut.result.now (read_at f _ _ within c.index_mut.ensures.value) c.meet.new.self
    (c.meet.ensures.none none)

pub returns-clause-marks : goal.returns-clause-marks
returns-clause-marks c =
    let f = c.args.front.now.items in
    let within : c.place_in-at.result < length f = omega arith in
    same_marks f c.place_in-at.result within c.index_mut.result.now (read_at f _ _ within c.index_mut.ensures.value) c.meet.new.self c.meet.ensures.mark
