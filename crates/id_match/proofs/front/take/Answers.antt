-- what comes of the pair comes of the front
use Rattle.std.proofs.Common.{◌≡◌, ◌<◌, ◌∙◌, IsSome, length, get_or, sym, ap, subst, arith}
use Rattle.id_match.specs.Front.{IsSingle, empty_pair, place}
use Rattle.id_match.proofs.FrontLemmas.{place_below, if_some}
use Rattle.id_match.proofs.CallLemmas.{read_at, same_marks, same_front, here_is, meets_here}
use Rattle.id_match.proofs.front.take.Goals as goal

pub returns-clause-met : goal.returns-clause-met
returns-clause-met c = λ placed.
    let t = c.args.tag in
    let f = c.args.front.now.items in
    let within : c.place_of-at.result < length f = omega arith in
    let some : 0 < length f = omega arith in
    let at : get_or f c.place_of-at.result empty_pair ≡ c.index_mut.result.now = read_at f _ _ within c.index_mut.ensures.value in
    let there : c.place_of-at.result ≡ place t (length f) = c.place_of-at.ensures.exact ∙ (cc) in
    let single : IsSingle c.index_mut.result.now =
    subst IsSingle (ap (λ k. get_or f k empty_pair) (sym there) ∙ at) (placed.single (place t (length f)) empty_pair (place_below t _ some)) in
    if_some c.take.result
    (λ a m. meets_here f t some c.place_of-at.result there c.index_mut.result.now at c.take.new.self c.args.port c.args.value a m)
    (c.take.ensures.met single)

pub returns-clause-found : goal.returns-clause-found
returns-clause-found c =
    let t = c.args.tag in
    let f = c.args.front.now.items in
    let within : c.place_of-at.result < length f = omega arith in
    let at : get_or f c.place_of-at.result empty_pair ≡ c.index_mut.result.now = read_at f _ _ within c.index_mut.ensures.value in
    let there : c.place_of-at.result ≡ place t (length f) = c.place_of-at.ensures.exact ∙ (cc) in
    if_some c.take.result
    (λ _ some. subst IsSome (sym (here_is f t (omega arith) c.place_of-at.result there c.index_mut.result.now at c.take.new.self)) some)
    c.take.ensures.found

pub returns-clause-none : goal.returns-clause-none
returns-clause-none c = λ none.
    let f = c.args.front.now.items in
    let within : c.place_of-at.result < length f = omega arith in
    same_front f c.place_of-at.result within c.index_mut.result.now (read_at f _ _ within c.index_mut.ensures.value) c.take.new.self
    (c.take.ensures.none none)

pub returns-clause-free : goal.returns-clause-free
returns-clause-free c = λ none.
    let t = c.args.tag in
    let f = c.args.front.now.items in
    let within : c.place_of-at.result < length f = omega arith in
    let at : get_or f c.place_of-at.result empty_pair ≡ c.index_mut.result.now = read_at f _ _ within c.index_mut.ensures.value in
    let there : c.place_of-at.result ≡ place t (length f) = c.place_of-at.ensures.exact ∙ (cc) in
    here_is f t (omega arith) c.place_of-at.result there c.index_mut.result.now at c.take.new.self ∙ c.take.ensures.free none

pub returns-clause-marks : goal.returns-clause-marks
returns-clause-marks c =
    let f = c.args.front.now.items in
    let within : c.place_of-at.result < length f = omega arith in
    same_marks f c.place_of-at.result within c.index_mut.result.now (read_at f _ _ within c.index_mut.ensures.value) c.take.new.self c.take.ensures.mark
