-- one of the two slots is free, so the value is put there
use Rattle.std.proofs.Common.{◌≡◌, ◌<◌, ◌∙◌, None, length, get_or, sym, ap, arith}
use Rattle.id_match.specs.Front.{empty_pair, pair_half, place, slot_tag}
use Rattle.id_match.proofs.FrontLemmas.{none_from_test}
use Rattle.id_match.proofs.CallLemmas.{read_at, same_marks, same_front, here_is, puts_here}
use Rattle.id_match.proofs.front.put.Goals as goal

pub returns-then-not-holds-clause-put : goal.returns-then-not-holds-clause-put
returns-then-not-holds-clause-put c = λ free.
    let f = c.args.front.now.items in
    let within : c.place_of-at.result < length f = omega arith in
    let at : get_or f c.place_of-at.result empty_pair ≡ c.index_mut.result.now = read_at f _ _ within c.index_mut.ensures.value in
    let there : c.place_of-at.result ≡ place (slot_tag c.args.slot) (length f) = c.place_of-at.ensures.exact
    ∙ ap (λ t. place t c.len.result) c.tag-tag.ensures ∙ (cc) in
    let one : get_or f c.place_of-at.result empty_pair ≡ c.index.result.now = read_at f _ _ within c.index.ensures in
    let none : pair_half c.index_mut.result.now (slot_tag c.args.slot) ≡ None =
    ap (λ p. pair_half p (slot_tag c.args.slot)) (sym at ∙ one) ∙ ap (pair_half c.index.result.now) (sym c.tag-tag.ensures)
    ∙ none_from_test _ (sym c.if-not-holds.ensures) in
    puts_here f (slot_tag c.args.slot) (omega arith) c.place_of-at.result there c.index_mut.result.now at c.put.new.self _ (c.put.ensures.put none free)

pub returns-then-not-holds-clause-free : goal.returns-then-not-holds-clause-free
returns-then-not-holds-clause-free c = λ _.
    let f = c.args.front.now.items in
    let within : c.place_of-at.result < length f = omega arith in
    let there : c.place_of-at.result ≡ place (slot_tag c.args.slot) (length f) = c.place_of-at.ensures.exact
    ∙ ap (λ t. place t c.len.result) c.tag-tag.ensures ∙ (cc) in
    here_is f (slot_tag c.args.slot) (omega arith) c.place_of-at.result there c.index.result.now (read_at f _ _ within c.index.ensures) c.put.new.self
    ∙ ap (pair_half c.index.result.now) (sym c.tag-tag.ensures) ∙ none_from_test _ (sym c.if-not-holds.ensures)

pub returns-then-not-holds-clause-full : goal.returns-then-not-holds-clause-full
returns-then-not-holds-clause-full c = λ full.
    let f = c.args.front.now.items in
    let within : c.place_of-at.result < length f = omega arith in
    same_front f c.place_of-at.result within c.index_mut.result.now (read_at f _ _ within c.index_mut.ensures.value) c.put.new.self (c.put.ensures.full full)

pub returns-then-not-holds-clause-marks : goal.returns-then-not-holds-clause-marks
returns-then-not-holds-clause-marks c =
    let f = c.args.front.now.items in
    let within : c.place_of-at.result < length f = omega arith in
    same_marks f c.place_of-at.result within c.index_mut.result.now (read_at f _ _ within c.index_mut.ensures.value) c.put.new.self c.put.ensures.mark
