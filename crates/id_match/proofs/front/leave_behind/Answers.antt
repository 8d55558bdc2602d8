-- the pair of the tag tells of it
use Rattle.std.proofs.Common.{◌≡◌, ◌<◌, ◌∙◌, length, get_or, set, sym, ap, subst, arith}
use Rattle.std.proofs.lemmas.Grind.{common_steps}
use Rattle.id_match.specs.declared.front.Pair.{Pair}
use Rattle.id_match.specs.Front.{IsMarked, IsSingle, empty_pair, pair_half, mark_at, one_less, place}
use Rattle.id_match.proofs.FrontLemmas.{holds_set, place_below}
use Rattle.id_match.proofs.BehindLemmas.{marked_less}
use Rattle.id_match.proofs.front.leave_behind.Goals as goal

pub returns-clause-marked : goal.returns-clause-marked
returns-clause-marked c = λ es fs marked others was gone.
    let f = c.args.front.now.items in
    let some : 0 < length f = grind (arith, common_steps) in
    let there : c.place_of-at.result ≡ place c.args.tag (length f) = grind (arith, common_steps) in
    let at : get_or f c.place_of-at.result empty_pair ≡ c.index.result.now = grind (arith, common_steps) in
    let told : mark_at f c.args.tag ≡ c.index.result.now.first.behind =
    ap (λ k. (get_or f k empty_pair).first.behind) (sym there) ∙ ap (λ p. p.first.behind) at in
    let x : Pair = record c.index_mut.result.now { first = record c.index_mut.result.now.first { behind = c.less.result } } in
    subst (λ k. IsMarked (set f k x) fs) (sym there)
    (marked_less f c.args.tag some (place_below c.args.tag _ some) x es fs marked others (c.less.ensures ∙ ap one_less (sym told)) was gone)

-- and holds what it held
pub returns-clause-holds : goal.returns-clause-holds
returns-clause-holds c =
    let f = c.args.front.now.items in
    let at : get_or f c.place_of-at.result empty_pair ≡ c.index_mut.result.now = grind (arith, common_steps) in
    let below : c.place_of-at.result < length f = grind (arith, common_steps) in
    let x : Pair = record c.index_mut.result.now { first = record c.index_mut.result.now.first { behind = c.less.result } } in
    holds_set f c.place_of-at.result x (λ u. ap (λ p. pair_half p u) (sym at)) (subst IsSingle at) below
