use Rattle.std.proofs.Common.{◌≡◌, ◌<◌, ℕ, None, get_or, length, sym, subst, arith}
use Rattle.std.proofs.lemmas.Result.{IfOk-from_err}
use Rattle.id_table.specs.Lent.{list_of}
use Rattle.id_check.specs.Kinds.{Link, Nowhere, link_at}
use Rattle.id_check.specs.Chains.{IsGoing, IsState}
use Rattle.id_check.proofs.ChainsLemmas.{IsGoing-push}
use Rattle.id_check.proofs.kinds.Bindings.find_links.Goals as goal

pub loop-i-preserved : goal.loop-i-preserved
loop-i-preserved c =
    let l : ℕ → Link = link_at (list_of c.args.self.now.rows.now) (λ j. get_or c.args.self.now.binders.now j None) in
    let ks = c.loop-i.links.items in
    let h = c.loop-i.invariant in
    let states : (j : ℕ) → j < length ks → IsState l 0 j (get_or ks j Nowhere) =
    λ j b. h.states j (subst (λ n. j < n) h.long b) in
    IsGoing-push l c.loop-i.i ks c.push.new.self.items c.follow.result c.in_ok-push.ensures.items h
    (c.follow.ensures l c.loop-i.i (sym c.link_at-link.ensures)
    (subst (λ zs. (j : ℕ) → j < length zs → IsState l 0 j (get_or zs j Nowhere)) (sym c.as_slice.ensures.value) states))

pub returns : goal.returns
returns c =
    let l : ℕ → Link = link_at (list_of c.args.self.now.rows.now) (λ j. get_or c.args.self.now.binders.now j None) in
    let end : c.loop-i.i ≡ length (list_of c.args.self.now.rows.now) =
    omega (arith, c.loop-i.auto.i-end, c.loop-i-test.false) in
    subst (λ n. IsGoing l n 0 c.loop-i.links.items) end c.loop-i.invariant

pub returns-in_err-links : goal.returns-in_err-links
returns-in_err-links c = IfOk-from_err _ _ c.from_residual.ensures.0

pub link_at-link-requires : goal.link_at-link-requires
link_at-link-requires c = subst (λ n. c.loop-i.i < n) c.len-i-end.ensures c.loop-i-test.true

pub returns-in_err-push : goal.returns-in_err-push
returns-in_err-push c = IfOk-from_err _ _ c.from_residual-in_err-push.ensures.0
