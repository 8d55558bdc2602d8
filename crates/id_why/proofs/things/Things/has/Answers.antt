-- The thing is there where one in its chain is the same.
use Rattle.std.proofs.Common.{◌≡◌, false, List, ap, sym, ◌∙◌, subst, arith, get_or}
use Rattle.std.proofs.lemmas.List.{drop_all}
use Rattle.id_source.specs.Links.{targets}
use Rattle.id_facts.specs.declared.cells.Point.{Point}
use Rattle.id_facts.specs.RowFacts.{chain_at}
use Rattle.id_why.specs.Things.{AreHeld}
use Rattle.id_why.proofs.ThingsLemmas.{held-found, held-out, is_held}
use Rattle.id_why.proofs.things.Things.has.Goals as goal

pub returns-then-same_point : goal.returns-then-same_point
returns-then-same_point c =
    held-found c.args.self.now c.args.point c.index.result.now
    (get_or c.of-number-items.result.now c.loop-number.number-index 0)
    (grind (arith, c.if-number-len.true, c.len.ensures, c.self.view_is))
    (grind (arith, c.index.ensures, c.self.view_is))
    (grind (arith, c.same_point.ensures, c.if-same_point.true))

pub returns : goal.returns
returns c =
    let ts = c.args.self.now in
    let t = c.args.point in
    let E = c.self.inside.chains in
    let is = c.of-number-items.result.now in
    let same : is ≡ targets E.rows.items (chain_at t.path t.row) =
    c.of-number-items.ensures ∙ ap (λ k. targets E.rows.items k) c.chain_at.ensures.chain in
    let none : is_held ts t is ≡ false =
    c.loop-number.invariant
    ∙ ap (λ r. is_held ts t r) (drop_all c.loop-number.number-index is c.loop-number-test.false) in
    let held : AreHeld ts E =
    (let P : List Point → Type 0 = λ us. AreHeld us E in subst P c.self.view_is c.self.invariant) in
    sym (held-out ts E t held (sym (ap (λ r. is_held ts t r) same) ∙ none))
