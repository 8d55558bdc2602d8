-- The fact is there where one in its chain is the same.
use Rattle.std.proofs.Common.{◌≡◌, false, List, ap, sym, ◌∙◌, subst, arith, get_or}
use Rattle.std.proofs.lemmas.List.{drop_all}
use Rattle.id_facts.specs.declared.facts.RowFact.{RowFact}
use Rattle.id_facts.specs.RowFacts.{AreHeld, member_chain}
use Rattle.id_source.specs.Links.{targets}
use Rattle.id_facts.proofs.SameLemmas.{found-at, is_in}
use Rattle.id_facts.proofs.MembersLemmas.{held-out}
use Rattle.id_facts.proofs.facts.Facts.has.Goals as goal

pub returns-then-same_fact : goal.returns-then-same_fact
returns-then-same_fact c =
    found-at c.args.self.now c.args.fact c.index.result.now
    (get_or c.of-number-items.result.now c.loop-number.number-index 0)
    (grind (arith, c.if-number-len.true, c.len.ensures, c.self.view_is))
    (grind (arith, c.index.ensures, c.self.view_is))
    (grind (arith, c.same_fact.ensures, c.if-same_fact.true))

pub returns : goal.returns
returns c =
    let fs = c.args.self.now in
    let f = c.args.fact in
    let E = c.self.inside.chains in
    let is = c.of-number-items.result.now in
    let same : is ≡ targets E.rows.items (member_chain f) =
    c.of-number-items.ensures ∙ ap (λ k. targets E.rows.items k) c.member_chain.ensures.chain in
    let none : is_in fs f is ≡ false =
    c.loop-number.invariant
    ∙ ap (λ r. is_in fs f r) (drop_all c.loop-number.number-index is c.loop-number-test.false) in
    let held : AreHeld fs E =
    (let P : List RowFact → Type 0 = λ gs. AreHeld gs E in subst P c.self.view_is c.self.invariant) in
    sym (held-out fs E f held (sym (ap (λ r. is_in fs f r) same) ∙ none))
