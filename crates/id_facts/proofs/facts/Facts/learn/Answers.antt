-- Facts stay in their chains, and one more hangs in its own.
use Rattle.std.proofs.Common.{◌≡◌, length, refl, ap, sym, ◌∙◌, arith}
use Rattle.id_facts.specs.RowFacts.{is_inside}
use Rattle.id_facts.proofs.LearntLemmas.{held-kept, held-more}
use Rattle.id_facts.proofs.facts.Facts.learn.Goals as goal

pub invariant_of-self : goal.invariant_of-self
invariant_of-self c =
    held-kept c.self.inside.items.items _ c.self.inside.chains c.add.new.self refl c.add.ensures.wide c.add.ensures.kept
    c.self.invariant

pub invariant_of-self-in_err-push : goal.invariant_of-self-in_err-push
invariant_of-self-in_err-push c =
    held-kept c.self.inside.items.items _ c.self.inside.chains c.add.new.self c.in_err-push.ensures.items
    c.add.ensures.wide c.add.ensures.kept c.self.invariant

pub invariant_of-self-then-not-has : goal.invariant_of-self-then-not-has
invariant_of-self-then-not-has c =
    let fs = c.self.inside.items.items in
    let long : c.len.result ≡ length fs = (let q = c.len.ensures in omega arith) in
    let number : c.len-then-not-has.result ≡ length fs = (let q = c.len-then-not-has.ensures in omega arith) in
    held-more fs _ c.self.inside.chains c.add.new.self c.args.fact c.len-then-not-has.result c.member_chain.result
    c.in_ok-push.ensures.items number
    c.member_chain.ensures.chain (ap (λ n. is_inside n c.args.fact) (sym long) ∙ sym c.is_inside.ensures
    ∙ c.if-is_inside.true) c.in_ok-add.ensures.gains
    c.self.invariant
