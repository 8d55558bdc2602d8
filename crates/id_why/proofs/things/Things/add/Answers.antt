-- Things stay in their chains, and one more hangs in its own.
use Rattle.std.proofs.Common.{◌≡◌, length, refl, arith}
use Rattle.id_why.proofs.ThingsLemmas.{held-kept, held-more}
use Rattle.id_why.proofs.things.Things.add.Goals as goal

pub invariant_of-self : goal.invariant_of-self
invariant_of-self c =
    held-kept c.self.inside.items.items _ c.self.inside.chains c.add.new.self refl c.add.ensures.wide c.add.ensures.kept
    c.self.invariant

pub invariant_of-self-in_err-push : goal.invariant_of-self-in_err-push
invariant_of-self-in_err-push c =
    held-kept c.self.inside.items.items _ c.self.inside.chains c.add.new.self c.in_err-push.ensures.items
    c.add.ensures.wide c.add.ensures.kept c.self.invariant

pub invariant_of-self-in-Continue-branch-2 : goal.invariant_of-self-in-Continue-branch-2
invariant_of-self-in-Continue-branch-2 c =
    let ts = c.self.inside.items.items in
    let number : c.len.result ≡ length ts = (let q = c.len.ensures in omega arith) in
    held-more ts _ c.self.inside.chains c.add.new.self c.args.point c.len.result c.chain_at.result
    c.in_ok-push.ensures.items number
    c.chain_at.ensures.chain c.in_ok-add.ensures.gains c.self.invariant
