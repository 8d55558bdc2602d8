-- A fact hangs in its chain, and in that of the structure that it gives.
use Rattle.std.proofs.Common.{arith}
use Rattle.id_facts.proofs.ChainsLemmas.{adds-named-at, adds-plain-at}
use Rattle.id_facts.proofs.cells.Cells.add.Goals as goal

pub returns-in_ok-add-in-Some : goal.returns-in_ok-add-in-Some
returns-in_ok-add-in-Some c =
    adds-named-at c.args.self.now c.add.new.self _ c.args.fact c.in-Some.name _ _ c.len-number.result
    c.chain_of.ensures.chain c.chain_by.ensures.chain
    (let q = c.len-number.ensures in
    omega arith) (grind (arith, c.name_of.ensures, c.in-Some.is)) c.in_ok-push.ensures.items c.in_ok-add.ensures.gains
    c.in_ok-add-in-Some.ensures.gains

pub returns-in-None : goal.returns-in-None
returns-in-None c =
    adds-plain-at c.args.self.now _ c.args.fact _ c.len-number.result c.chain_of.ensures.chain (let q =
    c.len-number.ensures in omega arith)
    (grind (arith, c.name_of.ensures, c.in-None.is)) c.in_ok-push.ensures.items c.in_ok-add.ensures.gains
