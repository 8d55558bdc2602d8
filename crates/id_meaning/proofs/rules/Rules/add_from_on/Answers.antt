-- What comes of each node.
use Rattle.std.proofs.Common.{arith, rules}
use Rattle.std.proofs.lemmas.Grind.{common_steps}
use Rattle.id_meaning.proofs.rules.Rules.add_from_on.Goals as goal

pub returns-in-Literal : goal.returns-in-Literal
returns-in-Literal c = grind (arith, common_steps)

pub returns-in-Name : goal.returns-in-Name
returns-in-Name c = grind (arith, common_steps)

pub returns-in-Unary : goal.returns-in-Unary
returns-in-Unary c = rw c.in-Unary.is c.add_unary_at.ensures

pub returns-in-Binary : goal.returns-in-Binary
returns-in-Binary c = rw c.in-Binary.is c.add_binary_at.ensures

pub returns-in-If : goal.returns-in-If
returns-in-If c = grind (arith, common_steps)

pub returns-in-Block : goal.returns-in-Block
returns-in-Block c = rw c.in-Block.is c.add_seen-in-Block.ensures

pub returns-in-Array : goal.returns-in-Array
returns-in-Array c = rw c.in-Array.is c.add_array_at.ensures

pub returns-in-Fetch : goal.returns-in-Fetch
returns-in-Fetch c = rw c.in-Fetch.is c.add_fetch_at.ensures

pub returns-in-Store : goal.returns-in-Store
returns-in-Store c = grind (arith, common_steps)

pub returns-in_default : goal.returns-in_default
returns-in_default c = search rules
