-- The starts rise, so those before the last one are up to the place too.
use Rattle.std.proofs.Common.{arith}
use Rattle.id_text.proofs.PlacesLemmas.{until_is}
use Rattle.id_text.proofs.places.are_until.Goals as goal

pub returns-then-near-starts-2 : goal.returns-then-near-starts-2
returns-then-near-starts-2 c = λ _. until_is c.args.starts.now c.args.at c.args.near c.requires (omega arith) (omega arith) (omega arith) (λ more. omega arith)

pub returns : goal.returns
returns c = λ _. until_is c.args.starts.now c.args.at c.args.near c.requires (omega arith) (omega arith) (omega arith) (λ more. omega arith)
