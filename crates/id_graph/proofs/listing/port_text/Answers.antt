use Rattle.std.proofs.Common.{rules}
use Rattle.std.specs.Fmt.{digits}
use Rattle.id_graph.proofs.listing.port_text.Goals as goal

pub returns-in-Zero : goal.returns-in-Zero
unfolding digits
returns-in-Zero c = search rules

pub returns-in-One : goal.returns-in-One
unfolding digits
returns-in-One c = search rules
