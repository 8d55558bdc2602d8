-- a name that the table has not
use Rattle.id_match.proofs.rear.offer_to.Goals as goal

pub returns-in-None : goal.returns-in-None
returns-in-None c = c.keep_first.ensures c.args.short
