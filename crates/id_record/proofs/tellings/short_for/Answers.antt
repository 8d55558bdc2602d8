-- What is told in short needs nothing aside.
use Rattle.id_record.proofs.tellings.short_for.Goals as goal

pub returns-in-Some-clause-within : goal.returns-in-Some-clause-within
returns-in-Some-clause-within c = c.in-Some.ensures.within c.args.asides.now.items
