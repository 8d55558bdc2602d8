-- What is On is carried, under an activation whose trigger has fired.
use Rattle.id_laws.proofs.Bounding.Ending.{at_end}
use Rattle.id_laws.proofs.bounds.rest_is_the_end.Goals as goal

pub returns : goal.returns
returns c = at_end
