-- An operator that failed did not go well.
use Rattle.id_step.proofs.TakesLemmas.{goes_ill}
use Rattle.id_step.proofs.element.Element.take_from.Goals as goal

pub returns-in-Failed : goal.returns-in-Failed
returns-in-Failed g c =
    goes_ill c.args.position c.args.self.now c.take_other.new.self c.args.list.now.messages
    c.take_other.new.list.messages
    c.in_ok-take_other.field-0 c.in-Failed.field-0 c.in-Failed.is c.in_ok-take_other.ensures
