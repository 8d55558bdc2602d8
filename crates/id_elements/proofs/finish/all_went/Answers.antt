use Rattle.id_elements.proofs.RunsLemmas.{went_from}
use Rattle.id_elements.proofs.finish.all_went.Goals as goal

pub returns : goal.returns
returns c =
    let r = went_from c.args.machine.now c.elements.result.now c.elements.ensures.world in
    ((λ h. r.0 (c.all_went_in.ensures.0 h)), (λ h. c.all_went_in.ensures.1 (r.1 h)))
