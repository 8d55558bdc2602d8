use Rattle.id_elements.proofs.RunsLemmas.{moves_on_from}
use Rattle.id_elements.proofs.running.moves_on.Goals as goal

pub returns : goal.returns
returns c =
    let r = moves_on_from c.args.machine.now c.elements.result.now c.elements.ensures.world in
    ((λ h. r.0 (c.all_move_in.ensures.0 h)), (λ h. c.all_move_in.ensures.1 (r.1 h)))
