use Rattle.id_elements.proofs.WorkersLemmas.{IsKept-sorted}
use Rattle.id_elements.proofs.worker.Worker.sort_letter.Goals as goal

pub invariant_of-self : goal.invariant_of-self
invariant_of-self c =
    let w = c.self.inside in
    let n = c.sort.new in (
      IsKept-sorted w.goes w.doors.items w.element w.own.messages w.came.messages w.back.messages w.stray.messages
          w.letters.items c.self.invariant.0
          n.own.messages n.letter.messages n.stray.messages c.sort.ensures.own c.sort.ensures.weight,
      c.self.invariant.1,
      c.self.invariant.2,
    )
