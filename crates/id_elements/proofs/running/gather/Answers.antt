use Rattle.std.proofs.Common.{◌≡◌, ℕ, ◌+◌, ◌-◌, All, length, vec_len, arith, rules, subst, ◌∙◌}
use Rattle.id_elements.specs.Doors.{HaveParts, queues_of}
use Rattle.id_elements.specs.Gathered.{AreGathered}
use Rattle.id_elements.specs.Workers.{AreWorkers, sent_in}
use Rattle.id_instr.specs.Graph.{Parts}
use Rattle.id_step.specs.Fits.{Fits}
use Rattle.id_core.specs.Machines.{IsElement}
use Rattle.id_elements.proofs.GatheredLemmas.{gathered_more}
use Rattle.id_elements.proofs.WorkersLemmas.{workers_less}
use Rattle.id_elements.proofs.running.gather.Goals as goal

pub loop-worker-preserved : goal.loop-worker-preserved
loop-worker-preserved c =
    let i = c.loop-worker.invariant in
    let g = c.in_ok-gather_one.ensures in
    let n : ℕ = vec_len c.pop.new.self in
    let one : vec_len c.loop-worker.workers ≡ n + 1 = search rules in
    let is : length c.pop.new.self.items ≡ n = search rules in
    let kept =
    subst (AreWorkers c.args.graph.now c.args.allowed.count.number c.args.allowed.steps c.args.allowed.keeps
    (queues_of c.args.doors.now.items)) c.in-Some.ensures.items i.workers in
    let less =
    workers_less c.args.graph.now c.args.allowed.count.number c.args.allowed.steps c.args.allowed.keeps
    (queues_of c.args.doors.now.items) c.pop.new.self.items c.in-Some.worker kept in
    let mine = less.1 in
    let parts =
    subst (λ (k : ℕ). HaveParts k c.gather_one.new.doors.items) (let k = i.few in
    omega arith) (g.parts (1024 - vec_len c.loop-worker.workers) i.parts) in
    let gathered =
    subst (λ (k : ℕ). AreGathered c.args.graph.now c.args.allowed.count.number c.args.allowed.steps c.args.allowed.keeps
    k c.loop-worker.elements.items) one i.elements in
    record {
      few = (let k = i.few in omega arith);
      queues = g.queues ∙ i.queues;
      workers = less.0;
      parts = parts;
      elements =
          rw g.elements
          (gathered_more c.args.graph.now c.args.allowed.count.number c.args.allowed.steps c.args.allowed.keeps n
          c.in-Some.worker.element c.loop-worker.elements.items
          (record {
            element =
                subst (λ (k : ℕ). IsElement c.args.graph.now c.args.allowed.count.number k c.in-Some.worker.element) is
                mine.element;
            kept = mine.kept;
            few = mine.few;
            stops = g.stops;
            sent = subst (λ (h : Parts). All (Fits h) (sent_in c.in-Some.worker.element.state)) mine.element.graph
                g.sent;
          }) gathered);
      len = (let k = i.len in rw g.elements (omega arith));
      whole = λ start w. g.whole start (i.whole start w);
    }
