use Rattle.std.proofs.Common.{◌≡◌, ◌-◌, length, vec_len, arith, rules, refl, sym, subst, ◌∙◌}
use Rattle.id_elements.specs.Doors.{queues_of}
use Rattle.id_elements.specs.Workers.{IsWorker}
use Rattle.id_elements.proofs.GatheredLemmas.{whole_cut}
use Rattle.id_elements.proofs.ListsLemmas.{same_length}
use Rattle.id_elements.proofs.WorkersLemmas.{workers_more}
use Rattle.id_elements.proofs.running.make_workers.Goals as goal

pub loop-number-preserved : goal.loop-number-preserved
loop-number-preserved c =
    let i = c.loop-number.invariant in
    let cut = c.in_ok-theirs.ensures.cut in
    let theirs = c.in_ok-theirs.ensures.queues ∙ i.queues in
    let a : vec_len c.split_all.new.doors ≡ length c.split_all.new.doors.items = search rules in
    let b : vec_len c.args.doors.now ≡ length c.args.doors.now.items = search rules in
    record {
      queues = cut.queues ∙ i.queues;
      long = a ∙ (same_length c.split_all.new.doors.items c.args.doors.now.items (cut.queues ∙ i.queues) ∙ sym b);
      workers = rw c.in_ok-push.ensures.items
          (workers_more c.args.graph.now c.args.count.number 0 c.args.keeps (queues_of c.args.doors.now.items)
          c.loop-number.workers.items c.in_ok-worker.worker i.workers
          (subst (IsWorker c.args.graph.now c.args.count.number 0 c.args.keeps (queues_of c.args.doors.now.items)
          (length c.loop-number.workers.items)) (sym c.in_ok-worker.ensures)
          (record {
            queues = theirs;
            element = record {
              number = search rules;
              count_is = refl;
              graph = refl;
            };
            kept = refl;
            few = omega arith;
          })));
      len = search rules;
      parts = λ k e lt. cut.parts (1024 - c.loop-number.number) i.parts k e lt ∙ omega arith;
      whole = λ start w. whole_cut start c.loop-number.doors.items c.split_all.new.doors.items cut (i.whole start w);
    }
