use Rattle.std.proofs.Common.{◌≡◌, ◌<◌, ℕ, List, [], ◌++◌, length, vec_len, take, drop, get_or, ap, sym, subst, ◌∙◌}
use Rattle.std.proofs.Common.{arith, rules}
use Rattle.std.proofs.lemmas.List.{append-nil, drop_all, take_all}
use Rattle.id_elements.specs.Doors.{queues_of}
use Rattle.id_elements.specs.Gathered.{states_of}
use Rattle.id_elements.specs.Workers.{AreWorkers, IsSameWithin, WorkerView}
use Rattle.id_elements.proofs.WorkersLemmas.{workers_worked}
use Rattle.id_elements.proofs.running.run_workers.Goals as goal

-- a list of which all places were written
written : (n : ℕ) (new old : List WorkerView) → n ≡ length new → length new ≡ length old
    → take n (new ++ drop (length new) old) ≡ new
written n new old all same =
    let none : drop (length new) old ≡ [] = drop_all (length new) old (omega (arith, same)) in
    ap (λ (ws : List WorkerView). take n (new ++ ws)) none
    ∙ (ap (λ (ws : List WorkerView). take n ws) (append-nil new) ∙ take_all n new (omega (arith, all)))

pub gather-requires-clause-workers : goal.gather-requires-clause-workers
gather-requires-clause-workers g c =
    let ws = c.in_ok-workers.workers.items in
    let vs = c.work_all.new.workers in
    let old : c.as_mut_slice.result.now ≡ ws = cc (c.as_mut_slice.ensures.value) in
    let same = c.work_all.auto.workers in
    let long : length vs ≡ length ws =
    (let k : length c.as_mut_slice.result.now ≡ length ws = ap length old in omega (arith, same, k)) in
    let all : vec_len c.in_ok-workers.workers ≡ length ws = search rules in
    subst (AreWorkers c.args.graph.now c.args.allowed.count.number c.args.allowed.steps c.args.allowed.keeps
    (queues_of c.make_workers.new.doors.items))
    (sym (written c.in_ok-workers.workers.len vs ws (all ∙ sym long) long))
    (workers_worked c.args.graph.now c.args.allowed.count.number 0 c.args.allowed.steps c.args.allowed.keeps
    (queues_of c.make_workers.new.doors.items) ws vs long
    c.in_ok-workers.ensures.workers
    (λ i d lt.
    subst (λ (xs : List WorkerView). IsSameWithin c.args.allowed.steps (get_or xs i d) (get_or vs i d)) old
    (c.work_all.ensures i d (subst (λ (xs : List WorkerView). i < length xs) (sym old) lt))))

pub returns-clause-accounted : goal.returns-clause-accounted
returns-clause-accounted g c =
    c.in_ok-drain_all.ensures c.args.start.now.messages (states_of c.in_ok-gathered.gathered.elements.items)
    (c.in_ok-gathered.ensures.whole c.args.start.now.messages
    (c.in_ok-workers.ensures.whole c.args.start.now.messages c.in_ok-send_start.ensures.whole))
