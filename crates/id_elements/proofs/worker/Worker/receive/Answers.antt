use Rattle.std.proofs.Common.{◌<◌, length, set, ap, arith, subst, sym}
use Rattle.id_inbox.specs.Doors.{DoorView}
use Rattle.id_elements.specs.Workers.{IsSame, WorkerView}
use Rattle.id_elements.proofs.WorkersLemmas.{IsSame-after, IsSame-door, worker_of}
use Rattle.id_elements.proofs.worker.Worker.receive.Goals as goal

pub returns-in_err-sort_letter-in-Some-clause-same : goal.returns-in_err-sort_letter-in-Some-clause-same
returns-in_err-sort_letter-in-Some-clause-same g c =
    let w = c.self.inside in
    let d = c.pop.new.self in
    let lt : w.home.number < length w.doors.items =
    (let k = c.self.invariant.0.number in let n = c.self.invariant.1 in omega arith) in
    let old =
    worker_of w.goes w.doors.items w.element w.own.messages w.came.messages w.back.messages w.stray.messages
    w.letters.items in
    let new =
    worker_of w.goes (set w.doors.items w.home.number d) w.element w.own.messages c.in-Some.letter.messages
    w.back.messages w.stray.messages w.letters.items in
    let taken =
    IsSame-door w.goes w.doors.items w.element w.own.messages w.came.messages w.back.messages w.stray.messages
    w.letters.items c.self.invariant.0
    w.home.number c.index_mut.result.now d c.index_mut.ensures.value lt c.in-Some.letter.messages w.letters.items
    (ap (λ (x : DoorView). x.queue) c.in-Some.ensures) in
    IsSame-after c.args.self.now new c.sort_letter-in-Some.new.self
    (IsSame-after c.args.self.now old new
    (subst (λ (v : WorkerView). IsSame c.args.self.now v) (sym c.self.view_is) c.in_ok-sort_letter.ensures.same) taken)
    c.in_err-sort_letter-in-Some.ensures.same

pub returns-in_ok-sort_letter-in-Some-clause-same : goal.returns-in_ok-sort_letter-in-Some-clause-same
returns-in_ok-sort_letter-in-Some-clause-same g c =
    let w = c.self.inside in
    let d = c.pop.new.self in
    let lt : w.home.number < length w.doors.items =
    (let k = c.self.invariant.0.number in let n = c.self.invariant.1 in omega arith) in
    let old =
    worker_of w.goes w.doors.items w.element w.own.messages w.came.messages w.back.messages w.stray.messages
    w.letters.items in
    let new =
    worker_of w.goes (set w.doors.items w.home.number d) w.element w.own.messages c.in-Some.letter.messages
    w.back.messages w.stray.messages w.letters.items in
    let taken =
    IsSame-door w.goes w.doors.items w.element w.own.messages w.came.messages w.back.messages w.stray.messages
    w.letters.items c.self.invariant.0
    w.home.number c.index_mut.result.now d c.index_mut.ensures.value lt c.in-Some.letter.messages w.letters.items
    (ap (λ (x : DoorView). x.queue) c.in-Some.ensures) in
    subst (λ (v : WorkerView). IsSame c.args.self.now v) (sym c.put_by.ensures)
    (IsSame-after c.args.self.now new c.sort_letter-in-Some.new.self
    (IsSame-after c.args.self.now old new
    (subst (λ (v : WorkerView). IsSame c.args.self.now v) (sym c.self.view_is) c.in_ok-sort_letter.ensures.same) taken)
    c.in_ok-sort_letter-in-Some.ensures.same)

pub returns-in-None-clause-same : goal.returns-in-None-clause-same
returns-in-None-clause-same g c =
    let w = c.self.inside in
    let d = c.pop.new.self in
    let lt : w.home.number < length w.doors.items =
    (let k = c.self.invariant.0.number in let n = c.self.invariant.1 in omega arith) in
    let old =
    worker_of w.goes w.doors.items w.element w.own.messages w.came.messages w.back.messages w.stray.messages
    w.letters.items in
    let new =
    worker_of w.goes (set w.doors.items w.home.number d) w.element w.own.messages w.came.messages w.back.messages
    w.stray.messages w.letters.items in
    let left =
    IsSame-door w.goes w.doors.items w.element w.own.messages w.came.messages w.back.messages w.stray.messages
    w.letters.items c.self.invariant.0
    w.home.number c.index_mut.result.now d c.index_mut.ensures.value lt w.came.messages w.letters.items
    (ap (λ (x : DoorView). x.queue) c.in-None.ensures.0) in
    IsSame-after c.args.self.now old new
    (subst (λ (v : WorkerView). IsSame c.args.self.now v) (sym c.self.view_is) c.in_ok-sort_letter.ensures.same) left
