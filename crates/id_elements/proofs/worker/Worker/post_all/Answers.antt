use Rattle.std.proofs.Common.{◌≡◌, ap, arith, length}
use Rattle.id_elements.specs.Workers.{WorkerView}
use Rattle.id_elements.proofs.WorkersLemmas.{as_many}
use Rattle.id_elements.proofs.worker.Worker.post_all.Goals as goal

pub post-requires : goal.post-requires
post-requires g c =
    let many = as_many c.args.self.now c.loop-to.self c.loop-to.invariant.same in
    let first : length c.self.inside.doors.items ≡ length c.args.self.now.doors =
    ap (λ (v : WorkerView). length v.doors) c.self.view_is in
    omega (arith, many, first)
