-- One step more, before those that are written.
use Rattle.std.proofs.Common.{◌≡◌, ◌<◌, ◌-◌, ◌+◌, length, refl, ap, arith}
use Rattle.id_facts.specs.Depths.{depth_at}
use Rattle.id_meaning.proofs.WrittenLemmas.{depth-out, written-more, written-none}
use Rattle.id_meaning.proofs.paths.write_steps.Goals as goal

pub loop-rest-init : goal.loop-rest-init
loop-rest-init c =
    let all : c.len-start.result ≡ length c.args.steps.now.items = omega (arith, c.args.steps.now.ok.0) in
    written-none c.args.checked.now c.args.tree.now c.args.trail c.len-start.result c.args.steps.now.items c.requires
    all

pub loop-rest-smaller : goal.loop-rest-smaller
loop-rest-smaller c =
    let fs = c.args.tree.now in
    let q = c.loop-rest.rest in
    let more : 0 < depth_at fs q = omega (arith, c.depth.ensures.is, c.loop-rest-test.true) in
    let d = depth-out fs c.depth.ensures.kept q more in
    let e = ap (depth_at fs) c.outside-rest.ensures in
    let less : depth_at fs c.outside-rest.result < depth_at fs q = omega (arith, d, e) in
    less

pub loop-rest-preserved : goal.loop-rest-preserved
loop-rest-preserved c =
    let fs = c.args.tree.now in
    let q = c.loop-rest.rest in
    let n = c.loop-rest.start in
    let more : 0 < depth_at fs q = omega (arith, c.depth.ensures.is, c.loop-rest-test.true) in
    let room = c.loop-rest.invariant.room in
    let one : n ≡ (n - 1) + 1 = omega (arith, more, room) in
    written-more c.args.checked.now fs c.depth.ensures.kept c.args.trail q c.outside-rest.result n (n - 1)
    (length c.args.steps.now.items)
    c.loop-rest.steps.items _ c.last_step.result c.loop-rest.invariant more c.outside-rest.ensures c.last_step.ensures
    one refl
