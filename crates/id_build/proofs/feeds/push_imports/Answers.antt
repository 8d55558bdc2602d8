-- The arcs of one more import are pushed.
use Rattle.std.proofs.Common.{◌≡◌, ◌+◌, ◌++◌, add-zero, ap, arith, get_or, map, refl}
use Rattle.id_build.specs.Made.{arc_of, number_by}
use Rattle.id_build.specs.Rows.{import_feeds, name_in}
use Rattle.id_build.proofs.PushedLemmas.{import_feeds-next, rest_done, two_are}
use Rattle.id_build.proofs.feeds.push_imports.Goals as goal

pub loop-binder-preserved : goal.loop-binder-preserved
loop-binder-preserved c =
    let P = c.args.slots.now.kernel.now.checked.now in
    let F = c.args.slots.now.firsts.items in
    let n = c.args.n in
    let s = c.args.source in
    let r = c.args.region in
    let k = c.args.part in
    let i = c.loop-binder.binder-index in
    let bs = c.args.binders.now in
    let xs = c.loop-binder.arcs.items in
    let ys = c.push_two.new.arcs.items in
    let to : c.loop-binder.to ≡ number_by F n (k + i) = omega (arith, c.loop-binder.invariant.to) in
    let two = two_are F F n (k + i) c.loop-binder.to s s (name_in P r (get_or bs i 0)) c.name_in.result xs ys
    refl to refl c.name_in.ensures.origin c.in_ok-push_two.ensures in
    record {
      list = import_feeds-next P F n s r k i bs xs ys _ c.loop-binder-test.true c.loop-binder.invariant.list two;
      to = omega (arith, c.loop-binder.invariant.to);
    }

pub loop-binder-init : goal.loop-binder-init
loop-binder-init c =
    let P = c.args.slots.now.kernel.now.checked.now in
    let F = c.args.slots.now.firsts.items in
    let first : c.number_at.result ≡ number_by F c.args.n 0 =
    c.number_at.ensures.number in
    record {
      list = ap
          (λ k. c.args.arcs.now.items
          ++ map (arc_of F c.args.n) (import_feeds P c.args.source c.args.region k c.args.binders.now))
          (add-zero c.args.part);
      to = omega (arith, first);
    }

pub returns : goal.returns
returns c = rest_done
    (λ z. map (arc_of c.args.slots.now.firsts.items c.args.n)
    (import_feeds c.args.slots.now.kernel.now.checked.now c.args.source c.args.region
    (c.args.part + c.loop-binder.binder-index) z))
    c.loop-binder.binder-index c.args.binders.now c.loop-binder.arcs.items _ refl c.loop-binder-test.false
    c.loop-binder.invariant.list
