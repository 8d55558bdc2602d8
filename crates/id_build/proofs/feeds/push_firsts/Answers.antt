-- The arcs of the first value of one more variable are pushed.
use Rattle.std.proofs.Common.{◌≡◌, ◌∙◌, ◌+◌, ◌++◌, add-zero, ap, arith, get_or, map, refl}
use Rattle.id_build.specs.Made.{arc_of, number_by}
use Rattle.id_build.specs.Rows.{first_binder, import_feeds, name_in, output}
use Rattle.id_build.proofs.PushedLemmas.{first_feeds-next, rest_done, two_are}
use Rattle.id_build.proofs.feeds.push_firsts.Goals as goal

pub loop-next-preserved : goal.loop-next-preserved
loop-next-preserved c =
    let P = c.args.slots.now.kernel.now.checked.now in
    let F = c.args.slots.now.firsts.items in
    let n = c.args.n in
    let r = c.args.region in
    let i = c.loop-next.next-index in
    let k = c.args.first in
    let ms = c.args.nexts.now in
    let xs = c.loop-next.arcs.items in
    let ys = c.push_two.new.arcs.items in
    let to : c.loop-next.to ≡ number_by F n (k + i) = omega (arith, c.loop-next.invariant.to) in
    let here = c.name_in.ensures.origin ∙ ap (name_in P r) c.first_binder-binder.ensures in
    let two =
    two_are F F n (k + i) c.loop-next.to (output n) c.output.result (name_in P r (first_binder P (get_or ms i 0)))
    c.name_in.result xs ys
    refl to c.output.ensures here c.in_ok-push_two.ensures in
    record {
      list = first_feeds-next P F n (output n) r k i ms xs ys _ c.loop-next-test.true c.loop-next.invariant.list two;
      to = omega (arith, c.loop-next.invariant.to);
    }

pub loop-next-init : goal.loop-next-init
loop-next-init c =
    let P = c.args.slots.now.kernel.now.checked.now in
    let F = c.args.slots.now.firsts.items in
    let first : c.number_at.result ≡ number_by F c.args.n 0 =
    c.number_at.ensures.number in
    record {
      list = ap
          (λ k. c.args.arcs.now.items
          ++ map (arc_of F c.args.n)
          (import_feeds P (output c.args.n) c.args.region k (map (first_binder P) c.args.nexts.now)))
          (add-zero c.args.first);
      to = omega (arith, first);
    }

pub returns : goal.returns
returns c = rest_done
    (λ z. map (arc_of c.args.slots.now.firsts.items c.args.n)
    (import_feeds c.args.slots.now.kernel.now.checked.now (output c.args.n) c.args.region
    (c.args.first + c.loop-next.next-index) (map (first_binder c.args.slots.now.kernel.now.checked.now) z)))
    c.loop-next.next-index c.args.nexts.now c.loop-next.arcs.items _ refl c.loop-next-test.false
    c.loop-next.invariant.list
