use Rattle.std.proofs.Common.{length, refl, ap, ◌∙◌, arith}
use Rattle.id_elements.proofs.FinishLemmas.{all_held, goes_on, goes_on_more, stop_where_went}
use Rattle.id_elements.proofs.DrawnLemmas.{delivered_more, delivered_none, fewer_left, held_upto, within_upto}
use Rattle.id_elements.proofs.drawn.deliver_drawn.Goals as goal

pub loop-from-init : goal.loop-from-init
loop-from-init c = record {
  on = record {
    same_graph = refl;
    same_count = refl;
    same_keeps = refl;
    few = c.requires.few;
    accounted =
        λ start was. was;
  };
  delivered = delivered_none c.args.machine.now.graph c.args.machine.now.count c.args.machine.now.world;
  went = c.requires.went;
  within = omega arith;
  held = λ j m lt at. absurd (omega (arith, lt));
}

pub returns-then-from-len : goal.returns-then-from-len
returns-then-from-len c =
    let i = c.loop-from.invariant in
    record {
      finished = record {
        on = i.on;
        stops = λ _. stop_where_went c.loop-from.machine.world i.went;
        honest = λ went. all_held c.loop-from.machine.count c.args.steps c.loop-from.machine.world
            c.first_free-from.result c.first_free-from.ensures.held
            (c.if-from-len.true ∙ (c.len.ensures ∙ ap length c.in_flight.ensures.value));
      };
      delivered = i.delivered;
    }

pub returns-then-not-branch : goal.returns-then-not-branch
returns-then-not-branch c =
    let i = c.loop-from.invariant in
    record {
      finished = record {
        on = goes_on_more c.args.steps c.args.machine.now c.loop-from.machine c.deliver.new.machine i.on
            (goes_on c.args.steps c.choose-position.result c.loop-from.machine c.deliver.new.machine
            c.choose-position.ensures.free
            c.in_ok-deliver.ensures.world i.on.few);
        stops = λ _. (c.in_ok-deliver.ensures.went i.went).1;
        honest = λ went. absurd (c.in_ok-deliver.ensures.failed c.if-not-branch.true went);
      };
      delivered =
          delivered_more c.args.machine.now c.loop-from.machine c.deliver.new.machine c.choose-position.result
          i.delivered i.on.same_graph i.on.same_count
          c.in_ok-deliver.ensures.world;
    }

pub loop-from-preserved : goal.loop-from-preserved
loop-from-preserved c =
    let i = c.loop-from.invariant in
    let k = c.choose-position.result in
    let free = c.choose-position.ensures.free in
    let is = c.in_ok-deliver.ensures.world in
    record {
      on = goes_on_more c.args.steps c.args.machine.now c.loop-from.machine c.deliver.new.machine i.on
          (goes_on c.args.steps k c.loop-from.machine c.deliver.new.machine free is i.on.few);
      delivered =
          delivered_more c.args.machine.now c.loop-from.machine c.deliver.new.machine k i.delivered i.on.same_graph
          i.on.same_count is;
      went = (c.in_ok-deliver.ensures.went i.went).0 c.if-not-branch.false;
      within = within_upto c.args.steps k c.loop-from.machine c.deliver.new.machine free is c.first_free-from.result
          c.choose-position.ensures.from;
      held = held_upto c.args.steps k c.loop-from.machine c.deliver.new.machine free is c.first_free-from.result
          c.choose-position.ensures.from
          c.first_free-from.ensures.held;
    }

pub loop-from-smaller : goal.loop-from-smaller
loop-from-smaller c =
    let i = c.loop-from.invariant in
    fewer_left c.args.steps c.choose-position.result c.loop-from.machine c.deliver.new.machine
    c.choose-position.ensures.free c.in_ok-deliver.ensures.world i.on.few
