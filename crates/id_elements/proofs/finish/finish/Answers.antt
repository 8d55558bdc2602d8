use Rattle.std.proofs.Common.{length, refl, ap, ◌∙◌, arith}
use Rattle.std.proofs.lemmas.Grind.{common_steps}
use Rattle.id_elements.specs.Runs.{GoesOn, IsFree}
use Rattle.id_elements.proofs.FinishLemmas.{all_held, goes_on, goes_on_more, held_on_all, stop_where_went, within_on}
use Rattle.id_elements.proofs.finish.finish.Goals as goal
use Rattle.id_elements.proofs.finish.finish.Goals.{In_ok-deliver}

pub loop-init : goal.loop-init
loop-init g c = record {
  on = record {
    same_graph = refl;
    same_count = refl;
    same_keeps = refl;
    few = c.requires;
    accounted =
        λ start was. was;
  };
  went = c.all_went.ensures.0 c.if-not-all_went.false;
  within = omega arith;
  held = λ j m lt at. absurd (omega (arith, lt));
}

pub returns-then-position-len : goal.returns-then-position-len
returns-then-position-len g c =
    let i = c.loop.invariant in
    record {
      on = i.on;
      stops = λ _. stop_where_went c.loop.machine.world i.went;
      honest = λ went. all_held c.loop.machine.count c.args.steps c.loop.machine.world c.first_free-position.result
          c.first_free-position.ensures.held
          (c.if-position-len.true ∙ (c.len.ensures ∙ ap length c.in_flight.ensures.value));
    }

-- what a delivery leaves
module _ (g : _) (c : In_ok-deliver g) where
  free : IsFree c.loop.machine.count c.args.steps c.loop.machine.world c.first_free-position.result
  free = c.first_free-position.ensures.free (grind (arith, common_steps))

  on : GoesOn c.args.steps c.args.machine.now c.deliver.new.machine
  on = goes_on_more c.args.steps c.args.machine.now c.loop.machine c.deliver.new.machine c.loop.invariant.on
      (goes_on c.args.steps c.first_free-position.result c.loop.machine c.deliver.new.machine free
      c.in_ok-deliver.ensures.world c.loop.invariant.on.few)

pub returns-then-not-branch : goal.returns-then-not-branch
returns-then-not-branch g c = record {
  on = on g (goal.at.returns-then-not-branch g c).In_ok-deliver;
  stops = λ _. (c.in_ok-deliver.ensures.went c.loop.invariant.went).1;
  honest = λ went. absurd (c.in_ok-deliver.ensures.failed c.if-not-branch.true went);
}

pub loop-preserved : goal.loop-preserved
loop-preserved g c =
    let d = (goal.at.loop-preserved g c).In_ok-deliver in
    let k = c.first_free-position.result in
    record {
      on = on g d;
      went = (c.in_ok-deliver.ensures.went c.loop.invariant.went).0 c.if-not-branch.false;
      within = within_on c.args.steps k c.loop.machine c.deliver.new.machine (free g d) c.in_ok-deliver.ensures.world;
      held = held_on_all c.args.steps k c.loop.machine c.deliver.new.machine (free g d) c.in_ok-deliver.ensures.world
          c.first_free-position.ensures.held;
    }
