-- what a pair keeps is put into its place
use Rattle.std.proofs.Common.{refl, sym, subst, ap, ◌∙◌}
use Rattle.id_match.specs.Front.{IsPlaced, front_half}
use Rattle.id_match.proofs.FrontLemmas.{both_moved, none_placed, none_held}
use Rattle.id_match.proofs.front.larger.Goals as goal

pub loop-i-init : goal.loop-i-init
loop-i-init c = record {
  placed = subst IsPlaced (sym c.in_ok-more.ensures.items) (none_placed c.if-is_empty.len);
  same = λ t. ap (λ f. front_half f t) c.in_ok-more.ensures.items ∙ none_held c.if-is_empty.len t;
}

pub loop-i-preserved : goal.loop-i-preserved
loop-i-preserved c = record {
  placed = c.if-not-put_moved-2.ensures.placed refl (c.if-not-put_moved.ensures.placed refl c.loop-i.invariant.placed);
  same = both_moved c.args.front.now c.loop-i.i _ c.loop-i-test.true c.loop-i.more.items c.put_moved.new.front.items _ c.loop-i.invariant.same
      (c.if-not-put_moved.ensures.under refl) (c.if-not-put_moved-2.ensures.under refl);
}
