-- nothing waits where there is no frame
use Rattle.std.proofs.Common.{◌∙◌, sym, ap, subst, arith}
use Rattle.std.specs.FinMap.{from_entries, len, len-empty}
use Rattle.id_tag.specs.Tags.{tag_cmp}
use Rattle.id_match.specs.declared.meeting.Half.{Half}
use Rattle.id_match.specs.Rear.{IsFramed, rear_entries}
use Rattle.id_match.proofs.FramedLemmas.{framed_new}
use Rattle.id_match.proofs.rear.Rear.new.Goals as goal

pub invariant_of-result : goal.invariant_of-result
invariant_of-result c = (
  subst (λ l. IsFramed l c.new-2.result) (sym c.with_hasher.ensures.empty) (framed_new c.new-2.result c.new-2.ensures.empty),
  sym (ap (λ l. len (from_entries {R = tag_cmp} (rear_entries l c.new-2.result))) c.with_hasher.ensures.empty ∙ len-empty tag_cmp Half),
  omega arith,
)
