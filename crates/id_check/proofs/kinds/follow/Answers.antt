use Rattle.std.proofs.Common.{◌∙◌, if◌then◌else◌, sym, ap, subst}
use Rattle.id_check.specs.Chains.{IsState, link_within}
use Rattle.id_check.proofs.ChainsLemmas.{IsState-after}
use Rattle.id_check.proofs.kinds.follow.Goals as goal

pub returns-then-is_within : goal.returns-then-is_within
returns-then-is_within c = λ l i e h.
    let k = c.in-Some.end in
    let w = c.in-Some.ensures in
    subst (IsState l 0 i) (ap (λ b. if b then link_within k else k) c.if-is_within.true ∙ sym c.link_within.ensures)
    (IsState-after l i w.0 c.args.link k c.is_within.result e c.is_within.ensures w.1
    (subst (IsState l 0 w.0) (sym w.3) (h w.0 w.2)) w.4)

pub returns-else-is_within : goal.returns-else-is_within
returns-else-is_within c = λ l i e h.
    let k = c.in-Some.end in
    let w = c.in-Some.ensures in
    subst (IsState l 0 i) (ap (λ b. if b then link_within k else k) c.if-is_within.false)
    (IsState-after l i w.0 c.args.link k c.is_within.result e c.is_within.ensures w.1
    (subst (IsState l 0 w.0) (sym w.3) (h w.0 w.2)) w.4)
