use Rattle.std.proofs.Common.{get_or}
use Rattle.std.specs.Prelude.{None}
use Rattle.id_table.specs.Lent.{list_of}
use Rattle.id_check.specs.Kinds.{link_at}
use Rattle.id_check.specs.Chains.{IsGoing}
use Rattle.id_check.proofs.kinds.Bindings.find_links.Given as goal

abbrev pub invariant-loop-i : goal.invariant-loop-i
invariant-loop-i l =
    IsGoing (link_at (list_of l.self.rows.now) (λ j. get_or l.self.binders.now j None)) l.i 0 l.links.items
