use Rattle.std.proofs.Common.{◌≡◌, List, IsPermutation, subst}
use Rattle.id_instr.specs.declared.dests.Dest.{Dest}
use Rattle.id_instr.specs.contracts.dests.DestOrd.TheImpl.Laws.{total-law}
use Rattle.id_graph.proofs.ListingLemmas.{in_order-from_sort, IsNonDecreasingBy-from_sorted, not_less, not_less_tie}
use Rattle.id_graph.proofs.listing.put_in_order.Goals as goal

-- the sort moves the destinations until they are in order
pub returns : goal.returns
returns c =
    let filled : c.extend_from_slice.new.self.items ≡ c.args.dests.now = cc (c.in_ok-extend_from_slice.ensures.items, c.clear.ensures.items)
    in let P : List Dest → Type 0 = λ ds. IsPermutation ds c.sort_unstable.new.self.items
    in in_order-from_sort c.args.dests.now c.sort_unstable.new.self.items (subst P filled c.sort_unstable.ensures.permutation)
    (IsNonDecreasingBy-from_sorted total-law _ (record {
      both_zero = λ m n least. not_less m n _ least;
      zero_one = λ m n least. not_less_tie m n least;
      one_zero = λ m n least. not_less m n _ least;
      both_one = λ m n least. not_less m n _ least;
    }) c.sort_unstable.ensures.sorted)
