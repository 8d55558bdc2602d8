use Rattle.std.proofs.Common.{◌≡◌, List, ◌++◌, OnOk, string_bytes, sym, subst, arith}
use Rattle.std.specs.List.{flat_map}
use Rattle.id_instr.specs.declared.dests.Dest.{Dest}
use Rattle.id_graph.specs.Listing.{dest_text}
use Rattle.id_graph.proofs.ListingLemmas.{in_order-short}
use Rattle.id_graph.proofs.listing.write_sorted.Goals as goal

-- a list of one destination or none is in order as it is
pub returns-then-dests-lt2 : goal.returns-then-dests-lt2
returns-then-dests-lt2 c =
    subst (λ (ds : List Dest). OnOk c.write_dests.result (string_bytes c.write_dests.new.out ≡ string_bytes c.args.out.now ++ flat_map dest_text ds))
    (sym (in_order-short c.args.dests.now (omega arith))) c.write_dests.ensures
