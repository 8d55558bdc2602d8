use Rattle.std.proofs.Common.{◌≡◌, take, filter}
use Rattle.std.specs.Option.{option_copied, option_to_list}
use Rattle.id_valid.specs.Roles.{has_main_place}
use Rattle.id_valid.proofs.roles.main_block.Given as goal

-- the block that was found is the only one so far
abbrev pub invariant-loop-block : goal.invariant-loop-block
invariant-loop-block l = filter (has_main_place l.graph) (take l.block-index l.block-items) ≡ option_to_list (option_copied l.found)
