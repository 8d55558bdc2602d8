use Rattle.std.proofs.Common.{◌≡◌, take}
use Rattle.std.specs.Map.{lookup}
use Rattle.id_tag.specs.Tags.{same_tag}
use Rattle.id_tag.specs.declared.Tag.{Tag}
use Rattle.id_match.specs.Front.{IsPlaced, front_entries, front_half}
use Rattle.id_match.proofs.front.larger.Given as goal

-- what the first pairs kept has its places
abbrev pub invariant-loop-i : goal.invariant-loop-i
invariant-loop-i l =
    record {
      placed : IsPlaced l.more.items;
      same : (t : Tag) → front_half l.more.items t ≡ lookup (same_tag t) (front_entries (take l.i l.front));
    }
