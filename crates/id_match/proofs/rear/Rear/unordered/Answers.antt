-- what is listed has under each tag what the store has
use Rattle.std.proofs.Common.{◌∙◌, map, sym, ap}
use Rattle.std.specs.Map.{lookup}
use Rattle.id_tag.specs.Tags.{same_tag}
use Rattle.id_match.specs.Front.{half_entry}
use Rattle.id_match.specs.Rear.{rear_entries}
use Rattle.id_match.proofs.BehindLemmas.{half_back}
use Rattle.id_match.proofs.RearLemmas.{if_ok, lookup-entries}
use Rattle.id_match.proofs.rear.Rear.unordered.Goals as goal

pub returns : goal.returns
returns c =
    if_ok c.listed.result
    (λ l is t. ap (λ es. lookup (same_tag t) (map half_entry es)) is
    ∙ ap (lookup (same_tag t)) (half_back (rear_entries c.self.inside.keys.entries c.self.inside.frames))
    ∙ sym (lookup-entries (rear_entries c.self.inside.keys.entries c.self.inside.frames) c.args.self.now c.self.view_is t))
    c.listed.ensures
