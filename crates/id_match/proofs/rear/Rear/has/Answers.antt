-- what the frame has is what the entries have
use Rattle.std.proofs.Common.{◌∙◌, sym, ap, is_some}
use Rattle.id_match.specs.Rear.{rear_entries}
use Rattle.id_match.proofs.FramedLemmas.{lookup-rear}
use Rattle.id_match.proofs.RearLemmas.{lookup-entries}
use Rattle.id_match.proofs.rear.Rear.has.Goals as goal

pub returns : goal.returns
returns c =
    c.has_behind.ensures
    ∙ ap is_some (sym (lookup-rear c.self.inside.frames c.self.inside.keys.entries c.args.tag c.self.invariant.0.unique)
    ∙ sym (lookup-entries (rear_entries c.self.inside.keys.entries c.self.inside.frames) c.args.self.now c.self.view_is c.args.tag))
