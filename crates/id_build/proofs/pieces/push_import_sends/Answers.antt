-- One more send to the entry of an import.
use Rattle.std.proofs.Common.{map, refl}
use Rattle.id_build.specs.Rows.{import_entries, send_to}
use Rattle.id_build.proofs.PushedLemmas.{rest_done}
use Rattle.id_build.proofs.SendsLemmas.{import_entries-next}
use Rattle.id_build.proofs.pieces.push_import_sends.Goals as goal

pub loop-part-init : goal.loop-part-init
loop-part-init c = refl

pub loop-part-preserved : goal.loop-part-preserved
loop-part-preserved c =
    import_entries-next (send_to c.args.checked.now c.args.place) c.args.entries c.loop-part.part c.args.imports.now
    c.loop-part.pieces.items
    c.push_send.new.pieces.items _ c.loop-part-test.true c.loop-part.invariant c.in_ok-push_send.ensures

pub returns : goal.returns
returns c =
    rest_done (λ z. map (send_to c.args.checked.now c.args.place) (import_entries c.args.entries c.loop-part.part z))
    c.loop-part.part c.args.imports.now
    c.loop-part.pieces.items _ refl c.loop-part-test.false c.loop-part.invariant
