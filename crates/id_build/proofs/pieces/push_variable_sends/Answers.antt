-- One more send to the entry of a variable.
use Rattle.std.proofs.Common.{◌+◌, ◌++◌, add-zero, ap, map, refl}
use Rattle.id_build.specs.Rows.{send_to, variable_entries}
use Rattle.id_build.proofs.PushedLemmas.{rest_done}
use Rattle.id_build.proofs.SendsLemmas.{variable_entries-next}
use Rattle.id_build.proofs.pieces.push_variable_sends.Goals as goal

pub loop-index-preserved : goal.loop-index-preserved
loop-index-preserved c =
    let i = c.loop-index.index in
    variable_entries-next (send_to c.args.checked.now c.args.place) c.args.first i (i + 1) c.args.nexts.now
    c.loop-index.pieces.items
    c.push_send.new.pieces.items _
    c.loop-index-test.true refl c.loop-index.invariant c.in_ok-push_send.ensures

pub loop-index-init : goal.loop-index-init
loop-index-init c =
    ap (λ v. c.args.pieces.now.items
    ++ map (send_to c.args.checked.now c.args.place) (variable_entries v c.args.nexts.now)) (add-zero c.args.first)

pub returns : goal.returns
returns c =
    rest_done
    (λ z. map (send_to c.args.checked.now c.args.place) (variable_entries (c.args.first + c.loop-index.index) z))
    c.loop-index.index
    c.args.nexts.now c.loop-index.pieces.items _ refl c.loop-index-test.false c.loop-index.invariant
