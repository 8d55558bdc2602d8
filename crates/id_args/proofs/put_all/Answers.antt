use Rattle.std.proofs.Common.{◌∷◌, []}
use Rattle.id_args.specs.Commands.{check_shape, facts_shape, graph_shape, judge_shape, run_shape, why_shape}
use Rattle.id_args.proofs.CommandsLemmas.{AreCommands-nil}
use Rattle.id_args.proofs.put_all.Goals as goal

pub returns : goal.returns
returns c = λ empty.
    let one = c.in_ok-put.ensures check_shape [] c.check_command.ensures (AreCommands-nil c.args.commands.now.items empty) in
    let two = c.in_ok-put-2.ensures graph_shape (check_shape ∷ []) c.graph_command.ensures one in
    let three = c.in_ok-put-3.ensures run_shape (check_shape ∷ graph_shape ∷ []) c.run_command.ensures two in
    let four = c.in_ok-put-4.ensures facts_shape (check_shape ∷ graph_shape ∷ run_shape ∷ []) c.facts_command.ensures three in
    let five = c.in_ok-put-5.ensures why_shape (check_shape ∷ graph_shape ∷ run_shape ∷ facts_shape ∷ []) c.why_command.ensures four in
    c.put-6.ensures judge_shape (check_shape ∷ graph_shape ∷ run_shape ∷ facts_shape ∷ why_shape ∷ []) c.judge_command.ensures five
