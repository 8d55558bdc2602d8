-- Main's block has a trigger and a `back`, as its kind is that of instruction 0, and its entries take the inputs.
use Rattle.std.proofs.Common.{◌≡◌, ◌∷◌, ◌++◌, [], arith, rules}
use Rattle.std.proofs.lemmas.Grind.{common_steps}
use Rattle.id_core.specs.Machines.{block_messages, input_messages}
use Rattle.id_core.proofs.InputsLemmas.{length-taken}
use Rattle.id_core.proofs.MachinesLemmas.{start_fits}
use Rattle.id_core.proofs.machine.start_flight.Goals as goal

-- the messages in flight
messages : (c : goal.In_ok-add_inputs)
    → c.add_inputs.new.flight.messages
    ≡ block_messages (c.main_block-block.result.now ∷ []) c.args.from.inputs.now.values
messages c =
    let first : c.push_back-2.new.self.messages
    ++ input_messages 2 c.main_block-block.result.now.entries c.args.from.inputs.now.values
    ≡ block_messages (c.main_block-block.result.now ∷ []) c.args.from.inputs.now.values =
    first_of (search rules, grind (arith, common_steps)) in
    rw (c.in_ok-add_inputs.ensures, c.as_slice-entries.ensures, c.as_slice.ensures) first

pub returns-clause-messages : goal.returns-clause-messages
returns-clause-messages c =
    rw (c.main_block-block.ensures.main) (messages c)

pub returns-clause-fit : goal.returns-clause-fit
returns-clause-fit c =
    let block = c.main_block-block.result.now in
    rw (messages c)
    (start_fits c.args.from.graph.now block c.args.from.inputs.now.values c.main_block-block.ensures.main
    c.main_block-block.ensures.kept
    (c.args.from.taken.taken block c.main_block-block.ensures.main))

pub add_inputs-requires : goal.add_inputs-requires
add_inputs-requires c =
    let block = c.main_block-block.result.now in
    rw (c.as_slice-entries.ensures, c.as_slice.ensures)
    (length-taken c.args.from.graph.now block.entries c.args.from.inputs.now.values
    (c.args.from.taken.taken block c.main_block-block.ensures.main))
