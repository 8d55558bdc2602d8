-- The block that is entered has a second instruction.
use Rattle.std.proofs.Common.{ap}
use Rattle.std.specs.Prelude.{Some, option_map}
use Rattle.id_record.proofs.SendsLemmas.{HasSecond-valid}
use Rattle.id_step.proofs.storage.Storage.fire_full.Goals as goal

pub send-requires-clause-second : goal.send-requires-clause-second
send-requires-clause-second c =
    HasSecond-valid c.args.self.now.log.graph c.args.token.now.instr (Some c.args.instr.now.op) c.requires.ready.graph
    c.requires.ready.valid
    (ap (option_map (λ i. i.op)) c.requires.ready.own)
