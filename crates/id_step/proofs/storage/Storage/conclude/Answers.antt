-- The block that is entered has a second instruction.
use Rattle.std.proofs.Common.{ap}
use Rattle.std.specs.Prelude.{Some, option_map}
use Rattle.id_record.specs.Events.{tag_of}
use Rattle.id_record.proofs.SendsLemmas.{HasSecond-valid}
use Rattle.id_step.proofs.storage.Storage.conclude.Goals as goal

pub send-requires-clause-second : goal.send-requires-clause-second
send-requires-clause-second c =
    let log = c.args.self.now.log in
    HasSecond-valid log.graph (tag_of c.args.message.now.payload).instr (Some c.args.instr.now.op)
    c.requires.ready.graph c.requires.ready.valid
    (ap (option_map (λ i. i.op)) c.requires.ready.own)
