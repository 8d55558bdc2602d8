-- The message stands in the parcel that says what it says.
use Rattle.std.proofs.Common.{Some, ap, ◌∙◌, sym}
use Rattle.id_instr.specs.declared.dests.Port.TheVariants.{Zero}
use Rattle.id_flight.proofs.ParcelsLemmas.{packed-if}
use Rattle.id_flight.proofs.parcel.packed.Goals as goal

pub returns-in-Some : goal.returns-in-Some
returns-in-Some c =
    let is = c.narrowed.ensures in
    packed-if c.args.message.now c.in-Some.value c.in-Some.what c.in-Token.tag c.in-Token.port c.narrowed.result
    (c.in-Some.ensures c.in-Token.tag c.in-Token.port ∙ ap Some (sym c.in-Token.is)) is.what is.value is.port is.tag is.message

pub returns-in-Some-asked : goal.returns-in-Some-asked
returns-in-Some-asked c =
    let is = c.narrowed-in-Some-asked.ensures in
    packed-if c.args.message.now c.in-Some-asked.index c.in-Some-asked.what c.in-Read.reply Zero c.narrowed-in-Some-asked.result
    (c.in-Some-asked.ensures c.in-Read.reply Zero ∙ ap Some (sym c.in-Read.is)) is.what is.value is.port is.tag is.message

pub returns-in-Some-stored : goal.returns-in-Some-stored
returns-in-Some-stored c =
    let is = c.narrowed-in-Some-stored.ensures in
    packed-if c.args.message.now c.in-Some-stored.value c.in-Some-stored.what c.in-Write.origin Zero c.narrowed-in-Some-stored.result
    (c.in-Some-stored.ensures c.in-Write.origin Zero ∙ ap Some (sym c.in-Write.is)) is.what is.value is.port is.tag is.message
