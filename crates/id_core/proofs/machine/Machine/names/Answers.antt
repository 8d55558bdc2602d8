-- The elements keep what the machine does.
use Rattle.id_core.proofs.MachinesLemmas.{AllKeep-names}
use Rattle.id_core.proofs.machine.Machine.names.Goals as goal

pub observe_names-requires : goal.observe_names-requires
observe_names-requires c =
    AllKeep-names c.args.self.now.keeps c.records.result.elements.now c.records.ensures.kept c.requires
