-- A worker may go to another thread, as each of its parts may.
use denote.Exit.{no}
use denote.Param.Send.{arg_send, param_send}
use mir.Syntax.{named}
use Rattle.id_elements.proofs.SendLemmas.{Worker-send}
use Rattle.id_elements.proofs.running.work_all.Goals as goal

pub for_each_mut-requires-send-T : goal.for_each_mut-requires-send-T
for_each_mut-requires-send-T g c κs _ =
    param_send 1 _ (arg_send _ no _ (Worker-send c.doors_cross.ensures (record { mir = named 4; lft = κs.1.1.1.1.0 })))
