use Rattle.std.proofs.Common.{◌≡◌, ◌-◌, [], List, vec_len}
use Rattle.id_tag.specs.declared.Message.{Message}
use Rattle.id_elements.specs.Doors.{HaveParts, queues_of}
use Rattle.id_elements.specs.Gathered.{IsWhole}
use Rattle.id_elements.specs.Workers.{AreWorkers}
use Rattle.id_elements.proofs.running.make_workers.Given as goal

abbrev pub invariant-loop-number : goal.invariant-loop-number
invariant-loop-number l = record {
  queues : queues_of l.doors.items ≡ queues_of l.fn.doors.items;
  long : vec_len l.doors ≡ vec_len l.fn.doors;
  workers : AreWorkers l.graph l.count.number 0 l.keeps (queues_of l.fn.doors.items) l.workers.items;
  len : vec_len l.workers ≡ l.number;
  parts : HaveParts (1024 - l.number) l.doors.items;
  whole : (start : List Message) → IsWhole start l.fn.doors.items [] [] → IsWhole start l.doors.items [] [];
}
