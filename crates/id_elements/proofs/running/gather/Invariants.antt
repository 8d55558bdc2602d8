use Rattle.std.proofs.Common.{◌≡◌, ◌≤◌, ◌+◌, ◌-◌, [], List, length, vec_len}
use Rattle.id_tag.specs.declared.Message.{Message}
use Rattle.id_elements.specs.Doors.{HaveParts, queues_of}
use Rattle.id_elements.specs.Gathered.{AreGathered, IsWhole, states_of}
use Rattle.id_elements.specs.Workers.{AreWorkers}
use Rattle.id_elements.proofs.running.gather.Given as goal

abbrev pub invariant-loop-worker : goal.invariant-loop-worker
invariant-loop-worker l = record {
  few : vec_len l.workers ≤ l.fn.allowed.count.number;
  queues : queues_of l.doors.items ≡ queues_of l.fn.doors.items;
  workers : AreWorkers l.graph l.fn.allowed.count.number l.fn.allowed.steps l.fn.allowed.keeps
      (queues_of l.fn.doors.items) l.workers.items;
  parts : HaveParts (1024 - vec_len l.workers) l.doors.items;
  elements : AreGathered l.graph l.fn.allowed.count.number l.fn.allowed.steps l.fn.allowed.keeps (vec_len l.workers)
      l.elements.items;
  len : vec_len l.workers + length l.elements.items ≡ l.fn.allowed.count.number;
  whole : (start : List Message) → IsWhole start l.fn.doors.items [] []
      → IsWhole start l.doors.items (states_of l.elements.items) l.left.messages;
}

abbrev pub decreases-loop-worker : goal.decreases-loop-worker
decreases-loop-worker l = vec_len l.workers
