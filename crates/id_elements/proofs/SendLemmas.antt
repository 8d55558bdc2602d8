-- A worker may go to another thread: each of its parts may. They are shown one after another, since one `search` for
-- all
-- of them runs out of its steps.
use denote.Builtin.{u64}
use denote.Ref.{NamedLft}
use denote.RattleType.{RattleType}
use denote.Param.{arg, param}
use denote.Exit.{no}
use mir.Syntax.{Ty}
use denote.Struct.Declared.{shape}
use denote.Struct.Struct.{Struct}
use denote.Param.Send.{AllSend, IsSend, IsSync, plain_send, recorded_send, sendable, struct_send, view_send}
use Rattle.std.proofs.Crossing.{crosses, Vec-send}
use Rattle.std.proofs.MapsCrossing as maps
use Rattle.id_record.specs.contracts.handled.Handled as the_handled
use Rattle.id_record.specs.contracts.past.History as the_history
use Rattle.id_record.specs.contracts.kept.Kept as the_kept
use Rattle.id_record.specs.contracts.history.Record as the_record
use Rattle.id_tag.specs.contracts.Payload as the_payload
use Rattle.id_match.specs.contracts.Waiting as the_waiting
use Rattle.id_match.specs.contracts.rear.Rear as the_rear
use Rattle.id_match.specs.contracts.rear.Frame as the_frame
use Rattle.id_match.specs.contracts.rear.Name as the_name
use Rattle.id_tag.specs.contracts.near.NearHasher as the_hasher
use Rattle.id_bank.specs.contracts.slot.Slot as the_slot
use Rattle.id_step.specs.contracts.storage.Storage as the_storage
use Rattle.id_step.specs.contracts.element.Element.TheInside as the_inside
use Rattle.id_bank.specs.contracts.Bank as the_bank
use Rattle.id_step.specs.contracts.element.Element as the_element
use Rattle.id_instr.specs.contracts.graph.Graph as the_graph
use Rattle.id_instr.specs.contracts.instr.Block as the_block
use Rattle.id_instr.specs.contracts.instr.Instr as the_instr
use Rattle.id_instr.specs.contracts.dests.Dest as the_dest
use Rattle.id_instr.specs.contracts.dests.Dests as the_dests
use Rattle.id_instr.specs.contracts.dests.Others as the_others
use Rattle.id_valid.specs.contracts.Valid as the_valid
use Rattle.id_flight.specs.contracts.queue.Queue as the_queue
use Rattle.id_inbox.specs.contracts.door.Door as the_door
use Rattle.id_elements.specs.contracts.worker.Worker as the_worker
use Rattle.id_elements.specs.contracts.worker.Worker.TheInside as the_worker_inside

Payload-send : IsSend the_payload.the_row
Payload-send = search (sendable, crosses) fits 20000 depth 60

Handled-send : IsSend the_handled.the_row
Handled-send = search (sendable, crosses) fits 20000 depth 60

History-send : (E : RattleType) → IsSend (the_history.the_row E)
History-send E = search (sendable, crosses) fits 20000 depth 60

Kept-send : IsSend the_kept.the_row
Kept-send = search (sendable, crosses, Payload-send, Handled-send) fits 20000 depth 60

Dest-sync : IsSync the_dest.the_row
Dest-sync = search (sendable, crosses) fits 20000 depth 60

Dests-sync : IsSync the_dests.the_row
Dests-sync = search (sendable, crosses, Dest-sync) fits 20000 depth 60

Others-sync : IsSync the_others.the_row
Others-sync = search (sendable, crosses, Dests-sync) fits 20000 depth 60

Instr-sync : IsSync the_instr.the_row
Instr-sync = search (sendable, crosses, Dests-sync, Others-sync) fits 20000 depth 60

Block-sync : IsSync the_block.the_row
Block-sync = search (sendable, crosses) fits 20000 depth 60

Graph-sync : IsSync the_graph.the_row
Graph-sync = search (sendable, crosses, Instr-sync, Block-sync) fits 20000 depth 60

Valid-sync : IsSync the_valid.the_row
Valid-sync = search (sendable, crosses, Graph-sync) fits 20000 depth 60

Record-send : (κ : NamedLft) → IsSend (the_record.the_row κ)
Record-send κ = search (sendable, crosses, History-send, Kept-send, Valid-sync) fits 20000 depth 60

Frame-send : IsSend the_frame.the_row
Frame-send = search (sendable, crosses) fits 20000 depth 60

Name-send : IsSend the_name.the_row
Name-send = search (sendable, crosses) fits 20000 depth 60

Hasher-send : IsSend the_hasher.the_row
Hasher-send = search (sendable, crosses) fits 20000 depth 60

Rear-send : IsSend the_rear.the_row
Rear-send = search (sendable, crosses, maps.crosses, Frame-send, Name-send, Hasher-send) fits 20000 depth 60

Waiting-send : IsSend the_waiting.the_row
Waiting-send = search (sendable, crosses, Rear-send) fits 20000 depth 60

BankSlot-send : IsSend the_slot.the_row
BankSlot-send = search (sendable, crosses) fits 20000 depth 60

Bank-send : IsSend the_bank.the_row
Bank-send = search (sendable, crosses, BankSlot-send, Hasher-send) fits 20000 depth 60

Storage-send : (κ : NamedLft) → IsSend (the_storage.the_field κ).row
Storage-send κ = search (sendable, crosses, Waiting-send, Bank-send, Record-send) fits 20000 depth 60

Inside-send : (κ : NamedLft) → IsSend (the_inside.the_row κ)
Inside-send κ = search (sendable, crosses, Storage-send) fits 20000 depth 60

pub Element-send : (κ : NamedLft) → IsSend (the_element.the_row κ)
Element-send κ = search (sendable, Inside-send)

Queue-send : IsSend the_queue.the_row
Queue-send = search (sendable, crosses) fits 20000 depth 60

Number-send : IsSend u64
Number-send = search (sendable)

-- a door, by what a call ensures that asks it of a door
pub Door-send : (δ : Ty) → IsSend (param 0 (arg δ no the_door.the_row)) → IsSend the_door.the_row
Door-send δ d = record { owned = d.owned; leaving = λ k x w. tt }

-- each of its parts, where a door may
Parts-send : IsSend the_door.the_row → (κ : NamedLft) → AllSend (shape (the_worker_inside.the_type κ)).fields
Parts-send d κ =
    let letters = Vec-send the_queue.the_row Queue-send in
    let fed = Vec-send u64 Number-send in
    search (tt, plain_send, Vec-send, d, Element-send, Queue-send, letters, fed) depth 30

WorkerInside-send : IsSend the_door.the_row → (κ : NamedLft) → IsSend (the_worker_inside.the_row κ)
WorkerInside-send d κ =
    let T = the_worker_inside.the_type κ in
    recorded_send (Struct (shape T)) T.D T.to T.to_one (struct_send (shape T) (Parts-send d κ))

-- where a door may
pub Worker-send : IsSend the_door.the_row → (κ : NamedLft) → IsSend (the_worker.the_row κ)
Worker-send d κ = search (view_send, WorkerInside-send d)
