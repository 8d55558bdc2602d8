-- The element step (docs/MACHINE.md, "Element step"): the definitions of `id_step`, and of `id_record` for what is
-- sent.
pub use Rattle.id_step.specs.Steps.{State, fresh, fresh_numbers, next_numbers, made_by, arrival_of, arrival}
pub use Rattle.id_step.specs.Steps.{waiting_after, fired_step, fired_verdict, Outcome, firing, arriving, at_instr}
pub use Rattle.id_step.specs.Steps.{making_none, allocated_by, answer_fired, answer_sends, fill_sends, fill_verdict}
pub use Rattle.id_step.specs.Steps.{readers_of}
pub use Rattle.id_step.specs.Steps.{outcome, outcome_of, next_stamp, is_ended, step_of, outputs_of, event_of}
pub use Rattle.id_step.specs.Steps.{state_after}
pub use Rattle.id_record.specs.Sends.{token_to, moved_to, sent, replies, numbered}
