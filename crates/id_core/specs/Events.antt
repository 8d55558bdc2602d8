-- Events as contracts see them (docs/MACHINE.md, "The record"): the definitions of `id_record`.
pub use Rattle.id_record.specs.Events.{EventView, AllWent, tag_of, second_store, full_step}
