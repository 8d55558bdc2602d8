-- Records merged into one list of events (docs/MACHINE.md, "The record"): the definitions of `id_observe`.
pub use Rattle.id_observe.specs.Merged.{by_moment, event_at_place, events_at, IsPlace, IsMerge, head_of, IsBelow}
pub use Rattle.id_observe.specs.Merged.{AreRecords, IsAfter, IsFrom, IsEarliest, AreMerged, earlier_of}
