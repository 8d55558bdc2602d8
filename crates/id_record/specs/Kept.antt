-- What a record keeps of its events.
use Rattle.std.specs.Prelude.{ℕ, ◌+◌, ◌-◌, ◌||◌, Bool, true, false, List, [], ◌∷◌, ◌++◌, Option}
use Rattle.std.specs.Prelude.{if◌then◌else◌}
use Rattle.std.specs.List.{cons_option}
use Rattle.std.specs.Option.{option_or}
use Rattle.id_instr.specs.Graph.{Parts}
use Rattle.id_tag.specs.declared.Payload.{Payload}
use Rattle.id_tag.specs.declared.Tag.{Tag}
use Rattle.id_record.specs.declared.handled.Handled.{Handled}
use Rattle.id_record.specs.declared.kept.Keeps.{Keeps}
use Rattle.id_record.specs.declared.kept.Keeps.TheVariants.{Tellings, Names, All}
use Rattle.id_record.specs.declared.telling.Faulted.{Faulted}
use Rattle.id_record.specs.declared.telling.Telling.{Telling}
use Rattle.id_record.specs.Events.{full_step}
use Rattle.id_record.specs.Tellings.{fault_in, is_stuck, merged_in, told_in}

-- whether all events are kept
abbrev pub keeps_all : Keeps → Bool
keeps_all Tellings = false
keeps_all Names = false
keeps_all All = true

-- whether what came to merges is
abbrev pub keeps_names : Keeps → Bool
keeps_names Tellings = false
keeps_names Names = true
keeps_names All = true

-- what is kept of so many events, for how many more there is room, and the same of their replies
pub record KeptView : Type 0 where
  pub keeps : Keeps
  pub len : ℕ
  pub room : ℕ
  pub replied : ℕ
  pub room_for_replies : ℕ
  pub tellings : List Telling
  pub merged : List Payload
  pub events : List Handled
  pub replies : List Tag
  pub fault : Option Faulted
  pub stuck : Bool

-- what is kept of what came, where this much is
abbrev pub merged_by : Parts → Keeps → Payload → List Payload
merged_by g k x = if keeps_names k then cons_option (merged_in g x) [] else []

-- what is kept with one more event
abbrev pub noted : Parts → KeptView → Handled → KeptView
noted g k h = record k {
  len = k.len + 1;
  room = k.room - 1;
  tellings = k.tellings ++ told_in h.message.payload h.reaction.fired;
  merged = k.merged ++ merged_by g k.keeps h.message.payload;
  events = if keeps_all k.keeps then k.events ++ h ∷ [] else k.events;
  fault = option_or k.fault (fault_in h.stamp (full_step h.message.payload h.reaction.verdict));
  stuck = k.stuck || is_stuck (full_step h.message.payload h.reaction.verdict);
}

-- what is kept with one more reply of the next event
abbrev pub replied : KeptView → Tag → KeptView
replied k t = record k {
  replied = k.replied + 1;
  room_for_replies = k.room_for_replies - 1;
  replies = if keeps_all k.keeps then k.replies ++ t ∷ [] else k.replies;
}
