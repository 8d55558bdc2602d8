-- What tellings say of the paths of tags, of structures and of the answer, as events do.
use Rattle.std.specs.Prelude.{◌≡◌, ◌++◌, List, [], ◌∷◌, Option, Some, None}
use Rattle.std.specs.Prelude.{if◌then◌else◌, option_map}
use Rattle.std.specs.List.{cons_option, filter_map}
use Rattle.std.specs.HashMap.{get}
use Rattle.std.specs.Option.{option_or}
use Rattle.id_instr.specs.Graph.{Parts}
use Rattle.id_valid.specs.Roles.{op_at}
use Rattle.id_tag.specs.declared.Context.{Context}
use Rattle.id_tag.specs.declared.Structure.{Structure}
use Rattle.id_tag.specs.declared.Tag.{Tag}
use Rattle.id_tag.specs.declared.Value.{Value}
use Rattle.id_tag.specs.Tags.{same_context, same_structure, same_tag}
use Rattle.id_record.specs.declared.telling.Telling.{Telling}
use Rattle.id_record.specs.declared.telling.Told.{Told}
use Rattle.id_record.specs.declared.telling.Told.TheVariants.{Entered, Made, Came}
use Rattle.id_observe.specs.declared.paths.Making.{Making}
use Rattle.id_observe.specs.declared.paths.Tables.{Tables}
use Rattle.id_observe.specs.Paths.{if_made, if_same, is_alloc, is_enter, main_tag}

-- the context that was entered, where that is told of an `enter`
abbrev pub entered_told : Parts → Telling → Option Context
entered_told g t = by t.told
  where
    by : Told → Option Context
    by (Entered c) = if is_enter (op_at g t.tag.instr) then Some c else None
    by (Made s) = None
    by (Came v) = None

-- the structure that was made, where that is told of an `alloc`
abbrev pub made_told : Parts → Telling → Option Structure
made_told g t = by t.told
  where
    by : Told → Option Structure
    by (Entered c) = None
    by (Made s) = if is_alloc (op_at g t.tag.instr) then Some s else None
    by (Came v) = None

-- the value that came to instruction 0 under main's tag, where that is told
abbrev pub value_told : Telling → Option Value
value_told t = by t.told
  where
    by : Told → Option Value
    by (Entered c) = None
    by (Made s) = None
    by (Came v) = if same_tag t.tag (main_tag 0) then Some v else None

-- the structure that was made, with the tag under which it was
abbrev pub making_told : Parts → Telling → Option Making
making_told g t = option_map (λ s. record { structure = s; tag = t.tag }) (made_told g t)

-- the tag under which a context was entered: by the last of these that tells of it
unfoldable pub enter_by : Parts → List Telling → Context → Option Tag
enter_by g [] c = None
enter_by g (t ∷ ts) c = option_or (enter_by g ts c) (if_same t.tag c (entered_told g t))

-- and that under which a structure was made
unfoldable pub maker_by : Parts → List Telling → Structure → Option Tag
maker_by g [] s = None
maker_by g (t ∷ ts) s = option_or (maker_by g ts s) (if_made t.tag s (made_told g t))

-- what these tell was added to the old tables
pub record AddsTold (g : Parts) (ts : List Telling) (old new : Tables) : Type 0 where
  pub enters : (c : Context)
      → get same_context new.enters c ≡ option_or (enter_by g ts c) (get same_context old.enters c)
  pub makers : (s : Structure)
      → get same_structure new.makers s ≡ option_or (maker_by g ts s) (get same_structure old.makers s)
  pub makings : new.makings.items ≡ old.makings.items ++ filter_map (making_told g) ts
  pub values : new.values.items ≡ old.values.items ++ filter_map value_told ts

-- and what one of them does
pub record AddsOne (g : Parts) (t : Telling) (old new : Tables) : Type 0 where
  pub enters : (c : Context) → get same_context new.enters c
      ≡ option_or (if_same t.tag c (entered_told g t)) (get same_context old.enters c)
  pub makers : (s : Structure) → get same_structure new.makers s
      ≡ option_or (if_made t.tag s (made_told g t)) (get same_structure old.makers s)
  pub makings : new.makings.items ≡ old.makings.items ++ cons_option (making_told g t) []
  pub values : new.values.items ≡ old.values.items ++ cons_option (value_told t) []
