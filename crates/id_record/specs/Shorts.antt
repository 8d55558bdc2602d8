-- How a record keeps what its events tell.
use Rattle.std.specs.Prelude.{ℕ, ◌+◌, ◌*◌, ◌^◌, ◌<◌, List, length, slice_index_or}
use Rattle.id_tag.specs.declared.Context.{Context}
use Rattle.id_tag.specs.declared.Value.TheVariants.{Signal}
use Rattle.id_record.specs.declared.telling.Telling.{Telling}
use Rattle.id_record.specs.declared.telling.Told.TheVariants as told
use Rattle.id_record.specs.declared.tellings.ShortTelling.{ShortTelling}
use Rattle.id_record.specs.declared.tellings.ShortTelling.TheVariants.{Entered, Aside}

-- the context of these numbers
abbrev pub context_by : ℕ → ℕ → Context
context_by e n = record { element = e; serial = n }

-- a place of 64 bits in two numbers of 32
abbrev pub place_by : ℕ → ℕ → ℕ
place_by high low = high * 2 ^ 32 + low

-- what is told of no tag
abbrev pub untold : Telling
untold = record { tag = record { context = context_by 0 0; iteration = 0; instr = 0 }; told = told.Came Signal }

-- the telling that is kept so, with these that stand aside
abbrev pub telling_of : List Telling → ShortTelling → Telling
telling_of asides (Entered element maker serial iteration instr entered) =
    record {
      tag = record { context = context_by element serial; iteration = iteration; instr = instr };
      told = told.Entered (context_by maker entered);
    }
telling_of asides (Aside high low) = slice_index_or asides (place_by high low) untold

-- what stands aside is there
abbrev pub IsWithin : List Telling → ShortTelling → Type 0
IsWithin asides (Entered element maker serial iteration instr entered) = Unit {0}
IsWithin asides (Aside high low) = place_by high low < length asides

-- what contracts see of tellings: for how many more there is room, and for how many of them aside
pub record TellingsView : Type 0 where
  pub items : List Telling
  pub room : ℕ
  pub room_aside : ℕ
