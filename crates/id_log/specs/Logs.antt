-- What a log has ahead, and what reads of it give (docs/PROMISES.md, "The edge").
use Rattle.std.specs.Prelude.{◌≡◌, ◌⊎◌, ℕ, Bool, true, false, List, [], ◌++◌, Option, None, Some, option_map}
use Rattle.id_log.specs.declared.log.LogFault.{LogFault}
use Rattle.id_log.specs.declared.log.LogFault.TheVariants.{Memory}

-- how bytes end: by themselves, or in a read that fails so; or any read of them may fail
pub data End : Type 0 where
  ends : End
  fails : LogFault → End
  may_fail : End

-- the bytes that a log has ahead, and how they end
pub record Ahead : Type 0 where
  pub bytes : List ℕ
  pub end : End

-- bytes that end so may be all that there are
abbrev pub MayEnd : End → Type 0
MayEnd ends = Unit {0}
MayEnd (fails fault) = ⊥
MayEnd may_fail = Unit {0}

-- bytes that end so may end in this fault
abbrev pub MayEndIn : End → LogFault → Type 0
MayEndIn ends fault = ⊥
MayEndIn (fails told) fault = fault ≡ told
MayEndIn may_fail fault = Unit {0}

-- bytes that a log had ahead were read, and the others are left
abbrev pub Gives : Option Ahead → Option Ahead → List ℕ → Type 0
Gives None new bytes = Unit {0}
Gives (Some a) None bytes = ⊥
Gives (Some a) (Some b) bytes = (a.bytes ≡ bytes ++ b.bytes) × (b.end ≡ a.end)

-- a log has nothing ahead
abbrev pub IsOver : Option Ahead → Type 0
IsOver None = Unit {0}
IsOver (Some a) = (a.bytes ≡ []) × MayEnd a.end

-- a log with this ahead may break off so
abbrev pub MayBreak : Option Ahead → LogFault → Type 0
MayBreak None fault = Unit {0}
MayBreak (Some a) fault = (fault ≡ Memory) ⊎ MayEndIn a.end fault

-- a read of these bytes, which end so, may fail so: before their end only where any read may
abbrev pub IsLostAt : List ℕ → End → LogFault → Type 0
IsLostAt bytes ends fault = ⊥
IsLostAt bytes (fails told) fault = (bytes ≡ []) × (fault ≡ told)
IsLostAt bytes may_fail fault = Unit {0}

-- a read of a log with this ahead may fail so
abbrev pub IsLost : Option Ahead → LogFault → Type 0
IsLost None fault = Unit {0}
IsLost (Some a) fault = (fault ≡ Memory) ⊎ IsLostAt a.bytes a.end fault

-- a piece of a log was read behind these bytes, and none where the log is over
pub record ReadsOn (old new : Option Ahead) (bytes longer : List ℕ) (over : Bool) : Type 0 where
  pub piece : List ℕ
  pub longer_is : longer ≡ bytes ++ piece
  pub gives : Gives old new piece
  pub is_over : over ≡ true → IsOver new

-- a front of what a log had ahead, or all of it where the log was over
abbrev pub IsHeard : Option Ahead → List ℕ → Bool → Type 0
IsHeard None front over = Unit {0}
IsHeard (Some a) front true = (front ≡ a.bytes) × MayEnd a.end
IsHeard (Some a) front false = (rest : List ℕ) × (a.bytes ≡ front ++ rest)

-- what may stand behind what was read of a log: nothing where it was over
abbrev pub MayFollow : Bool → List ℕ → Type 0
MayFollow true more = more ≡ []
MayFollow false more = Unit {0}

-- of what was read of a log this is so, whatever may stand behind it: of all that the log has, where that is known
pub record Hears (a : Option Ahead) (P : List ℕ → Type 0) : Type 0 where
  pub front : List ℕ
  pub over : Bool
  pub heard : IsHeard a front over
  pub holds : (more : List ℕ) → MayFollow over more → P (front ++ more)

-- for use inside

-- what a reader has ahead, where its bytes are known
abbrev pub ahead_of : Option (List ℕ) → Option Ahead
ahead_of known = option_map (λ bytes. record { bytes = bytes; end = may_fail }) known
