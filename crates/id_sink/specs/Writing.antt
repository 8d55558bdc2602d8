-- What a device tells of what is written to it (docs/PROMISES.md, "The edge").
use Rattle.std.specs.Prelude.{◌≡◌, ℕ, zero, suc, min, List, [], length, Option, None, Some, Result}
use Rattle.std.specs.Prelude.{Ok, Err, OnOk, option_map}
use Rattle.std.specs.Io.KnownBytes.{Keeps}
use Rattle.id_sink.specs.declared.sink.SinkFault.{SinkFault}
use Rattle.id_sink.specs.Told.{SinkView, Told, after_write}

-- what a device told so far; how many of its next writes in a row a signal cuts short, and how many bytes the one after
-- them has room for, or that it fails; and what comes of sending on what the device holds back
pub record Outlook : Type 0 where
  pub told : Told
  pub cuts : ℕ
  pub write : Result ℕ SinkFault
  pub sends : Result (Unit {0}) SinkFault

-- a signal cuts fewer writes in a row short than one is made again
abbrev pub cuts_of : Outlook → ℕ
cuts_of o = min o.cuts 18446744073709551614

-- a write of these bytes takes as many as there is room for
abbrev pub within : Result ℕ SinkFault → List ℕ → Result ℕ SinkFault
within (Ok room) bytes = Ok (min room (length bytes))
within (Err e) bytes = Err e

-- the device goes on to tell this
abbrev pub Tells : Option Outlook → Told → Type 0
Tells None told = ⊥
Tells (Some o) told = o.told ≡ told

-- a write to a device with this outlook is answered so, and told so
pub record IsAnswered (o : Outlook) (new : Option Outlook) (bytes : List ℕ) (answer : Result ℕ SinkFault)
    : Type 0 where
  pub answer_is : answer ≡ within o.write bytes
  pub tells : Tells new (after_write o.told bytes answer)

-- one write, before which so many are to be cut short: it is cut short, or it is answered
abbrev pub IsAttemptOf : ℕ → Outlook → Option Outlook → List ℕ → Option (Result ℕ SinkFault) → Type 0
IsAttemptOf (suc n) o new bytes None =
    new ≡ Some (record { told = o.told; cuts = n; write = o.write; sends = o.sends })
IsAttemptOf (suc n) o new bytes (Some answer) = ⊥
IsAttemptOf zero o new bytes None = ⊥
IsAttemptOf zero o new bytes (Some answer) = IsAnswered o new bytes answer

-- one write to a device that may tell nothing
abbrev pub IsAttempt : Option Outlook → Option Outlook → List ℕ → Option (Result ℕ SinkFault) → Type 0
IsAttempt None new bytes r = Unit {0}
IsAttempt (Some o) new bytes r = IsAttemptOf (cuts_of o) o new bytes r

-- a write that is made again where a signal cuts it short, to a device that may tell nothing
abbrev pub IsWritten : Option Outlook → Option Outlook → List ℕ → Result ℕ SinkFault → Type 0
IsWritten None new bytes answer = Unit {0}
IsWritten (Some o) new bytes answer = IsAnswered o new bytes answer

-- sending on comes to what the outlook says, and leaves what was told
abbrev pub IsSentAs : Option Outlook → Option Outlook → Result (Unit {0}) SinkFault → Type 0
IsSentAs None new answer = Unit {0}
IsSentAs (Some o) new answer = (answer ≡ o.sends) × Tells new o.told

-- what a device shows: its outlook, where it tells one, the bytes that it holds back, and all bytes that were written
-- to it, held back or not, where they are known
pub record DeviceView : Type 0 where
  pub outlook : Option Outlook
  pub held : List ℕ
  pub contents : Option (List ℕ)

-- sending on came to this answer, and where that is good nothing is held back; known bytes stay as they were
pub record IsSentOn (old new : DeviceView) (answer : Result (Unit {0}) SinkFault) : Type 0 where
  pub outlook : IsSentAs old.outlook new.outlook answer
  pub none_held : OnOk answer (new.held ≡ [])
  pub contents : Keeps old.contents new.contents

-- what a sink over the device shows: what the device told, and its bytes
abbrev pub told_of : DeviceView → SinkView
told_of v = record { told = option_map (λ o. o.told) v.outlook; contents = v.contents }
