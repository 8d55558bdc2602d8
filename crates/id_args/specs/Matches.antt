-- What matches and errors of `clap` come to, step by step.
use Rattle.std.specs.Prelude.{◌≡◌, ◌≢◌, ◌⊎◌, ℕ, ⊤, List, Option, Result, Ok, Err, MatchOption}
use Rattle.std.specs.Prelude.{IsSomeAnd}
use Rattle.clap.specs.Walk.{Row, Text}
use Rattle.clap.specs.declared.error.kind.ErrorKind.{ErrorKind}
use Rattle.clap.specs.declared.error.kind.ErrorKind.TheVariants.{DisplayHelp, DisplayVersion, OutOfMemory}
use Rattle.id_args.specs.declared.request.Request.{Request}
use Rattle.id_args.specs.declared.request.Unasked.{Unasked}
use Rattle.id_args.specs.declared.request.Unasked.TheVariants.{Help, Refused, Memory}
use Rattle.id_args.specs.Requests.{HasNumber, HasOrder, IsRequestOf}

-- an error of this kind tells so: help or the version for help alone, a refusal for all else but want of memory
abbrev pub Tells : ErrorKind → Unasked → Type 0
Tells kind (Help text) = (kind ≡ DisplayHelp) ⊎ (kind ≡ DisplayVersion)
Tells kind (Refused text) = (kind ≢ DisplayHelp) × (kind ≢ DisplayVersion) × (kind ≢ OutOfMemory)
Tells kind Memory = ⊤

-- a refusal, or want of memory
abbrev pub IsRefusal : Unasked → Type 0
IsRefusal (Help text) = ⊥
IsRefusal (Refused text) = ⊤
IsRefusal Memory = ⊤

-- the number of an argument, if it has one
abbrev pub IsNumberOf : ℕ → Text → List Row → Option ℕ → Type 0
IsNumberOf bits id rows r = MatchOption r ((n : ℕ) → HasNumber bits id rows n → ⊥) (HasNumber bits id rows)

-- the order that is asked for, unless its seed is no number
abbrev pub IsOrderOf : List Row → Option (Option ℕ) → Type 0
IsOrderOf rows r = MatchOption r ((order : Option ℕ) → HasOrder rows order → ⊥) (HasOrder rows)

-- the request of a command with these matches, if there is one
abbrev pub IsAsked : Text → List Row → Option Request → Type 0
IsAsked name rows r =
    MatchOption r ((request : Request) → IsRequestOf name rows request → ⊥) (IsRequestOf name rows)

-- a named command asks for this request
abbrev pub Asks : Option (Text × List Row) → Request → Type 0
Asks named request = IsSomeAnd named (λ p. IsRequestOf p.0 p.1 request)

-- the request of a named command, if there is one
abbrev pub IsAskedIn : Option (Text × List Row) → Option Request → Type 0
IsAskedIn named r = MatchOption r ((request : Request) → Asks named request → ⊥) (Asks named)

-- the request of a named command, or that there is none
abbrev pub Gives : Option (Text × List Row) → Result Request Unasked → Type 0
Gives named (Ok request) = Asks named request
Gives named (Err (Help text)) = ⊥
Gives named (Err (Refused text)) = (request : Request) → Asks named request → ⊥
Gives named (Err Memory) = ⊤
