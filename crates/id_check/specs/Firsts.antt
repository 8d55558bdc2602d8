-- The first of the causes that were noted so far, for use inside.
use Rattle.std.specs.Prelude.{◌≡◌, List, [], ◌++◌, Option, None, Some}
use Rattle.id_check.specs.declared.cause.CheckCause.{CheckCause}
use Rattle.id_check.specs.Causes.{IsFirst}

-- the cause is the first of these, or there is none
abbrev pub IsFirstOf : Option CheckCause → List CheckCause → Type 0
IsFirstOf None cs = cs ≡ []
IsFirstOf (Some c) cs = IsFirst c cs

-- these causes were noted beside those from before
abbrev pub Notes : Option CheckCause → List CheckCause → Option CheckCause → Type 0
Notes old ds new = (cs : List CheckCause) → IsFirstOf old cs → IsFirstOf new (cs ++ ds)
