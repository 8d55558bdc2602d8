-- What is so of all that a log may have (id_log/specs/Logs.antt).
use Rattle.std.proofs.Common.{ℕ, Bool, true, false, List, [], ◌++◌, Option, Some, None, refl, sym, ◌∙◌, subst}
use Rattle.std.proofs.lemmas.List.{append-nil}
use Rattle.id_log.specs.Logs.{Ahead, Hears, IsHeard, MayFollow}
use Rattle.id_log.specs.Logs.End.{ends}

pub hears_map : (a : Option Ahead) (P Q : List ℕ → Type 0) → ((bytes : List ℕ) → P bytes → Q bytes) → Hears a P
    → Hears a Q
hears_map a P Q f h =
    record {
      front = h.front;
      over = h.over;
      heard = h.heard;
      holds =
          λ more follows. f (h.front ++ more) (h.holds more follows);
    }

-- what is so of any bytes
pub hears_any : (a : Option Ahead) (P : List ℕ → Type 0) → ((bytes : List ℕ) → P bytes) → Hears a P
hears_any a P all = record { front = []; over = false; heard = none_of a; holds = λ more follows. all more }
  where
    none_of : (a : Option Ahead) → IsHeard a [] false
    none_of None = tt
    none_of (Some b) = (b.bytes, refl)

-- is so of some
pub hears_some : (a : Option Ahead) (P : List ℕ → Type 0) → Hears a P → (bytes : List ℕ) × P bytes
hears_some a P h = (h.front ++ [], h.holds [] (ends_here h.over))
  where
    ends_here : (over : Bool) → MayFollow over []
    ends_here true = refl
    ends_here false = tt

-- and of bytes in memory, of these
pub hears_all : (bytes : List ℕ) (P : List ℕ → Type 0) → Hears (Some (record { bytes = bytes; end = ends })) P → P bytes
hears_all bytes P h = by h.over h.heard h.holds
  where
    by : (over : Bool) → IsHeard (Some (record { bytes = bytes; end = ends })) h.front over
        → ((more : List ℕ) → MayFollow over more → P (h.front ++ more)) → P bytes
    by true heard holds = subst P (append-nil h.front ∙ heard.0) (holds [] refl)
    by false heard holds = subst P (sym heard.1) (holds heard.0 tt)
