-- Where each import stands among those of its head, as the builder notes that.
use Rattle.std.specs.Prelude.{◌≡◌, ℕ, suc, ◌<◌, ◌^◌, ◌==◌, ◌&&◌, Bool, if◌then◌else◌}
use Rattle.std.specs.Prelude.{List, [], ◌∷◌, length, nat_lt}
use Rattle.std.specs.Prelude.{Option, None, Some, IsSome, unwrap_or}
use Rattle.id_check.specs.declared.checked.Checked.{Checked}
use Rattle.id_desugar.specs.Regions.{imports_of}
use Rattle.id_build.specs.declared.slots.Import.{Import}
use Rattle.id_build.specs.Rows.{slot_of}

-- whether two imports are one
abbrev pub same_import : Import → Import → Bool
same_import i j = (i.head == j.head) && (i.binder == j.binder)

-- one place further, if there is one
abbrev pub behind : Option ℕ → Option ℕ
behind None = None
behind (Some k) = Some (suc k)

-- how many stand before the first that is b, if one is
abbrev pub found : List ℕ → ℕ → Option ℕ
found [] b = None
found (x ∷ xs) b = if x == b then Some 0 else behind (found xs b)

-- what is noted of i where this import stands there
abbrev pub noted : Import → ℕ → Import → Option ℕ
noted j k i = if same_import j i then Some k else None

-- what is noted of i where the head has these imports
abbrev pub noted_all : ℕ → List ℕ → Import → Option ℕ
noted_all h bs i = if h == i.head then found bs i.binder else None

-- the imports of a head, if they are too many to be looked through for each use, and else none
abbrev pub long_only : List ℕ → List ℕ
long_only bs = if nat_lt 16 (length bs) then bs else []

-- only imports whose numbers have 32 bits are noted
abbrev pub AreShort : (Import → Option ℕ) → Type 0
AreShort f = (i : Import) → IsSome (f i) → (i.head < 2 ^ 32) × (i.binder < 2 ^ 32)

-- of each head with many imports it is noted where one stands, and nothing of a binder that is none of them
abbrev pub AreNoted : Checked → (Import → Option ℕ) → Type 0
AreNoted P f =
    (h b : ℕ) → 16 < length (imports_of P h) →
    unwrap_or (f (record { head = h; binder = b })) (length (imports_of P h)) ≡ slot_of (imports_of P h) b
