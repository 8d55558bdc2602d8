-- What a source tells of a read, and what is read of bytes (docs/PROMISES.md, "The edge").
use Rattle.std.specs.Prelude.{◌≡◌, ◌<◌, ◌≤◌, ◌⊎◌, ℕ, List, length, take, Option, None, Some}
use Rattle.std.specs.Prelude.{Result, Ok, Err, String}
use Rattle.std.specs.Prelude.{Vec, string_bytes, if◌then◌else◌, nat_le}
use Rattle.std.specs.Str.{IsUtf8, is_utf8}
use Rattle.id_sink.specs.declared.source.ReadFault.{ReadFault}
use Rattle.id_sink.specs.declared.source.ReadFault.TheVariants as unread
use Rattle.id_sink.specs.declared.source.SourceFault.{SourceFault}
use Rattle.id_sink.specs.declared.source.SourceFault.TheVariants.{TooLong, File, Memory}

-- the source told this text, if it told anything
abbrev pub IsToldText : Option (Result (List ℕ) SourceFault) → List ℕ → Type 0
IsToldText None text = Unit {0}
IsToldText (Some (Ok told)) text = text ≡ told
IsToldText (Some (Err fault)) text = ⊥

-- the source told this fault, if it told anything, or memory was refused
abbrev pub IsUnread : Option (Result (List ℕ) SourceFault) → SourceFault → Type 0
IsUnread None fault = Unit {0}
IsUnread (Some (Ok text)) fault = fault ≡ Memory
IsUnread (Some (Err told)) fault = (fault ≡ told) ⊎ (fault ≡ Memory)

-- a read answers what the source told that it would give, or want of memory; of a source that told nothing, anything
abbrev pub IsRead : {A : Type 0} → Option (Result (List ℕ) SourceFault) → Result (String A) SourceFault → Type 0
IsRead told (Ok s) = IsToldText told (string_bytes s)
IsRead told (Err fault) = IsUnread told fault

-- these bytes are read as this text, or refused: above 1,048,576 bytes whatever they are, or where they are no UTF-8
abbrev pub IsTextOf : {A : Type 0} → List ℕ → Result (String A) SourceFault → Type 0
IsTextOf bytes (Ok s) = (length bytes ≤ 1048576) × (string_bytes s ≡ bytes)
IsTextOf bytes (Err TooLong) = 1048576 < length bytes
IsTextOf bytes (Err File) = (length bytes ≤ 1048576) × ¬ IsUtf8 bytes
IsTextOf bytes (Err Memory) = ⊥

-- known bytes are read as their text, or refused for them, where no read failed
abbrev pub IsReadOf : {A : Type 0} → List ℕ → Result (String A) SourceFault → Type 0
IsReadOf bytes (Ok s) = (length bytes ≤ 1048576) × (string_bytes s ≡ bytes)
IsReadOf bytes (Err TooLong) = 1048576 < length bytes
IsReadOf bytes (Err File) = Unit {0}
IsReadOf bytes (Err Memory) = Unit {0}

-- what these bytes are as a text
abbrev pub text_in : List ℕ → Result (List ℕ) SourceFault
text_in bytes = if nat_le (length bytes) 1048576 then (if is_utf8 bytes then Ok bytes else Err File) else Err TooLong

-- why there is no text where bytes can't be read
abbrev pub fault_for : ReadFault → SourceFault
fault_for unread.File = File
fault_for unread.Memory = Memory

-- the text that a read gives where a folder told this of its bytes, or why there is none
abbrev pub told_text : Option (Result (List ℕ) ReadFault) → Option (Result (List ℕ) SourceFault)
told_text None = None
told_text (Some (Ok bytes)) = Some (text_in bytes)
told_text (Some (Err fault)) = Some (Err (fault_for fault))

-- a folder that told bytes gives at most so many of them from the front, and one that told a fault gives that fault;
-- want of memory can stand in the place of both
abbrev pub IsFrontOf : {A : Type 0} → Option (Result (List ℕ) ReadFault) → ℕ → Result (Vec ℕ A) ReadFault
    → Type 0
IsFrontOf None most r = Unit {0}
IsFrontOf (Some (Ok bytes)) most (Ok v) = v.items ≡ take most bytes
IsFrontOf (Some (Ok bytes)) most (Err fault) = fault ≡ unread.Memory
IsFrontOf (Some (Err told)) most (Ok v) = ⊥
IsFrontOf (Some (Err told)) most (Err fault) = (fault ≡ told) ⊎ (fault ≡ unread.Memory)
