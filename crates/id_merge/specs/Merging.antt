-- What several logs come to that are merged line by line (docs/RUNTIMES.md, "Several logs").
use Rattle.std.specs.Prelude.{ℕ, ◌+◌, List, [], ◌∷◌, drop, map, nat_eq, nat_lt, suc, zero, set, length, get_or}
use Rattle.std.specs.Prelude.{Option, Some, None, option_map, if◌then◌else◌}
use Rattle.id_log.specs.Logs.{Ahead, End}
use Rattle.id_log.specs.Logs.End.{ends, fails, may_fail}
use Rattle.id_merge.specs.Lines.{rank}

-- the place of the first least of ranks, of which so many were looked at, with the least of those at its place
abbrev pub least_from : ℕ → ℕ → ℕ → List ℕ → ℕ
least_from seen place least [] = place
least_from seen place least (r ∷ rs) =
    if nat_lt r least then least_from (seen + 1) seen r rs else least_from (seen + 1) place least rs

-- the place of the text whose first line comes next: the first of those with the least rank
abbrev pub first_least : List (List ℕ) → ℕ
first_least texts = least_from 0 0 79228162514264337593543950338 (map rank texts)

-- the text at a place
abbrev pub text_at : List (List ℕ) → ℕ → List ℕ
text_at texts i = get_or texts i []

-- the text at this place, and else at that
abbrev pub or_else : ℕ → List ℕ → ℕ → ℕ
or_else i [] other = other
or_else i (b ∷ bs) other = i

-- the place of the text whose byte comes next, in the midst of a line of the text at a place, or of none
abbrev pub source : Option ℕ → List (List ℕ) → ℕ
source None texts = first_least texts
source (Some i) texts = or_else i (text_at texts i) (first_least texts)

-- the text whose line goes on behind a byte of it
abbrev pub inside : ℕ → ℕ → Option ℕ
inside i b = if nat_eq b 10 then None else Some i

-- the first byte, where there is one
abbrev pub first_byte : List ℕ → ℕ
first_byte [] = 0
first_byte (b ∷ bs) = b

-- so many bytes of the texts, merged: the next one, of the text at its source, and then those behind it
abbrev pub merged : ℕ → Option ℕ → List (List ℕ) → List ℕ
merged zero at texts = []
merged (suc n) at texts = first_byte (text_at texts (source at texts))
    ∷ merged n (inside (source at texts) (first_byte (text_at texts (source at texts))))
    (set texts (source at texts) (drop 1 (text_at texts (source at texts))))

-- how many bytes texts have
abbrev pub total : List (List ℕ) → ℕ
total [] = 0
total (text ∷ texts) = length text + total texts

-- all bytes of the texts, merged, in the midst of a line of one of them, or of none
abbrev pub merged_text : Option ℕ → List (List ℕ) → List ℕ
merged_text at texts = merged (total texts) at texts

-- how bytes end that end so or so
abbrev pub end_with : End → End → End
end_with ends rest = rest
end_with (fails fault) rest = may_fail
end_with may_fail rest = may_fail

-- how merged bytes end: by themselves where all logs do, else any read of them may fail
abbrev pub merged_end : List Ahead → End
merged_end [] = ends
merged_end (a ∷ logs) = end_with a.end (merged_end logs)

-- all that is known, where all is
abbrev pub all_known : {X : Type 0} → List (Option X) → Option (List X)
all_known [] = Some []
all_known (None ∷ xs) = None
all_known (Some x ∷ xs) = option_map (λ ys. x ∷ ys) (all_known xs)

-- what logs with these bytes ahead have ahead that are merged
abbrev pub merged_logs : Option ℕ → List Ahead → Ahead
merged_logs at logs = record { bytes = merged_text at (map (λ a. a.bytes) logs); end = merged_end logs }

-- the same, where that of each log is known
abbrev pub merged_ahead : Option ℕ → List (Option Ahead) → Option Ahead
merged_ahead at logs = option_map (merged_logs at) (all_known logs)

-- what logs of these names have ahead: one what it has, and several what they come to, merged
abbrev pub logs_ahead : (List ℕ → Option Ahead) → List (List ℕ) → Option Ahead
logs_ahead told [] = merged_ahead None []
logs_ahead told (name ∷ []) = told name
logs_ahead told (name ∷ other ∷ names) = merged_ahead None (map told (name ∷ other ∷ names))
