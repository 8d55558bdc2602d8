-- What words ask for (docs/LANGUAGE.md, "Output").
use Rattle.std.specs.Prelude.{◌≡◌, ◌≢◌, ◌⊎◌, ◌<◌, ◌^◌, ◌-◌, ◌&&◌, ◌||◌, ℕ, Bool}
use Rattle.std.specs.Prelude.{true, false, ⊤}
use Rattle.std.specs.Prelude.{List, [], map, length, codes, ◌∷◌, ◌++◌, string_bytes}
use Rattle.std.specs.Prelude.{Option, Some, None, Result, Ok, Err, unwrap_or, slice_get, if◌then◌else◌, IsSomeAnd}
use Rattle.std.specs.Prelude.{◌≤◌, count_by, filter, nat_eq, not}
use Rattle.std.specs.List.{list_any}
use Rattle.std.specs.Option.{option_map_or}
use Rattle.std.specs.Str.{bytes_eq}
use Rattle.std.specs.Str.Parse.{IsNumeral, digits_value, without_leading_plus}
use Rattle.std.specs.declared.io.ErrorKind.{ErrorKind as IoErrorKind}
use Rattle.std.specs.declared.io.ErrorKind.TheVariants as io
use Rattle.clap.specs.Walk.{Row, Text, all_of, first_of, one_of}
use Rattle.clap.specs.Simple.{subcommand_of}
use Rattle.clap.specs.Kinds.{IsAmong, Kinds}
use Rattle.clap.specs.Faults.{fault_of}
use Rattle.clap.specs.declared.error.kind.ErrorKind.{ErrorKind}
use Rattle.clap.specs.declared.error.kind.ErrorKind.TheVariants.{DisplayHelp, DisplayVersion}
use Rattle.id_args.specs.declared.request.Request.{Request}
use Rattle.id_args.specs.declared.request.Request.TheVariants as asks
use Rattle.id_args.specs.declared.request.Unasked.{Unasked}
use Rattle.id_args.specs.declared.request.Unasked.TheVariants.{Help, Refused, Memory}
use Rattle.id_args.specs.Commands.{program_app}

-- ---- what the matches of a command ask for

-- the flag was given
abbrev pub is_set : Text → List Row → Bool
is_set id rows = option_map_or (λ t. bytes_eq t (codes "true")) (one_of id rows) false

-- the text is the number in decimal digits, and fits in so many bits
abbrev pub IsNumber : ℕ → Text → ℕ → Type 0
IsNumber bits text n =
    IsNumeral 10 (without_leading_plus text) × (n ≡ digits_value 10 (without_leading_plus text)) × (n < 2 ^ bits)

-- the number is the value of the option or argument
abbrev pub HasNumber : ℕ → Text → List Row → ℕ → Type 0
HasNumber bits id rows n = (text : Text) × (one_of id rows ≡ Some text) × IsNumber bits text n

-- the seed is the value of `--order`, where that is given
abbrev pub HasOrder : List Row → Option ℕ → Type 0
HasOrder rows None = one_of (codes "order") rows ≡ None
HasOrder rows (Some seed) = HasNumber 64 (codes "order") rows seed

-- the file is that of the words
abbrev pub HasFile : List Row → Text → Type 0
HasFile rows file = first_of (codes "FILE") rows ≡ Some file

-- the input words, in order
abbrev pub input_words : List Row → List Text
input_words rows = unwrap_or (all_of (codes "INPUT") rows) []

-- the words of `judge` behind its file, in order
abbrev pub judge_words : List Row → List Text
judge_words rows = unwrap_or (all_of (codes "WORD") rows) []

-- a word gives an input: a `=` stands in it
abbrev pub gives_input : Text → Bool
gives_input word = list_any (λ b. nat_eq b 61) word

-- a word names a log: it gives no input
abbrev pub names_log : Text → Bool
names_log word = not (gives_input word)

-- a word names standard input
abbrev pub names_stream : Text → Bool
names_stream word = bytes_eq word (codes "-")

-- from 1 to 64 logs, and standard input once at the most
abbrev pub AreLogs : List Text → Type 0
AreLogs logs = (0 < length logs) × (length logs ≤ 64) × (count_by names_stream logs ≤ 1)

-- the command of this name with these matches asks for the request
abbrev pub IsRequestOf : Text → List Row → Request → Type 0
IsRequestOf name rows (asks.Check file) = (name ≡ codes "check") × HasFile rows file.now
IsRequestOf name rows (asks.Graph file) =
    (name ≡ codes "graph") × HasFile rows file.now × (is_set (codes "dot") rows ≡ false)
IsRequestOf name rows (asks.Draw file) =
    (name ≡ codes "graph") × HasFile rows file.now × (is_set (codes "dot") rows ≡ true)
IsRequestOf name rows (asks.Run file inputs count trace steps order names) =
    (name ≡ codes "run") × HasFile rows file.now × (map (λ w. w.now) inputs.items ≡ input_words rows)
    × HasNumber 32 (codes "elements") rows count × (trace ≡ is_set (codes "trace") rows)
    × HasNumber 64 (codes "steps") rows steps × HasOrder rows order × (names ≡ is_set (codes "names") rows)
IsRequestOf name rows (asks.Facts file rounds inputs) =
    (name ≡ codes "facts") × HasFile rows file.now × HasNumber 32 (codes "ROUNDS") rows rounds
    × (map (λ w. w.now) inputs.items ≡ input_words rows)
IsRequestOf name rows (asks.Why file rounds inputs) =
    (name ≡ codes "why") × HasFile rows file.now × HasNumber 32 (codes "rounds") rows rounds
    × (map (λ w. w.now) inputs.items ≡ input_words rows)
IsRequestOf name rows (asks.Judge file logs inputs count names) =
    (name ≡ codes "judge") × HasFile rows file.now
    × (map (λ w. w.now) logs.items ≡ filter names_log (judge_words rows)) × AreLogs (map (λ w. w.now) logs.items)
    × (map (λ w. w.now) inputs.items ≡ filter gives_input (judge_words rows))
    × HasNumber 32 (codes "elements") rows count × (names ≡ is_set (codes "names") rows)

-- ---- what words ask for

-- a word asks for help
abbrev pub is_help : Text → Bool
is_help word = bytes_eq word (codes "--help") || bytes_eq word (codes "-h")

-- the last word asks for help
abbrev pub end_in_help : List Text → Bool
end_in_help words = option_map_or is_help (slice_get words (length words - 1)) false

-- the words without a first `help` where the last one asks for help as well, which says the same once more
abbrev pub words_read : List Text → List Text
words_read [] = []
words_read (word ∷ words) = if bytes_eq word (codes "help") && end_in_help words then words else word ∷ words

-- the words name a command whose matches ask for the request
abbrev pub NameRequest : List Text → Request → Type 0
NameRequest words r = IsSomeAnd (subcommand_of program_app words) (λ p. IsRequestOf p.0 p.1 r)

-- what keeps `clap` from taking the words
abbrev pub faults : List Text → Kinds
faults words = fault_of program_app words

-- help or the version is asked for
abbrev pub AskForHelp : List Text → Type 0
AskForHelp words = (k : ErrorKind) × IsAmong k (faults words) × ((k ≡ DisplayHelp) ⊎ (k ≡ DisplayVersion))

-- the words are refused
abbrev pub AreRefused : List Text → Type 0
AreRefused words = (k : ErrorKind) × IsAmong k (faults words) × (k ≢ DisplayHelp) × (k ≢ DisplayVersion)

-- the words are taken, and ask for nothing
abbrev pub AskForNothing : List Text → Type 0
AskForNothing words = (faults words ≡ []) × ((r : Request) → NameRequest words r → ⊥)

-- this is what the words ask for, or why they ask for nothing, but for want of memory
abbrev pub AskFor : List Text → Result Request Unasked → Type 0
AskFor words (Ok r) = (faults words ≡ []) × NameRequest words r
AskFor words (Err (Help text)) = AskForHelp words
AskFor words (Err (Refused text)) = AreRefused words ⊎ AskForNothing words
AskFor words (Err Memory) = ⊤

-- what is told of words that can't be read, with its line feed
abbrev pub unread_line : Text
unread_line = codes "error: a word of the command line isn't UTF-8" ++ 10 ∷ []

-- the words can't be read, of which this line is told, but for want of memory
abbrev pub IsUnreadWords : Unasked → Type 0
IsUnreadWords (Help text) = ⊥
IsUnreadWords (Refused text) = string_bytes text ≡ unread_line
IsUnreadWords Memory = ⊤

-- reading the words failed so, and this is told
abbrev pub IsUnread : IoErrorKind → Unasked → Type 0
IsUnread kind u = IsUnreadWords u × (kind ≡ io.OutOfMemory → u ≡ Memory)
