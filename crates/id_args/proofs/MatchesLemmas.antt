-- Lemmas on specs/Matches.antt and specs/Requests.antt.
use Rattle.std.proofs.Common.{◌≡◌, ◌∙◌, ◌<◌, ◌^◌, ◌-◌, ℕ, List, [], Bool, true, false, Option, Some, None, Result, Ok, Err, MatchOption, Decides}
use Rattle.std.proofs.Common.{◌∷◌, arith, cond, ap, ap₂, subst, sym, refl, inl, inr, map, option_map, length, codes}
use Rattle.std.specs.Prelude.{filter, slice_get, unwrap_or}
use Rattle.std.specs.Str.{bytes_eq}
use Rattle.std.specs.Str.Parse.{ParsesBool, ParsesUnsigned}
use Rattle.std.specs.Option.{option_map_or}
use Rattle.std.proofs.lemmas.Option.{slice_get-map}
use Rattle.std.proofs.lemmas.List.{length-map}
use Rattle.std.proofs.lemmas.Slice.Eq.{bytes_eq-Decides}
use Rattle.clap.specs.Walk.{Row, Text, one_of, rows_of}
use Rattle.clap.specs.Matches.{ReadsOne, TriesOne, matched_of, one_text, raw_values}
use Rattle.clap.proofs.WalkLemmas.{one_text-rows, raw_values-rows}
use Rattle.clap.specs.declared.parser.matches.Found.{Found}
use Rattle.clap.specs.Simple.{App, HasMatchesOf, is_simple, subcommand_of, subcommand_rows_of}
use Rattle.clap.specs.Kinds.{HasKind}
use Rattle.clap.specs.Values.{kind_of}
use Rattle.clap.specs.Faults.{fault_of, is_simple_and_free}
use Rattle.clap.specs.declared.error.Error.{Error}
use Rattle.clap.specs.declared.error.kind.ErrorKind.TheVariants as kind
use Rattle.clap.specs.declared.parser.matches.ArgMatches.{ArgMatches}
use Rattle.id_args.specs.declared.request.Unasked.{Unasked}
use Rattle.id_args.specs.declared.request.Unasked.TheVariants.{Help, Refused, Memory}
use Rattle.id_args.specs.Commands.{program_app}
use Rattle.id_args.specs.declared.request.Request.{Request}
use Rattle.id_args.specs.declared.request.Request.TheVariants as asks
use Rattle.id_args.specs.Requests.{AreLogs, AskFor, HasFile, HasNumber, HasOrder, IsNumber, IsRequestOf, input_words, is_set, judge_words, names_log}
use Rattle.id_args.specs.Matches.{Gives, IsNumberOf, Tells}

pub true_false : true ≡ false → ⊥
true_false e = cc

pub none_some : {X : Type 0} {x : X} → None ≡ Some x → ⊥
none_some e = cc

-- what the text of an argument reads as a number is the number that it has
number_read : {E : Type 0} (bits : ℕ) (G : List ℕ → Result ℕ E → Type 0) (x : Option Text) (o : Option ℕ)
    → (x ≡ None → o ≡ None) → ((t : List ℕ) → x ≡ Some t → ReadsOne G t o) → ((t : List ℕ) (r : Result ℕ E) → G t r → ParsesUnsigned bits 10 t r)
    → MatchOption o ((n : ℕ) → ((t : Text) × (x ≡ Some t) × IsNumber bits t n) → ⊥) (λ n. (t : Text) × (x ≡ Some t) × IsNumber bits t n)
number_read bits G None None none some only = λ n has. none_some has.1
number_read bits G None (Some n) none some only = absurd (none_some (sym (none refl)))
number_read bits G (Some t) (Some n) none some only =
    let read = only t (Ok n) (some t refl) in
    (t, refl, (read.0.0, read.1, subst (λ (k : ℕ). k < 2 ^ bits) (sym read.1) read.0.1))
number_read bits G (Some t) None none some only = λ n has.
    let failed = some t refl in
    let same : has.0 ≡ t = ap (λ o. unwrap_or o t) (sym has.1) in
    let number = subst (λ (u : Text). IsNumber bits u n) same has.2 in
    only t (Err failed.0) failed.1 (number.0, subst (λ (k : ℕ). k < 2 ^ bits) number.1 number.2)

pub IsNumberOf-read : {E : Type 0} (bits : ℕ) (G : List ℕ → Result ℕ E → Type 0) (f : Found) (id : Text) (o : Option ℕ)
    → (one_text f id ≡ None → o ≡ None) → ((t : List ℕ) → one_text f id ≡ Some t → ReadsOne G t o)
    → ((t : List ℕ) (r : Result ℕ E) → G t r → ParsesUnsigned bits 10 t r) → IsNumberOf bits id (rows_of f) o
IsNumberOf-read bits G f id o none some only =
    number_read bits G (one_of id (rows_of f)) o (λ e. none (one_text-rows f id ∙ e)) (λ t e. some t (one_text-rows f id ∙ e)) only

abbrev tried : (E : Type 0) → Option ℕ → Result (Option ℕ) E
tried E o = Ok o

abbrev failed_at : (E : Type 0) → E → Result (Option ℕ) E
failed_at E e = Err e

-- and so of the seed
order_tried : {E : Type 0} (G : List ℕ → Result ℕ E → Type 0) (x : Option Text) (o : Option ℕ)
    → (x ≡ None → tried E o ≡ tried E None) → ((t : List ℕ) → x ≡ Some t → TriesOne G t (Ok o)) → ((t : List ℕ) (r : Result ℕ E) → G t r → ParsesUnsigned 64 10 t r)
    → MatchOption o (x ≡ None) (λ n. (t : Text) × (x ≡ Some t) × IsNumber 64 t n)
order_tried G None None none some only = refl
order_tried G None (Some n) none some only = let bad = none refl in cc
order_tried G (Some t) None none some only = absurd (some t refl)
order_tried G (Some t) (Some n) none some only =
    let read = only t (Ok n) (some t refl) in
    (t, refl, (read.0.0, read.1, subst (λ (k : ℕ). k < 2 ^ 64) (sym read.1) read.0.1))

order_has : (rows : List Row) (o : Option ℕ)
    → MatchOption o (one_of (codes "order") rows ≡ None) (λ n. (t : Text) × (one_of (codes "order") rows ≡ Some t) × IsNumber 64 t n) → HasOrder rows o
order_has rows None h = h
order_has rows (Some n) h = h

pub HasOrder-tried : {E : Type 0} (G : List ℕ → Result ℕ E → Type 0) (f : Found) (o : Option ℕ)
    → (one_text f (codes "order") ≡ None → tried E o ≡ tried E None) → ((t : List ℕ) → one_text f (codes "order") ≡ Some t → TriesOne G t (Ok o))
    → ((t : List ℕ) (r : Result ℕ E) → G t r → ParsesUnsigned 64 10 t r) → HasOrder (rows_of f) o
HasOrder-tried G f o none some only =
    order_has (rows_of f) o (order_tried G (one_of (codes "order") (rows_of f)) o (λ e. none (one_text-rows f (codes "order") ∙ e))
    (λ t e. some t (one_text-rows f (codes "order") ∙ e)) only)

-- a seed that is no number is none
pub no_order : {E : Type 0} (G : List ℕ → Result ℕ E → Type 0) (f : Found) (failed : E)
    → (one_text f (codes "order") ≡ None → failed_at E failed ≡ tried E None)
    → ((t : List ℕ) → one_text f (codes "order") ≡ Some t → TriesOne G t (Err failed))
    → ((t : List ℕ) (r : Result ℕ E) → G t r → ParsesUnsigned 64 10 t r) → (o : Option ℕ) → HasOrder (rows_of f) o → ⊥
no_order G f failed none some only None h = let bad = none (one_text-rows f (codes "order") ∙ h) in cc
no_order G f failed none some only (Some n) h =
    only h.0 (Err failed) (some h.0 (one_text-rows f (codes "order") ∙ h.1)) (h.2.0, subst (λ (k : ℕ). k < 2 ^ 64) h.2.1 h.2.2)

-- a flag is what its text says
flag_read : (E : Type 0) (x : Option Text) (o : Option Bool) → (x ≡ None → o ≡ None)
    → ((t : List ℕ) → x ≡ Some t → ReadsOne {E = E} ParsesBool t o) → unwrap_or o false ≡ option_map_or (λ t. bytes_eq t (codes "true")) x false
flag_read E None None none some = refl
flag_read E None (Some b) none some = absurd (none_some (sym (none refl)))
flag_read E (Some t) (Some true) none some = ap (λ u. bytes_eq u (codes "true")) (sym (some t refl))
flag_read E (Some t) (Some false) none some = ap (λ u. bytes_eq u (codes "true")) (sym (some t refl))
flag_read E (Some t) None none some = go (bytes_eq t (codes "true")) (bytes_eq-Decides t (codes "true"))
  where
    go : (b : Bool) → Decides b (t ≡ codes "true") → false ≡ b
    go false decided = refl
    go true decided = absurd ((some t refl).1.0 (decided.0 refl))

pub is_set-read : (E : Type 0) (f : Found) (id : Text) (o : Option Bool) → (one_text f id ≡ None → o ≡ None)
    → ((t : List ℕ) → one_text f id ≡ Some t → ReadsOne {E = E} ParsesBool t o) → unwrap_or o false ≡ is_set id (rows_of f)
is_set-read E f id o none some = flag_read E (one_of id (rows_of f)) o (λ e. none (one_text-rows f id ∙ e)) (λ t e. some t (one_text-rows f id ∙ e))

-- the last of texts
pub last-map : {X : Type 0} (f : X → Text) (xs : List X)
    → option_map f (slice_get xs (length xs - 1)) ≡ slice_get (map f xs) (length (map f xs) - 1)
last-map f xs = sym (slice_get-map f xs (length xs - 1)) ∙ ap (λ n. slice_get (map f xs) (n - 1)) (sym (length-map xs f))

-- names of commands differ
names_differ : (a b : Text) → bytes_eq a b ≡ false → bytes_eq b b ≡ true → a ≡ b → ⊥
names_differ a b apart same e = true_false (sym same ∙ (ap (λ t. bytes_eq t b) (sym e) ∙ apart))

-- a request of another command is none
pub only_six : (name : Text) (rows : List Row) → (name ≡ codes "check" → ⊥) → (name ≡ codes "graph" → ⊥) → (name ≡ codes "run" → ⊥)
    → (name ≡ codes "facts" → ⊥) → (name ≡ codes "why" → ⊥) → (name ≡ codes "judge" → ⊥) → (r : Request) → IsRequestOf name rows r → ⊥
only_six name rows check graph run facts why judge (asks.Check file) h = check h.0
only_six name rows check graph run facts why judge (asks.Graph file) h = graph h.0
only_six name rows check graph run facts why judge (asks.Draw file) h = graph h.0
only_six name rows check graph run facts why judge (asks.Run file inputs count trace steps order names) h = run h.0
only_six name rows check graph run facts why judge (asks.Facts file rounds inputs) h = facts h.0
only_six name rows check graph run facts why judge (asks.Why file rounds inputs) h = why h.0
only_six name rows check graph run facts why judge (asks.Judge file logs inputs count names) h = judge h.0

-- each request has a file
pub no_file : (name : Text) (rows : List Row) → ((file : Text) → HasFile rows file → ⊥) → (r : Request) → IsRequestOf name rows r → ⊥
no_file name rows none (asks.Check file) h = none file.now h.1
no_file name rows none (asks.Graph file) h = none file.now h.1
no_file name rows none (asks.Draw file) h = none file.now h.1
no_file name rows none (asks.Run file inputs count trace steps order names) h = none file.now h.1
no_file name rows none (asks.Facts file rounds inputs) h = none file.now h.1
no_file name rows none (asks.Why file rounds inputs) h = none file.now h.1
no_file name rows none (asks.Judge file logs inputs count names) h = none file.now h.1

-- what a request to run has, else it is none
pub no_run : (rows : List Row) → ((count steps : ℕ) (order : Option ℕ) → HasNumber 32 (codes "elements") rows count → HasNumber 64 (codes "steps") rows steps
    → HasOrder rows order → ⊥) → (r : Request) → IsRequestOf (codes "run") rows r → ⊥
no_run rows none (asks.Check file) h = names_differ (codes "run") (codes "check") refl refl h.0
no_run rows none (asks.Graph file) h = names_differ (codes "run") (codes "graph") refl refl h.0
no_run rows none (asks.Draw file) h = names_differ (codes "run") (codes "graph") refl refl h.0
no_run rows none (asks.Run file inputs count trace steps order names) h = none count steps order h.3 h.5 h.6
no_run rows none (asks.Facts file rounds inputs) h = names_differ (codes "run") (codes "facts") refl refl h.0
no_run rows none (asks.Why file rounds inputs) h = names_differ (codes "run") (codes "why") refl refl h.0
no_run rows none (asks.Judge file logs inputs count names) h = names_differ (codes "run") (codes "judge") refl refl h.0

-- a request for facts has a round
pub no_facts : (rows : List Row) → ((rounds : ℕ) → HasNumber 32 (codes "ROUNDS") rows rounds → ⊥) → (r : Request)
    → IsRequestOf (codes "facts") rows r → ⊥
no_facts rows none (asks.Check file) h = names_differ (codes "facts") (codes "check") refl refl h.0
no_facts rows none (asks.Graph file) h = names_differ (codes "facts") (codes "graph") refl refl h.0
no_facts rows none (asks.Draw file) h = names_differ (codes "facts") (codes "graph") refl refl h.0
no_facts rows none (asks.Run file inputs count trace steps order names) h = names_differ (codes "facts") (codes "run") refl refl h.0
no_facts rows none (asks.Facts file rounds inputs) h = none rounds h.2
no_facts rows none (asks.Why file rounds inputs) h = names_differ (codes "facts") (codes "why") refl refl h.0
no_facts rows none (asks.Judge file logs inputs count names) h = names_differ (codes "facts") (codes "judge") refl refl h.0

-- a request to say why has a round
pub no_why : (rows : List Row) → ((rounds : ℕ) → HasNumber 32 (codes "rounds") rows rounds → ⊥) → (r : Request)
    → IsRequestOf (codes "why") rows r → ⊥
no_why rows none (asks.Check file) h = names_differ (codes "why") (codes "check") refl refl h.0
no_why rows none (asks.Graph file) h = names_differ (codes "why") (codes "graph") refl refl h.0
no_why rows none (asks.Draw file) h = names_differ (codes "why") (codes "graph") refl refl h.0
no_why rows none (asks.Run file inputs count trace steps order names) h = names_differ (codes "why") (codes "run") refl refl h.0
no_why rows none (asks.Facts file rounds inputs) h = names_differ (codes "why") (codes "facts") refl refl h.0
no_why rows none (asks.Why file rounds inputs) h = none rounds h.2
no_why rows none (asks.Judge file logs inputs count names) h = names_differ (codes "why") (codes "judge") refl refl h.0

-- a request to judge has a number of elements, and logs that a judge takes
pub no_judge : (rows : List Row) → ((count : ℕ) (logs : List Text) → HasNumber 32 (codes "elements") rows count
    → logs ≡ filter names_log (judge_words rows) → AreLogs logs → ⊥) → (r : Request)
    → IsRequestOf (codes "judge") rows r → ⊥
no_judge rows none (asks.Check file) h = names_differ (codes "judge") (codes "check") refl refl h.0
no_judge rows none (asks.Graph file) h = names_differ (codes "judge") (codes "graph") refl refl h.0
no_judge rows none (asks.Draw file) h = names_differ (codes "judge") (codes "graph") refl refl h.0
no_judge rows none (asks.Run file inputs count trace steps order names) h = names_differ (codes "judge") (codes "run") refl refl h.0
no_judge rows none (asks.Facts file rounds inputs) h = names_differ (codes "judge") (codes "facts") refl refl h.0
no_judge rows none (asks.Why file rounds inputs) h = names_differ (codes "judge") (codes "why") refl refl h.0
no_judge rows none (asks.Judge file logs inputs count names) h = none count (map (λ w. w.now) logs.items) h.5 h.2 h.3

-- the input words are the values that the getter gives
pub input_words-read : (f : Found) (given : Option (List Text)) → given ≡ option_map raw_values (matched_of f (codes "INPUT"))
    → unwrap_or given [] ≡ input_words (rows_of f)
input_words-read f given e = ap (λ o. unwrap_or o []) (e ∙ raw_values-rows f (codes "INPUT"))

-- the words of `judge` are the values that the getter gives
pub judge_words-read : (f : Found) (given : Option (List Text)) → given ≡ option_map raw_values (matched_of f (codes "WORD"))
    → unwrap_or given [] ≡ judge_words (rows_of f)
judge_words-read f given e = ap (λ o. unwrap_or o []) (e ∙ raw_values-rows f (codes "WORD"))

-- no words name no log that a judge takes
pub no_logs : (rows : List Row) (given : Option (List Text)) → given ≡ None → unwrap_or given [] ≡ judge_words rows → (logs : List Text)
    → logs ≡ filter names_log (judge_words rows) → AreLogs logs → ⊥
no_logs rows given none is logs all are =
    let empty : logs ≡ [] = all ∙ ap (filter names_log) (sym is ∙ ap (λ o. unwrap_or o []) none) in
    omega (arith, are.0, ap length empty)

-- what passes a test of what things give gives what passes it of what they give
map-filter : {X : Type 0} (f : X → Text) (test : Text → Bool) (xs : List X) → map f (filter (λ x. test (f x)) xs) ≡ filter test (map f xs)
map-filter f test [] = refl
map-filter f test (x ∷ xs) = by (test (f x)) (map-filter f test xs)
  where
    by : (b : Bool) → map f (filter (λ x. test (f x)) xs) ≡ filter test (map f xs)
        → map f (cond b (x ∷ filter (λ x. test (f x)) xs) (filter (λ x. test (f x)) xs)) ≡ cond b (f x ∷ filter test (map f xs)) (filter test (map f xs))
    by true h = ap (λ t. f x ∷ t) h
    by false h = h

-- the words of `judge` that pass a test
pub words_that : {X : Type 0} (f : X → Text) (test : Text → Bool) (rows : List Row) (words found : List X)
    → found ≡ filter (λ w. test (f w)) words → map f words ≡ judge_words rows → map f found ≡ filter test (judge_words rows)
words_that f test rows words found is all = ap (map f) is ∙ map-filter f test words ∙ ap (filter test) all

-- the program is a command of which `clap` says what it makes of words
program_is_simple : is_simple program_app ≡ true
program_is_simple = refl

program_is_free : is_simple_and_free program_app ≡ true
program_is_free = refl

-- matches of words, and what they give
pub AskFor-given : (a : App) (given words : List Text) (m : ArgMatches) (r : Result Request Unasked) → a ≡ program_app → given ≡ words
    → HasMatchesOf a given m → (is_simple_and_free a ≡ true → fault_of a given ≡ []) → Gives (subcommand_rows_of m) r → AskFor words r
AskFor-given a given words m r is same matches taken gives =
    go r (subst (λ o. Gives o r) ((matches (ap is_simple is ∙ program_is_simple)).1 ∙ ap₂ subcommand_of is same) gives)
  where
    none : fault_of program_app words ≡ []
    none = sym (ap₂ fault_of is same) ∙ taken (ap is_simple_and_free is ∙ program_is_free)

    go : (x : Result Request Unasked) → Gives (subcommand_of program_app words) x → AskFor words x
    go (Ok request) g = (none, g)
    go (Err (Help text)) g = absurd g
    go (Err (Refused text)) g = inr (none, g)
    go (Err Memory) g = tt

-- an error at words, and what it tells
pub AskFor-told : (a : App) (given words : List Text) (e : Error) (u : Unasked) → a ≡ program_app → given ≡ words
    → (is_simple_and_free a ≡ true → HasKind (fault_of a given) e) → Tells (kind_of e) u → AskFor words (Err u)
AskFor-told a given words e u is same fails tells =
    go u (subst (λ k. HasKind k e) (ap₂ fault_of is same) (fails (ap is_simple_and_free is ∙ program_is_free))) tells
  where
    go : (x : Unasked) → HasKind (fault_of program_app words) e → Tells (kind_of e) x → AskFor words (Err x)
    go (Help text) (inl memory) (inl help) = let bad : kind.DisplayHelp ≡ kind.OutOfMemory = sym help ∙ memory in cc
    go (Help text) (inl memory) (inr version) = let bad : kind.DisplayVersion ≡ kind.OutOfMemory = sym version ∙ memory in cc
    go (Help text) (inr among) shown = (kind_of e, among, shown)
    go (Refused text) (inl memory) told = absurd (told.2 memory)
    go (Refused text) (inr among) told = inl (kind_of e, among, told.0, told.1)
    go Memory kinds told = tt
