-- Which inputs words give, and which words are refused (docs/LANGUAGE.md, "Inputs").
use Rattle.std.specs.Prelude.{◌≡◌, ◌<◌, ℕ, suc, ◌&&◌, ◌||◌, ◌==◌, ℤ, pos, neg_ℤ}
use Rattle.std.specs.Prelude.{Bool as Truth, true, false}
use Rattle.std.specs.Prelude.{List, [], ◌∷◌, ◌++◌, length, map, get_or, slice_get, codes}
use Rattle.std.specs.Prelude.{Option, None, Some, IsSome, option_map, option_and_then, if◌then◌else◌}
use Rattle.std.specs.Option.{option_or}
use Rattle.std.specs.Char.{is_ascii_digit}
use Rattle.id_text.specs.Bytes.{number_of as spelled_by}
use Rattle.std.specs.Str.{bytes_eq}
use Rattle.id_value.specs.declared.Kind.{Kind}
use Rattle.id_value.specs.declared.Kind.TheVariants as kind
use Rattle.id_value.specs.Results.{is_whole}
use Rattle.id_table.specs.declared.row.Node.{Node}
use Rattle.id_table.specs.declared.row.Node.TheVariants.{Param}
use Rattle.id_table.specs.Rows.{at}
use Rattle.id_check.specs.declared.checked.Checked.{Checked}
use Rattle.id_check.specs.Programs.{rows}
use Rattle.id_value.specs.declared.Constant.{Constant}
use Rattle.id_value.specs.declared.Constant.TheVariants.{Int, Bool}
use Rattle.id_source.specs.declared.inputs.InputError.{InputError}
use Rattle.id_source.specs.declared.inputs.InputError.TheVariants.{MissingInput, UnknownInput, RepeatedInput}
use Rattle.id_source.specs.declared.inputs.InputError.TheVariants.{BadInput, Memory}
use Rattle.id_source.specs.declared.inputs.Wanted.{Wanted}
use Rattle.id_source.specs.Sources.{main_params}

-- the name and kind of the parameter at a row of this node
abbrev pub wanted_of : Checked → Node → Wanted
wanted_of P (Param x k) = record { name = get_or P.table.names.items x []; kind = k }
wanted_of P _ = record { name = []; kind = kind.Int }

-- the names and kinds of main's parameters, in order
abbrev pub wanted : Checked → List Wanted
wanted P = map (λ b. wanted_of P (at (rows P) b).node) (main_params P)

-- the two parts of a word that is cut at its first `=`
pub record Cut : Type 0 where
  pub name : List ℕ
  pub value : List ℕ

-- the cut of a word that begins with one byte more
abbrev pub begun : ℕ → Cut → Cut
begun c w = record { name = c ∷ w.name; value = w.value }

-- the word, cut at its first `=`, if it has one
abbrev pub cut : List ℕ → Option Cut
cut [] = None
cut (c ∷ cs) = if c == 61 then Some (record { name = []; value = cs }) else option_map (begun c) (cut cs)

-- the number of the first parameter with a name
abbrev pub number_of : List Wanted → List ℕ → Option ℕ
number_of [] x = None
number_of (p ∷ ps) x = if bytes_eq p.name x then Some 0 else option_map (λ n. suc n) (number_of ps x)

-- whether there are bytes, and all are digits
abbrev pub are_digits : List ℕ → Truth
are_digits [] = false
are_digits (c ∷ []) = is_ascii_digit c
are_digits (c ∷ d ∷ ds) = is_ascii_digit c && are_digits (d ∷ ds)

-- the number that digits spell, if they are digits
abbrev pub digits_number : List ℕ → Option ℕ
digits_number cs = if are_digits cs then Some (spelled_by cs) else None

-- the number that a word spells: digits, or `-` and digits
abbrev pub number_spelled : List ℕ → Option ℤ
number_spelled [] = None
number_spelled (c ∷ cs) =
    if c == 45 then option_map (λ n. neg_ℤ (pos n)) (digits_number cs)
    else option_map (λ n. pos n) (digits_number (c ∷ cs))

-- a number as a value, if it is one of the language
abbrev pub whole_value : ℤ → Option Constant
whole_value n = if is_whole n then Some (Int n) else None

-- the truth value that a word spells
abbrev pub truth_spelled : List ℕ → Option Constant
truth_spelled cs =
    if bytes_eq cs (codes "true") then Some (Bool true)
    else (if bytes_eq cs (codes "false") then Some (Bool false) else None)

-- the value of a kind that a word spells
abbrev pub value_spelled : Kind → List ℕ → Option Constant
value_spelled kind.Int cs = option_and_then whole_value (number_spelled cs)
value_spelled kind.Bool cs = truth_spelled cs
value_spelled kind.Array cs = None
value_spelled kind.Nested cs = None

-- what a word says: it names no parameter; or it names the parameter of this number, with a value of its kind or
-- without
pub data Said : Type 0 where
  Nothing : Said
  Says : ℕ → Option Constant → Said

-- what a word says of the parameter of this number, if it names one
abbrev pub said_of : List Wanted → List ℕ → Option ℕ → Said
said_of ps value None = Nothing
said_of ps value (Some n) = Says n (option_and_then (λ p. value_spelled p.kind value) (slice_get ps n))

-- what a word says that is cut so
abbrev pub said_by : List Wanted → Option Cut → Said
said_by ps None = Nothing
said_by ps (Some w) = said_of ps w.value (number_of ps w.name)

-- what a word says of these parameters
abbrev pub said : List Wanted → List ℕ → Said
said ps w = said_by ps (cut w)

-- the parameter that is named
abbrev pub named_by : Said → List ℕ
named_by Nothing = []
named_by (Says n v) = n ∷ []

-- whether the number is one of these
abbrev pub has : ℕ → List ℕ → Truth
has n [] = false
has n (m ∷ ms) = (m == n) || has n ms

-- the cause of a word of number j without a value
abbrev pub option_bad : ℕ → Option Constant → Option InputError
option_bad j None = Some (BadInput j)
option_bad j (Some v) = None

-- why the word of number j is refused, where these parameters were named before it
abbrev pub word_cause : List ℕ → ℕ → Said → Option InputError
word_cause seen j Nothing = Some (UnknownInput j)
word_cause seen j (Says n v) = if has n seen then Some (RepeatedInput j) else option_bad j v

-- the first cause to refuse a word, from the one of number j on, where these parameters were named before
abbrev pub first_cause : List Wanted → List ℕ → ℕ → List (List ℕ) → Option InputError
first_cause ps seen j [] = None
first_cause ps seen j (w ∷ ws) =
    option_or (word_cause seen j (said ps w)) (first_cause ps (named_by (said ps w) ++ seen) (suc j) ws)

-- the value that is said of the parameter of this number
abbrev pub value_in : ℕ → Said → Option Constant
value_in n Nothing = None
value_in n (Says m v) = if m == n then v else None

-- the value that the words give the parameter of this number
abbrev pub value_for : List Wanted → List (List ℕ) → ℕ → Option Constant
value_for ps [] n = None
value_for ps (w ∷ ws) n = option_or (value_in n (said ps w)) (value_for ps ws n)

-- the words give the parameters of `main` these values, and none is refused
pub record AreInputsOf (P : Checked) (ws : List (List ℕ)) (vs : List Constant) : Type 0 where
  pub all_taken : first_cause (wanted P) [] 0 ws ≡ None
  pub enough : length vs ≡ length (wanted P)
  pub values : (n : ℕ) → n < length vs → slice_get vs n ≡ value_for (wanted P) ws n

-- the parameter of this number is the first that no word gives a value
pub record IsFirstMissing (ps : List Wanted) (ws : List (List ℕ)) (n : ℕ) : Type 0 where
  pub param : n < length ps
  pub missing : value_for ps ws n ≡ None
  pub before : (m : ℕ) → m < n → IsSome (value_for ps ws m)

-- the cause is the first to refuse the words as inputs for these parameters: from left to right, and then the first
-- parameter without an input
abbrev pub IsCauseOf : List Wanted → List (List ℕ) → InputError → Type 0
IsCauseOf ps ws (MissingInput n) = (first_cause ps [] 0 ws ≡ None) × IsFirstMissing ps ws n
IsCauseOf ps ws (UnknownInput j) = first_cause ps [] 0 ws ≡ Some (UnknownInput j)
IsCauseOf ps ws (RepeatedInput j) = first_cause ps [] 0 ws ≡ Some (RepeatedInput j)
IsCauseOf ps ws (BadInput j) = first_cause ps [] 0 ws ≡ Some (BadInput j)
IsCauseOf ps ws Memory = Unit {0}

-- the words are refused for this cause, as inputs of the program
abbrev pub AreRefusedInputs : Checked → List (List ℕ) → InputError → Type 0
AreRefusedInputs P ws e = IsCauseOf (wanted P) ws e
