-- What private functions say of words and of values so far, in the forms that they have.
use Rattle.std.specs.Prelude.{◌≡◌, ◌<◌, ℕ, List, [], length, slice_get, slice_index_or, slice_set}
use Rattle.std.specs.Prelude.{Option, None, Some, IsSome, if◌then◌else◌}
use Rattle.std.specs.Option.{is_some}
use Rattle.std.specs.Borrow.{Bor}
use Rattle.id_value.specs.declared.Constant.{Constant}
use Rattle.id_source.specs.declared.inputs.InputError.{InputError}
use Rattle.id_source.specs.declared.inputs.InputError.TheVariants.{MissingInput, UnknownInput, RepeatedInput}
use Rattle.id_source.specs.declared.inputs.InputError.TheVariants.{BadInput, Memory}
use Rattle.id_source.specs.declared.inputs.Wanted.{Wanted}
use Rattle.id_source.specs.Inputs.{Cut, Said, Nothing, Says, first_cause, option_bad, value_for}

-- the cut, where it is given as two texts or as nothing
abbrev pub cut_so : Option (Bor (List ℕ) × Bor (List ℕ)) → Option Cut
cut_so None = None
cut_so (Some x) = Some (record { name = x.0.now; value = x.1.now })

-- what is said, where it is given as a parameter's number, with a value or without, or as nothing
abbrev pub said_so : Option (ℕ × Option Constant) → Said
said_so None = Nothing
said_so (Some x) = Says x.0 x.1

-- why the word of number j is refused that says so, where the parameters have these values so far
abbrev pub cause_so : List (Option Constant) → ℕ → Option (ℕ × Option Constant) → Option InputError
cause_so vs j None = Some (UnknownInput j)
cause_so vs j (Some x) = if is_some (slice_index_or vs x.0 None) then Some (RepeatedInput j) else option_bad j x.1

-- the values so far, with what is said
abbrev pub values_so : List (Option Constant) → Option (ℕ × Option Constant) → List (Option Constant)
values_so vs None = vs
values_so vs (Some x) = slice_set vs x.0 x.1

-- the cause is that the value of this number is the first to lack, or want of memory
abbrev pub IsFirstLack : List (Option Constant) → InputError → Type 0
IsFirstLack vs (MissingInput n) = (slice_get vs n ≡ Some None)
    × ((m : ℕ) → m < n → IsSome (slice_index_or vs m None))
IsFirstLack vs (UnknownInput j) = ⊥
IsFirstLack vs (RepeatedInput j) = ⊥
IsFirstLack vs (BadInput j) = ⊥
IsFirstLack vs Memory = Unit {0}

-- the words say these values of the parameters, and none is refused
pub record AreSaid (ps : List Wanted) (ws : List (List ℕ)) (vs : List (Option Constant)) : Type 0 where
  pub taken : first_cause ps [] 0 ws ≡ None
  pub enough : length vs ≡ length ps
  pub values : (n : ℕ) → n < length vs → slice_index_or vs n None ≡ value_for ps ws n

-- the words give the parameters these values, and none is refused
pub record AreGiven (ps : List Wanted) (ws : List (List ℕ)) (vs : List Constant) : Type 0 where
  pub taken : first_cause ps [] 0 ws ≡ None
  pub enough : length vs ≡ length ps
  pub values : (n : ℕ) → n < length vs → slice_get vs n ≡ value_for ps ws n
