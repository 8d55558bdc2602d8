-- Facts that rows are On and Have values, and those that follow from none.
use Rattle.std.specs.Prelude.{ℕ, suc}
use Rattle.std.specs.Prelude.{List, [], ◌∷◌, ◌++◌, slice_get, Option, None, Some}
use Rattle.id_value.specs.declared.Constant.{Constant}
use Rattle.id_value.specs.declared.Constant.TheVariants as constant
use Rattle.id_check.specs.declared.checked.Checked.{Checked}
use Rattle.id_facts.specs.declared.facts.RowFact.{RowFact}
use Rattle.id_facts.specs.declared.facts.RowFact.TheVariants.{On, Has}
use Rattle.id_facts.specs.declared.facts.RowValue.{RowValue}
use Rattle.id_facts.specs.declared.facts.RowValue.TheVariants.{Int, Bool}
use Rattle.id_facts.specs.declared.facts.Trail.{Trail}
use Rattle.id_facts.specs.declared.facts.Trail.TheVariants.{Outermost}
use Rattle.id_source.specs.Sources.{main_body, main_params}

-- the value of a row that a constant is
abbrev pub row_value : Constant → RowValue
row_value (constant.Int n) = Int n
row_value (constant.Bool b) = Bool b

-- the facts that these rows are On at the path
abbrev pub ons : Trail → List ℕ → List RowFact
ons p [] = []
ons p (n ∷ ns) = On p n ∷ ons p ns

-- the facts that the row Has these values at the path
abbrev pub haves : Trail → ℕ → List RowValue → List RowFact
haves p n [] = []
haves p n (v ∷ vs) = Has p n v ∷ haves p n vs

-- the fact that the parameter at the row Has its input, if there is one
abbrev pub input_fact : ℕ → Option Constant → List RowFact
input_fact b None = []
input_fact b (Some k) = Has Outermost b (row_value k) ∷ []

-- the facts that the parameters at these rows Have, one by one, the inputs from number n on, as far as there are any
abbrev pub input_facts : ℕ → List ℕ → List Constant → List RowFact
input_facts n [] ks = []
input_facts n (b ∷ bs) ks = input_fact b (slice_get ks n) ++ input_facts (suc n) bs ks

-- the facts that follow from none
abbrev pub first_facts : Checked → List Constant → List RowFact
first_facts P ks = On Outermost (main_body P) ∷ input_facts 0 (main_params P) ks
