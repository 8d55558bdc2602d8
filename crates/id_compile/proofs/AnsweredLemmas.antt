-- What is said of one answer of a call, said in other words.
use Rattle.std.proofs.Common.{◌≡◌, ◌≢◌, ◌∙◌, ℕ, List, Result, Ok, Err, IsErr, subst, sym}
use Rattle.std.specs.Prelude.{IfOk, IfErr, IsErrAnd, OnOk}
use Rattle.id_check.specs.declared.checked.Checked.{Checked}
use Rattle.id_compile.specs.declared.compiled.CompileError.{CompileError}
use Rattle.id_compile.specs.declared.compiled.CompileError.TheVariants as compiler
use Rattle.id_compile.specs.declared.error.EngineError.{EngineError}
use Rattle.id_compile.specs.declared.error.EngineError.TheVariants.{Compile, MissingInput, UnknownInput, RepeatedInput}
use Rattle.id_compile.specs.declared.error.EngineError.TheVariants.{BadInput, BadElements, BadSteps, BadRounds}
use Rattle.id_compile.specs.declared.error.EngineError.TheVariants.{TooManyFacts, Memory, Write}
use Rattle.id_compile.specs.Programs.{IsProgramOf, IsRefusedBy, by_memory, too_large}
use Rattle.id_compile.specs.Refusals.{AreRefusedFor, IsCauseInside, IsInsideOf}
use Rattle.id_compile.specs.Programs.{IsRefusedGraph}

module _ {A E : Type 0} where
  pub on_ok : (r : Result A E) (P : Type 0) → P → OnOk r P
  on_ok (Ok a) P h = h
  on_ok (Err e) P h = tt

  pub if_ok : (r : Result A E) (P Q : A → Type 0) → ((a : A) → P a → Q a) → IfOk r P → IfOk r Q
  if_ok (Ok a) P Q t h = t a h
  if_ok (Err e) P Q t h = tt

  pub ok_all : (r : Result A E) (P : A → Type 0) → ((a : A) → P a) → IfOk r P
  ok_all (Ok a) P all = all a
  ok_all (Err e) P all = tt

  pub if_err : (r : Result A E) (P Q : E → Type 0) → ((e : E) → P e → Q e) → IfErr r P → IfErr r Q
  if_err (Ok a) P Q t h = tt
  if_err (Err e) P Q t h = t e h

-- what an error that came of a call says: nothing of a value, and of itself what the call's says
module _ {A E : Type 0} where
  pub err_taken : (r : Result A E) (P : Type 0) → IsErr r → OnOk r P
  err_taken (Ok a) P is = cc
  err_taken (Err e) P is = tt

  pub err_all : (r : Result A E) (P : E → Type 0) → ((e : E) → P e) → IfErr r P
  err_all (Ok a) P all = tt
  err_all (Err e) P all = all e

  pub err_from : (r : Result A E) (P : E → Type 0) (x : E) → IsErrAnd r (λ e. e ≡ x) → P x → IfErr r P
  err_from (Ok a) P x is h = absurd is
  err_from (Err e) P x is h = subst P (sym is) h

  pub err_not : {Z : Type 0} → (r : Result A E) (x y : E) → IsErrAnd r (λ e. e ≡ x) → x ≢ y → r ≡ Err y → Z
  err_not (Ok a) x y is other h = absurd is
  err_not (Err e) x y is other h = let same : e ≡ y = cc in absurd (other (sym is ∙ same))

-- ---- a program without graph

pub refused_graph : (text : List ℕ) (P : Checked) (e : CompileError) → IsProgramOf text P → IsRefusedGraph P e
    → IsRefusedBy text e
refused_graph text P (compiler.Text e) p h = absurd cc
refused_graph text P (compiler.Tree e) p h = absurd cc
refused_graph text P (compiler.Check c) p h = absurd cc
refused_graph text P compiler.TooLarge p h = too_large P p h
refused_graph text P compiler.Memory p h = by_memory

-- and a graph that is refused has no place
pub graph_inside : (text : List ℕ) (P : Checked) (e : CompileError) → IsRefusedGraph P e → IsCauseInside text e
graph_inside text P (compiler.Text e) h = absurd cc
graph_inside text P (compiler.Tree e) h = absurd cc
graph_inside text P (compiler.Check c) h = absurd cc
graph_inside text P compiler.TooLarge h = tt
graph_inside text P compiler.Memory h = tt

-- ---- want of memory is no error of a place, and none of a write

abbrev pub IsLate : List ℕ → EngineError → Type 0
IsLate text e = IsInsideOf text e × (e ≢ Write)

pub late_memory : (text : List ℕ) (e : EngineError) → e ≡ Memory → IsLate text e
late_memory text (Compile x) h = absurd cc
late_memory text (MissingInput x) h = absurd cc
late_memory text (UnknownInput j) h = absurd cc
late_memory text (RepeatedInput j) h = absurd cc
late_memory text (BadInput j) h = absurd cc
late_memory text BadElements h = absurd cc
late_memory text BadSteps h = absurd cc
late_memory text BadRounds h = absurd cc
late_memory text TooManyFacts h = absurd cc
late_memory text Memory h = let n : Memory ≢ Write = λ k. absurd cc in (tt, n)
late_memory text Write h = absurd cc

-- nor is a refused word
pub late_words : (text : List ℕ) (P : Checked) (ws : List (List ℕ)) (e : EngineError) → AreRefusedFor P ws e
    → IsLate text e
late_words text P ws (Compile x) h = absurd h
late_words text P ws (MissingInput x) h = let n : MissingInput x ≢ Write = λ k. absurd cc in (tt, n)
late_words text P ws (UnknownInput j) h = let n : UnknownInput j ≢ Write = λ k. absurd cc in (tt, n)
late_words text P ws (RepeatedInput j) h = let n : RepeatedInput j ≢ Write = λ k. absurd cc in (tt, n)
late_words text P ws (BadInput j) h = let n : BadInput j ≢ Write = λ k. absurd cc in (tt, n)
late_words text P ws BadElements h = absurd h
late_words text P ws BadSteps h = absurd h
late_words text P ws BadRounds h = absurd h
late_words text P ws TooManyFacts h = absurd h
late_words text P ws Memory h = let n : Memory ≢ Write = λ k. absurd cc in (tt, n)
late_words text P ws Write h = absurd h
