-- How refusals are printed, and why a command refuses (docs/PROMISES.md, "Refusals").
use Rattle.std.specs.Prelude.{◌≡◌, ◌<◌, ◌≤◌, ℕ, List, [], ◌++◌, codes, decimal, length, slice_get}
use Rattle.std.specs.Prelude.{Option, None, Some}
use Rattle.std.specs.Prelude.{Result}
use Rattle.id_text.specs.declared.token.TextError.{TextError}
use Rattle.id_text.specs.declared.token.TextError.TheVariants as lexer
use Rattle.id_value.specs.declared.Kind.{Kind}
use Rattle.id_value.specs.declared.Kind.TheVariants.{Int, Bool, Array, Nested}
use Rattle.id_grammar.specs.declared.tree.TreeError.{TreeError}
use Rattle.id_grammar.specs.declared.tree.TreeError.TheVariants as parser
use Rattle.id_check.specs.declared.checked.Checked.{Checked}
use Rattle.id_check.specs.declared.cause.CheckCause.{CheckCause}
use Rattle.id_check.specs.declared.cause.CheckCause.TheVariants as checker
use Rattle.id_source.specs.declared.inputs.InputError.TheVariants as input
use Rattle.id_source.specs.Sources.{source}
use Rattle.id_source.specs.Inputs.{AreRefusedInputs}
use Rattle.id_source.specs.declared.Fact.{Fact}
use Rattle.id_source.specs.Computed.{AreFacts, HasMoreFacts}
use Rattle.id_build.specs.Rows.{size}
use Rattle.id_sink.specs.declared.sink.PrintError.{PrintError}
use Rattle.id_sink.specs.Told.{SinkView, Prints}
use Rattle.id_sink.specs.Texts.{place_text}
use Rattle.id_compile.specs.declared.compiled.CompileError.{CompileError}
use Rattle.id_compile.specs.declared.compiled.CompileError.TheVariants as compiler
use Rattle.id_compile.specs.declared.error.EngineError.{EngineError}
use Rattle.id_compile.specs.declared.error.EngineError.TheVariants as engine
use Rattle.id_sink.specs.declared.source.SourceFault.{SourceFault}
use Rattle.id_sink.specs.declared.source.SourceFault.TheVariants as fault
use Rattle.id_compile.specs.declared.refusal.Detail.{Detail}
use Rattle.id_compile.specs.declared.refusal.Detail.TheVariants.{Nothing, Place, Kinds, Word}
use Rattle.id_compile.specs.declared.refusal.Refusal.{Refusal}
use Rattle.id_compile.specs.declared.refusal.Cause.{Cause}
use Rattle.id_compile.specs.declared.refusal.Cause.TheVariants.{TooLong, BadByte, NumberTooLarge, File, Unexpected}
use Rattle.id_compile.specs.declared.refusal.Cause.TheVariants.{TooDeep, NoMain, MainKind, Duplicate, Unknown}
use Rattle.id_compile.specs.declared.refusal.Cause.TheVariants.{WrongCount, WrongKind, TooManyParams, TooLarge}
use Rattle.id_compile.specs.declared.refusal.Cause.TheVariants.{MissingInput, UnknownInput, RepeatedInput, BadInput}
use Rattle.id_compile.specs.declared.refusal.Cause.TheVariants.{BadElements, BadSteps, BadRounds, TooManyFacts}
use Rattle.id_compile.specs.declared.refusal.Cause.TheVariants.{Memory, Write}
use Rattle.id_compile.specs.Programs.{IsProgramOf, HasInputs, IsNameOfParam, IsRefusedBy}

-- the number of a cause, where it has one, its name, and the status of the program after it
abbrev pub row_of : Cause → Option ℕ × List ℕ × ℕ
row_of TooLong = (Some 1, codes "TooLong", 2)
row_of BadByte = (Some 2, codes "BadByte", 2)
row_of NumberTooLarge = (Some 3, codes "NumberTooLarge", 2)
row_of File = (Some 4, codes "File", 5)
row_of Unexpected = (Some 5, codes "Unexpected", 2)
row_of TooDeep = (Some 6, codes "TooDeep", 2)
row_of NoMain = (Some 7, codes "NoMain", 2)
row_of MainKind = (Some 8, codes "MainKind", 2)
row_of Duplicate = (Some 9, codes "Duplicate", 2)
row_of Unknown = (Some 10, codes "Unknown", 2)
row_of WrongCount = (Some 11, codes "WrongCount", 2)
row_of WrongKind = (Some 12, codes "WrongKind", 2)
row_of TooManyParams = (Some 13, codes "TooManyParams", 2)
row_of TooLarge = (Some 14, codes "TooLarge", 2)
row_of MissingInput = (Some 15, codes "MissingInput", 2)
row_of UnknownInput = (Some 16, codes "UnknownInput", 2)
row_of RepeatedInput = (Some 17, codes "RepeatedInput", 2)
row_of BadInput = (Some 18, codes "BadInput", 2)
row_of BadElements = (Some 19, codes "BadElements", 4)
row_of BadSteps = (Some 20, codes "BadSteps", 4)
row_of BadRounds = (Some 24, codes "BadRounds", 4)
row_of TooManyFacts = (Some 25, codes "TooManyFacts", 3)
row_of Memory = (None, codes "Memory", 5)
row_of Write = (None, codes "Write", 5)

-- the refusal that tells its cause alone
abbrev pub plain : Cause → Refusal
plain c = record { cause = c; detail = Nothing }

-- the refusal that tells a place, too
abbrev pub placed : Cause → ℕ → Refusal
placed c at = record { cause = c; detail = Place at }

-- the refusal for an error of the tokens
abbrev pub lexer_refusal : TextError → Refusal
lexer_refusal lexer.TooLong = plain TooLong
lexer_refusal (lexer.BadByte at) = placed BadByte at
lexer_refusal (lexer.NumberTooLarge at) = placed NumberTooLarge at
lexer_refusal lexer.Memory = plain Memory

-- the refusal for an error of the tree
abbrev pub parser_refusal : TreeError → Refusal
parser_refusal (parser.Unexpected at) = placed Unexpected at
parser_refusal (parser.TooDeep at) = placed TooDeep at
parser_refusal parser.Memory = plain Memory

-- the refusal for a cause that the check names
abbrev pub checker_refusal : CheckCause → Refusal
checker_refusal checker.NoMain = plain NoMain
checker_refusal (checker.MainKind at) = placed MainKind at
checker_refusal (checker.Duplicate at first) = placed Duplicate at
checker_refusal (checker.Unknown at) = placed Unknown at
checker_refusal (checker.WrongCount at) = placed WrongCount at
checker_refusal (checker.WrongKind at wanted found) = record { cause = WrongKind; detail = Kinds at wanted found }
checker_refusal (checker.TooManyParams at) = placed TooManyParams at
checker_refusal checker.Memory = plain Memory

-- the refusal for why a text has no graph
abbrev pub compiler_refusal : CompileError → Refusal
compiler_refusal (compiler.Text e) = lexer_refusal e
compiler_refusal (compiler.Tree e) = parser_refusal e
compiler_refusal (compiler.Check c) = checker_refusal c
compiler_refusal compiler.TooLarge = plain TooLarge
compiler_refusal compiler.Memory = plain Memory

-- the cause for which a file has no text
abbrev pub source_cause : SourceFault → Cause
source_cause fault.TooLong = TooLong
source_cause fault.File = File
source_cause fault.Memory = Memory

-- the detail is this word, or nothing where there is none
abbrev pub IsWord : Option (List ℕ) → Detail → Type 0
IsWord o Nothing = o ≡ None
IsWord o (Place at) = ⊥
IsWord o (Kinds at wanted found) = ⊥
IsWord o (Word w) = o ≡ Some w.now

-- the refusal tells of an error of a command on these input words
abbrev pub Tells : List (List ℕ) → EngineError → Refusal → Type 0
Tells ws (engine.Compile e) r = r ≡ compiler_refusal e
Tells ws (engine.MissingInput param) r = (r.cause ≡ MissingInput) × IsWord (Some param) r.detail
Tells ws (engine.UnknownInput word) r = (r.cause ≡ UnknownInput) × IsWord (slice_get ws word) r.detail
Tells ws (engine.RepeatedInput word) r = (r.cause ≡ RepeatedInput) × IsWord (slice_get ws word) r.detail
Tells ws (engine.BadInput word) r = (r.cause ≡ BadInput) × IsWord (slice_get ws word) r.detail
Tells ws engine.BadElements r = r ≡ plain BadElements
Tells ws engine.BadSteps r = r ≡ plain BadSteps
Tells ws engine.BadRounds r = r ≡ plain BadRounds
Tells ws engine.TooManyFacts r = r ≡ plain TooManyFacts
Tells ws engine.Memory r = r ≡ plain Memory
Tells ws engine.Write r = r ≡ plain Write

-- the place lies in the text, which is no longer than a text may be
pub record IsInside (text : List ℕ) (at : ℕ) : Type 0 where
  pub inside : at ≤ length text
  pub short : length text ≤ 1048576

-- the place that is told, if one is, lies in the text
abbrev pub IsDetailInside : List ℕ → Detail → Type 0
IsDetailInside text Nothing = Unit {0}
IsDetailInside text (Place at) = IsInside text at
IsDetailInside text (Kinds at wanted found) = IsInside text at
IsDetailInside text (Word w) = Unit {0}

-- the place of a text's refusal, where it has one, lies in the text
abbrev pub IsCauseInside : List ℕ → CompileError → Type 0
IsCauseInside text e = IsDetailInside text (compiler_refusal e).detail

-- the same of a command's refusal
abbrev pub IsInsideOf : List ℕ → EngineError → Type 0
IsInsideOf text (engine.Compile e) = IsCauseInside text e
IsInsideOf text _ = Unit {0}

-- a number, with a blank before it
abbrev pub number_text : Option ℕ → List ℕ
number_text None = []
number_text (Some n) = codes " " ++ decimal n

-- a cause: its number and its name
abbrev pub cause_text : Cause → List ℕ
cause_text c = number_text (row_of c).0 ++ (codes " " ++ (row_of c).1)

-- a place of the text, with a word before it
abbrev pub at_text : List ℕ → ℕ → List ℕ
at_text text at = codes " at " ++ place_text text at

-- the name of a kind
abbrev pub kind_text : Kind → List ℕ
kind_text Int = codes "int"
kind_text Bool = codes "bool"
kind_text Array = codes "array"
kind_text Nested = codes "array array"

-- the kind that is wanted and the one that is found
abbrev pub kinds_text : Kind → Kind → List ℕ
kinds_text wanted found = codes " wanted " ++ (kind_text wanted ++ (codes " found " ++ kind_text found))

-- what is told beside the cause
abbrev pub detail_text : List ℕ → Detail → List ℕ
detail_text text Nothing = []
detail_text text (Place at) = at_text text at
detail_text text (Kinds at wanted found) = at_text text at ++ kinds_text wanted found
detail_text text (Word w) = codes " " ++ w.now

-- the line of a refusal on a text
abbrev pub refusal_text : List ℕ → Refusal → List ℕ
refusal_text text r = codes "refused" ++ (cause_text r.cause ++ (detail_text text r.detail ++ codes "\n"))

-- the first parameter of the program without an input has this name
pub record IsMissing (P : Checked) (words : List (List ℕ)) (name : List ℕ) : Type 0 where
  pub number : ℕ
  pub refused : AreRefusedInputs P words (input.MissingInput number)
  pub is_name : IsNameOfParam P number name

-- the words are refused as inputs of the program: one of them, or then for a parameter without one, or for want of
-- memory
abbrev pub AreRefusedFor : Checked → List (List ℕ) → EngineError → Type 0
AreRefusedFor P ws (engine.UnknownInput j) = AreRefusedInputs P ws (input.UnknownInput j)
AreRefusedFor P ws (engine.RepeatedInput j) = AreRefusedInputs P ws (input.RepeatedInput j)
AreRefusedFor P ws (engine.BadInput j) = AreRefusedInputs P ws (input.BadInput j)
AreRefusedFor P ws (engine.MissingInput name) = IsMissing P ws name
AreRefusedFor P ws engine.Memory = Unit {0}
AreRefusedFor P ws _ = ⊥

-- a text of which a graph can be built is refused with these words as inputs
pub record AreRefusedWords (text : List ℕ) (words : List (List ℕ)) (e : EngineError) : Type 0 where
  pub program : Checked
  pub is_program : IsProgramOf text program
  pub small : size program ≤ 1000000
  pub refused : AreRefusedFor program words e

-- why a text with these words as inputs is refused
pub data IsRefusedSource (text : List ℕ) (words : List (List ℕ)) : EngineError → Type 0 where
  by_text : (e : CompileError) → IsRefusedBy text e → IsRefusedSource text words (engine.Compile e)
  by_words : {e : EngineError} → AreRefusedWords text words e → IsRefusedSource text words e
  by_memory : IsRefusedSource text words engine.Memory

-- why a run of a text on these input words, on so many elements with so many steps for each, is refused
pub data IsRefusedRun (text : List ℕ) (words : List (List ℕ)) (count steps : ℕ) : EngineError → Type 0 where
  by_source : {e : EngineError} → IsRefusedSource text words e → IsRefusedRun text words count steps e
  no_elements : HasInputs text words → count ≡ 0 → IsRefusedRun text words count steps engine.BadElements
  too_many_elements : HasInputs text words → 64 < count → IsRefusedRun text words count steps engine.BadElements
  -- the number of elements is looked at before that of steps
  no_steps : HasInputs text words → 0 < count → count ≤ 64 → steps ≡ 0
      → IsRefusedRun text words count steps engine.BadSteps
  too_many_steps : HasInputs text words → 0 < count → count ≤ 64 → 100000000 < steps
      → IsRefusedRun text words count steps engine.BadSteps
  by_write : IsRefusedRun text words count steps engine.Write

-- a run is taken: the words give inputs, and the numbers of elements and of steps are allowed
pub record IsTakenRun (text : List ℕ) (words : List (List ℕ)) (count steps : ℕ) : Type 0 where
  pub inputs : HasInputs text words
  pub some_elements : 0 < count
  pub few_elements : count ≤ 64
  pub some : 0 < steps
  pub few : steps ≤ 100000000

-- the facts of a round are taken: the words give inputs, and the round and the number of its facts are allowed
pub record AreTakenFacts (text : List ℕ) (words : List (List ℕ)) (round : ℕ) : Type 0 where
  pub inputs : HasInputs text words
  pub few_rounds : round ≤ 10000
  pub facts : List Fact
  pub are : AreFacts (source inputs.program inputs.inputs) round facts
  pub few : length facts ≤ 1000000

-- why the facts of a round of a text on these input words are refused
pub data AreRefusedFacts (text : List ℕ) (words : List (List ℕ)) (round : ℕ) : EngineError → Type 0 where
  by_source : {e : EngineError} → IsRefusedSource text words e → AreRefusedFacts text words round e
  bad_rounds : HasInputs text words → 10000 < round → AreRefusedFacts text words round engine.BadRounds
  too_many_facts : (h : HasInputs text words) → round ≤ 10000 →
      HasMoreFacts (source h.program h.inputs) round 1000000 →
      AreRefusedFacts text words round engine.TooManyFacts
  by_write : AreRefusedFacts text words round engine.Write

-- why a text's graph is refused
pub data IsRefusedText (text : List ℕ) : EngineError → Type 0 where
  by_text : (e : CompileError) → IsRefusedBy text e → IsRefusedText text (engine.Compile e)
  by_memory : IsRefusedText text engine.Memory
  by_write : IsRefusedText text engine.Write

-- the line of the refusal is printed, whole or up to a failed write
pub record IsPrintedLine (text : List ℕ) (r : Refusal) (old new : SinkView) : Type 0 where
  pub written : Result (Unit {0}) PrintError
  pub printed : Prints old new (refusal_text text r) written

-- the line of a refusal for the error is printed, and this is the status after it
pub record IsToldRefusal (text : List ℕ) (words : List (List ℕ)) (e : EngineError) (old new : SinkView)
    (status : ℕ) : Type 0 where
  pub refusal : Refusal
  pub tells : Tells words e refusal
  pub printed : IsPrintedLine text refusal old new
  pub status_is : status ≡ (row_of refusal.cause).2
