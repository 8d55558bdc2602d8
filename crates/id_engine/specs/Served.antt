-- What the program does with a request (docs/PROMISES.md, "The program").
use Rattle.std.specs.Prelude.{◌≡◌, ◌≢◌, ℕ, List, [], map, Option, None, Some, Result, Ok, Err}
use Rattle.std.specs.Prelude.{IfOk, IfErr, string_bytes}
use Rattle.id_sink.specs.declared.sink.PrintError.{PrintError}
use Rattle.id_sink.specs.Told.{SinkView, Prints}
use Rattle.id_args.specs.declared.request.Request.{Request}
use Rattle.id_args.specs.declared.request.Request.TheVariants as asks
use Rattle.id_args.specs.declared.request.Unasked.{Unasked}
use Rattle.id_args.specs.declared.request.Unasked.TheVariants.{Help, Refused, Memory}
use Rattle.id_args.specs.Requests.{AskFor, words_read}
use Rattle.id_compile.specs.declared.error.EngineError.{EngineError}
use Rattle.id_compile.specs.declared.error.EngineError.TheVariants.{Write}
use Rattle.id_compile.specs.declared.refusal.Cause.TheVariants as cause
use Rattle.id_sink.specs.declared.source.SourceFault.{SourceFault}
use Rattle.id_sink.specs.declared.source.SourceFault.TheVariants as fault
use Rattle.id_sink.specs.Reading.{IsToldText, IsUnread}
use Rattle.id_log.specs.declared.log.LogFault.{LogFault}
use Rattle.id_log.specs.declared.log.LogFault.TheVariants as lost
use Rattle.id_log.specs.Logs.{Ahead, Hears, MayBreak}
use Rattle.id_merge.specs.Merging.{logs_ahead}
use Rattle.id_compile.specs.Programs.{HasProgram}
use Rattle.id_engine.specs.Commands.{Command, Check, List_graph, Draw_graph, Facts, Judge, Run, ShowsAll}
use Rattle.id_engine.specs.Commands.{ShowsFront, Why}
use Rattle.id_engine.specs.Reasoned.{AreTakenReasons}
use Rattle.id_engine.specs.Runs.{Ran, RanFront}
use Rattle.id_compile.specs.Refusals.{IsRefusedText, IsRefusedRun, IsTakenRun, AreRefusedFacts, AreTakenFacts}
use Rattle.id_compile.specs.Refusals.{IsToldRefusal, IsPrintedLine, plain, row_of, source_cause}

-- the file of a request
abbrev pub file_of : Request → List ℕ
file_of (asks.Check file) = file.now
file_of (asks.Graph file) = file.now
file_of (asks.Draw file) = file.now
file_of (asks.Run file inputs count trace steps order names) = file.now
file_of (asks.Facts file rounds inputs) = file.now
file_of (asks.Why file rounds inputs) = file.now
file_of (asks.Judge file logs inputs count names) = file.now

-- the logs that a request asks to judge
abbrev pub logs_of : Request → Option (List (List ℕ))
logs_of (asks.Check file) = None
logs_of (asks.Graph file) = None
logs_of (asks.Draw file) = None
logs_of (asks.Run file inputs count trace steps order names) = None
logs_of (asks.Facts file rounds inputs) = None
logs_of (asks.Why file rounds inputs) = None
logs_of (asks.Judge file logs inputs count names) = Some (map (λ w. w.now) logs.items)

-- the words of a request's inputs
abbrev pub words_of : Request → List (List ℕ)
words_of (asks.Check file) = []
words_of (asks.Graph file) = []
words_of (asks.Draw file) = []
words_of (asks.Run file inputs count trace steps order names) = map (λ w. w.now) inputs.items
words_of (asks.Facts file rounds inputs) = map (λ w. w.now) inputs.items
words_of (asks.Why file rounds inputs) = map (λ w. w.now) inputs.items
words_of (asks.Judge file logs inputs count names) = map (λ w. w.now) inputs.items

-- what a request asks for, with the bytes of its trace where it has one
abbrev pub command_of : List ℕ → Request → Command
command_of bytes (asks.Check file) = Check
command_of bytes (asks.Graph file) = List_graph
command_of bytes (asks.Draw file) = Draw_graph
command_of bytes (asks.Run file inputs count trace steps order names) =
    Run names trace (map (λ w. w.now) inputs.items)
command_of bytes (asks.Facts file rounds inputs) = Facts rounds (map (λ w. w.now) inputs.items)
command_of bytes (asks.Why file rounds inputs) = Why rounds (map (λ w. w.now) inputs.items)
command_of bytes (asks.Judge file logs inputs count names) = Judge names (map (λ w. w.now) inputs.items) count bytes

-- a request on a text is taken: the text has a program, the words give inputs, and all numbers are within their limits
abbrev pub IsTaken : List ℕ → Request → Type 0
IsTaken text (asks.Check file) = HasProgram text
IsTaken text (asks.Graph file) = HasProgram text
IsTaken text (asks.Draw file) = HasProgram text
IsTaken text (asks.Run file inputs count trace steps order names) =
    IsTakenRun text (map (λ w. w.now) inputs.items) count steps
IsTaken text (asks.Facts file rounds inputs) = AreTakenFacts text (map (λ w. w.now) inputs.items) rounds
IsTaken text (asks.Why file rounds inputs) = AreTakenReasons text (map (λ w. w.now) inputs.items) rounds
IsTaken text (asks.Judge file logs inputs count names) = IsTakenRun text (map (λ w. w.now) inputs.items) count 1

-- a request to run the text is run
abbrev pub IsRun : List ℕ → Request → SinkView → SinkView → ℕ → Type 0
IsRun text (asks.Check file) out out' status = Unit {0}
IsRun text (asks.Graph file) out out' status = Unit {0}
IsRun text (asks.Draw file) out out' status = Unit {0}
IsRun text (asks.Run file inputs count trace steps order names) out out' status =
    Ran text (map (λ w. w.now) inputs.items) count trace steps order names out out' status
IsRun text (asks.Facts file rounds inputs) out out' status = Unit {0}
IsRun text (asks.Why file rounds inputs) out out' status = Unit {0}
IsRun text (asks.Judge file logs inputs count names) out out' status = Unit {0}

-- and of a run that was cut short by a failed write, a front is out
abbrev pub IsRunFront : List ℕ → Request → SinkView → SinkView → Type 0
IsRunFront text (asks.Check file) out out' = Unit {0}
IsRunFront text (asks.Graph file) out out' = Unit {0}
IsRunFront text (asks.Draw file) out out' = Unit {0}
IsRunFront text (asks.Run file inputs count trace steps order names) out out' =
    RanFront text (map (λ w. w.now) inputs.items) count trace steps order names out out'
IsRunFront text (asks.Facts file rounds inputs) out out' = Unit {0}
IsRunFront text (asks.Why file rounds inputs) out out' = Unit {0}
IsRunFront text (asks.Judge file logs inputs count names) out out' = Unit {0}

-- why a request on a text is refused
abbrev pub IsRefusedRequest : List ℕ → Request → EngineError → Type 0
IsRefusedRequest text (asks.Check file) e = IsRefusedText text e
IsRefusedRequest text (asks.Graph file) e = IsRefusedText text e
IsRefusedRequest text (asks.Draw file) e = IsRefusedText text e
IsRefusedRequest text (asks.Run file inputs count trace steps order names) e =
    IsRefusedRun text (map (λ w. w.now) inputs.items) count steps e
IsRefusedRequest text (asks.Facts file rounds inputs) e = AreRefusedFacts text (map (λ w. w.now) inputs.items) rounds e
-- as its round would be
IsRefusedRequest text (asks.Why file rounds inputs) e = AreRefusedFacts text (map (λ w. w.now) inputs.items) rounds e
-- as a run of one step on as many elements would be
IsRefusedRequest text (asks.Judge file logs inputs count names) e =
    IsRefusedRun text (map (λ w. w.now) inputs.items) count 1 e

-- the request is served: what it asks for is printed whole, or one line says why not
pub data Serves (text bytes : List ℕ) (r : Request) (out out' err err' : SinkView) : ℕ → Type 0 where
  done : {status : ℕ} → ShowsAll (command_of bytes r) text out out' status → IsTaken text r
      → IsRun text r out out' status → err' ≡ err →
      Serves text bytes r out out' err err' status
  -- nothing is printed but the line of the refusal
  refused : {status : ℕ} (e : EngineError) → e ≢ Write → IsRefusedRequest text r e → out' ≡ out
      → IsToldRefusal text (words_of r) e err err' status →
      Serves text bytes r out out' err err' status
  -- a write failed, and a front is out, where a run was asked for that of a run
  cut : {status : ℕ} → ShowsFront (command_of bytes r) text out out' → IsRunFront text r out out'
      → IsToldRefusal text (words_of r) Write err err' status →
      Serves text bytes r out out' err err' status

-- why there is no text where a log can't be read
abbrev pub log_fault : LogFault → SourceFault
log_fault lost.File = fault.File
log_fault lost.Memory = fault.Memory

-- what a request asks for is done with a text and with what a log has ahead, whatever stands behind what was read of
-- it; or the log broke off, and that is refused
pub data DrivesBy (text : List ℕ) (a : Option Ahead) (r : Request) (out out' err err' : SinkView) : ℕ → Type 0 where
  heard : {status : ℕ} → Hears a (λ bytes. Serves text bytes r out out' err err' status) →
      DrivesBy text a r out out' err err' status
  broken : (fault : LogFault) → MayBreak a fault → out' ≡ out
      → IsPrintedLine [] (plain (source_cause (log_fault fault))) err err' →
      DrivesBy text a r out out' err err' (row_of (source_cause (log_fault fault))).2

-- the same of the logs that a request asks to judge, merged; of another request no log is read
abbrev pub DrivesWith : (List ℕ → Option Ahead) → Option (List (List ℕ)) → List ℕ → Request → SinkView → SinkView
    → SinkView → SinkView → ℕ → Type 0
DrivesWith told None text r out out' err err' status = Serves text [] r out out' err err' status
DrivesWith told (Some names) text r out out' err err' status =
    DrivesBy text (logs_ahead told names) r out out' err err' status

-- a request is done with what is told of its files: the text is served, with the logs where it asks to judge some; or
-- the fault of the text is refused
pub data Drives (told : Option (Result (List ℕ) SourceFault)) (told_log : List ℕ → Option Ahead) (r : Request)
    (out out' err err' : SinkView) : ℕ → Type 0 where
  served : {status : ℕ} (text : List ℕ) → IsToldText told text
      → DrivesWith told_log (logs_of r) text r out out' err err' status
      → Drives told told_log r out out' err err' status
  unread : (fault : SourceFault) → IsUnread told fault → out' ≡ out
      → IsPrintedLine [] (plain (source_cause fault)) err err' →
      Drives told told_log r out out' err err' (row_of (source_cause fault)).2

-- help is printed whole, or a write of it failed
pub data HasHelped (text : List ℕ) (out out' err err' : SinkView) : ℕ → Type 0 where
  whole : Prints out out' text (Ok tt) → err' ≡ err → HasHelped text out out' err err' 0
  cut : (e : PrintError) → Prints out out' text (Err e) → IsPrintedLine [] (plain cause.Write) err err'
      → HasHelped text out out' err err' 5

-- the text is printed to standard error, whole or up to a failed write
pub record IsSaid (text : List ℕ) (err err' : SinkView) : Type 0 where
  pub written : Result (Unit {0}) PrintError
  pub printed : Prints err err' text written

-- words that ask for nothing are answered: by help, by the text that says why not, or by want of memory
abbrev pub Answers : SinkView → SinkView → SinkView → SinkView → Unasked → ℕ → Type 0
Answers out out' err err' (Help text) status = HasHelped (string_bytes text) out out' err err' status
Answers out out' err err' (Refused text) status = (out' ≡ out) × IsSaid (string_bytes text) err err'
    × (status ≡ 4)
Answers out out' err err' Memory status = (out' ≡ out) × IsPrintedLine [] (plain cause.Memory) err err'
    × (status ≡ 5)

-- the words are served, with what is told of each name: what they ask for is done, or it is answered why they
-- ask for nothing
pub record ServesWords (words : List (List ℕ)) (told : List ℕ → Option (Result (List ℕ) SourceFault))
    (told_log : List ℕ → Option Ahead) (out out' err err' : SinkView) (status : ℕ)
    : Type 0 where
  pub asked : Result Request Unasked
  pub read : AskFor (words_read words) asked
  pub done : IfOk asked (λ r. Drives (told (file_of r)) told_log r out out' err err' status)
  pub answered : IfErr asked (λ u. Answers out out' err err' u status)

-- words that were had are served, and of words that could not be had it is answered why
abbrev pub AnswersWords : Result (List (List ℕ)) Unasked → (List ℕ → Option (Result (List ℕ) SourceFault))
    → (List ℕ → Option Ahead) → SinkView → SinkView → SinkView → SinkView → ℕ → Type 0
AnswersWords (Ok words) told told_log out out' err err' status =
    ServesWords words told told_log out out' err err' status
AnswersWords (Err u) told told_log out out' err err' status = Answers out out' err err' u status
