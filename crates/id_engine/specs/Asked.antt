-- What is printed of what a request asks for, before an error is told (specs/Served.antt).
use Rattle.std.specs.Prelude.{◌≡◌, ◌≢◌, ℕ, List, Result, Err, IfErr, IfOk}
use Rattle.id_sink.specs.Told.{SinkView}
use Rattle.id_args.specs.declared.request.Request.{Request}
use Rattle.id_args.specs.declared.request.Request.TheVariants as asks
use Rattle.id_compile.specs.declared.error.EngineError.{EngineError}
use Rattle.id_compile.specs.declared.error.EngineError.TheVariants.{Write}
use Rattle.id_engine.specs.Commands.{ShowsAll, ShowsFront}
use Rattle.id_compile.specs.Refusals.{IsInsideOf}
use Rattle.id_engine.specs.Served.{command_of, IsRefusedRequest, IsRun, IsRunFront, IsTaken}

-- what a request asks for of a text is printed with this result: whole, or up to a failed write, or it is refused
-- before the first byte
pub record PrintsAsked (text bytes : List ℕ) (r : Request) (old new : SinkView) (result : Result ℕ EngineError) :
    Type 0 where
  pub shown : IfOk result (ShowsAll (command_of bytes r) text old new)
  pub taken : IfOk result (λ _. IsTaken text r)
  pub ran : IfOk result (IsRun text r old new)
  pub cut : result ≡ Err Write → ShowsFront (command_of bytes r) text old new
  pub front : result ≡ Err Write → IsRunFront text r old new
  pub silent : IfErr result (λ e. e ≢ Write → new ≡ old)
  pub refused : IfErr result (IsRefusedRequest text r)
  pub inside : IfErr result (IsInsideOf text)

-- the request asks to judge a log
abbrev pub IsToJudge : Request → Type 0
IsToJudge (asks.Check file) = ⊥
IsToJudge (asks.Graph file) = ⊥
IsToJudge (asks.Draw file) = ⊥
IsToJudge (asks.Run file inputs count trace steps order names) = ⊥
IsToJudge (asks.Facts file rounds inputs) = ⊥
IsToJudge (asks.Why file rounds inputs) = ⊥
IsToJudge (asks.Judge file logs inputs count names) = Unit {0}
