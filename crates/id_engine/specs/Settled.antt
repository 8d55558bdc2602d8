-- What a stream comes to at the end (docs/PROMISES.md, "The edge").
use Rattle.std.specs.Prelude.{◌≡◌, ◌≢◌, ℕ, List, [], Option, Result, Ok, Err}
use Rattle.id_sink.specs.declared.sink.SinkFault.{SinkFault}
use Rattle.id_sink.specs.Told.{SinkView}
use Rattle.id_sink.specs.declared.source.SourceFault.{SourceFault}
use Rattle.id_sink.specs.Writing.{DeviceView, IsSentOn, told_of}
use Rattle.id_log.specs.Logs.{Ahead}
use Rattle.id_args.specs.declared.request.Unasked.{Unasked}
use Rattle.id_compile.specs.declared.refusal.Cause.TheVariants as cause
use Rattle.id_compile.specs.Refusals.{IsPrintedLine, plain, row_of}
use Rattle.id_engine.specs.Served.{AnswersWords}

-- what sending on came to tells the status: it stays, or it is that of a failed write, whose line is printed
abbrev pub IsStatusAfter : Result (Unit {0}) SinkFault → SinkView → SinkView → ℕ → ℕ → Type 0
IsStatusAfter (Ok u) err err' status result = (result ≡ status) × (err' ≡ err)
IsStatusAfter (Err e) err err' status result =
    (result ≡ (row_of cause.Write).2) × IsPrintedLine [] (plain cause.Write) err err'

-- after a failed write nothing is sent on; after all else what a device holds back is, and that tells the status
pub data Settles (old new : DeviceView) (err err' : SinkView) (status result : ℕ) : Type 0 where
  failed_before : status ≡ (row_of cause.Write).2 → new ≡ old → IsStatusAfter (Ok tt) err err' status result
      → Settles old new err err' status result
  sent : (answer : Result (Unit {0}) SinkFault) → status ≢ (row_of cause.Write).2 → IsSentOn old new answer
      → IsStatusAfter answer err err' status result → Settles old new err err' status result

-- the words are answered, then standard output sends on what it holds back, and then standard error
pub record AnswersSettled (words : Result (List (List ℕ)) Unasked)
    (told : List ℕ → Option (Result (List ℕ) SourceFault))
    (told_log : List ℕ → Option Ahead) (out out' err err' : DeviceView) (result : ℕ)
    : Type 0 where
  pub status : ℕ
  pub out_told : DeviceView
  pub err_told : DeviceView
  pub err_settled : DeviceView
  pub answered : AnswersWords words told told_log (told_of out) (told_of out_told) (told_of err)
      (told_of err_told) status
  pub settled : Settles out_told out' (told_of err_told) (told_of err_settled) status result
  pub sent : Result (Unit {0}) SinkFault
  pub sent_on : IsSentOn err_settled err' sent
