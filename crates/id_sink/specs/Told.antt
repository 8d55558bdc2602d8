-- What a sink tells of its writes, and what is known of the bytes that it was given (docs/PROMISES.md, "Printing").
use Rattle.std.specs.Prelude.{◌≡◌, ℕ, zero, suc, ◌+◌, List, [], ◌++◌, take, Option, Some, Result}
use Rattle.std.specs.Prelude.{Ok, Err, ◌∷◌, IfSome}
use Rattle.std.specs.Io.KnownBytes.{Appends, WriteAppends}
use Rattle.id_sink.specs.declared.sink.SinkFault.{SinkFault}
use Rattle.id_sink.specs.declared.sink.PrintError.{PrintError}

-- the bytes that a sink said it took, and how many of its writes failed
pub record Told : Type 0 where
  pub bytes : List ℕ
  pub failures : ℕ

-- what a sink shows: what it told so far, and all bytes that stand where it puts them, each where it is known
pub record SinkView : Type 0 where
  pub told : Option Told
  pub contents : Option (List ℕ)

-- a write that takes none of some bytes is a failure
abbrev pub failures_of : ℕ → List ℕ → ℕ
failures_of (suc n) bytes = 0
failures_of zero [] = 0
failures_of zero (b ∷ bytes) = 1

-- so many bytes at the front of these were taken
abbrev pub took : Told → List ℕ → ℕ → Told
took a bytes n = record {
  bytes = a.bytes ++ take n bytes;
  failures = a.failures + failures_of n bytes;
}

-- what a sink tells after a write with this answer
abbrev pub after_write : Told → List ℕ → Result ℕ SinkFault → Told
after_write a bytes (Ok n) = took a bytes n
after_write a bytes (Err e) = record { bytes = a.bytes; failures = a.failures + 1 }

-- a sink that told something before a write tells what follows from its answer, and known bytes grow by those that the
-- write took, and by no others
pub record AfterWrite (old new : SinkView) (bytes : List ℕ) (answer : Result ℕ SinkFault) : Type 0 where
  pub told : IfSome old.told (λ a. new.told ≡ Some (after_write a bytes answer))
  pub contents : WriteAppends old.contents new.contents answer bytes

-- these bytes went out, and n writes failed: the sink tells it, where it told, and known bytes grow by these
pub record GoesOut (old new : SinkView) (out : List ℕ) (n : ℕ) : Type 0 where
  pub told : IfSome old.told (λ a. new.told ≡ Some (record { bytes = a.bytes ++ out; failures = a.failures + n }))
  pub contents : Appends old.contents new.contents out

-- a front of the text went out, and then a write failed
pub record PrintsFront (old new : SinkView) (text : List ℕ) : Type 0 where
  pub front : List ℕ
  pub parts : (rest : List ℕ) × (text ≡ front ++ rest)
  pub failed : GoesOut old new front 1

-- at an Ok the whole text went out and no write failed, and at an Err a front of it went out and then a write failed
abbrev pub PrintsBy : SinkView → SinkView → List ℕ → Result (Unit {0}) PrintError → Type 0
PrintsBy old new text (Ok u) = GoesOut old new text 0
PrintsBy old new text (Err e) = PrintsFront old new text

-- the text is printed: the whole of it at an Ok, and at an Err a front of it before a write that failed
pub record Prints (old new : SinkView) (text : List ℕ) (answer : Result (Unit {0}) PrintError) : Type 0 where
  pub printed : PrintsBy old new text answer

-- the text is printed with a cursor or a pen, which stays what it was
pub record PrintsWith {A : Type 0} (old new : SinkView) (before after : A) (text : List ℕ)
    (answer : Result (Unit {0}) PrintError) : Type 0 where
  pub prints : Prints old new text answer
  pub same : after ≡ before
