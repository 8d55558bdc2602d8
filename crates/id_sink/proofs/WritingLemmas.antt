-- Lemmas on specs/Writing.antt: a write that is made again.
use Rattle.std.proofs.Common.{◌≡◌, ℕ, zero, suc, ◌+◌, ◌≤◌, List, Option, Some, None, IfSome, Result, refl, ap, subst}
use Rattle.std.proofs.Common.{◌∙◌, arith}
use Rattle.std.specs.Prelude.{option_map}
use Rattle.std.specs.Io.KnownBytes.{WriteAppends}
use Rattle.id_sink.specs.declared.sink.SinkFault.{SinkFault}
use Rattle.id_sink.specs.Told.{AfterWrite, after_write}
use Rattle.id_sink.specs.Writing.{Outlook, cuts_of, within, Tells, IsAnswered, IsAttemptOf, IsAttempt, IsWritten}
use Rattle.id_sink.specs.Writing.{DeviceView, told_of}

-- so many writes were cut short, and nothing else came
pub record IsCut (o : Outlook) (new : Option Outlook) (cuts : ℕ) : Type 0 where
  pub now : Outlook
  pub is : new ≡ Some now
  pub told : now.told ≡ o.told
  pub write : now.write ≡ o.write
  pub left : cuts_of now + cuts ≡ cuts_of o

-- the same of a device that may tell nothing
abbrev pub AreCut : Option Outlook → Option Outlook → ℕ → Type 0
AreCut None new cuts = Unit {0}
AreCut (Some o) new cuts = IsCut o new cuts

pub AreCut-start : (old : Option Outlook) → AreCut old old 0
AreCut-start None = tt
AreCut-start (Some o) = record { now = o; is = refl; told = refl; write = refl; left = omega arith }

one_more : (o : Outlook) (mid new : Option Outlook) (bytes : List ℕ) (k n : ℕ) (c : IsCut o mid k) → cuts_of c.now ≡ n
    → IsAttemptOf n c.now new bytes None →
    IsCut o new (k + 1)
one_more o mid new bytes k zero c e h = absurd h
one_more o mid new bytes k (suc n) c e h = record {
  now = record { told = c.now.told; cuts = n; write = c.now.write; sends = c.now.sends };
  is = h;
  told = c.told;
  write = c.write;
  left = omega (arith, e, c.left);
}

pub AreCut-more : (old mid new : Option Outlook) (bytes : List ℕ) (k : ℕ) → AreCut old mid k
    → IsAttempt mid new bytes None → AreCut old new (k + 1)
AreCut-more None mid new bytes k c h = tt
AreCut-more (Some o) mid new bytes k c h =
    one_more o mid new bytes k (cuts_of c.now) c refl (subst (λ m. IsAttempt m new bytes None) c.is h)

answered : (o : Outlook) (mid new : Option Outlook) (bytes : List ℕ) (k n : ℕ) (a : Result ℕ SinkFault)
    (c : IsCut o mid k) →
    IsAttemptOf n c.now new bytes (Some a) → IsAnswered o new bytes a
answered o mid new bytes k (suc n) a c h = absurd h
answered o mid new bytes k zero a c h = record {
  answer_is = h.answer_is ∙ ap (λ w. within w bytes) c.write;
  tells = subst (λ t. Tells new (after_write t bytes a)) c.told h.tells;
}

pub AreCut-answer : (old mid new : Option Outlook) (bytes : List ℕ) (k : ℕ) (a : Result ℕ SinkFault) → AreCut old mid k
    → IsAttempt mid new bytes (Some a) →
    IsWritten old new bytes a
AreCut-answer None mid new bytes k a c h = tt
AreCut-answer (Some o) mid new bytes k a c h =
    answered o mid new bytes k (cuts_of c.now) a c (subst (λ m. IsAttempt m new bytes (Some a)) c.is h)

-- so many writes in a row are never cut short where a device tells
pub AreCut-end : (old new : Option Outlook) (bytes : List ℕ) (k : ℕ) (a : Result ℕ SinkFault) → 18446744073709551615 ≤ k
    → AreCut old new k →
    IsWritten old new bytes a
AreCut-end None new bytes k a far c = tt
AreCut-end (Some o) new bytes k a far c = absurd (omega (arith, far, c.left))

told_after : (old new : Option Outlook) (bytes : List ℕ) (a : Result ℕ SinkFault) → IsWritten old new bytes a →
    IfSome (option_map (λ o. o.told) old) (λ t. option_map (λ o. o.told) new ≡ Some (after_write t bytes a))
told_after None new bytes a h = tt
told_after (Some o) None bytes a h = absurd h.tells
told_after (Some o) (Some p) bytes a h = ap Some h.tells

-- a sink over a device tells what the device told, and its bytes are the device's
pub AfterWrite-from_written : (old new : DeviceView) (bytes : List ℕ) (a : Result ℕ SinkFault)
    → IsWritten old.outlook new.outlook bytes a →
    WriteAppends old.contents new.contents a bytes → AfterWrite (told_of old) (told_of new) bytes a
AfterWrite-from_written old new bytes a h k =
    record { told = told_after old.outlook new.outlook bytes a h; contents = k }
