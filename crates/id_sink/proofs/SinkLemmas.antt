-- Lemmas on specs/Told.antt: a text that goes out in several writes.
use Rattle.std.proofs.Common.{◌≡◌, ℕ, zero, suc, ◌+◌, ◌<◌, List, [], ◌∷◌, ◌++◌, take, drop, length, Option, None}
use Rattle.std.proofs.Common.{IfSome}
use Rattle.std.proofs.Common.{Some, Result, Ok, Err, IsErr, refl, sym, ap, subst, ◌∙◌, append_assoc, arith, add-zero}
use Rattle.std.proofs.Common.{add_assoc, le_of_eq, take_all, length-drop, ◌-◌}
use Rattle.std.proofs.KnownBytes.{Appends-nil, Appends-trans}
use Rattle.std.proofs.lemmas.List.{append-nil, take-append-drop}
use Rattle.std.proofs.lemmas.Bool.{false≢true}
use Rattle.std.specs.Io.KnownBytes.{Appends, Keeps}
use Rattle.id_sink.specs.declared.sink.SinkFault.{SinkFault}
use Rattle.id_sink.specs.declared.sink.PrintError.{PrintError}
use Rattle.id_sink.specs.Told.{Told, SinkView, AfterWrite, GoesOut, PrintsFront, Prints}

-- ---- what goes out

-- what a sink tells where it took these bytes more, and so many writes more failed
abbrev pub grown : Told → List ℕ → ℕ → Told
grown a front n = record { bytes = a.bytes ++ front; failures = a.failures + n }

-- what is told after two pieces is told after their sum
grown-grown : (a : Told) (front more : List ℕ) (n m : ℕ)
    → grown (grown a front n) more m ≡ grown a (front ++ more) (n + m)
grown-grown a front more n m =
    ap (λ bs. record { bytes = bs; failures = a.failures + n + m }) (append_assoc a.bytes front more)
    ∙ ap (λ k. record { bytes = a.bytes ++ (front ++ more); failures = k }) (add_assoc a.failures n m)

grown-nil : (a : Told) (n : ℕ) → record { bytes = a.bytes; failures = a.failures + n } ≡ grown a [] n
grown-nil a n = ap (λ bs. record { bytes = bs; failures = a.failures + n }) (sym (append-nil a.bytes))

told_same : (old : Option Told) → IfSome old (λ a. old ≡ Some (grown a [] 0))
told_same None = tt
told_same (Some a) =
    ap (λ k. Some (record { bytes = a.bytes; failures = k })) (sym (add-zero a.failures)) ∙ ap Some (grown-nil a 0)

told_then : (old mid new : Option Told) (front more : List ℕ) (n m : ℕ) → IfSome old (λ a. mid ≡ Some (grown a front n))
    →
    IfSome mid (λ a. new ≡ Some (grown a more m)) → IfSome old (λ a. new ≡ Some (grown a (front ++ more) (n + m)))
told_then None mid new front more n m h k = tt
told_then (Some a) None new front more n m h k = let bad : None ≡ Some (grown a front n) = h in absurd cc
told_then (Some a) (Some b) new front more n m h k =
    let same : Some b ≡ Some (grown a front n) = h in
    let is : b ≡ grown a front n = cc in
    k ∙ ap (λ c. Some (grown c more m)) is ∙ ap Some (grown-grown a front more n m)

told_failed : (old new : Option Told)
    → IfSome old (λ a. new ≡ Some (record { bytes = a.bytes; failures = a.failures + 1 })) →
    IfSome old (λ a. new ≡ Some (grown a [] 1))
told_failed None new h = tt
told_failed (Some a) new h = h ∙ ap Some (grown-nil a 1)

kept : (old new : Option (List ℕ)) → Keeps old new → Appends old new []
kept None new h = tt
kept (Some xs) None h = absurd h
kept (Some xs) (Some ys) h = h ∙ sym (append-nil xs)

nothing_out : (old : SinkView) → GoesOut old old [] 0
nothing_out old = record { told = told_same old.told; contents = Appends-nil old.contents }

out_then : (old mid new : SinkView) (front more : List ℕ) (n m : ℕ) → GoesOut old mid front n → GoesOut mid new more m
    → GoesOut old new (front ++ more) (n + m)
out_then old mid new front more n m h k = record {
  told = told_then old.told mid.told new.told front more n m h.told k.told;
  contents = Appends-trans old.contents mid.contents new.contents front more h.contents k.contents;
}

-- a write that takes some bytes takes them and fails not
some_out : (old new : SinkView) (bytes : List ℕ) (n : ℕ) → AfterWrite old new bytes (Ok n) → 0 < n
    → GoesOut old new (take n bytes) 0
some_out old new bytes zero w h = absurd (omega arith)
some_out old new bytes (suc n) w h = record { told = w.told; contents = w.contents }

-- a write that takes none of some bytes fails, and so does one that answers an error
none_out : (old new : SinkView) (b : ℕ) (bytes : List ℕ) → AfterWrite old new (b ∷ bytes) (Ok 0) → GoesOut old new [] 1
none_out old new b bytes w = record { told = w.told; contents = w.contents }

failed_out : (old new : SinkView) (bytes : List ℕ) (e : SinkFault) → AfterWrite old new bytes (Err e)
    → GoesOut old new [] 1
failed_out old new bytes e w =
    record { told = told_failed old.told new.told w.told; contents = kept old.contents new.contents w.contents }

-- ---- a text of which a front is out

-- a front of the text went out, the rest is left, and no write failed
pub record Going (old new : SinkView) (text rest : List ℕ) : Type 0 where
  pub front : List ℕ
  pub parts : text ≡ front ++ rest
  pub so_far : GoesOut old new front 0

-- no text is out before the first write
pub Going-start : (old : SinkView) (text : List ℕ) → Going old old text text
Going-start old text = record { front = []; parts = refl; so_far = nothing_out old }

regrouped : (text front rest : List ℕ) (n : ℕ) → text ≡ front ++ rest → text ≡ (front ++ take n rest) ++ drop n rest
regrouped text front rest n e =
    e ∙ ap (λ r. front ++ r) (sym (take-append-drop n rest)) ∙ sym (append_assoc front (take n rest) (drop n rest))

shorter : (old mid new : SinkView) (text rest : List ℕ) (n : ℕ) → Going old mid text rest
    → AfterWrite mid new rest (Ok n) → 0 < n →
    Going old new text (drop n rest)
shorter old mid new text rest n g w h = record {
  front = g.front ++ take n rest;
  parts = regrouped text g.front rest n g.parts;
  so_far = out_then old mid new g.front (take n rest) 0 0 g.so_far (some_out mid new rest n w h);
}

-- what a slice from n on has is all that is behind the first n
behind : (xs : List ℕ) (n : ℕ) → take (length xs - n) (drop n xs) ≡ drop n xs
behind xs n = take_all (length xs - n) (drop n xs) (le_of_eq (length-drop n xs))

-- after a write that took some bytes the rest is shorter by them
pub Going-write : (old mid new : SinkView) (text rest : List ℕ) (n : ℕ) → Going old mid text rest
    → AfterWrite mid new rest (Ok n) → 0 < n →
    Going old new text (take (length rest - n) (drop n rest))
Going-write old mid new text rest n g w h =
    let P : List ℕ → Type 0 =
    λ r. Going old new text r in subst P (sym (behind rest n)) (shorter old mid new text rest n g w h)

-- where nothing is left, the whole text is out
pub Prints-end : (old new : SinkView) (text : List ℕ) → Going old new text [] → Prints old new text (Ok tt)
Prints-end old new text g =
    let P : List ℕ → Type 0 = λ t. GoesOut old new t 0 in
    record { printed = subst P (sym (g.parts ∙ append-nil g.front)) g.so_far }

cut_short : (old mid new : SinkView) (text rest : List ℕ) → Going old mid text rest → GoesOut mid new [] 1
    → PrintsFront old new text
cut_short old mid new text rest g w = record {
  front = g.front ++ [];
  parts = (rest, g.parts ∙ ap (λ t. t ++ rest) (sym (append-nil g.front)));
  failed = out_then old mid new g.front [] 0 1 g.so_far w;
}

-- a write that answers an error ends the text with a front of it
pub Prints-err : (old mid new : SinkView) (text rest : List ℕ) (e : SinkFault) (p : PrintError)
    → Going old mid text rest →
    AfterWrite mid new rest (Err e) → Prints old new text (Err p)
Prints-err old mid new text rest e p g w =
    record { printed = cut_short old mid new text rest g (failed_out mid new rest e w) }

-- so does one that takes none of the bytes that are left
pub Prints-none : (old mid new : SinkView) (text rest : List ℕ) (p : PrintError) → 0 < length rest
    → Going old mid text rest →
    AfterWrite mid new rest (Ok 0) → Prints old new text (Err p)
Prints-none old mid new text [] p h g w = absurd (omega arith)
Prints-none old mid new text (x ∷ rest) p h g w =
    record { printed = cut_short old mid new text (x ∷ rest) g (none_out mid new x rest w) }

-- ---- texts that are printed one after another

-- a text whose front was cut short was cut short
pub Prints-stop : (old new : SinkView) (front rest : List ℕ) (e : PrintError) (r : Result (Unit {0}) PrintError)
    → Prints old new front (Err e) → IsErr r →
    Prints old new (front ++ rest) r
Prints-stop old new front rest e (Ok u) h w = absurd (false≢true w)
Prints-stop old new front rest e (Err p) h w =
    let cut : PrintsFront old new front = h.printed in
    record {
      printed = record {
        front = cut.front;
        parts = (cut.parts.0 ++ rest, ap (λ t. t ++ rest) cut.parts.1 ∙ append_assoc cut.front cut.parts.0 rest);
        failed = cut.failed;
      };
    }

-- a text is printed where its front was printed whole and then its rest is printed
pub Prints-then : (old mid new : SinkView) (front rest : List ℕ) (u : Unit {0}) (r : Result (Unit {0}) PrintError)
    → Prints old mid front (Ok u) →
    Prints mid new rest r → Prints old new (front ++ rest) r
Prints-then old mid new front rest u (Ok v) h k =
    record { printed = out_then old mid new front rest 0 0 h.printed k.printed }
Prints-then old mid new front rest u (Err p) h k =
    let cut : PrintsFront mid new rest = k.printed in
    record {
      printed = record {
        front = front ++ cut.front;
        parts = (cut.parts.0, ap (λ t. front ++ t) cut.parts.1 ∙ sym (append_assoc front cut.front cut.parts.0));
        failed = out_then old mid new front cut.front 0 1 h.printed cut.failed;
      };
    }

-- no text is printed by no write
pub Prints-nothing : (old : SinkView) → Prints old old [] (Ok tt)
Prints-nothing old = record { printed = nothing_out old }
