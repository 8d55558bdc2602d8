-- *One round*: what the rounds of one text have in common (docs/PROMISES.md, "The run").
use Rattle.std.specs.Prelude.{◌≡◌, ◌<◌, ◌^◌, ℕ, suc, List, length, Result}
use Rattle.id_value.specs.List.{Among}
use Rattle.id_source.specs.declared.Fact.{Fact}
use Rattle.id_source.specs.Sources.{source}
use Rattle.id_laws.specs.Ended.{AreAllFacts}
use Rattle.id_sink.specs.declared.sink.PrintError.{PrintError}
use Rattle.id_sink.specs.Told.{SinkView}
use Rattle.id_print.specs.Texts.{fact_text, facts_text}
use Rattle.id_engine.specs.Commands.{AreFactsOf, Facts, HasShown, ShowsAll}
use Rattle.id_promises.specs.OneAnswer.{SameLeft}

-- the bytes are those of a round of the text, on the inputs that the words give
pub record IsRoundText (text : List ℕ) (words : List (List ℕ)) (n : ℕ) (bytes : List ℕ) : Type 0 where
  pub list : List Fact
  pub are : AreFactsOf text words n list
  pub is : bytes ≡ facts_text text list

-- *One round*: a round of a text on some words is one list, and so are its bytes
pub record OneRound : Type 0 where
  -- what a call of `facts_text` prints is the text of such a list, whatever of it went out
  pub listed : (text : List ℕ) (words : List (List ℕ)) (n : ℕ) (old new : SinkView)
      (result : Result (Unit {0}) PrintError) → (h : HasShown (Facts n words) text old new 0 result)
      → IsRoundText text words n h.output
  pub facts : (text : List ℕ) (words : List (List ℕ)) (n : ℕ) (fs gs : List Fact) → AreFactsOf text words n fs
      → AreFactsOf text words n gs → fs ≡ gs
  pub bytes : (text : List ℕ) (words : List (List ℕ)) (n : ℕ) (old new before after : SinkView)
      (result other : Result (Unit {0}) PrintError) → (h : HasShown (Facts n words) text old new 0 result)
      → (k : HasShown (Facts n words) text before after 0 other) → h.output ≡ k.output
  -- so two calls of `facts_text` that print the whole of it leave sinks that showed the same showing the same
  pub told : (text : List ℕ) (words : List (List ℕ)) (n : ℕ) (old new other : SinkView)
      → ShowsAll (Facts n words) text old new 0 → ShowsAll (Facts n words) text old other 0
      → SameLeft old new other
  -- two rounds of a text on some words with the same bytes have the same facts
  pub read : (text : List ℕ) (words : List (List ℕ)) (n m : ℕ) (fs gs : List Fact) → AreFactsOf text words n fs
      → AreFactsOf text words m gs → facts_text text fs ≡ facts_text text gs → fs ≡ gs
  -- so have two rounds on any words, if the text has fewer than 2 ^ 64 bytes
  pub any_words : (text : List ℕ) (words other : List (List ℕ)) (n m : ℕ) (fs gs : List Fact)
      → length text < 2 ^ 64 → AreFactsOf text words n fs → AreFactsOf text other m gs
      → facts_text text fs ≡ facts_text text gs → fs ≡ gs
  -- each line tells its fact, where the text has fewer than 2 ^ 64 bytes and the rounds' numbers are below that
  pub line : (text : List ℕ) (words other : List (List ℕ)) (n m : ℕ) (fs gs : List Fact) (f g : Fact)
      → length text < 2 ^ 64 → n < 2 ^ 64 → m < 2 ^ 64 → AreFactsOf text words n fs
      → AreFactsOf text other m gs → Among f fs → Among g gs → fact_text text f ≡ fact_text text g → f ≡ g
  -- a round that adds no bytes to the round before it has all facts of the text's source
  pub ended : (text : List ℕ) (words : List (List ℕ)) (n : ℕ) (fs gs : List Fact)
      → (h : AreFactsOf text words n fs) → AreFactsOf text words (suc n) gs
      → facts_text text fs ≡ facts_text text gs → AreAllFacts (source h.program h.inputs) fs
