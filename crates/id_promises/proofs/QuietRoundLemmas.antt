-- Lemmas on specs/LastRound.antt: a quiet run has shown all that its source has but values at finitely many paths.
use Rattle.std.proofs.Common.{◌≡◌, inl, ℕ, suc, Bool, List, Result, refl, sym, ap, subst}
use Rattle.std.specs.Prelude.{All}
use Rattle.id_source.specs.declared.Fact.{Fact}
use Rattle.id_source.specs.Computed.{AreFacts}
use Rattle.id_source.specs.Sources.{AreInputs, Source, source}
use Rattle.id_source.proofs.Coherence.{coherence}
use Rattle.id_core.specs.Events.{AllWent}
use Rattle.id_core.specs.Machines.{IsQuiet}
use Rattle.id_core.specs.Observed as shown
use Rattle.id_core.specs.Steps.{State}
use Rattle.id_laws.specs.Bounded.{IsAtEnd, RestIsTheEnd, something_on}
use Rattle.id_laws.specs.Determinate.{RunOf, end_of}
use Rattle.id_laws.specs.Laws.{IsComplete, QuietIsComplete}
use Rattle.id_laws.proofs.Bounding.StampsLemmas.{none_left}
use Rattle.id_sink.specs.Told.{SinkView}
use Rattle.id_sink.specs.declared.sink.PrintError.{PrintError}
use Rattle.id_print.specs.Texts.{facts_text}
use Rattle.id_build.specs.Own.{schemas_of}
use Rattle.id_promises.specs.LastRound.{AddsNone, HasAll, LastRound}
use Rattle.id_engine.specs.Runs.{HasRun}
use Rattle.id_promises.proofs.AlikeLemmas.{IsQuietly, quietly}
use Rattle.id_promises.proofs.HeldBackLemmas.{inputs_of}
use Rattle.id_promises.proofs.LastRoundLemmas.{IsFinite, last_round}
use Rattle.id_promises.proofs.OneRoundLemmas.{facts_there, one_list_of}

-- a source of which a run is quiet
module _ (rest : RestIsTheEnd) (complete : QuietIsComplete) (S : Source) (inputs : AreInputs S.checked S.inputs)
    (r : RunOf S) (still : IsQuiet (end_of S r)) where
  done : IsComplete S r.graph (end_of S r)
  done = complete S r.graph r.count r.positions inputs r.schemas still

  ended : IsAtEnd S (end_of S r)
  ended = rest S inputs r still

  finite : IsFinite S
  finite = record {
    paths = ended.paths;
    on = λ p e h. ended.are p (something_on e h);
    names = shown.names r.graph (end_of S r);
    named = done.names;
    shapes = shown.structures r.graph (end_of S r);
    made = done.structures;
    puts = shown.cells r.graph (end_of S r);
    put = done.cells;
    asks = shown.asks r.graph (end_of S r);
    asked = done.asks;
  }

  last_of : (n : ℕ) × HasAll S n
  last_of = last_round S (coherence S done.no_fault) finite

-- a round that has all facts is as the next one
same_next : (S : Source) (n : ℕ) (fs gs : List Fact) → HasAll S n → AreFacts S n fs → AreFacts S (suc n) gs → fs ≡ gs
same_next S n fs gs all h k =
    one_list_of S n (suc n) fs gs h k (λ f r. inl r) (λ f r. all f (record { round = suc n; there = r }))

module _ (rest : RestIsTheEnd) (complete : QuietIsComplete) (text : List ℕ) (words : List (List ℕ)) (count steps : ℕ)
    (t b : Bool) (old new : SinkView)
    (result : Result (Unit {0}) PrintError) (h : HasRun text words count t steps b old new 0 result) where
  last_of_program : (n : ℕ) × HasAll (source h.program h.inputs) n × AddsNone text words n
  last_of_program =
      let S : Source = source h.program h.inputs in
      let at = (h.run).runs ((h.run).order).0 ((h.run).order).1 in
      let r : RunOf S =
      record { graph = h.graph; schemas = schemas_of h.own; count = count; positions = at.positions } in
      let end = at.end in
      let q : IsQuietly h.graph (h.machine).world text b h.output =
      quietly h.graph count steps (h.machine).world text b 0 h.output refl h.ends in
      let still : IsQuiet (end_of S r) = record {
        empty = none_left end.flight (q.still).empty;
        went = subst (λ (es : List State). All (λ e. AllWent e.events) es) (sym end.elements) (q.still).went;
      } in
      let last = last_of rest complete S (inputs_of h.program words h.inputs h.are_inputs) r still in (
        last.0,
        last.1,
        λ fs gs x y.
            ap (facts_text text) (same_next S last.0 fs gs last.1
            (facts_there text words h.program h.inputs h.is_program h.are_inputs last.0 fs x)
            (facts_there text words h.program h.inputs h.is_program h.are_inputs (suc last.0) gs y)),
      )

pub LastRound-laws : RestIsTheEnd → QuietIsComplete → LastRound
LastRound-laws rest complete = record {
  of_runs = last_of rest complete;
  of_program = last_of_program rest complete;
}
