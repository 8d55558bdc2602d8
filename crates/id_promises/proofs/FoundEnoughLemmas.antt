-- Lemmas on specs/AtOnce.antt: what a reader finds of a text's rounds and of a graph bounds each run of the text, so
-- that
-- its status tells of faults.
use Rattle.std.proofs.Common.{◌≡◌, inl, inr, ◌⊎◌, ℕ, ◌-◌, ◌*◌, ◌^◌, ◌≤◌, ◌<◌, Bool, List, length, Result, sym, subst}
use Rattle.std.proofs.Common.{◌∙◌}
use Rattle.id_value.specs.List.{Among}
use Rattle.id_value.specs.declared.Constant.{Constant}
use Rattle.id_check.specs.declared.checked.Checked.{Checked}
use Rattle.id_source.specs.declared.Fact.{Fact}
use Rattle.id_source.specs.declared.Path.{Path}
use Rattle.id_source.specs.Rounds.{Holds}
use Rattle.id_source.specs.Sources.{Source, source}
use Rattle.id_build.specs.Own.{schemas_of}
use Rattle.id_build.specs.Schemas.{Schemas}
use Rattle.id_core.specs.Machines.{run, start}
use Rattle.id_runs.specs.Legal.{IsSameBut}
use Rattle.id_laws.specs.Bounded.{Bounded, IsActive, IsActiveBy, index_has, loop_begins, messages_at_once, something_on}
use Rattle.id_laws.specs.Determinate.{RunOf}
use Rattle.id_laws.specs.Ended.{AreAllFacts}
use Rattle.id_laws.specs.Laws.{QuietIsComplete, Soundness}
use Rattle.id_sink.specs.Told.{SinkView}
use Rattle.id_sink.specs.declared.sink.PrintError.{PrintError}
use Rattle.id_promises.specs.AtOnce.{AreFoundEnough, AtOnce}
use Rattle.id_promises.specs.OneProgram.{AreAlike, MeanTheSame}
use Rattle.id_engine.specs.Runs.{HasRun}
use Rattle.id_promises.specs.Status.{AreEnough, TellsFaults}
use Rattle.id_promises.proofs.AtOnceLemmas.{at_once}
use Rattle.id_promises.proofs.HeldBackLemmas.{inputs_of}
use Rattle.id_promises.proofs.OneProgramLemmas.{AreAlike-text, MeanTheSame-text, inputs_same, inputs_to}
use Rattle.id_promises.proofs.OneRoundLemmas.{all_facts}
use Rattle.id_promises.proofs.SameFactsLemmas.{AreAlike-sym}
use Rattle.id_promises.proofs.SameGraphsLemmas.{Schemas-alike}
use Rattle.id_promises.proofs.StatusLemmas.{ends_by, told_there}

-- what may be done by the facts of a source may be done by a list that has them
by_list : (S : Source) (fs : List Fact) → ((f : Fact) → Holds S f → Among f fs) → (p : Path) → IsActive S p
    → IsActiveBy S.checked (λ f. Among f fs) p
by_list S fs all p (something_on e h) = something_on e (all _ h)
by_list S fs all p (index_has stands h) = index_has stands (all _ h)
by_list S fs all p (loop_begins stands h q) = loop_begins stands (all _ h) q

-- what tells of the faults of a source tells of those of one that means the same
tells_too : (S T : Source) (status : ℕ) → MeanTheSame S T → TellsFaults T status → TellsFaults S status
tells_too S T status m t = record {
  one = t.one;
  free = ((λ z f k. (t.free).0 z f ((m.faults f).0 k)), (λ none. (t.free).1 (λ f k. none f ((m.faults f).1 k))));
  faulty = (
    (λ o. let f = (t.faulty).0 o in (f.0, (m.faults f.0).1 f.1)),
    (λ f. (t.faulty).1 (f.0, (m.faults f.0).0 f.1)),
  );
}

module _ (bounded : Bounded) (sound : Soundness) (complete : QuietIsComplete) (text : List ℕ) (words : List (List ℕ))
  where
    module _ (count steps status : ℕ) (t b : Bool) (old new : SinkView) (result : Result (Unit {0}) PrintError)
        (h : HasRun text words count t steps b old new status result) where
      its_source : Source
      its_source = source h.program h.inputs

      -- the source of the program whose rounds were read
      module _ (small : steps < 2 ^ 64 - 1) (e : AreFoundEnough text words steps) where
        abbrev P : Checked
        P = (e.are).program

        abbrev vs : List Constant
        vs = (e.are).inputs

        alike : AreAlike h.program P
        alike = AreAlike-text text h.program P h.is_program (e.are).is_program

        schemas : Schemas P h.graph
        schemas = Schemas-alike h.program P alike (AreAlike-sym h.program P alike) h.graph (schemas_of h.own)

        given : h.inputs ≡ vs
        given = inputs_same P words h.inputs vs (inputs_to h.program P alike words h.inputs h.are_inputs)
            (e.are).are_inputs

        numbers : messages_at_once e.graph ≡ messages_at_once h.graph
        numbers = at_once P e.graph e.schemas ∙ sym (at_once P h.graph schemas)

        all : AreAllFacts (source P vs) e.facts
        all = all_facts text words e.round e.facts e.next e.are e.are_next e.adds_none

        enough : AreEnough (source P vs) h.graph steps
        enough = record {
          paths = e.paths;
          active = λ p k. (e.active).each p (by_list (source P vs) e.facts all.all p k);
          enough = subst (λ n. n * length e.paths ≤ steps) numbers e.enough;
        }

        tells_there : TellsFaults (source P vs) status
        tells_there =
            let at = (h.run).runs ((h.run).order).0 ((h.run).order).1 in
            let r : RunOf (source P vs) =
            record { graph = h.graph; schemas = schemas; count = count; positions = at.positions } in
            let end =
            subst (λ us. IsSameBut (run h.graph count at.positions (start h.graph us count)) (h.machine).world) given
            at.end in
            told_there bounded sound complete (source P vs) (inputs_of P words vs (e.are).are_inputs) r
            (h.machine).world
            end steps status small enough
            (ends_by h.graph count steps (h.machine).world text b status h.output h.ends)

        tells : TellsFaults (source h.program h.inputs) status
        tells =
            tells_too (source h.program h.inputs) (source P vs) status
            (MeanTheSame-text text words h.program P h.inputs vs h.is_program (e.are).is_program h.are_inputs
            (e.are).are_inputs) tells_there

-- statuses that tell of the faults of sources that mean the same are one
one_status : (S T : Source) (m n : ℕ) → MeanTheSame S T → TellsFaults S m → TellsFaults T n → m ≡ n
one_status S T m n mean s t = by (tells_too S T n mean t) s.one
  where
    by : TellsFaults S n → (m ≡ 0) ⊎ (m ≡ 1) → m ≡ n
    by u (inl z) = z ∙ sym ((u.free).1 ((s.free).0 z))
    by u (inr o) = o ∙ sym ((u.faulty).1 ((s.faulty).0 o))

pub AtOnce-laws : Bounded → Soundness → QuietIsComplete → AtOnce
AtOnce-laws bounded sound complete = record {
  number = at_once;
  told = λ text words count steps status t b old new result small e h.
      tells bounded sound complete text words count steps status t b old new result h small e;
  same = λ text words count steps status t b old new result n m other u c before after outcome small low e d h k.
      one_status (source h.program h.inputs) (source k.program k.inputs) status other
      (MeanTheSame-text text words h.program k.program h.inputs k.inputs h.is_program k.is_program h.are_inputs
      k.are_inputs)
      (tells bounded sound complete text words count steps status t b old new result h small e)
      (tells bounded sound complete text words n m other u c before after outcome k low d);
}
