-- What is found is of the facts of the round, which the paths have.
use Rattle.std.proofs.Common.{◌≡◌, ◌∙◌, List, Option, suc, subst, sym}
use Rattle.id_value.specs.declared.Constant.{Constant}
use Rattle.id_facts.specs.declared.facts.RowFact.{RowFact}
use Rattle.id_facts.specs.declared.facts.RowValue.{RowValue}
use Rattle.id_source.specs.Sources.{source}
use Rattle.id_facts.specs.Listed.{IsRound}
use Rattle.id_why.specs.Known.{known_facts}
use Rattle.id_why.specs.Lines.{Explain}
use Rattle.id_why.specs.Rounds.{IsAnswerIn}
use Rattle.id_why.proofs.RoundLemmas.{answer-in}
use Rattle.id_why.proofs.reasons.find_reasons.Goals as goal

pub returns-clause-reasons : goal.returns-clause-reasons
returns-clause-reasons c =
    let P = c.args.checked.now in
    let n = c.args.n in
    let k = c.in_ok-known.known in
    let R : List Constant → Type 0 = λ vs. IsRound (source P vs) n c.in_ok-facts.facts in
    let Q : List RowFact → Type 0 = λ fs. IsRound (source P c.args.inputs.now.values) n fs in
    let E : List Constant → Type 0 = λ vs. IsRound (source P vs) (suc n) c.in_ok-facts.facts in
    let D : List RowFact → Type 0 = λ fs. IsRound (source P c.args.inputs.now.values) (suc n) fs in
    let L : List RowFact → Type 0 = λ fs. Explain P fs c.in_ok-lines.lines.items in
    let A : List RowFact → Type 0 = λ fs. IsAnswerIn P fs c.in_ok-answer.answer in
    let B : Option RowValue → Type 0 = λ o. IsAnswerIn P (known_facts k) o in
    let same : known_facts k ≡ c.in_ok-paths.paths = c.in_ok-known.ensures.facts ∙ sym c.in_ok-paths.ensures in
    record {
      facts = subst Q (sym c.in_ok-paths.ensures) (subst R c.as_slice.ensures c.in_ok-facts.ensures.facts);
      answer = subst A same (subst B (sym c.in_ok-answer.ensures) (answer-in P k c.in_ok-known.ensures.indexed));
      lines = subst L same c.in_ok-lines.ensures;
      ended = λ e. subst D (sym c.in_ok-paths.ensures) (subst E c.as_slice-2.ensures (c.in_ok-ended.ensures e));
    }
