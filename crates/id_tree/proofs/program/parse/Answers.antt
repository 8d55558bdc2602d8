-- What the run's end settles (proofs/RefusedLemmas.antt).
use Rattle.std.proofs.Common.{◌≡◌, []}
use Rattle.std.proofs.lemmas.Result.{IfOk-weaker, IfErr-weaker, MatchResult-weaker, MatchResult-from_both}
use Rattle.id_grammar.specs.Tree.{program_tree}
use Rattle.id_tree.specs.Accepted.{Accepts, RefusedBy}
use Rattle.id_tree.specs.Distinct.{Distinct}
use Rattle.id_tree.specs.Starts.{PlacesAreStarts}
use Rattle.id_grammar.specs.Machine.{run, Begin, Accepted}
use Rattle.id_grammar.specs.Readers.{EndsBy}
use Rattle.id_tree.proofs.FinishLemmas.{Laid-rises}
use Rattle.id_tree.proofs.RefusedLemmas.{Accepts-from_run, RefusedBy-from_run, Same-from_run, IsMemory-from_run}
use Rattle.id_tree.proofs.DistinctLemmas.{Program-distinct}
use Rattle.id_tree.proofs.StartsLemmas.{Program-starts}
use Rattle.id_tree.proofs.program.parse.Goals as goal

pub returns-clause-tree : goal.returns-clause-tree
returns-clause-tree c =
    let ts = c.args.tokens.now in
    IfOk-weaker c.parse_program.result (λ p. run 200 ts (Begin []) ≡ Accepted (program_tree p)) (λ p. Accepts ts (program_tree p))
    (λ p q. Accepts-from_run ts (program_tree p) q) c.parse_program.ensures.ok

pub returns-clause-only : goal.returns-clause-only
returns-clause-only c = λ e a.
    let ts = c.args.tokens.now in
    MatchResult-weaker c.parse_program.result
    (MatchResult-from_both c.parse_program.result (λ p. run 200 ts (Begin []) ≡ Accepted (program_tree p)) (EndsBy (run 200 ts (Begin [])))
    c.parse_program.ensures.ok c.parse_program.ensures.err)
    (λ p q. Same-from_run ts (program_tree p) e q a) (λ x q. IsMemory-from_run ts x e q a)

pub returns-clause-distinct : goal.returns-clause-distinct
returns-clause-distinct c =
    let ts = c.args.tokens.now in
    let l = Laid-rises ts c.requires.rises in
    IfOk-weaker c.parse_program.result (λ p. run 200 ts (Begin []) ≡ Accepted (program_tree p)) (λ p. Distinct (program_tree p))
    (λ p q. Program-distinct (Accepts-from_run ts (program_tree p) q).derives 0 l.0 l.1) c.parse_program.ensures.ok

pub returns-clause-within : goal.returns-clause-within
returns-clause-within c =
    let ts = c.args.tokens.now in
    IfOk-weaker c.parse_program.result (λ p. run 200 ts (Begin []) ≡ Accepted (program_tree p)) (λ p. PlacesAreStarts ts (program_tree p))
    (λ p q. Program-starts (Accepts-from_run ts (program_tree p) q).derives) c.parse_program.ensures.ok

pub returns-clause-refused : goal.returns-clause-refused
returns-clause-refused c =
    let ts = c.args.tokens.now in
    IfErr-weaker c.parse_program.result (EndsBy (run 200 ts (Begin []))) (RefusedBy ts)
    (λ x q. RefusedBy-from_run ts x c.requires.rises q) c.parse_program.ensures.err
