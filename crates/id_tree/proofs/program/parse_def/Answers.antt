-- The run has come through the definition as far as the code has, and ends or goes on as the part there does.
use Rattle.std.proofs.Common.{arith}
use Rattle.id_grammar.specs.Grammar.{body_of}
use Rattle.id_tree.proofs.ReadLemmas.{IsBehind-next, IsBehind-then}
use Rattle.id_grammar.proofs.ReaderLemmas.{opens_definition, At-opens, At-name, At-enclosed, Leads-done, Fails-name, Fails-enclosed}
use Rattle.id_grammar.proofs.ParamLemmas.{At-heading, Fails-heading}
use Rattle.id_tree.proofs.program.parse_def.Goals as goal

pub returns-in-Err : goal.returns-in-Err
returns-in-Err c = Fails-name (At-opens (c.split.ensures.whole (λ q. cc)) (opens_definition c.requires.begins) 0 (omega arith)) c.in-Err.ensures.err

pub returns-in-Err-parse_heading : goal.returns-in-Err-parse_heading
returns-in-Err-parse_heading c =
    Fails-heading (λ a k. body_of c.in-Ok.found.0 a k c.in-Ok.found.1)
    (At-name (At-opens (c.split.ensures.whole (λ q. cc)) (opens_definition c.requires.begins) 0 (omega arith)) c.in-Ok.ensures.ok)
    c.in-Err-parse_heading.ensures

pub returns-in-Err-parse_enclosed : goal.returns-in-Err-parse_enclosed
returns-in-Err-parse_enclosed c =
    Fails-enclosed (At-heading (λ a k. body_of c.in-Ok.found.0 a k c.in-Ok.found.1)
    (At-name (At-opens (c.split.ensures.whole (λ q. cc)) (opens_definition c.requires.begins) 0 (omega arith)) c.in-Ok.ensures.ok)
    c.in-Ok-parse_heading.ensures.1) c.in-Err-parse_enclosed.ensures

pub returns : goal.returns
returns c = rw c.definition.ensures (
  IsBehind-next (c.split.ensures.whole (λ q. cc))
      (IsBehind-then c.in-Ok.ensures.behind (IsBehind-then c.in-Ok-parse_heading.ensures.0 c.in-Ok-parse_enclosed.ensures.0.behind)),
  (
    _,
    Leads-done (At-enclosed (At-heading (λ a k. body_of c.in-Ok.found.0 a k c.in-Ok.found.1)
        (At-name (At-opens (c.split.ensures.whole (λ q. cc)) (opens_definition c.requires.begins) 0 (omega arith)) c.in-Ok.ensures.ok)
        c.in-Ok-parse_heading.ensures.1) c.in-Ok-parse_enclosed.ensures.1),
  ),
)
