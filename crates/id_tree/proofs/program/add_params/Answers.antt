-- The run comes from parameter to parameter.
use Rattle.std.proofs.Common.{◌≡◌, rules}
use Rattle.id_text.specs.declared.token.TokenKind.TheVariants.{Sign}
use Rattle.id_text.specs.declared.token.Symbol.TheVariants.{RightParen, Comma}
use Rattle.id_grammar.specs.Readers.{first_kind}
use Rattle.id_tree.proofs.ReadLemmas.{IsBehind-token, IsBehind-then}
use Rattle.id_grammar.proofs.ReaderLemmas.{first_of}
use Rattle.id_grammar.proofs.ParamLemmas.{IsBehind-more, Leads-none, Counts-first, Counts-add, Leads-listed, Fails-listed, Fails-next, Fails-first}
use Rattle.id_tree.proofs.program.add_params.Goals as goal

pub params-init : goal.params-init
params-init c =
    let more = c.in-Ok.ensures.1 in
    (c.in-Ok.ensures.0, rw (more.1, c.requires.none) (Counts-first more.0 more.2))

pub params-preserved : goal.params-preserved
params-preserved c =
    let comma : first_kind c.params.rest.list.now ≡ Sign Comma = search rules in
    let more = c.in-Ok-add_param.ensures.1 in (
      IsBehind-more c.params.invariant.0 (c.split-in-params.ensures.whole (λ q. cc)) c.in-Ok-add_param.ensures.0,
      rw more.1 (Counts-add more.0 c.params.invariant.1 (c.split-in-params.ensures.whole (λ q. cc)) comma more.2),
    )

pub returns-then-is_sign : goal.returns-then-is_sign
returns-then-is_sign c =
    let is : c.split.result.0.now.kind ≡ Sign RightParen = search rules in
    (IsBehind-token (c.split.ensures.whole (λ q. cc)), rw c.requires.none (Leads-none (c.split.ensures.whole (λ q. cc)) is))

pub returns-in-Err : goal.returns-in-Err
returns-in-Err c =
    let is_not : c.split.result.0.now.kind ≡ Sign RightParen → ⊥ = search rules in
    Fails-first (λ q. is_not (first_of c.split.ensures.head.1 q)) c.in-Err.ensures

pub returns-in-Err-add_param : goal.returns-in-Err-add_param
returns-in-Err-add_param c =
    let comma : first_kind c.params.rest.list.now ≡ Sign Comma = search rules in
    Fails-next c.params.invariant.1 (c.split-in-params.ensures.whole (λ q. cc)) comma c.in-Err-add_param.ensures

pub returns-then-is_sign-2 : goal.returns-then-is_sign-2
returns-then-is_sign-2 c =
    let is : c.split-2.result.0.now.kind ≡ Sign RightParen = search rules in (
      IsBehind-then c.params.invariant.0 (IsBehind-token (c.split-2.ensures.whole (λ q. cc))),
      Leads-listed c.params.invariant.1 (c.split-2.ensures.whole (λ q. cc)) is,
    )

pub returns-else-is_sign-2 : goal.returns-else-is_sign-2
returns-else-is_sign-2 c =
    let is_not : c.split-2.result.0.now.kind ≡ Sign RightParen → ⊥ = search rules in
    let no_comma : first_kind c.params.rest.list.now ≡ Sign Comma → ⊥ = search rules in
    Fails-listed c.params.invariant.1 c.split-2.ensures.head.1 c.unexpected.result c.unexpected.ensures no_comma is_not
