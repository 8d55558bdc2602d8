use Rattle.std.proofs.Common.{◌≡◌, List, All, sym, subst, length}
use Rattle.id_text.specs.declared.token.Token.{Token}
use Rattle.id_text.specs.declared.token.TextError.TheVariants.{TooLong}
use Rattle.id_text.specs.Tokens.{IsWithin}
use Rattle.id_text.specs.Lexes.{Lexes}
use Rattle.id_text.specs.Lexes.Ending.{Whole}
use Rattle.id_tree.specs.Starts.{StartsAt}
use Rattle.id_tree.proofs.StartsLemmas.{StartsAt-within}
use Rattle.id_compile.specs.Programs.{by_lexer, by_parser}
use Rattle.id_compile.proofs.InsideLemmas.{lexer_inside, parser_inside, too_long_or_short, short_text}
use Rattle.id_compile.proofs.compiled.tree_of.Goals as goal

pub returns-in-Err : goal.returns-in-Err
returns-in-Err c = record {
  tree = tt;
  distinct = tt;
  within = tt;
  short = tt;
  refused = by_lexer _ c.in-Err.ensures.refused;
  inside = lexer_inside c.args.text.now c.in-Err.error c.in-Err.ensures.refused_within
      (too_long_or_short c.args.text.now c.in-Err.error (λ long. (let e = c.in-Err.ensures.too_long.1 long in
      let is : c.in-Err.error ≡ TooLong = cc
      in is)));
}

pub returns-in-Ok-parse : goal.returns-in-Ok-parse
returns-in-Ok-parse c = record {
  tree = record {
    tokens = _;
    lexes = subst (λ (ts : List Token). Lexes 0 c.args.text.now ts Whole) (sym c.as_slice.ensures.value)
        c.in-Ok.ensures.tokens;
    accepts = c.in-Ok-parse.ensures.tree;
  };
  distinct = c.in-Ok-parse.ensures.distinct;
  within = record {
    within = λ q h. (
        let starts =
        subst (λ (ts : List Token). StartsAt q ts) c.as_slice.ensures.value (c.in-Ok-parse.ensures.within q h) in
        StartsAt-within (length c.args.text.now) c.in-Ok.tokens.items c.in-Ok.ensures.within q starts);
  };
  short = short_text c.args.text.now (λ long. (let e = c.in-Ok.ensures.too_long.1 long in absurd cc));
  refused = tt;
  inside = tt;
}

pub returns : goal.returns
returns c = record {
  tree = tt;
  distinct = tt;
  within = tt;
  short = tt;
  refused =
      (let lexes =
      subst (λ (ts : List Token). Lexes 0 c.args.text.now ts Whole) (sym c.as_slice.ensures.value)
      c.in-Ok.ensures.tokens in
      by_parser _ _ lexes c.in-Err-parse.ensures.refused);
  inside = (let all =
      subst (λ (ts : List Token). All (IsWithin (length c.args.text.now)) ts) (sym c.as_slice.ensures.value)
      c.in-Ok.ensures.within in
      parser_inside c.args.text.now _ c.in-Err-parse.error c.in-Err-parse.ensures.refused all
      (short_text c.args.text.now (λ long. (let e =
      c.in-Ok.ensures.too_long.1 long in absurd cc))));
}
