use Rattle.std.proofs.Common.{◌∙◌, Some, None, ap, map}
use Rattle.std.proofs.lemmas.Result.{IfOk-weaker}
use Rattle.clap.specs.Words.{found_of}
use Rattle.id_args.proofs.MatchesLemmas.{input_words-read}
use Rattle.id_args.proofs.inputs_of.Goals as goal

pub returns-in-Some : goal.returns-in-Some
returns-in-Some c =
    let given = input_words-read (found_of c.args.matches.now) (Some (map (λ w. w.now) c.in-Some.words.now)) c.in-Some.ensures in
    IfOk-weaker c.from_slice.result _ _ (λ v items. ap (map (λ w. w.now)) items ∙ given) c.from_slice.ensures.items

pub returns-in-None : goal.returns-in-None
returns-in-None c = ap (map (λ w. w.now)) c.new.ensures.items ∙ input_words-read (found_of c.args.matches.now) None c.in-None.ensures
