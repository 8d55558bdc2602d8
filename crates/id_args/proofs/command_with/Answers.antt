use Rattle.std.proofs.Common.{◌≡◌, false, rules}
use Rattle.std.proofs.lemmas.Result.{IfOk-weaker}
use Rattle.clap.specs.Simple.{app_of, new_app}
use Rattle.clap.specs.declared.builder.command.Command.TheViews.{out-Command}
use Rattle.id_args.proofs.CommandsLemmas.{IsCommand-args}
use Rattle.id_args.proofs.command_with.Goals as goal

pub returns : goal.returns
returns c =
    let start : app_of c.about.result ≡ new_app c.args.name.now = search rules in
    let local : (out-Command c.about.result).has_globals ≡ false = search rules in
    IfOk-weaker c.args-2.result _ _ (λ r added. IsCommand-args c.args.name.now c.about.result c.args.arguments.items r start local added c.requires)
    c.args-2.ensures
