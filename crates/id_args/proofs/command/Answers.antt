use Rattle.std.proofs.Common.{rules}
use Rattle.std.proofs.lemmas.Result.{IfOk-weaker}
use Rattle.id_args.proofs.CommandsLemmas.{is_program}
use Rattle.id_args.proofs.command.Goals as goal

pub returns : goal.returns
returns c =
    let are = c.in_ok-put_all.ensures (search rules) in
    IfOk-weaker c.subcommands.result _ _ (λ r added. is_program c.in_ok-bare_command.field-0 c.put_all.new.commands.items r c.in_ok-bare_command.ensures are added)
    c.subcommands.ensures
