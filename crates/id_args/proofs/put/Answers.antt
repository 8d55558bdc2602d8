use Rattle.std.proofs.Common.{◌≡◌, ◌++◌, ◌∷◌, [], Ok, IfOk, rules, subst, sym}
use Rattle.id_args.specs.Commands.{AreCommands, IsCommand}
use Rattle.id_args.proofs.CommandsLemmas.{AreCommands-push}
use Rattle.id_args.proofs.put.Goals as goal

pub returns : goal.returns
returns c = λ s ss is are.
    let new : c.push.new.self.items ≡ c.args.commands.now.items ++ c.in_ok-command.field-0 ∷ [] = search rules in
    let given : c.args.command ≡ Ok c.in_ok-command.field-0 = search rules in
    subst (AreCommands (ss ++ s ∷ [])) (sym new) (AreCommands-push ss s c.args.commands.now.items c.in_ok-command.field-0 are
    (subst (λ r. IfOk r (IsCommand s)) given is))
