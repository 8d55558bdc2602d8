-- Lemmas on specs/Commands.antt.
use Rattle.std.proofs.Common.{◌≡◌, ◌∙◌, ◌++◌, ◌||◌, ◌∷◌, List, [], Bool, false, map, fold, ap, ap₂, subst, sym}
use Rattle.std.specs.List.{All}
use Rattle.std.proofs.Math.Bool.{or-false}
use Rattle.std.proofs.lemmas.List.{append-nil, append_assoc, map_push}
use Rattle.std.proofs.lemmas.List.Elements.{All-append, All-cons, All-head, All-nil, All-tail}
use Rattle.clap.specs.Walk.{Rule, rule_of}
use Rattle.clap.specs.Built.{AddsArg, AddsInTurn, AddsSubcommand}
use Rattle.clap.specs.Simple.{App, Shape, app_of, new_app, shape_of, with_rule, with_subcommand}
use Rattle.clap.specs.declared.builder.arg.Arg.{Arg}
use Rattle.clap.specs.declared.builder.command.Command.{Command}
use Rattle.clap.specs.declared.builder.command.Command.TheViews.{out-Command}
use Rattle.id_args.specs.Commands.{AreCommands, IsCommand, bare_shape, command_shape, program_app}

-- the rules of a list, put behind those of a command
fold_rules : (a : App) (rs : List Rule) → fold with_rule a rs ≡ record a { top = record a.top { rules = a.top.rules ++ rs } }
fold_rules a [] = ap (λ (rs : List Rule). record a { top = record a.top { rules = rs } }) (sym (append-nil a.top.rules))
fold_rules a (r ∷ rs) =
    fold_rules (with_rule a r) rs ∙ ap (λ (xs : List Rule). record a { top = record a.top { rules = xs } }) (append_assoc a.top.rules (r ∷ []) rs)

-- what adds arguments in turn adds their rules
args_added : (old : Command) (xs : List Arg) (new : Command) → AddsInTurn AddsArg old xs new → All (λ (a : Arg). a.global ≡ false) xs
    → (app_of new ≡ fold with_rule (app_of old) (map rule_of xs)) × ((out-Command new).has_globals ≡ (out-Command old).has_globals)
args_added old [] new added local = (ap app_of (sym added), ap (λ (c : Command). (out-Command c).has_globals) (sym added))
args_added old (x ∷ xs) new (m, add, rest) local =
    let here = All-head (λ (a : Arg). a.global ≡ false) x xs local in
    let on = args_added m xs new rest (All-tail (λ (a : Arg). a.global ≡ false) x xs local) in (
      on.0 ∙ ap (λ (a : App). fold with_rule a (map rule_of xs)) (add.shape here),
      on.1 ∙ (add.globals ∙ (ap (λ (b : Bool). (out-Command old).has_globals || b) here ∙ or-false (out-Command old).has_globals)),
    )

-- a new command with these arguments has their rules
pub IsCommand-args : (name : _) (old : Command) (xs : List Arg) (new : Command) → app_of old ≡ new_app name → (out-Command old).has_globals ≡ false
    → AddsInTurn AddsArg old xs new → All (λ (a : Arg). a.global ≡ false) xs → IsCommand (command_shape name (map rule_of xs)) new
IsCommand-args name old xs new is local added all =
    let on = args_added old xs new added all in (
      ap (λ (a : App). a.top) (on.0 ∙ (ap (λ (a : App). fold with_rule a (map rule_of xs)) is ∙ fold_rules (new_app name) (map rule_of xs))),
      on.1 ∙ local,
    )

pub AreCommands-nil : (cs : List Command) → cs ≡ [] → AreCommands [] cs
AreCommands-nil cs e = (
  ap (map shape_of) e,
  subst (All (λ (c : Command). (out-Command c).has_globals ≡ false)) (sym e) (All-nil (λ (c : Command). (out-Command c).has_globals ≡ false)),
)

pub AreCommands-push : (ss : List Shape) (s : Shape) (cs : List Command) (c : Command) → AreCommands ss cs → IsCommand s c
    → AreCommands (ss ++ s ∷ []) (cs ++ c ∷ [])
AreCommands-push ss s cs c are is = (
  map_push shape_of cs c ∙ ap₂ (λ (xs : List Shape) (x : Shape). xs ++ x ∷ []) are.0 is.0,
  All-append (λ (x : Command). (out-Command x).has_globals ≡ false) cs (c ∷ []) are.1
      (All-cons (λ (x : Command). (out-Command x).has_globals ≡ false) c [] is.1 (All-nil (λ (x : Command). (out-Command x).has_globals ≡ false))),
)

-- what adds subcommands in turn adds their shapes
subcommands_added : (old : Command) (cs : List Command) (new : Command) → AddsInTurn AddsSubcommand old cs new
    → All (λ (c : Command). (out-Command c).has_globals ≡ false) cs → app_of new ≡ fold with_subcommand (app_of old) (map shape_of cs)
subcommands_added old [] new added local = ap app_of (sym added)
subcommands_added old (c ∷ cs) new (m, add, rest) local =
    subcommands_added m cs new rest (All-tail (λ (x : Command). (out-Command x).has_globals ≡ false) c cs local)
    ∙ ap (λ (a : App). fold with_subcommand a (map shape_of cs)) (add.shape (All-head (λ (x : Command). (out-Command x).has_globals ≡ false) c cs local))

-- the bare program with its commands is the program
pub is_program : (old : Command) (cs : List Command) (new : Command) → app_of old ≡ record { top = bare_shape; subs = [] } → AreCommands program_app.subs cs
    → AddsInTurn AddsSubcommand old cs new → app_of new ≡ program_app
is_program old cs new is are added =
    subcommands_added old cs new added are.1 ∙ ap₂ (λ (a : App) (ss : List Shape). fold with_subcommand a ss) is are.0
