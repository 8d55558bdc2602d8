-- The commands of the program with their arguments, as `clap` reads them (docs/LANGUAGE.md, "Output").
use Rattle.std.specs.Prelude.{◌≡◌, pos, true, false, List, [], ◌∷◌, map, Some, codes}
use Rattle.std.specs.List.{All}
use Rattle.clap.specs.Lexer.{usize_max}
use Rattle.clap.specs.Walk.{Rule, Text}
use Rattle.clap.specs.Simple.{App, Shape, new_rule, new_shape, shape_of}
use Rattle.clap.specs.declared.builder.command.Command.{Command}
use Rattle.clap.specs.declared.builder.command.Command.TheViews.{out-Command}
use Rattle.clap.specs.declared.builder.action.ArgAction.TheVariants.{SetTrue}
use Rattle.clap.specs.declared.builder.value_parser.ValueParser.{ValueParser}
use Rattle.clap.specs.declared.builder.value_parser.ValueParser.TheVariants.{Signed, Unsigned}

-- the file, which has to be there
abbrev pub file_rule : Rule
file_rule = record (new_rule (codes "FILE")) { required = true }

-- the input words, any number of them
abbrev pub inputs_rule : Rule
inputs_rule = record (new_rule (codes "INPUT")) {
  value_names = 1;
  range = Some (record { start_inclusive = 0; end_inclusive = usize_max });
}

-- an option with a number, which has a value where the words say nothing
abbrev pub number_rule : Text → ValueParser → Text → Rule
number_rule name parser default = record (new_rule name) {
  long = Some name;
  value_names = 1;
  parser = Some parser;
  defaults = default ∷ [];
}

-- `--elements`, from 1 to 64
abbrev pub elements_rule : Rule
elements_rule = number_rule (codes "elements") (Signed (pos 1) (pos 64)) (codes "1")

-- `--steps`, from 1 to 100,000,000
abbrev pub steps_rule : Rule
steps_rule = number_rule (codes "steps") (Unsigned 1 100000000) (codes "1000000")

-- `--order`, any number of 64 bits
abbrev pub order_rule : Rule
order_rule = record (new_rule (codes "order")) {
  long = Some (codes "order");
  value_names = 1;
  parser = Some (Unsigned 0 18446744073709551615);
}

-- an option without a value
abbrev pub flag_rule : Text → Rule
flag_rule name = record (new_rule name) { long = Some name; action = Some SetTrue }

-- the round, from 0 to 10,000, which has to be there
abbrev pub rounds_rule : Rule
rounds_rule = record (new_rule (codes "ROUNDS")) {
  required = true;
  parser = Some (Signed (pos 0) (pos 10000));
}

-- `--rounds`, from 0 to 10,000
abbrev pub rounds_option_rule : Rule
rounds_option_rule = number_rule (codes "rounds") (Signed (pos 0) (pos 10000)) (codes "300")

-- the words of `judge` behind its file, one at least
abbrev pub words_rule : Rule
words_rule = record (new_rule (codes "WORD")) {
  required = true;
  value_names = 1;
  range = Some (record { start_inclusive = 1; end_inclusive = usize_max });
}

-- a command with these arguments
abbrev pub command_shape : Text → List Rule → Shape
command_shape name rules = record (new_shape name) { rules = rules }

-- the command `check`: its file
abbrev pub check_shape : Shape
check_shape = command_shape (codes "check") (file_rule ∷ [])

-- the command `graph`: its file, and `--dot`
abbrev pub graph_shape : Shape
graph_shape = command_shape (codes "graph") (file_rule ∷ flag_rule (codes "dot") ∷ [])

-- the arguments of `run`
abbrev pub run_rules : List Rule
run_rules = file_rule ∷ inputs_rule ∷ elements_rule ∷ steps_rule ∷ order_rule ∷ flag_rule (codes "names")
    ∷ flag_rule (codes "trace") ∷ []

-- the command `run`
abbrev pub run_shape : Shape
run_shape = command_shape (codes "run") run_rules

-- the command `facts`: its file, the round and the input words
abbrev pub facts_shape : Shape
facts_shape = command_shape (codes "facts") (file_rule ∷ rounds_rule ∷ inputs_rule ∷ [])

-- the command `why`: its file, the input words and `--rounds`
abbrev pub why_shape : Shape
why_shape = command_shape (codes "why") (file_rule ∷ inputs_rule ∷ rounds_option_rule ∷ [])

-- the arguments of `judge`
abbrev pub judge_rules : List Rule
judge_rules = file_rule ∷ words_rule ∷ elements_rule ∷ flag_rule (codes "names") ∷ []

-- the command `judge`
abbrev pub judge_shape : Shape
judge_shape = command_shape (codes "judge") judge_rules

-- the program without its commands, one of which has to be named
abbrev pub bare_shape : Shape
bare_shape = record (new_shape (codes "idc")) {
  no_binary_name = true;
  has_version = true;
  subcommand_required = true;
}

-- the program with its commands
abbrev pub program_app : App
program_app = record {
  top = record bare_shape { is_leaf = false };
  subs = check_shape ∷ graph_shape ∷ run_shape ∷ facts_shape ∷ why_shape ∷ judge_shape ∷ [];
}

-- the command has this shape, and none of its arguments is one of its subcommands' too
abbrev pub IsCommand : Shape → Command → Type 0
IsCommand s c = (shape_of c ≡ s) × ((out-Command c).has_globals ≡ false)

-- the commands have these shapes
abbrev pub AreCommands : List Shape → List Command → Type 0
AreCommands ss cs = (map shape_of cs ≡ ss) × All (λ c. (out-Command c).has_globals ≡ false) cs
