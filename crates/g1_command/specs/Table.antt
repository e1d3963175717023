-- What clap reads of a table: of its arguments, its commands and the program.
use Rattle.std.specs.Prelude.{◌≡◌, ℕ, Bool, true, false, Option, Some, None, is_some, List, length, map, find, max, if◌then◌else◌}
use Rattle.std.specs.List.{fold}
use Rattle.std.specs.Str.{bytes_eq}
use Rattle.clap.specs.Lexer.{usize_max}
use Rattle.clap.specs.Walk.{is_empty}
use Rattle.clap.specs.Words.{App, Row, Rule, Text, new_app, new_rule, subcommand_rows_of, with_rule, with_subcommand}
use Rattle.clap.specs.declared.builder.action.ArgAction.{ArgAction}
use Rattle.clap.specs.declared.builder.action.ArgAction.TheVariants.{Set, SetTrue, Append}
use Rattle.clap.specs.declared.parser.matches.ArgMatches.{ArgMatches}
use Rattle.g1_command.specs.declared.table.Argument.{Argument}
use Rattle.g1_command.specs.declared.table.Usage.{Usage}
use Rattle.g1_command.specs.declared.table.Program.{Program}
use Rattle.g1_command.specs.declared.table.Form.{Form}
use Rattle.g1_command.specs.declared.table.Form.TheVariants.{Flag, Value, NeededValue, ManyValues, Repeated, Place, ManyPlaces}

-- an argument that is given by its place, and not by its name
abbrev pub is_place : Form → Bool
is_place Place = true
is_place ManyPlaces = true
is_place _ = false

-- how many values a use has, of so many that are named
abbrev pub least_values : Form → ℕ → ℕ
least_values ManyValues named = 1
least_values ManyPlaces named = 0
least_values _ named = named

abbrev pub most_values : Form → ℕ → ℕ
most_values ManyValues named = usize_max
most_values ManyPlaces named = usize_max
most_values _ named = named

-- what a use does with them
abbrev pub action_by : Form → ArgAction
action_by Flag = SetTrue
action_by Value = Set
action_by NeededValue = Set
action_by ManyValues = Append
action_by Repeated = Append
action_by Place = Set
action_by ManyPlaces = Append

-- it has to be given, if it has no default
abbrev pub is_needed : Form → Bool → Bool
is_needed NeededValue has_none = true
is_needed Place has_none = has_none
is_needed _ has_none = false

-- AN ARGUMENT, as clap reads it
abbrev pub rule_by : Argument → Rule
rule_by a = record (new_rule a.id.now) {
  long = if is_place a.form then None else Some a.id.now;
  short = if is_place a.form then None else a.letter;
  action = Some (action_by a.form);
  range = Some (record { start_inclusive = least_values a.form (length a.values.now); end_inclusive = max (most_values a.form (length a.values.now)) (least_values a.form (length a.values.now)) });
  value_names = length a.values.now;
  defaults = map (λ s. s.now) a.default.now;
  required = is_needed a.form (is_empty a.default.now);
  is_free = is_empty a.conflicts.now;
}

abbrev pub with_argument : App → Argument → App
with_argument app a = with_rule app (rule_by a)

-- a command under a name, with the arguments of its usage in turn
abbrev pub command_by : Text → Usage → App
command_by name usage = fold with_argument (new_app name) usage.arguments.now

abbrev pub with_command : App → Usage → App
with_command app usage = with_subcommand app (command_by usage.name.now usage).top

abbrev pub no_command : Text → App
no_command name = record (new_app name) { top = record (new_app name).top { no_binary_name = true; has_version = true; subcommand_required = true } }

-- THE PROGRAM, as clap reads it: its commands in turn, one of which has to be given
abbrev pub program_by : Program → App
program_by program = fold with_command (no_command program.name.now) program.commands.now

-- the first of the program's commands that has this name
abbrev pub command_called : Text → Program → Option Usage
command_called name program = find (λ u. bytes_eq u.name.now name) program.commands.now

-- THE COMMAND among the words, by what clap found: its name, which is one of the program's, and the rows of its values
pub record IsCommandOf (program : Program) (matches : ArgMatches) (name : Text) (rows : List Row) : Type 0 where
  pub found : subcommand_rows_of matches ≡ Some (name, rows)
  pub listed : is_some (command_called name program) ≡ true
