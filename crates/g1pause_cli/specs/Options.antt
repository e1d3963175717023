-- The commands of g1pause and their options, as clap reads them.
use Rattle.std.specs.Prelude.{true, Some, List, [], ◌∷◌, ◌++◌, codes}
use Rattle.std.specs.List.{fold}
use Rattle.clap.specs.Lexer.{usize_max}
use Rattle.clap.specs.Words.{App, Rule, Text, new_app, new_rule, with_rule, with_subcommand}
use Rattle.clap.specs.declared.builder.action.ArgAction.TheVariants.{Set, SetTrue, Append}
use Rattle.g1_command.specs.Table.{no_command}

-- an option without a value
abbrev pub flag : Text → Rule
flag id = record (new_rule id) { long = Some id; action = Some SetTrue; range = Some (record { start_inclusive = 0; end_inclusive = 0 }) }

-- an option with a value, and the value that it means not to give it, if that means one
abbrev pub option : Text → List Text → Rule
option id default = record (new_rule id) { long = Some id; action = Some Set; range = Some (record { start_inclusive = 1; end_inclusive = 1 }); value_names = 1; defaults = default }

-- one that has to be given
abbrev pub needed : Text → Rule
needed id = record (option id []) { required = true }

-- values that are given by their places, as many as there are
abbrev pub places : Text → Rule
places id = record (new_rule id) { action = Some Append; range = Some (record { start_inclusive = 0; end_inclusive = usize_max }); value_names = 1 }

-- a command more
abbrev pub with : App → Text → List Rule → App
with app name rules = with_subcommand app (fold with_rule (new_app name) rules).top

abbrev pub sharing : List Rule
sharing = option (codes "workers") (codes "1" ∷ []) ∷ option (codes "chunk") (codes "64" ∷ []) ∷ []

abbrev pub costs : List Rule
costs = option (codes "fixed") (codes "0" ∷ []) ∷ option (codes "dirty") (codes "1" ∷ []) ∷ option (codes "card") (codes "1" ∷ []) ∷ option (codes "byte") (codes "1" ∷ []) ∷ []

-- the three commands that only read an image
abbrev pub readers : App
readers = with (with (with (no_command (codes "g1pause")) (codes "show") (sharing ++ flag (codes "repack") ∷ [])) (codes "check") []) (codes "live") sharing

-- THE PROGRAM: its commands
abbrev pub g1pause : App
g1pause = with (with (with readers
    (codes "choose") (sharing ++ (costs ++ needed (codes "budget") ∷ [])))
    (codes "pause") (sharing ++ (costs ++ option (codes "budget") [] ∷ places (codes "regions") ∷ [])))
    (codes "run") (sharing ++ costs)
