-- The commands of g1heap and their options, as clap reads them.
use Rattle.std.specs.Prelude.{true, Some, None, List, [], ◌∷◌, ◌++◌, codes}
use Rattle.std.specs.List.{fold}
use Rattle.clap.specs.Lexer.{usize_max}
use Rattle.clap.specs.Walk.{is_empty}
use Rattle.clap.specs.Words.{App, Rule, Text, new_app, new_rule, with_rule, with_subcommand}
use Rattle.clap.specs.declared.builder.action.ArgAction.TheVariants.{Set, SetTrue, Append}
use Rattle.g1_command.specs.Table.{no_command}
use Rattle.g1heap_request.specs.Values.{standard}

-- an option without a value
abbrev pub flag : Text → Rule
flag id = record (new_rule id) { long = Some id; action = Some SetTrue; range = Some (record { start_inclusive = 0; end_inclusive = 0 }) }

-- an option with a value, and the value that it means not to give it, if that means one
abbrev pub option : Text → List Text → Rule
option id default = record (new_rule id) { long = Some id; action = Some Set; range = Some (record { start_inclusive = 1; end_inclusive = 1 }); value_names = 1; defaults = default }

-- one that has to be given
abbrev pub needed : Text → Rule
needed id = record (option id []) { required = true }

-- one with two values
abbrev pub pair : Text → Rule
pair id = record (option id []) { range = Some (record { start_inclusive = 2; end_inclusive = 2 }); value_names = 2 }

-- one that may be given several times
abbrev pub repeated : Text → Rule
repeated id = record (option id []) { action = Some Append }

-- one that may be given several times, each time with one value or more
abbrev pub several : Text → Rule
several id = record (repeated id) { range = Some (record { start_inclusive = 1; end_inclusive = usize_max }) }

-- a value that is given by its place, and the value that it means not to give it; if that means none, it has to be given
abbrev pub place : Text → List Text → Rule
place id default = record (option id default) { long = None; required = is_empty default }

-- a command more
abbrev pub with : App → Text → List Rule → App
with app name rules = with_subcommand app (fold with_rule (new_app name) rules).top

-- the image, which is on standard input if none is named
abbrev pub image : Rule
image = place (codes "image") (standard ∷ [])

abbrev pub workers : Rule
workers = option (codes "workers") (codes "1" ∷ [])

abbrev pub chunk : Rule
chunk = option (codes "chunk") (codes "64" ∷ [])

abbrev pub costs : List Rule
costs = option (codes "fixed") (codes "0" ∷ []) ∷ option (codes "dirty") (codes "1" ∷ []) ∷ option (codes "card") (codes "1" ∷ []) ∷ option (codes "byte") (codes "1" ∷ []) ∷ []

abbrev pub budget : Rule
budget = option (codes "budget") []

abbrev pub set : Rule
set = several (codes "set")

abbrev pub names : Rule
names = option (codes "names") []

abbrev pub limits : Rule
limits = option (codes "limits") []

-- the file that is written, which has a letter, too
abbrev pub output : Rule
output = record (option (codes "output") []) { short = Some 111 }

abbrev pub show : List Rule
show = image ∷ workers ∷ chunk ∷ flag (codes "repack") ∷ limits ∷ output ∷ []

abbrev pub check : List Rule
check = image ∷ limits ∷ []

abbrev pub live : List Rule
live = image ∷ workers ∷ chunk ∷ limits ∷ output ∷ []

abbrev pub choose : List Rule
choose = image ∷ needed (codes "budget") ∷ (costs ++ workers ∷ chunk ∷ limits ∷ output ∷ [])

abbrev pub pause : List Rule
pause = image ∷ budget ∷ set ∷ (costs ++ workers ∷ chunk ∷ limits ∷ output ∷ [])

abbrev pub same : List Rule
same =
    place (codes "before") [] ∷ place (codes "after") [] ∷ flag (codes "covered") ∷ set ∷ flag (codes "fill") ∷ option (codes "young") [] ∷ names
    ∷ option (codes "names-after") [] ∷ flag (codes "moved") ∷ option (codes "all") [] ∷ limits ∷ []

abbrev pub print : List Rule
print = image ∷ option (codes "region") [] ∷ option (codes "object") [] ∷ flag (codes "summary") ∷ flag (codes "hex") ∷ limits ∷ output ∷ []

abbrev pub make : List Rule
make = place (codes "lines") (standard ∷ []) ∷ output ∷ []

abbrev pub convert : List Rule
convert =
    place (codes "dump") [] ∷ repeated (codes "from") ∷ repeated (codes "without") ∷ flag (codes "weak") ∷ flag (codes "dangling-null") ∷ flag (codes "blank")
    ∷ names ∷ option (codes "sizes") [] ∷ output ∷ []

abbrev pub explain : List Rule
explain = image ∷ budget ∷ set ∷ (costs ++ flag (codes "map") ∷ names ∷ limits ∷ output ∷ [])

abbrev pub why : List Rule
why = place (codes "image") [] ∷ place (codes "address") [] ∷ names ∷ limits ∷ []

abbrev pub trace : List Rule
trace = place (codes "trace") (standard ∷ []) ∷ flag (codes "live") ∷ flag (codes "numbered") ∷ flag (codes "explain") ∷ pair (codes "image") ∷ costs

-- the commands that answer a question of an image, or make another one
abbrev pub answering : App
answering = with (with (with (with (with (no_command (codes "g1heap"))
    (codes "show") show) (codes "check") check) (codes "live") live) (codes "choose") choose) (codes "pause") pause

-- those that compare, print, make and convert images
abbrev pub with_images : App
with_images = with (with (with (with answering (codes "same") same) (codes "print") print) (codes "make") make) (codes "convert") convert

-- THE PROGRAM: its commands
abbrev pub g1heap : App
g1heap = with (with (with with_images (codes "explain") explain) (codes "why") why) (codes "trace") trace
