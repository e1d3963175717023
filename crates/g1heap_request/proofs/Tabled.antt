-- The table of g1heap, as clap reads it.
use Rattle.std.proofs.Common.{◌≡◌, ◌∙◌, true, List, refl, ap₂, codes}
use Rattle.std.specs.List.{fold}
use Rattle.clap.specs.Words.{Text, is_simple, is_simple_and_free}
use Rattle.clap.proofs.OnLiterals.{clap_on_literals}
use Rattle.g1_command.specs.declared.table.Program.{Program}
use Rattle.g1_command.specs.declared.table.Usage.{Usage}
use Rattle.g1_command.specs.Table.{no_command, program_by, with_command}
use Rattle.g1heap_request.specs.Options.{g1heap}

-- clap's definitions give the matches of the table, and the errors
pub is_simple_table : is_simple g1heap ≡ true
unfolding clap_on_literals
is_simple_table = refl

pub is_free_table : is_simple_and_free g1heap ≡ true
unfolding clap_on_literals
is_free_table = refl

pub table_is : (p : Program) (us : List Usage) → p.name.now ≡ codes "g1heap" → p.commands.now ≡ us → fold with_command (no_command (codes "g1heap")) us ≡ g1heap → program_by p ≡ g1heap
table_is p us name commands is = ap₂ (λ (n : Text) (cs : List Usage). fold with_command (no_command n) cs) name commands ∙ is
