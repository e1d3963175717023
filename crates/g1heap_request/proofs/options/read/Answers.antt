use Rattle.std.proofs.Common.{◌≡◌, ◌∙◌, List, ap, map}
use Rattle.std.specs.Borrow.{Bor}
use Rattle.clap.specs.Words.{is_simple_and_free}
use Rattle.g1_command.specs.declared.table.Usage.{Usage}
use Rattle.g1_command.specs.Table.{program_by}
use Rattle.g1heap_request.specs.Options.{g1heap}
use Rattle.g1heap_request.specs.Words.{IsWrongOf}
use Rattle.g1heap_request.proofs.Tabled.{is_free_table, table_is}
use Rattle.g1heap_request.proofs.Read.{read_as, retold, told_help, told_mistake}
use Rattle.g1heap_request.proofs.options.read.Goals as goal

pub returns-in-Ok : goal.returns-in-Ok
returns-in-Ok c =
    let program = c.program-program in
    let is : program_by program.result ≡ g1heap = table_is program.result c.commands-commands.result program.ensures.name (ap (λ (b : Bor (List Usage)). b.now) program.ensures.commands) c.commands-commands.ensures in
    read_as (map (λ w. w.bytes.items) c.args.words.now) program.result is c.in-Ok.matches c.in-Ok.ensures.matches _ (λ name values said s. s.1.0) (λ name values said s. s.1.1)
    c.read_request.result c.read_request.ensures

pub returns-in-Ok-help_or_refusal : goal.returns-in-Ok-help_or_refusal
returns-in-Ok-help_or_refusal c =
    let program = c.program-program in
    let is : program_by program.result ≡ g1heap = table_is program.result c.commands-commands.result program.ensures.name (ap (λ (b : Bor (List Usage)). b.now) program.ensures.commands) c.commands-commands.ensures in
    told_help (map (λ w. w.bytes.items) c.args.words.now) program.result is c.in-Err.error.kind (c.in-Err.ensures.kinds (ap is_simple_and_free is ∙ is_free_table)) c.in-Ok-help_or_refusal.ensures

pub returns : goal.returns
returns c =
    let program = c.program-program in
    let is : program_by program.result ≡ g1heap = table_is program.result c.commands-commands.result program.ensures.name (ap (λ (b : Bor (List Usage)). b.now) program.ensures.commands) c.commands-commands.ensures in
    let refusal = c.in-Err-help_or_refusal.refusal in
    retold (IsWrongOf (map (λ w. w.bytes.items) c.args.words.now)) _ _ refusal c.with_tip.result c.with_tip.ensures
    (told_mistake (map (λ w. w.bytes.items) c.args.words.now) program.result is c.in-Err.error.kind (c.in-Err.ensures.kinds (ap is_simple_and_free is ∙ is_free_table)) refusal c.in-Err-help_or_refusal.ensures)
