use Rattle.std.proofs.Common.{◌≡◌, inl, inr, subst}
use Rattle.std.specs.Prelude.{option_map}
use Rattle.g1_report.specs.Program.{program_of, labels_told}
use Rattle.g1_report.specs.Answer.{labels_of}
use Rattle.g1heap_cli.specs.Named.{ObjectNames, AreNamesGiven, RefusesNamesGiven, names_on}
use Rattle.g1heap_cli.specs.SameReplies.{AreProgramNames}
use Rattle.g1heap_cli.proofs.NamesRead.{told_listed}
use Rattle.g1heap_cli.proofs.SameRefused.{no_verdict}
use Rattle.g1heap_cli.proofs.sameness.compare_asked.Goals as goal

-- the names of each side are those of its own file
pub returns : goal.returns
returns g c =
    let same = c.args.job.now.same.now in
    let before = c.args.before.now in
    let after = c.args.after.now in
    let left = g.R.Read.remaining c.args.reader.now in
    let left_after = g.R.Read.remaining c.read_names.new.reader in
    let told : labels_told c.labels-labels.result ≡ names_on before = told_listed c.labels-labels.result (labels_of before) c.labels-labels.ensures.value in
    let told_after : labels_told c.labels-labels-2.result ≡ names_on after = told_listed c.labels-labels-2.result (labels_of after) c.labels-labels-2.ensures.value in
    let names = option_map program_of c.in-Ok-read_names.names in
    let names_after = option_map program_of c.in-Ok-read_names-2.names in
    let are : AreProgramNames same left before after names names_after = record {
      names = subst (λ (l : ObjectNames). AreNamesGiven same.names left l names) told c.in-Ok-read_names.ensures.names;
      left_after = left_after;
      unread = c.read_names.ensures.left;
      names_after = subst (λ (l : ObjectNames). AreNamesGiven same.names_after left_after l names_after) told_after c.in-Ok-read_names-2.ensures.names;
    } in
    record {
      said = c.report_on.ensures.said left c.in-Ok.ensures.suits are;
      refused = no_verdict same before after left left_after names names_after c.in-Ok.ensures.suits are c.report_on.result c.report_on.ensures.refused;
      grown = c.report_on.ensures.grown;
    }

-- what is asked does not suit
pub returns-in-Err-clause-refused : goal.returns-in-Err-clause-refused
returns-in-Err-clause-refused g c = inl (inl c.in-Err.ensures.refused)

-- a file of names is refused
pub returns-in-Err-read_names-clause-refused : goal.returns-in-Err-read_names-clause-refused
returns-in-Err-read_names-clause-refused g c =
    let same = c.args.job.now.same.now in
    let before = c.args.before.now in
    let left = g.R.Read.remaining c.args.reader.now in
    let r = c.in-Err-read_names.refusal in
    let told : labels_told c.labels-labels.result ≡ names_on before = told_listed c.labels-labels.result (labels_of before) c.labels-labels.ensures.value in
    inl (inr (c.in-Ok.ensures.suits, inl (inl (subst (λ (l : ObjectNames). RefusesNamesGiven same.names left l r) told c.in-Err-read_names.ensures.refused))))

-- so is that of the names after
pub returns-in-Err-read_names-2-clause-refused : goal.returns-in-Err-read_names-2-clause-refused
returns-in-Err-read_names-2-clause-refused g c =
    let same = c.args.job.now.same.now in
    let before = c.args.before.now in
    let after = c.args.after.now in
    let left = g.R.Read.remaining c.args.reader.now in
    let left_after = g.R.Read.remaining c.read_names.new.reader in
    let r = c.in-Err-read_names-2.refusal in
    let told : labels_told c.labels-labels.result ≡ names_on before = told_listed c.labels-labels.result (labels_of before) c.labels-labels.ensures.value in
    let told_after : labels_told c.labels-labels-2.result ≡ names_on after = told_listed c.labels-labels-2.result (labels_of after) c.labels-labels-2.ensures.value in
    let names = option_map program_of c.in-Ok-read_names.names in
    let are : AreNamesGiven same.names left (names_on before) names = subst (λ (l : ObjectNames). AreNamesGiven same.names left l names) told c.in-Ok-read_names.ensures.names in
    let refused : RefusesNamesGiven same.names_after left_after (names_on after) r =
    subst (λ (l : ObjectNames). RefusesNamesGiven same.names_after left_after l r) told_after c.in-Err-read_names-2.ensures.refused in
    inl (inr (c.in-Ok.ensures.suits, inl (inr (names, are, left_after, c.read_names.ensures.left, refused))))
