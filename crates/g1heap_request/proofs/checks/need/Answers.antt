use Rattle.std.proofs.Common.{not}
use Rattle.std.proofs.lemmas.Bool.{not-false, not-true}
use Rattle.clap.specs.Words.{first_of, found_of, rows_of}
use Rattle.g1heap_request.proofs.Checked.{both, gone, here, not_both}
use Rattle.g1heap_request.proofs.checks.need.Goals as goal

pub returns-clause-beside : goal.returns-clause-beside
returns-clause-beside c =
    not_both c.given.result (not c.given-2.result) (gone (first_of c.args.argument.now.id.now (rows_of (found_of c.args.values.now))) c.given.result c.given.ensures) (here (first_of c.args.argument.now.id.now (rows_of (found_of c.args.values.now))) c.given.result c.given.ensures) (λ e. (here (first_of c.args.other.now.id.now (rows_of (found_of c.args.values.now))) c.given-2.result c.given-2.ensures) (not-false c.given-2.result e)) (λ e. (gone (first_of c.args.other.now.id.now (rows_of (found_of c.args.values.now))) c.given-2.result c.given-2.ensures) (not-true c.given-2.result e)) c.refuse_alone.result c.refuse_alone.ensures.beside

pub returns-clause-refused : goal.returns-clause-refused
returns-clause-refused c =
    both c.given.result (not c.given-2.result) (gone (first_of c.args.argument.now.id.now (rows_of (found_of c.args.values.now))) c.given.result c.given.ensures) (here (first_of c.args.argument.now.id.now (rows_of (found_of c.args.values.now))) c.given.result c.given.ensures) (λ e. (here (first_of c.args.other.now.id.now (rows_of (found_of c.args.values.now))) c.given-2.result c.given-2.ensures) (not-false c.given-2.result e)) (λ e. (gone (first_of c.args.other.now.id.now (rows_of (found_of c.args.values.now))) c.given-2.result c.given-2.ensures) (not-true c.given-2.result e)) c.refuse_alone.result c.refuse_alone.ensures.refused
