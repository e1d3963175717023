use Rattle.std.proofs.Common.{not}
use Rattle.std.proofs.lemmas.Bool.{not-false, not-true}
use Rattle.clap.specs.Words.{first_of, found_of, rows_of}
use Rattle.g1heap_request.proofs.Checked.{both, gone, here, not_both}
use Rattle.g1heap_request.proofs.checks.need_for_flag.Goals as goal

pub returns-clause-beside : goal.returns-clause-beside
returns-clause-beside c =
    not_both c.flag.result (not c.given.result) c.flag.ensures.off c.flag.ensures.on (λ e. (here (first_of c.args.other.now.id.now (rows_of (found_of c.args.values.now))) c.given.result c.given.ensures) (not-false c.given.result e)) (λ e. (gone (first_of c.args.other.now.id.now (rows_of (found_of c.args.values.now))) c.given.result c.given.ensures) (not-true c.given.result e)) c.refuse_alone.result c.refuse_alone.ensures.beside

pub returns-clause-refused : goal.returns-clause-refused
returns-clause-refused c =
    both c.flag.result (not c.given.result) c.flag.ensures.off c.flag.ensures.on (λ e. (here (first_of c.args.other.now.id.now (rows_of (found_of c.args.values.now))) c.given.result c.given.ensures) (not-false c.given.result e)) (λ e. (gone (first_of c.args.other.now.id.now (rows_of (found_of c.args.values.now))) c.given.result c.given.ensures) (not-true c.given.result e)) c.refuse_alone.result c.refuse_alone.ensures.refused
