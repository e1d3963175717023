use Rattle.std.proofs.Common.{refl}
use Rattle.std.specs.Prelude.{codes}
use Rattle.clap.specs.Words.{found_of}
use Rattle.g1heap_request.proofs.Got.{flag_got}
use Rattle.std.proofs.lemmas.Result.{err_from_is_err_and}
use Rattle.g1_command.proofs.Got.{because_so}
use Rattle.g1heap_request.specs.Wrong.HasWrongValue.{alone}
use Rattle.g1heap_request.specs.Wrong.IsRefused.{by_file, by_value}
use Rattle.g1heap_request.proofs.dump.convert_of.Goals as goal

pub returns-clause-asks : goal.returns-clause-asks
returns-clause-asks c = (
  refl,
  record {
    dump = c.in_ok-name_of.ensures;
    from = c.in_ok-words_of.ensures;
    without = c.in_ok-words_of-2.ensures;
    weak = flag_got (found_of c.args.values.now) (codes "weak") c.get_flag.result c.get_flag.ensures.none c.get_flag.ensures.value c.get_flag.ensures.other;
    dangling_null = flag_got (found_of c.args.values.now) (codes "dangling-null") c.get_flag-2.result c.get_flag-2.ensures.none c.get_flag-2.ensures.value c.get_flag-2.ensures.other;
    blank = flag_got (found_of c.args.values.now) (codes "blank") c.get_flag-3.result c.get_flag-3.ensures.none c.get_flag-3.ensures.value c.get_flag-3.ensures.other;
    names = c.in_ok-names_made_of.ensures.names;
    sizes = c.in_ok-sizes_of.ensures.sizes;
    of_part = c.in_ok-check_part.ensures.part;
    file = c.in_ok-names_made_of.ensures.file;
    output = c.in_ok-output_of.ensures;
  },
)

pub returns-in_err-check_part-clause-refused : goal.returns-in_err-check_part-clause-refused
returns-in_err-check_part-clause-refused c =
    let p = err_from_is_err_and c.from_residual.result c.from_residual.ensures.1 in
    rw (p.1, p.2) (because_so (λ k. by_value (alone k)) c.in_err-check_part.field-0.0 c.in_err-check_part.ensures.refused)

pub returns-in_err-names_made_of-clause-refused : goal.returns-in_err-names_made_of-clause-refused
returns-in_err-names_made_of-clause-refused c =
    let p = err_from_is_err_and c.from_residual-in_err-names_made_of.result c.from_residual-in_err-names_made_of.ensures.1 in
    rw (p.1, p.2) (because_so (λ k. by_file refl k) c.in_err-names_made_of.field-0.0 c.in_err-names_made_of.ensures.refused)

pub returns-in_err-sizes_of-clause-refused : goal.returns-in_err-sizes_of-clause-refused
returns-in_err-sizes_of-clause-refused c =
    let p = err_from_is_err_and c.from_residual-in_err-sizes_of.result c.from_residual-in_err-sizes_of.ensures.1 in
    rw (p.1, p.2) (because_so (λ k. by_value k) c.in_err-sizes_of.field-0.0 c.in_err-sizes_of.ensures.refused)
