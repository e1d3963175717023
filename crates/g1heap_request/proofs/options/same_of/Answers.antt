use Rattle.std.proofs.Common.{inl, refl}
use Rattle.std.specs.Prelude.{codes}
use Rattle.clap.specs.Words.{found_of}
use Rattle.g1heap_request.proofs.Got.{flag_got}
use Rattle.std.proofs.lemmas.Result.{err_from_is_err_and}
use Rattle.g1_command.proofs.Got.{because_so}
use Rattle.g1heap_request.specs.Wrong.HasWrongValue.{read_twice}
use Rattle.g1heap_request.proofs.options.same_of.Goals as goal

pub returns-clause-asks : goal.returns-clause-asks
returns-clause-asks c = (
  refl,
  record {
    before = c.in_ok-name_of.ensures;
    after = c.in_ok-name_of-2.ensures;
    limits = c.in_ok-limits_of.ensures.limits;
    covered = flag_got (found_of c.args.values.now) (codes "covered") c.get_flag.result c.get_flag.ensures.none c.get_flag.ensures.value c.get_flag.ensures.other;
    young = c.in_ok-young_of.ensures.young;
    set = c.in_ok-set_of.ensures.set;
    fill = c.in_ok-fill_of.ensures.fill;
    names = c.in_ok-name_if_given.ensures;
    names_after = c.in_ok-names_after_of.ensures.names;
    moved = flag_got (found_of c.args.values.now) (codes "moved") c.get_flag-2.result c.get_flag-2.ensures.none c.get_flag-2.ensures.value c.get_flag-2.ensures.other;
    all = c.in_ok-all_of.ensures.count;
    covers_young = c.in_ok-young_of.ensures.covers;
    fills_of_set = c.in_ok-fill_of.ensures.of_set;
    names_both = c.in_ok-names_after_of.ensures.both;
    once = c.in_ok-check_compared.ensures.once;
  },
)

pub returns-in_err-check_compared-clause-refused : goal.returns-in_err-check_compared-clause-refused
returns-in_err-check_compared-clause-refused c =
    let p = err_from_is_err_and c.from_residual.result c.from_residual.ensures.1 in
    rw (p.1, p.2) (because_so (λ k. read_twice (inl k)) c.in_err-check_compared.field-0.0 c.in_err-check_compared.ensures.refused)
