use Rattle.std.proofs.Common.{◌≡◌, refl, sym, subst}
use Rattle.std.proofs.ResultArms.{subst_both}
use Rattle.std.specs.Prelude.{Option, IfSome, option_map}
use Rattle.g1_report.specs.declared.reporting.Asked.{Asked}
use Rattle.g1_report.specs.Program.{ProgramNames, program_of, names_told, AreInOrder}
use Rattle.g1_report.specs.Answer.{IsInOrderAll}
use Rattle.g1heap_cli.specs.SameReplies.{AreProgramNames}
use Rattle.g1heap_cli.proofs.Handed.{handed}
use Rattle.g1heap_cli.proofs.Grown.{grows_first}
use Rattle.g1heap_cli.proofs.NamesRead.{told_lent}
use Rattle.g1heap_cli.proofs.sameness.report_on.Goals as goal

-- what the report says
pub returns-in-Ok : goal.returns-in-Ok
returns-in-Ok g c =
    let same = c.args.job.now.same.now in
    let a : Asked = record {
      before = c.args.before;
      after = c.args.after;
      names = c.as_ref.result;
      names_after = c.as_ref-2.result;
      moved = same.moved;
      set = c.as_slice.result;
      fill = same.fill;
      all = same.all;
    } in
    let names = option_map program_of c.args.names.0.now in
    let names_after = option_map program_of c.args.names.1.now in
    let told : names ≡ names_told a.names = sym (told_lent a.names c.args.names.0.now c.as_ref.ensures.value) in
    let told_after : names_after ≡ names_told a.names_after = sym (told_lent a.names_after c.args.names.1.now c.as_ref-2.ensures.value) in
    let order : IsInOrderAll a = record {
      names = subst (λ (o : Option ProgramNames). IfSome o AreInOrder) told c.requires.names;
      names_after = subst (λ (o : Option ProgramNames). IfSome o AreInOrder) told_after c.requires.names_after;
      before = c.requires.before;
      after = c.requires.after;
    } in
    let said = handed a c.in-Ok.status (g.L.Lines.taken c.args.answer.now) (g.L.Lines.taken c.report.new.out) (c.in-Ok.ensures.text order) in
    record {
      said = λ left suits are. record {
        asked = a;
        text = said.0;
        is_before = refl;
        is_after = refl;
        said = record {
          suits = suits;
          asks = record {
            names = subst_both (AreProgramNames same left a.before.now a.after.now) told told_after are;
            moved = refl;
            set = c.as_slice.ensures.value;
            fill = refl;
            all = refl;
          };
          verdict = c.in-Ok.ensures.status;
          by_name = c.in-Ok.ensures.by_name;
          says = said.1;
        };
        taken = said.2;
      };
      refused = tt;
      grown = grows_first (g.L.Lines.taken c.args.answer.now) (g.L.Lines.taken c.report.new.out) c.in-Ok.ensures.grown;
    }
