use Rattle.std.proofs.Common.{◌≡◌, ℕ, List, ◌++◌, ap, sym, subst, ◌∙◌}
use Rattle.std.proofs.lemmas.Fmt.{contents_after_writes}
use Rattle.std.proofs.KnownBytes.{Appends-nil}
use Rattle.std.specs.Prelude.{codes, decimal}
use Rattle.g1_words.specs.Fault.{number_of, fault_text}
use Rattle.g1_words.specs.declared.fault.Fault.{Fault}
use Rattle.g1_command.specs.declared.refusal.Refusal.{Refusal}
use Rattle.g1_command.specs.declared.refusal.Refusal.TheVariants as refusal
use Rattle.g1_command.specs.Deliveries.{Delivers}
use Rattle.g1_command.specs.Refusals.{refusal_text}
use Rattle.g1_command.proofs.refusal.report.Goals as goal

-- the line that begins with a number, if that is the fault's
abbrev line_of : List ℕ → Fault → ℕ → List ℕ
line_of program f n = program ++ (codes ": fault " ++ (decimal n ++ (codes ": " ++ (fault_text f ++ codes "\n"))))

line_told : (program : List ℕ) (r : Refusal) (f : Fault) (n : ℕ) → r ≡ refusal.Fault f → n ≡ number_of f → line_of program f n ≡ refusal_text program r
line_told program r f n is number = ap (line_of program f) number ∙ ap (refusal_text program) (sym is)

pub returns-in-Ok : goal.returns-in-Ok
returns-in-Ok g c =
    let program = c.args.program.now in
    let f = c.in-Fault.fault in
    let n = c.number-number.result in
    let wrote = contents_after_writes _ (λ s. s.bytes) (λ w l v t. t) c.new-line.result (line_of program f n) c.writeln.new.self c.in-Ok.ensures.writes in
    let line = c.as_bytes-in-Ok.ensures.value ∙ (c.deref.ensures.0 ∙ (wrote ∙ ap (λ l. l ++ line_of program f n) c.new-line.ensures)) in
    subst (λ l. Delivers l (g.E.Write.contents c.args.errors.now) (g.E.Write.contents c.write_all-in-Ok.new.writer) c.write_all-in-Ok.result)
    (line ∙ line_told program c.args.refusal.now f n c.in-Fault.is c.number-number.ensures)
    c.write_all-in-Ok.ensures

-- nothing is written
pub returns-in-Err : goal.returns-in-Err
returns-in-Err g c = (0, Appends-nil (g.E.Write.contents c.args.errors.now))
