use Rattle.std.proofs.Common.{◌∷◌, map, codes, refl, sym, ◌∙◌}
use Rattle.g1_report.specs.Program.{program_of, text_lines, kind_said}
use Rattle.g1_report.proofs.Sayings.{address_taken, pushed, no_labels}
use Rattle.g1_report.proofs.SaysNothing.{some_labels}
use Rattle.g1_report.proofs.names.Names.add_kind.Goals as goal

pub returns-then-is_some : goal.returns-then-is_some
returns-then-is_some c = λ words of.
    c.add_named.ensures (some_labels (λ labels. text_lines labels.now) c.args.self.now.labels_before (sym c.is_some.ensures ∙ c.if-is_some.true)) words of

pub returns : goal.returns
returns c = λ words of.
    let kind = c.args.kind in
    address_taken (program_of c.args.self.now) (codes "object" ∷ c.args.address.now ∷ words) (map (λ line. (line.0, kind_said line.1)) c.push.new.self.items) c.in-Some.address c.args.address.now (kind_said kind) words
    (pushed (λ line. (line.0, kind_said line.1)) c.push.new.self.items c.args.self.now.objects.items (c.in-Some.address, kind) c.in_ok-push.ensures.items)
    refl c.in-Some.ensures of (no_labels (λ labels. text_lines labels.now) c.args.self.now.labels_before (sym c.is_some.ensures ∙ c.if-is_some.false))
