use Rattle.std.proofs.Common.{◌∷◌, map, codes, refl, sym, ◌∙◌}
use Rattle.std.proofs.lemmas.Bool.{false≢true}
use Rattle.g1_report.specs.Program.{program_of, kind_said}
use Rattle.g1_report.proofs.Sayings.{name_taken, pushed, same_bytes}
use Rattle.g1_report.proofs.names.Names.add_named.Goals as goal

pub returns : goal.returns
returns c = λ some words of.
    let name = c.args.name in
    let kind = c.args.kind in
    name_taken (program_of c.args.self.now) (codes "object" ∷ name.now ∷ words) (map (λ line. (line.0.now, kind_said line.1)) c.push.new.self.items) name.now (kind_said kind) words
    (pushed (λ line. (line.0.now, kind_said line.1)) c.push.new.self.items c.args.self.now.named.items (name, kind) c.in_ok-push.ensures.items)
    refl
    (λ e. false≢true (sym c.if-eq.false ∙ c.eq.ensures ∙ same_bytes name.now (codes "-") e), λ e. false≢true (sym c.if-eq-2.false ∙ c.eq-else-eq.ensures ∙ same_bytes name.now (codes "..") e)) of some
