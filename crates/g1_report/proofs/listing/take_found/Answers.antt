use Rattle.std.proofs.Common.{◌∷◌, ◌++◌, ◌∙◌, refl, ap, subst}
use Rattle.std.specs.Io.KnownBytes.{Appends}
use Rattle.g1_same.specs.Behind.{ShowsAt}
use Rattle.g1_report.specs.Listed.{found_line}
use Rattle.g1_report.specs.Given.{compared}
use Rattle.g1_report.proofs.Passed.{of_heaps}
use Rattle.g1_report.proofs.Behind.{takes_line}
use Rattle.g1_report.proofs.listing.take_found.Goals as goal

pub returns-clause-line : goal.returns-clause-line
returns-clause-line g c = λ h.
    let s = compared c.args.sides in
    let f = c.args.found.now in
    let p = c.in_ok-path.path in
    let old = g.L.Lines.taken c.args.out.now in
    let new = g.L.Lines.taken c.take.new.self in
    let line = found_line s p.root p.slots.items f.what f.place.before f.place.after in
    let shows = of_heaps (λ x y. ShowsAt x y (p.root ∷ p.slots.items) f) c.args.walk.now.before.now c.args.sides.heaps.before.now c.args.walk.now.after.now c.args.sides.heaps.after.now
    c.requires.before c.requires.after c.in_ok-path.ensures.shows in
    let is = c.as_str.ensures.value ∙ (c.in_ok-push_found_line.ensures h ∙ ap (λ xs. xs ++ line) c.clear.ensures.bytes) in
    takes_line s old new line (p.root, p.slots.items, f, shows, refl) (subst (λ l. Appends old new l) is c.in_ok-take.ensures.ok)
