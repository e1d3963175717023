use Rattle.std.proofs.Common.{ℕ, List, ◌∷◌, map, Bor, sym, subst}
use Rattle.std.specs.Prelude.{codes}
use Rattle.g1_text.specs.Forms.{GraphHeading, Sizes, Maybe}
use Rattle.g1_text.proofs.Fronts.{begins_with, same_word}
use Rattle.g1_text.specs.Graphs.{SaysSizes}
use Rattle.g1_text.proofs.ByName.{sizes_within}
use Rattle.g1_text.proofs.named.Lines.begin.Goals as goal

pub returns-clause-form : goal.returns-clause-form
returns-clause-form c =
    let told = map (λ (t : Bor (List ℕ)). t.now) c.args.told.now in
    subst (λ word. GraphHeading (word ∷ told)) (sym (same_word c.args.first.now (codes "graph") c.if-ne.ensures)) (begins_with (codes "graph") (Maybe Sizes) told c.in_ok-self.ensures.form)

pub returns-clause-says : goal.returns-clause-says
returns-clause-says c = λ h.
    let told = map (λ (t : Bor (List ℕ)). t.now) c.args.told.now in
    let s = c.in_ok-self.ensures.says in (
      s.0,
      subst (λ word. SaysSizes s.0 (word ∷ told)) (sym (same_word c.args.first.now (codes "graph") c.if-ne.ensures)) s.2,
      record { sizes = s.1; bounds = sizes_within s.0 _ s.2; roots = h.roots; targets = h.targets; few = h.few; holders = h.holders; entries = h.entries; words = h.words; names = h.names },
    )
