use Rattle.std.proofs.Common.{refl, ℕ, List, [], ◌∷◌, ◌++◌, map, length-append, Bor, arith}
use Rattle.std.specs.Option.{option_copied}
use Rattle.std.proofs.lemmas.List.Elements.{All-push}
use Rattle.g1_text.specs.Graphs.{NamedRoot, IsTargetName}
use Rattle.std.specs.Prelude.{codes}
use Rattle.g1_text.specs.Forms.{Word, Single, Maybe, IsName, IsTarget, ◌▸◌}
use Rattle.g1_text.proofs.Fronts.{begins_with}
use Rattle.g1_text.proofs.ByName.{target_of, root_said, root_count, roots_more, holders_more, word_of_target}
use Rattle.g1_text.proofs.named.Lines.add_root.Goals as goal

pub returns-clause-form : goal.returns-clause-form
returns-clause-form c =
    begins_with (codes "root") (Single IsTarget ▸ Maybe (Word (codes "as") ▸ Single IsName)) (map (λ (t : Bor (List ℕ)). t.now) c.args.words.now) c.in_ok-name.ensures.form

pub returns-clause-says : goal.returns-clause-says
returns-clause-says c = λ g h.
    let name = c.in_ok-name.name in
    let read = c.in_ok-name.ensures in
    let root = root_said name c.in_ok-name.holder (map (λ (t : Bor (List ℕ)). t.now) c.args.words.now) read.words read.target read.holder in
    let r : NamedRoot = record { target = target_of name.now; holder = option_copied c.in_ok-name.holder } in
    let count = root_count c.args.self.now.roots.items g.roots h.roots in (
      record g { roots = g.roots ++ r ∷ [] },
      (r, root, omega (arith, count), refl),
      record {
        sizes = h.sizes;
        bounds = h.bounds;
        roots = roots_more c.args.self.now.roots.items _ g.roots r c.args.number name h.roots c.in_ok-push.ensures.items (word_of_target name.now);
        targets = All-push (λ (x : NamedRoot). IsTargetName x.target) g.roots r h.targets root.target;
        few = omega (arith, count, length-append g.roots (r ∷ []));
        holders = holders_more _ _ g.roots r c.len-2.result h.holders c.in_ok-keep_holder.ensures (omega (arith, count, c.len-2.ensures));
        entries = h.entries;
        words = h.words;
        names = h.names;
      },
    )
