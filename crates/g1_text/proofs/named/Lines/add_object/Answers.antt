use Rattle.std.proofs.Common.{◌≡◌, ◌++◌, false, sym, ◌∙◌, subst, ℕ, List, [], ◌∷◌, map, Bor, refl, ap}
use Rattle.std.specs.Prelude.{codes}
use Rattle.std.specs.List.{list_any}
use Rattle.std.specs.Str.{bytes_eq}
use Rattle.std.proofs.lemmas.Bool.{not-true}
use Rattle.g1_text.specs.Forms.{Single, IsName, IsTarget, SizeAndWords, ◌▸◌}
use Rattle.g1_text.proofs.Fronts.{begins_with}
use Rattle.g1_text.proofs.Boxing.{keys_any}
use Rattle.g1_text.proofs.ByName.{object_said, entries_more, is_new_name, words_more, names_more}
use Rattle.g1_text.specs.declared.placing.Entry.{Entry}
use Rattle.g1_text.specs.ByName.{IsEntryOf}
use Rattle.g1_text.specs.Graphs.{IsNewName, NamedObject}
use Rattle.g1_text.proofs.named.Lines.add_object.Goals as goal

pub returns-clause-form : goal.returns-clause-form
returns-clause-form c =
    let texts = map (λ (t : Bor (List ℕ)). t.now) in
    let name = c.in-Some.name.now.now in
    let size = c.in-Some-split_first.size.now.now in
    let within = c.in_ok-size.ensures.within in
    begins_with (codes "object") (Single IsName ▸ SizeAndWords IsTarget) (texts c.args.words.now) (
      name ∷ [],
      texts c.in-Some.rest.now,
      ap texts c.in-Some.ensures.cases.0,
      (name, refl, c.in_ok-check_name.ensures.name),
      (
        c.in_ok-size.size,
        c.in_ok-size.slots,
        within.0,
        within.1,
        (size ∷ [], texts c.in-Some-split_first.content.now, ap texts c.in-Some-split_first.ensures.cases.0, (size, refl, c.in_ok-size.ensures.form), c.in_ok-check_content.ensures.form within.0),
      ),
    )

pub returns-clause-says : goal.returns-clause-says
returns-clause-says c = λ g line h.
    let texts = map (λ (t : Bor (List ℕ)). t.now) in
    let name = c.in-Some.name.now.now in
    let size = c.in-Some-split_first.size.now.now in
    let within = c.in_ok-size.ensures.within in
    let content = texts c.in-Some-split_first.content.now in
    let words = sym line ∙ ap (λ ws. codes "object" ∷ ws) (ap texts c.in-Some.ensures.cases.0 ∙ ap (λ ws. name ∷ ws) (ap texts c.in-Some-split_first.ensures.cases.0)) in
    let o = object_said name size c.in_ok-size.size c.in_ok-size.slots content _ c.in_ok-check_name.ensures.name within.0 within.1 c.in_ok-size.ensures.form (c.in_ok-check_content.ensures.fills within.0) words in
    let e : Entry = record { size = c.in_ok-size.size; slots = c.in_ok-size.slots; number = c.args.number; line = c.args.line } in
    let entry : IsEntryOf e o.0 = record { size = o.2; slots = o.3; line = o.4 } in
    let keys = c.args.self.now.names.keys in
    let fresh : list_any (λ (k : Bor (List ℕ)). bytes_eq name k.now) keys ≡ false = not-true _ (sym c.in_ok-insert.ensures.added ∙ c.if-not-branch.false) in
    let none : list_any (bytes_eq name) (map (λ (x : NamedObject). x.name) g.objects) ≡ false = ap (list_any (bytes_eq name)) (sym h.names) ∙ sym (keys_any name keys) ∙ fresh in (
      record g { objects = g.objects ++ o.0 ∷ [] },
      (o.0, o.4, subst (λ n. IsNewName n g) o.1 (is_new_name name g.objects none), refl),
      record {
        sizes = h.sizes;
        bounds = h.bounds;
        roots = h.roots;
        targets = h.targets;
        few = h.few;
        holders = h.holders;
        entries = entries_more c.args.self.now.entries.items _ g.objects e o.0 h.entries c.in_ok-push.ensures.items entry;
        words = words_more c.args.self.now.words c.saturating_add-self.result c.from.result g o.0 h.words c.saturating_add-self.ensures (c.from.ensures ∙ o.2);
        names = names_more keys _ c.in-Some.name.now g.objects o.0 h.names o.1 fresh c.in_ok-insert.ensures.keys;
      },
    )
