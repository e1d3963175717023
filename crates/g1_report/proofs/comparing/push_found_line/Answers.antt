use Rattle.std.proofs.Common.{◌≡◌, ◌∷◌, ◌++◌, sym, subst, string_bytes}
use Rattle.std.proofs.lemmas.Result.{on_ok_weaker}
use Rattle.g1_words.specs.Valid.{IsReference}
use Rattle.g1_same.specs.Ends.{AreFoundValues}
use Rattle.g1_same.proofs.Following.{end_names}
use Rattle.g1_report.specs.Wording.{place_line, stale_line}
use Rattle.g1_report.specs.Listed.{found_line}
use Rattle.g1_report.specs.Given.{compared}
use Rattle.g1_same.proofs.Held.{before_valid, after_valid}
use Rattle.g1_report.proofs.comparing.push_found_line.Goals as goal

pub push_how_line-requires-clause-values : goal.push_how_line-requires-clause-values
push_how_line-requires-clause-values c = subst (λ w. AreFoundValues c.args.sides.heaps.before.now c.args.sides.heaps.after.now w c.ends_at-ends.result) c.in-How.is c.ends_at-ends.ensures.values

pub push_how_line-requires-clause-before : goal.push_how_line-requires-clause-before
push_how_line-requires-clause-before c =
    let g = c.args.sides.heaps.before.now in
    subst (IsReference g) (sym c.ends_at-ends.ensures.words.0)
    (end_names g (before_valid c.args.sides.heaps) (c.args.path.now.root ∷ c.args.path.now.slots.items) c.args.found.now.place.before c.requires.0.0)

pub push_how_line-requires-clause-after : goal.push_how_line-requires-clause-after
push_how_line-requires-clause-after c =
    let h = c.args.sides.heaps.after.now in
    subst (IsReference h) (sym c.ends_at-ends.ensures.words.1)
    (end_names h (after_valid c.args.sides.heaps) (c.args.path.now.root ∷ c.args.path.now.slots.items) c.args.found.now.place.after c.requires.0.1)

pub push_stale_line-requires : goal.push_stale_line-requires
push_stale_line-requires c =
    let g = c.args.sides.heaps.before.now in
    subst (IsReference g) (sym c.ends_at-ends.ensures.words.0)
    (end_names g (before_valid c.args.sides.heaps) (c.args.path.now.root ∷ c.args.path.now.slots.items) c.args.found.now.place.before c.requires.0.0)

pub returns-in-Stale : goal.returns-in-Stale
returns-in-Stale c = λ h.
    let s = compared c.args.sides in
    let f = c.args.found.now in
    let root = c.args.path.now.root in
    let slots = c.args.path.now.slots.items in
    let old = string_bytes c.args.text.now in
    let new = string_bytes c.push_stale_line.new.text in
    on_ok_weaker c.push_stale_line.result
    (λ e. subst (λ w. new ≡ old ++ found_line s root slots w f.place.before f.place.after) (sym c.in-Stale.is)
    (subst (λ x. new ≡ old ++ stale_line s root slots x c.in-Stale.word) c.ends_at-ends.ensures.words.0
    (subst (λ l. new ≡ old ++ stale_line s root l c.ends_at-ends.result.before c.in-Stale.word) c.as_slice.ensures.value e)))
    (c.push_stale_line.ensures h)

pub returns-in-How : goal.returns-in-How
returns-in-How c = λ h.
    let s = compared c.args.sides in
    let f = c.args.found.now in
    let root = c.args.path.now.root in
    let slots = c.args.path.now.slots.items in
    let old = string_bytes c.args.text.now in
    let new = string_bytes c.push_how_line.new.text in
    let x = c.ends_at-ends.result.before in
    let y = c.ends_at-ends.result.after in
    on_ok_weaker c.push_how_line.result
    (λ e. subst (λ w. new ≡ old ++ found_line s root slots w f.place.before f.place.after) (sym c.in-How.is)
    (subst (λ b. new ≡ old ++ place_line s root slots c.in-How.how f.place.before b) c.ends_at-ends.ensures.words.1
    (subst (λ a. new ≡ old ++ place_line s root slots c.in-How.how a y) c.ends_at-ends.ensures.words.0
    (subst (λ l. new ≡ old ++ place_line s root l c.in-How.how x y) c.as_slice.ensures.value e))))
    (c.push_how_line.ensures h)
