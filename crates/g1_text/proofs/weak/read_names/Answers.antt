use Rattle.std.proofs.Common.{◌≡◌, ℕ, List, [], ◌∷◌, ◌++◌, Bor, length, map, All, IsUtf8, append-nil, refl, sym, ◌∙◌, ap, subst}
use Rattle.std.specs.Option.{option_map}
use Rattle.std.specs.Map.{lookup}
use Rattle.std.specs.Str.{bytes_eq}
use Rattle.std.proofs.lemmas.List.Elements.{All-nil, All-push}
use Rattle.g1_text.specs.Reading.{words_in, parts_of}
use Rattle.g1_text.specs.Marking.{IsKnown, texts, line_words}
use Rattle.g1_text.proofs.Turns.{parts_left, split_off}
use Rattle.g1_text.proofs.WeakTexts.{next_part, words_more, broken_part}
use Rattle.g1_text.proofs.weak.read_names.Goals as goal

pub lines-init : goal.lines-init
lines-init c = (
  [],
  refl,
  All-nil IsUtf8,
  record {
    roots = ap texts c.new.ensures.items;
    objects = λ name. ap (λ es. option_map line_words (lookup (λ (k : Bor (List ℕ)). bytes_eq name k.now) es)) c.new-2.ensures.empty;
  },
)

pub lines-preserved : goal.lines-preserved
lines-preserved c =
    let text = parts_of c.args.text.now in
    let left = c.in-Some.left.now in
    let behind = c.first_line.result.1 in
    let line = c.first_line.result.0.now in
    let is : parts_of left ≡ _ = split_off (parts_of left) line (length left) behind c.first_line.ensures in
    let h = c.lines.invariant in
    let so_far : text ≡ h.0 ++ parts_left c.lines.rest = h.1 in
    let at : text ≡ h.0 ++ parts_of left = so_far ∙ ap (λ r. h.0 ++ parts_left r) c.in-Some.is in (
      h.0 ++ line ∷ [],
      next_part text h.0 (parts_of left) (parts_left behind) line at is,
      All-push IsUtf8 h.0 line h.2 c.in-Ok.ensures.cases.1,
      subst (λ ls. IsKnown ls c.add.new.self) (words_more h.0 line c.in-Ok.line.now c.in-Ok.ensures.cases.0) (c.in_ok-add.ensures (map words_in h.0) h.3),
    )

pub returns-in_default-from_utf8-clause-utf8 : goal.returns-in_default-from_utf8-clause-utf8
returns-in_default-from_utf8-clause-utf8 c =
    let text = parts_of c.args.text.now in
    let left = c.in-Some.left.now in
    let behind = c.first_line.result.1 in
    let line = c.first_line.result.0.now in
    let h = c.lines.invariant in
    let so_far : text ≡ h.0 ++ parts_left c.lines.rest = h.1 in
    broken_part text h.0 (parts_of left) (parts_left behind) line (so_far ∙ ap (λ r. h.0 ++ parts_left r) c.in-Some.is) (split_off (parts_of left) line (length left) behind c.first_line.ensures)
    c.in_default-from_utf8.ensures.cases.0

pub returns-clause-utf8 : goal.returns-clause-utf8
returns-clause-utf8 c =
    let h = c.lines.invariant in
    let all : parts_of c.args.text.now ≡ h.0 ++ parts_left c.lines.rest = h.1 in
    subst (All IsUtf8) (sym (all ∙ ap (λ r. h.0 ++ parts_left r) c.in_default.is ∙ append-nil h.0)) h.2
