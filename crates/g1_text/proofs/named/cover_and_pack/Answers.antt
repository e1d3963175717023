use Rattle.std.proofs.Common.{Vec, Global, ◌<◌, ◌^◌, ℕ, length, ◌∙◌, ap, subst, arith}
use Rattle.std.specs.Prelude.{All}
use Rattle.std.proofs.lemmas.List.Elements.{All-map}
use Rattle.g1_image.specs.Text.{file_text}
use Rattle.g1_image.specs.Parts.{CountsFit}
use Rattle.g1_text.specs.Content.{Content, file_with}
use Rattle.g1_text.specs.Drafts.{content}
use Rattle.g1_text.proofs.named.cover_and_pack.Goals as goal

pub returns-clause-text : goal.returns-clause-text
returns-clause-text c = λ few_roots few_cards.
    let covered = content c.cover.new.draft in
    let kept = c.in_ok-cover.ensures.kept in
    let roots = ap (λ (x : Content). length x.roots) kept in
    let log = ap (λ (x : Content). length x.log) kept in
    let few : CountsFit (file_with covered) = record {
      roots = omega (arith, roots, few_roots);
      log = omega (arith, log, few_cards);
      remembered = All-map (λ cards. length cards < 2 ^ 32) (λ (v : Vec ℕ Global). v.items) c.cover.new.draft.remembered.items
          (subst (All (λ (v : Vec ℕ Global). length v.items < 2 ^ 32)) c.as_slice.ensures.value c.in_default.ensures);
    } in
    (covered.remembered, c.in_ok-text.ensures few ∙ ap (λ x. file_text (file_with x)) kept)
