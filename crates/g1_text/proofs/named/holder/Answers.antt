use Rattle.std.proofs.Common.{◌≡◌, ℕ, List, [], ◌∷◌, map, Bor, refl, sym, ◌∙◌, ap, subst}
use Rattle.std.specs.Prelude.{codes}
use Rattle.g1_text.specs.Forms.{Form, Word, Single, IsName, ◌▸◌}
use Rattle.g1_text.proofs.Fronts.{begins_with, same_word, not_word, no_words, if_some}
use Rattle.g1_text.proofs.named.holder.Goals as goal

pub returns-in-Some-default-empty : goal.returns-in-Some-default-empty
returns-in-Some-default-empty c =
    let texts = map (λ (t : Bor (List ℕ)). t.now) in
    let holder = c.in-Some-default-empty.holder.now.now in
    let rest : texts c.in-Some.rest.now ≡ holder ∷ [] =
    ap texts c.in-Some-default-empty.ensures.cases.0 ∙ ap (λ ws. holder ∷ texts ws) (no_words c.in-Some-default-empty.field-0-1.now c.in-Some-default-empty.len_below) in
    let all : texts c.args.words.now ≡ codes "as" ∷ holder ∷ [] =
    ap texts c.in-Some.ensures.cases.0 ∙ (λ i. same_word c.in-Some.first.now.now (codes "as") c.if-ne.ensures i ∷ rest i) in
    let form : Form = Word (codes "as") ▸ Single IsName in
    let named : IsName holder = (not_word holder (codes "-") c.if-ne-2.ensures, not_word holder (codes "..") c.if-ne-3.ensures) in
    record {
      words = all;
      name = named;
      other = tt;
      form = if_some form (texts c.args.words.now) (subst form (sym all) (begins_with (codes "as") (Single IsName) (holder ∷ []) (holder, refl, named)));
    }
