use Rattle.std.proofs.Common.{◌≡◌, ◌∙◌, ◌++◌, ◌-◌, ◌^◌, [], ◌∷◌, length, ap, subst, string_bytes}
use Rattle.std.specs.Prelude.{min, sum_by, codes, decimal, OnOk}
use Rattle.g1_text.specs.Lines.{line_text}
use Rattle.g1_tables.proofs.Summing.{cards_whole}
use Rattle.g1_tables.proofs.overview.push_cards.Goals as goal

pub returns : goal.returns
returns c =
    let i = c.args.image.now in
    let old = string_bytes c.args.text.now in
    let new = string_bytes c.writeln.new.self in
    let dirty = c.len-dirty.ensures.len ∙ ap length c.log.ensures in
    let cards = c.count_cards-remembered.ensures ∙ ap (λ l. min (sum_by length l) (2 ^ 64 - 1)) c.remembered.ensures ∙ cards_whole i c.heap.ensures.valid in
    subst (λ n. OnOk c.writeln.result (new ≡ old ++ line_text (codes "cards" ∷ codes "remembered" ∷ decimal n ∷ codes "dirty" ∷ decimal (length i.log) ∷ []))) cards
    (subst (λ n. OnOk c.writeln.result (new ≡ old ++ line_text (codes "cards" ∷ codes "remembered" ∷ decimal c.count_cards-remembered.result ∷ codes "dirty" ∷ decimal n ∷ []))) dirty
    c.writeln.ensures.bytes)
