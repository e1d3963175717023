use Rattle.std.proofs.Common.{◌≡◌, ◌<◌, ◌^◌, ◌+◌, ◌++◌, [], ◌∷◌, length, map, take, append-nil, append_assoc, sym, ap, ◌∙◌, subst, arith}
use Rattle.std.proofs.lemmas.List.{map-append, take_all, take_more}
use Rattle.std.proofs.lemmas.List.Concat.{flat_map-append}
use Rattle.g1_image.specs.Text.{remembered_text, remembered_texts}
use Rattle.g1_image.proofs.Images.{All-at_map}
use Rattle.g1_image.proofs.writing.push_remembered.Goals as goal

pub loop-cards-init : goal.loop-cards-init
loop-cards-init c = λ fit. sym (append-nil c.args.out.now.items)

pub loop-cards-preserved : goal.loop-cards-preserved
loop-cards-preserved c = λ fit.
    let sets = c.args.remembered.now in
    let i = c.loop-cards.cards-index in
    let x = c.cards-item.result in
    let fits : length x.items < 2 ^ 32 = All-at_map (λ s. length s < 2 ^ 32) (λ s. s.items) sets i x fit c.loop-cards-test.true c.cards-item.is in
    let before = remembered_texts (map (λ s. s.items) (take i sets)) in
    let more = take_more sets i x c.loop-cards-test.true ∙ ap (λ y. take i sets ++ y ∷ []) (sym c.cards-item.is) in
    let texts : remembered_texts (map (λ s. s.items) (take (i + 1) sets)) ≡ before ++ remembered_text x.items =
    ap (λ l. remembered_texts (map (λ s. s.items) l)) more ∙ ap (λ l. remembered_texts l) (map-append (λ s. s.items) (take i sets) (x ∷ []))
    ∙ flat_map-append remembered_text (map (λ s. s.items) (take i sets)) (x.items ∷ []) ∙ ap (λ l. before ++ l) (append-nil (remembered_text x.items)) in
    let pushed : c.push_remembered_cards.new.out.items ≡ c.loop-cards.out.items ++ remembered_text c.deref.result.now =
    c.in_ok-push_remembered_cards.ensures (subst (λ l. length l < 2 ^ 32) (sym c.deref.ensures.value) fits) in
    pushed ∙ (λ t. c.loop-cards.invariant fit t ++ remembered_text (c.deref.ensures.value t)) ∙ append_assoc c.args.out.now.items before (remembered_text x.items)
    ∙ ap (λ l. c.args.out.now.items ++ l) (sym texts)

pub returns : goal.returns
returns c = λ fit.
    c.loop-cards.invariant fit
    ∙ ap (λ l. c.args.out.now.items ++ remembered_texts (map (λ s. s.items) l)) (take_all c.loop-cards.cards-index c.args.remembered.now c.loop-cards-test.false)

pub loop-cards-smaller : goal.loop-cards-smaller
loop-cards-smaller c = omega (arith, c.loop-cards-test.true)
