use Rattle.std.proofs.Common.{◌≡◌, ◌<◌, ◌^◌, ◌+◌, ℕ, List, [], ◌∷◌, ◌++◌, length, get_or, drop, take, append-nil, append_assoc, refl, sym, ◌∙◌, ap, subst, arith}
use Rattle.std.specs.Prelude.{codes}
use Rattle.std.specs.List.{AllZip}
use Rattle.std.proofs.lemmas.List.{take_more, take_all}
use Rattle.std.proofs.lemmas.Slice.Zip.{AllZip-long}
use Rattle.g1_text.proofs.Results.{ok_one, not_both, word_read}
use Rattle.g1_text.specs.Forms.{Spells, IsBelow, Word}
use Rattle.g1_text.specs.Short.{TellsCards}
use Rattle.g1_text.proofs.Fronts.{none_read, one_more_read, all_read}
use Rattle.g1_text.proofs.Pushing.{zip_at}
use Rattle.g1_text.proofs.Spelled.{front_and_rest, word_front, next_word}
use Rattle.g1_text.proofs.reading.add_cards.Goals as goal

-- the words behind the first one
cards_behind : (xs : List ℕ) (words behind : List (List ℕ)) → words ≡ codes "cards" ∷ behind → TellsCards xs words → AllZip (Spells (2 ^ 32)) xs behind
cards_behind xs words behind e told =
    let parts = front_and_rest (Word (codes "cards")) (AllZip (Spells (2 ^ 32)) xs) told in
    subst (AllZip (Spells (2 ^ 32)) xs) (ap (drop 1) (sym (word_front (codes "cards") parts.1) ∙ e)) parts.2

within : (xs : List ℕ) (words : List (List ℕ)) (i end : ℕ) → AllZip (Spells (2 ^ 32)) xs words → end ≡ length words → i < end → (i < length xs) × (i < length words)
within xs words i end all count inside = let l = AllZip-long (Spells (2 ^ 32)) xs words all in (omega (arith, l, count, inside), omega (arith, count, inside))

pub loop-init : goal.loop-init
loop-init c = ((λ xs all. (sym (append-nil c.word.new.self), sym (append-nil c.args.cards.now.items))), none_read (IsBelow (2 ^ 32)) c.word.new.self, omega arith)

pub returns-in_err-card-clause-short : goal.returns-in_err-card-clause-short
returns-in_err-card-clause-short c = λ xs told.
    let i = c.loop.counter in
    let words = c.word.new.self in
    let all = cards_behind xs c.args.words words (word_read c.word.result c.args.words words c.in_ok-word.was c.word.ensures) told in
    let now = (c.loop.invariant.0 xs all).0 in
    let lt = within xs words i c.len-end.result all c.len-end.ensures c.loop-test.true in
    absurd (not_both c.in_err-card.was (c.short_number.ensures.full (get_or xs i 0) (get_or words i []) (drop (i + 1) words ++ []) (zip_at (Spells (2 ^ 32)) xs words i 0 [] all lt.0) (now ∙ next_word words [] i lt.1)).0)

pub loop-preserved : goal.loop-preserved
loop-preserved c = (
  (λ xs all.
      let i = c.loop.counter in
      let words = c.word.new.self in
      let kept = c.loop.invariant.0 xs all in
      let lt = within xs words i c.len-end.result all c.len-end.ensures c.loop-test.true in
      let short = c.short_number.ensures.full (get_or xs i 0) (get_or words i []) (drop (i + 1) words ++ []) (zip_at (Spells (2 ^ 32)) xs words i 0 [] all lt.0) (kept.0 ∙ next_word words [] i lt.1) in
      let same = ok_one c.in_ok-card.was short.0 in (
        short.1,
        c.in_ok-push.ensures.items ∙ ap (λ ys. ys ++ c.in_ok-card.card ∷ []) kept.1 ∙ append_assoc c.args.cards.now.items (take i xs) (c.in_ok-card.card ∷ [])
            ∙ ap (λ ys. c.args.cards.now.items ++ ys) (ap (λ x. take i xs ++ x ∷ []) same ∙ sym (take_more xs i 0 lt.0)),
      )),
  one_more_read (IsBelow (2 ^ 32)) c.loop.counter c.loop.invariant.1 (c.in_ok-card.ensures.digits.0, c.in_ok-card.ensures.digits.1, (c.in_ok-card.card, c.in_ok-card.ensures.digits.2)),
  omega (arith, c.loop-test.true, c.len-end.ensures),
)

pub returns-clause-short : goal.returns-clause-short
returns-clause-short c = λ xs told.
    let words = c.word.new.self in
    let all = cards_behind xs c.args.words words (word_read c.word.result c.args.words words c.in_ok-word.was c.word.ensures) told in
    let kept = c.loop.invariant.0 xs all in
    let l = AllZip-long (Spells (2 ^ 32)) xs words all in
    kept.1 ∙ ap (λ ys. c.args.cards.now.items ++ ys) (take_all c.loop.counter xs (omega (arith, l, c.len-end.ensures, c.loop-test.false)))

pub returns-clause-form : goal.returns-clause-form
returns-clause-form c =
    let words = word_read c.word.result c.args.words c.word.new.self c.in_ok-word.was c.word.ensures in
    let count : c.loop.counter ≡ length c.word.new.self = omega (arith, c.loop.invariant.2, c.loop-test.false, c.len-end.ensures) in
    (codes "cards" ∷ [], c.word.new.self, words, refl, all_read (IsBelow (2 ^ 32)) c.loop.counter c.loop.invariant.1 count)
