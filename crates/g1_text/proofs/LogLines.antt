-- Each card of the log has the number of its line.
use Rattle.std.proofs.Common.{◌≡◌, ℕ, ◌+◌, ◌^◌, false, List, [], ◌∷◌, ◌++◌, length, length-append, refl, ◌∙◌, ap, arith}
use Rattle.std.specs.Prelude.{Some, None, codes}
use Rattle.std.proofs.lemmas.List.{length-replicate}
use Rattle.std.proofs.lemmas.Slice.Zip.{AllZip-long}
use Rattle.g1_text.specs.Reading.{says_something, parts_of, lines_in}
use Rattle.g1_text.specs.Forms.{Spells}
use Rattle.g1_text.specs.Content.{Content}
use Rattle.g1_text.specs.Short.{Short, RootAs, DirtyAs, Covered, RegionAs, RememberedAs, ObjectAs, IsShortLine, Gives, BeginsShort, TellsAll, Closes, Skips}
use Rattle.g1_text.specs.Late.{begins_with, cards_if, numbers_of_cards, numbers_in}
use Rattle.g1_text.proofs.LineCounts.{skips_kept, as_many_lines}
use Rattle.g1_text.proofs.Numbered.{not_word, card_numbers}

abbrev card_count : Content → ℕ
card_count c = length c.log

skips_log : (c : Content) (on free : ℕ) (d : Content) → Skips c on free d → length d.log ≡ length c.log
skips_log = skips_kept card_count (λ c rs beyond. refl)

-- how many numbers a line has
abbrev AddsCards : List (List ℕ) → ℕ → ℕ → ℕ → Type 0
AddsCards words n before after = before + length (card_numbers words n) ≡ after

-- a line of these words adds so many
so_many : (words : List (List ℕ)) (n count : ℕ) → cards_if (begins_with (codes "dirty") words) words ≡ count → length (card_numbers words n) ≡ count
so_many words n count e = length-replicate {A = ℕ} (cards_if (begins_with (codes "dirty") words) words) n ∙ e

other_line : (words rest : List (List ℕ)) (word : List ℕ) (n before after : ℕ) → words ≡ word ∷ rest → begins_with (codes "dirty") (word ∷ rest) ≡ false → after ≡ before → AddsCards words n before after
other_line words rest word n before after e other same =
    let none = so_many words n 0 (ap (λ ws. cards_if (begins_with (codes "dirty") ws) ws) e ∙ ap (λ b. cards_if b (word ∷ rest)) other) in
    omega (arith, none, same)

dirty_adds : (words : List (List ℕ)) (cards : List ℕ) (n before after : ℕ) → IsShortLine (DirtyAs cards) words → after ≡ before + length cards → AddsCards words n before after
dirty_adds words cards n before after (front, rest, e, first, (mark, behind, f, cards_word, all)) more =
    let is : words ≡ codes "dirty" ∷ codes "cards" ∷ behind = e ∙ ap (λ x. x ++ rest) first ∙ ap (λ x. codes "dirty" ∷ x) (f ∙ ap (λ x. x ++ behind) cards_word) in
    let count = so_many words n (length behind) (ap (λ ws. cards_if (begins_with (codes "dirty") ws) ws) is) in
    let long = AllZip-long (Spells (2 ^ 32)) cards behind all in
    omega (arith, count, long, more)

short_line : (l : Short) (c d : Content) (words : List (List ℕ)) (n : ℕ) → IsShortLine l words → Gives c l d → AddsCards words n (length c.log) (length d.log)
short_line (RootAs m x) c d words n is (k, told, takes) =
    let e = is.2 ∙ ap (λ f. f ++ is.1) is.3 in
    other_line words is.1 (codes "root") n (length c.log) (length d.log) e refl (ap (λ (s : Content). length s.log) takes.3)
short_line (DirtyAs cards) c d words n is gives = dirty_adds words cards n (length c.log) (length d.log) is (ap (λ (s : Content). length s.log) gives.1 ∙ length-append c.log cards)
short_line Covered c d words n is gives = other_line words [] (codes "covered") n (length c.log) (length d.log) is refl (ap (λ (s : Content). length s.log) gives)
short_line (RegionAs r k t o m p) c d words n is gives =
    let e = is.2 ∙ ap (λ f. f ++ is.1) is.3 in
    let skipped = skips_log c gives.0 gives.1 gives.2 gives.4 in
    other_line words is.1 (codes "region") n (length c.log) (length d.log) e refl (ap (λ (s : Content). length s.log) gives.9 ∙ skipped)
short_line (RememberedAs r cards) c d words n is gives =
    let e = is.2 ∙ ap (λ f. f ++ is.1) is.3 in
    other_line words is.1 (codes "remembered") n (length c.log) (length d.log) e refl (ap (λ (s : Content). length s.log) gives.3)
short_line (ObjectAs at slots values given) c d words n is (k, told, takes, zeros) =
    let e = is.2 ∙ ap (λ f. f ++ is.1) is.3 in
    other_line words is.1 (codes "object") n (length c.log) (length d.log) e refl (ap (λ (s : Content). length s.log) takes.14)

heading_line : (words : List (List ℕ)) (n : ℕ) (d : Content) → BeginsShort words d → AddsCards words n 0 (length d.log)
heading_line words n d b =
    let e = b.line.2 ∙ ap (λ f. f ++ b.line.1) b.line.3 in
    other_line words b.line.1 (codes "heap") n 0 (length d.log) e refl (ap (λ (s : Content). length s.log) b.says)

-- a line that says nothing has no cards
no_card : (words : List (List ℕ)) (n : ℕ) → says_something words ≡ false → length (card_numbers words n) ≡ 0
no_card [] n none = refl
no_card (first ∷ words) n none = so_many (first ∷ words) n 0 (ap (λ b. cards_if b (first ∷ words)) (not_word first words none (codes "dirty") refl))

-- AS MANY NUMBERS as cards in the log
pub log_counted : (bytes : List ℕ) (told c : Content) → TellsAll None (lines_in bytes) (Some told) → Closes told c → length (numbers_in (parts_of bytes)).log ≡ length c.log
log_counted = as_many_lines card_count (λ c rs beyond. refl) card_numbers numbers_of_cards (λ n. refl) (λ n line lines. refl) heading_line short_line no_card
