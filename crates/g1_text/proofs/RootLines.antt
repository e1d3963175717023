-- As many lines say a root as there are roots, and a root that a fault names is one of them.
use Rattle.std.proofs.Common.{◌≡◌, ℕ, ◌+◌, ◌<◌, ◌^◌, Bool, false, List, [], ◌∷◌, ◌++◌, length, length-append, append_assoc, refl, sym, ◌∙◌, ap, arith}
use Rattle.std.specs.Prelude.{Some, None, codes}
use Rattle.g1_words.specs.declared.fault.Fault.TheVariants.{Reference, Card}
use Rattle.g1_words.specs.declared.fault.Place.TheVariants.{Root}
use Rattle.g1_words.specs.declared.fault.Stand.TheVariants.{Dirty}
use Rattle.g1_words.specs.declared.limits.Limits.TheVariants.{Wide}
use Rattle.g1_image.specs.declared.cursor.Version.TheVariants.{Two}
use Rattle.g1_image.specs.Text.{File, file_text, magic, body_text, u32}
use Rattle.g1_image.specs.Faults.{FaultWithin}
use Rattle.g1_image.specs.Parts.{CountsFit}
use Rattle.g1_image.proofs.Numbers.{u32_once}
use Rattle.g1_image.proofs.Parts.{magic_free}
use Rattle.g1_text.specs.Reading.{says_something, parts_of, lines_in}
use Rattle.g1_text.specs.Content.{Content, file_with}
use Rattle.g1_text.specs.Short.{Short, RootAs, DirtyAs, Covered, RegionAs, RememberedAs, ObjectAs, IsShortLine, Gives, BeginsShort, TellsAll, Closes, Skips}
use Rattle.g1_text.specs.Late.{begins_with, number_if, numbers_from, numbers_in}
use Rattle.g1_text.proofs.HeapWords.{split_front}
use Rattle.g1_text.proofs.LineCounts.{skips_kept, as_many_lines}
use Rattle.g1_text.proofs.Numbered.{not_word}
use Rattle.g1_image.proofs.NumberLists.{u32-length}

-- THE ROOT LINES of a text

abbrev root_count : Content → ℕ
root_count c = length c.roots

-- whether a line says a root
abbrev is_root : List (List ℕ) → Bool
is_root words = begins_with (codes "root") words

skips_roots : (c : Content) (on free : ℕ) (d : Content) → Skips c on free d → length d.roots ≡ length c.roots
skips_roots = skips_kept root_count (λ c rs beyond. refl)

-- one of the words that a line begins with
abbrev AddsRoots : List (List ℕ) → ℕ → ℕ → ℕ → Type 0
AddsRoots words n before after = before + length (number_if (is_root words) n) ≡ after

other_line : (words rest : List (List ℕ)) (word : List ℕ) (n before after : ℕ) → words ≡ word ∷ rest → is_root (word ∷ rest) ≡ false → after ≡ before → AddsRoots words n before after
other_line words rest word n before after e other same =
    let none : length (number_if (is_root words) n) ≡ 0 = ap (λ ws. length (number_if (is_root ws) n)) e ∙ ap (λ b. length (number_if b n)) other in
    omega (arith, none, same)

root_adds : (words rest : List (List ℕ)) (n before after : ℕ) → words ≡ codes "root" ∷ rest → after ≡ before + 1 → AddsRoots words n before after
root_adds words rest n before after e more =
    let one : length (number_if (is_root words) n) ≡ 1 = ap (λ ws. length (number_if (is_root ws) n)) e in
    omega (arith, one, more)

-- a line below the heading adds a root if it says one
short_line : (l : Short) (c d : Content) (words : List (List ℕ)) (n : ℕ) → IsShortLine l words → Gives c l d → AddsRoots words n (length c.roots) (length d.roots)
short_line (RootAs m x) c d words n is (k, told, takes) =
    let e = is.2 ∙ ap (λ f. f ++ is.1) is.3 in
    let count = length-append c.roots (x ∷ []) in
    let now = ap (λ (s : Content). length s.roots) takes.3 in
    root_adds words is.1 n (length c.roots) (length d.roots) e (omega (arith, count, now))
short_line (DirtyAs cards) c d words n is gives =
    let e = is.2 ∙ ap (λ f. f ++ is.1) is.3 in
    other_line words is.1 (codes "dirty") n (length c.roots) (length d.roots) e refl (ap (λ (s : Content). length s.roots) gives.1)
short_line Covered c d words n is gives = other_line words [] (codes "covered") n (length c.roots) (length d.roots) is refl (ap (λ (s : Content). length s.roots) gives)
short_line (RegionAs r k t o m p) c d words n is gives =
    let e = is.2 ∙ ap (λ f. f ++ is.1) is.3 in
    let skipped = skips_roots c gives.0 gives.1 gives.2 gives.4 in
    other_line words is.1 (codes "region") n (length c.roots) (length d.roots) e refl (ap (λ (s : Content). length s.roots) gives.9 ∙ skipped)
short_line (RememberedAs r cards) c d words n is gives =
    let e = is.2 ∙ ap (λ f. f ++ is.1) is.3 in
    other_line words is.1 (codes "remembered") n (length c.roots) (length d.roots) e refl (ap (λ (s : Content). length s.roots) gives.3)
short_line (ObjectAs at slots values given) c d words n is (k, told, takes, zeros) =
    let e = is.2 ∙ ap (λ f. f ++ is.1) is.3 in
    other_line words is.1 (codes "object") n (length c.roots) (length d.roots) e refl (ap (λ (s : Content). length s.roots) takes.14)

heading_line : (words : List (List ℕ)) (n : ℕ) (d : Content) → BeginsShort words d → AddsRoots words n 0 (length d.roots)
heading_line words n d b =
    let e = b.line.2 ∙ ap (λ f. f ++ b.line.1) b.line.3 in
    other_line words b.line.1 (codes "heap") n 0 (length d.roots) e refl (ap (λ (s : Content). length s.roots) b.says)

-- a line that says nothing says no root
no_root : (words : List (List ℕ)) → says_something words ≡ false → is_root words ≡ false
no_root [] none = refl
no_root (first ∷ words) none = not_word first words none (codes "root") refl

abbrev root_numbers : List (List ℕ) → ℕ → List ℕ
root_numbers words n = number_if (is_root words) n

-- AS MANY LINES SAY A ROOT as there are roots
pub roots_counted : (bytes : List ℕ) (told c : Content) → TellsAll None (lines_in bytes) (Some told) → Closes told c → length (numbers_in (parts_of bytes)).roots ≡ length c.roots
roots_counted =
    as_many_lines root_count (λ c rs beyond. refl) root_numbers (numbers_from is_root) (λ n. refl) (λ n line lines. refl) heading_line short_line
    (λ words n none. ap (λ b. length (number_if b n)) (no_root words none))

-- THE ROOT of a fault

-- a file with the bytes of what was read has as many roots, and as many cards in the log
as_many : (c : Content) (f : File) → CountsFit (file_with c) → length f.roots < 2 ^ 32 → length f.log < 2 ^ 32 → file_text (file_with c) ≡ file_text f
    → (length c.roots ≡ length f.roots) × (length c.log ≡ length f.log)
as_many c f fit few_roots few_cards e =
    let flat : (g : File) → file_text g ≡ magic g.version ++ (u32 g.w ++ (u32 g.k ++ (u32 g.n ++ (u32 (length g.roots) ++ (u32 (length g.log) ++ (u32 g.current ++ body_text g)))))) = λ g. simp append_assoc in
    let s : File = file_with c in
    let v = magic_free Two f.version _ _ (sym (flat s) ∙ e ∙ flat f) in
    let a = split_front (u32 s.w) _ (u32 f.w) _ v.1 (u32-length s.w ∙ sym (u32-length f.w)) in
    let b = split_front (u32 s.k) _ (u32 f.k) _ a.1 (u32-length s.k ∙ sym (u32-length f.k)) in
    let d = split_front (u32 s.n) _ (u32 f.n) _ b.1 (u32-length s.n ∙ sym (u32-length f.n)) in
    let roots = u32_once (length s.roots) (length f.roots) _ _ fit.roots few_roots d.1 in
    (roots.0, (u32_once (length s.log) (length f.log) _ _ fit.log few_cards roots.1).0)

-- A ROOT THAT A FAULT NAMES was read
pub root_there : (c : Content) (n : ℕ) → CountsFit (file_with c) → FaultWithin Wide (file_text (file_with c)) (Reference (Root n)) → n < length c.roots
root_there c n fit (f, fits, e, broken) = let same = (as_many c f fit fits.heading.roots fits.heading.dirty e).0 in omega (arith, same, broken.1.1.within)

-- SO WAS A CARD of the log
pub card_there : (c : Content) (n : ℕ) → CountsFit (file_with c) → FaultWithin Wide (file_text (file_with c)) (Card (Dirty n)) → n < length c.log
card_there c n fit (f, fits, e, broken) = let same = (as_many c f fit fits.heading.roots fits.heading.dirty e).1 in omega (arith, same, broken.2.within)
