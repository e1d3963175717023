-- Counts that agree, and the bytes of what was read.
use Rattle.std.proofs.Common.{◌≡◌, ℕ, ◌<◌, false, List, [], ◌∷◌, length, get_or, map, sym, ◌∙◌, ap, subst, arith}
use Rattle.std.specs.Prelude.{Option, Some, None, IfSome, All}
use Rattle.std.proofs.lemmas.List.{get_or_default, length-map}
use Rattle.g1_words.specs.declared.limits.Limits.TheVariants.{Wide}
use Rattle.g1_image.specs.declared.cursor.Version.{Version}
use Rattle.g1_image.specs.declared.cursor.Version.TheVariants.{One, Two}
use Rattle.g1_image.specs.Text.{file_text}
use Rattle.g1_image.specs.Image.{Image, IsTextIn, IsTextWithin}
use Rattle.g1_text.specs.declared.draft.Told.{Told}
use Rattle.g1_text.specs.Content.{Content, Line, Root, Dirty, Numbers, Remembered, Holds, Takes, Says, SaysAll, CountsAgree, Agrees, file_with}
use Rattle.g1_text.specs.Counted.{IsMadeOf}
use Rattle.g1_text.specs.Drafts.{counts_of}
use Rattle.g1_text.proofs.Gathering.{map_at}

-- the counts of each region's line agree
pub all_counts : (s : Content) (ts : List Told) → ((k : ℕ) (d : Told) → k < length ts → CountsAgree s (counts_of (get_or ts k d))) → All (CountsAgree s) (map counts_of ts)
all_counts s ts each k d lt =
    let none : Told = record { line = 0; region = 0; top = None; objects = None; cards = None; found = 0 } in
    let count = length-map ts counts_of in
    let at = get_or_default (map counts_of ts) k d (counts_of none) lt ∙ map_at counts_of ts k none in
    subst (CountsAgree s) (sym at) (each k none (omega (arith, lt, count)))

-- bytes with the magic of version 2 are no text of version 1
second : (v : Version) (bytes : List ℕ) (i : Image) (c : Content) → bytes ≡ file_text (file_with c) → IsTextIn v bytes i → IsTextIn Two bytes i
second Two bytes i c e is = is
second One bytes i c e is = let digits : 49 ≡ 50 = ap (λ xs. get_or xs 7 0) (sym is.2 ∙ e) in absurd (omega (arith, digits))

pub made : (c : Content) (bytes : List ℕ) → Agrees c → bytes ≡ file_text (file_with c) → (i : Image) × IsTextWithin Wide bytes i → IsMadeOf c bytes
made c bytes agrees numbers is = record { agrees = agrees; numbers = numbers; image = is.0; text = second is.1.0 bytes is.0 c numbers is.1.1 }

-- no full line says that the remembered sets follow from the references
still : (c : Content) (l : Line) (d : Content) → Takes c l d → d.covered ≡ c.covered
still c (Root m x) d t = ap (λ (s : Content). s.covered) t.3
still c (Dirty cards) d t = ap (λ (s : Content). s.covered) t.1
still c (Numbers r k top o m p) d t = ap (λ (s : Content). s.covered) t.8
still c (Remembered r cards) d t = ap (λ (s : Content). s.covered) t.3
still c (Holds at slots values) d t = ap (λ (s : Content). s.covered) t.14

abbrev IsUncovered : Option Content → Type 0
IsUncovered before = IfSome before (λ c. c.covered ≡ false)

one_uncovered : (before : Option Content) (words : List (List ℕ)) (c : Content) → IsUncovered before → Says before words c → c.covered ≡ false
one_uncovered None words c u b = ap (λ (s : Content). s.covered) b.says
one_uncovered (Some s) words c u t = still s t.0 c t.2 ∙ u

all_uncovered : (before after : Option Content) (lines : List (List (List ℕ))) → IsUncovered before → SaysAll before lines after → IsUncovered after
all_uncovered before after [] u e = subst IsUncovered e u
all_uncovered before after (line ∷ lines) u s = all_uncovered (Some s.0) after lines (one_uncovered before line s.0 u s.1) s.2

pub uncovered : (c : Content) (lines : List (List (List ℕ))) → SaysAll None lines (Some c) → c.covered ≡ false
uncovered c lines s = all_uncovered None (Some c) lines tt s
