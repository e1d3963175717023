-- What is handed on if all differences are asked for.
use Rattle.std.specs.Prelude.{◌≡◌, ◌⊎◌, ◌-◌, ◌^◌, ◌==◌, ℕ, zero, suc, List, [], ◌∷◌, ◌++◌, Option, Some, None, ⊤, codes, decimal, sum, length, map, min, flat_map, slice_index, count_by, if◌then◌else◌, All, AllPairs}
use Rattle.std.specs.Io.KnownBytes.{Appends}
use Rattle.g1_same.specs.declared.walk.What.{What}
use Rattle.g1_same.specs.declared.walk.What.TheVariants as what
use Rattle.g1_same.specs.declared.walk.Found.{Found}
use Rattle.g1_same.specs.declared.difference.How.TheVariants.{NullBefore, NullAfter, Split, Joined, Size, Slots, Data}
use Rattle.g1_same.specs.Walk.{IsEarlier}
use Rattle.g1_same.specs.Behind.{ShowsAt}
use Rattle.g1_report.specs.declared.verdict.Finding.{Finding}
use Rattle.g1_report.specs.declared.verdict.Finding.TheVariants.{Same, Differ, Stale}
use Rattle.g1_report.specs.Wording.{Compared, place_line, stale_line}

-- the line of a difference that a walk found: a path, what is there, and the words that it leads to
abbrev pub found_line : Compared → ℕ → List ℕ → What → ℕ → ℕ → List ℕ
found_line s root slots (what.Stale z) x y = stale_line s root slots x z
found_line s root slots (what.How how) x y = place_line s root slots how x y

-- THE LINE OF A DIFFERENCE THAT IS THERE
abbrev pub IsFoundLine : Compared → List ℕ → Type 0
IsFoundLine s line =
    (root : ℕ) × (slots : List ℕ) × (f : Found) × ShowsAt s.before s.after (root ∷ slots) f × (line ≡ found_line s root slots f.what f.place.before f.place.after)

-- the text is that of lines like this
abbrev pub AreLines : (List ℕ → Type 0) → List ℕ → Type 0
AreLines P text = (lines : List (List ℕ)) × All P lines × (text ≡ flat_map (λ line. line) lines)

-- a kind and its number, if there are any
abbrev pub count_text : List ℕ → ℕ → List ℕ
count_text kind zero = []
count_text kind (suc n) = codes " " ++ (kind ++ (codes " " ++ decimal (suc n)))

-- THE LINE OF ALL NUMBERS: their sum, and the number of each kind, in the order of kinds
abbrev pub counts_line : List ℕ → List ℕ
counts_line ns =
    codes "differences " ++ (decimal (sum ns) ++ (codes ":"
    ++ (count_text (codes "roots") (slice_index ns 0) ++ (count_text (codes "stale") (slice_index ns 1) ++ (count_text (codes "null") (slice_index ns 2)
    ++ (count_text (codes "split") (slice_index ns 3) ++ (count_text (codes "joined") (slice_index ns 4) ++ (count_text (codes "size") (slice_index ns 5)
    ++ (count_text (codes "slots") (slice_index ns 6) ++ (count_text (codes "data") (slice_index ns 7) ++ codes "\n"))))))))))

-- the text was taken, and behind it lines of differences that are there
abbrev pub TakesLines : Compared → Option (List ℕ) → Option (List ℕ) → List ℕ → Type 0
TakesLines s None new text = ⊤
TakesLines s (Some xs) None text = ⊥
TakesLines s (Some xs) (Some ys) text = (lines : List ℕ) × AreLines (IsFoundLine s) lines × (ys ≡ xs ++ (text ++ lines))

-- the place of a kind among the numbers of all kinds: first those of roots, of which a walk finds none
abbrev pub kind_of : What → ℕ
kind_of (what.Stale z) = 1
kind_of (what.How NullBefore) = 2
kind_of (what.How NullAfter) = 2
kind_of (what.How (Split a m n)) = 3
kind_of (what.How (Joined m n b)) = 4
kind_of (what.How (Size m n)) = 5
kind_of (what.How (Slots m n)) = 6
kind_of (what.How (Data k)) = 7

-- how many of these differences are of a kind, as far as 64 bits count
abbrev pub count_of : List Found → ℕ → ℕ
count_of found k = min (count_by (λ f. kind_of f.what == k) found) (2 ^ 64 - 1)

-- 1 if there are more roots in one heap than in the other
abbrev pub roots_count : List ℕ → List ℕ → ℕ
roots_count olds news = if length olds == length news then 0 else 1

abbrev pub all_counts : Compared → List Found → List ℕ
all_counts s found = roots_count s.before.roots s.after.roots ∷ map (count_of found) (1 ∷ 2 ∷ 3 ∷ 4 ∷ 5 ∷ 6 ∷ 7 ∷ [])

-- a path leads to the difference
abbrev pub IsShown : Compared → Found → Type 0
IsShown s f = (p : List ℕ) × ShowsAt s.before s.after p f

-- of the places of two differences, the first one is looked at first
abbrev pub ComesFirst : Found → Found → Type 0
ComesFirst f e = IsEarlier f.place.way.from f.place.way.number e.place.way.from e.place.way.number

-- THE NUMBERS ARE THOSE of differences that are there, each at a place of its own
pub record AreCounts (s : Compared) (counts : List ℕ) : Type 0 where
  pub found : List Found
  pub there : All (IsShown s) found
  pub apart : AllPairs ComesFirst found
  pub numbers : counts ≡ all_counts s found

-- the line of such numbers, or nothing if the reader went away
abbrev pub IsEnd : Compared → List ℕ → Type 0
IsEnd s end = (end ≡ []) ⊎ ((counts : List ℕ) × AreCounts s counts × (end ≡ counts_line counts))

-- the same, and then the line of numbers
abbrev pub TakesAll : Compared → Option (List ℕ) → Option (List ℕ) → List ℕ → Type 0
TakesAll s None new text = ⊤
TakesAll s (Some xs) None text = ⊥
TakesAll s (Some xs) (Some ys) text =
    (lines : List ℕ) × AreLines (IsFoundLine s) lines × (end : List ℕ) × IsEnd s end × (ys ≡ xs ++ (text ++ (lines ++ end)))

-- how many differences are listed, if they are: one graph has none
abbrev pub lists : Finding → Option ℕ → Option ℕ
lists (Same r) all = None
lists (Differ d) all = all
lists (Stale e) all = all

-- WHAT WAS TAKEN: the text alone, or with further lines behind it
abbrev pub HandedOn : Compared → Option ℕ → Option (List ℕ) → Option (List ℕ) → List ℕ → Type 0
HandedOn s None old new text = Appends old new text
HandedOn s (Some most) old new text = TakesAll s old new text
