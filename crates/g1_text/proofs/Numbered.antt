-- The numbers of lines that are read one after the other.
use Rattle.std.proofs.Common.{◌≡◌, ℕ, ◌+◌, ◌-◌, Bool, true, false, List, [], ◌∷◌, ◌++◌, length, drop, replicate, get_or, append-nil, append_assoc, length-append, refl, sym, ◌∙◌, ap, subst, arith}
use Rattle.std.specs.Prelude.{Option, Some, None, codes}
use Rattle.std.specs.Option.{is_some}
use Rattle.std.specs.Str.{bytes_eq}
use Rattle.std.specs.Str.Parse.{digits_value}
use Rattle.std.proofs.lemmas.Bool.{false≢true}
use Rattle.std.proofs.lemmas.List.{length-drop}
use Rattle.std.proofs.lemmas.Slice.Eq.{bytes_eq-Decides}
use Rattle.g1_text.specs.declared.draft.Draft.{Draft}
use Rattle.g1_text.specs.Reading.{words_in, says_something}
use Rattle.g1_text.specs.FaultLines.{LineNumbers}
use Rattle.g1_text.specs.Late.{begins_with, number_if, numbers_from, cards_if, numbers_of_cards, region_if, numbers_of_sets, numbers_in}
use Rattle.g1_text.specs.Drafts.{said, numbers_read, with_line}

-- a line more behind others
more : (test : List (List ℕ) → Bool) (n m : ℕ) (lines : List (List ℕ)) (line : List ℕ) → m ≡ n + length lines
    → numbers_from test n (lines ++ line ∷ []) ≡ numbers_from test n lines ++ number_if (test (words_in line)) m
more test n m [] line e = let same : m ≡ n = omega (arith, e) in append-nil (number_if (test (words_in line)) n) ∙ ap (number_if (test (words_in line))) (sym same)
more test n m (l ∷ lines) line e =
    ap (λ ns. number_if (test (words_in l)) n ++ ns) (more test (n + 1) m lines line (omega (arith, e)))
    ∙ sym (append_assoc (number_if (test (words_in l)) n) (numbers_from test (n + 1) lines) (number_if (test (words_in line)) m))

-- whatever each line adds, by its words and its number
module _ {A : Type 0} (adds : List (List ℕ) → ℕ → List A) (all : ℕ → List (List ℕ) → List A) (none : (n : ℕ) → all n [] ≡ [])
    (one : (n : ℕ) (line : List ℕ) (lines : List (List ℕ)) → all n (line ∷ lines) ≡ adds (words_in line) n ++ all (n + 1) lines) where
  added : (n m : ℕ) (lines : List (List ℕ)) (line : List ℕ) → m ≡ n + length lines → all n (lines ++ line ∷ []) ≡ all n lines ++ adds (words_in line) m
  added n m [] line e =
      let same : m ≡ n = omega (arith, e) in
      one n line [] ∙ ap (λ xs. adds (words_in line) n ++ xs) (none (n + 1)) ∙ append-nil (adds (words_in line) n) ∙ ap (adds (words_in line)) (sym same)
      ∙ ap (λ xs. xs ++ adds (words_in line) m) (sym (none n))
  added n m (l ∷ lines) line e =
      one n l (lines ++ line ∷ []) ∙ ap (λ xs. adds (words_in l) n ++ xs) (added (n + 1) m lines line (omega (arith, e)))
      ∙ sym (append_assoc (adds (words_in l) n) (all (n + 1) lines) (adds (words_in line) m)) ∙ ap (λ xs. xs ++ adds (words_in line) m) (sym (one n l lines))

-- the number of a line for each card that it has, and its region
abbrev pub card_numbers : List (List ℕ) → ℕ → List ℕ
card_numbers words n = replicate (cards_if (begins_with (codes "dirty") words) words) n

abbrev pub set_numbers : List (List ℕ) → ℕ → List (ℕ × ℕ)
set_numbers words n = region_if (begins_with (codes "remembered") words) words n

pub one_more : (above : List (List ℕ)) (line : List ℕ) (n : ℕ) → n ≡ length above + 1 → numbers_in (above ++ line ∷ []) ≡ with_line (numbers_in above) n (words_in line)
one_more above line n e =
    let count : n ≡ 1 + length above = omega (arith, e) in
    let headings = more (begins_with (codes "heap")) 1 n above line count in
    let roots = more (begins_with (codes "root")) 1 n above line count in
    let regions = more (begins_with (codes "region")) 1 n above line count in
    let objects = more (begins_with (codes "object")) 1 n above line count in
    let log = added card_numbers numbers_of_cards (λ k. refl) (λ k l ls. refl) 1 n above line count in
    let remembered = added set_numbers numbers_of_sets (λ k. refl) (λ k l ls. refl) 1 n above line count in
    λ i. record { headings = headings i; roots = roots i; log = log i; regions = regions i; remembered = remembered i; objects = objects i }

-- WHAT A LINE ADDS, by its first word
module _ (l : LineNumbers) (n : ℕ) (words : List (List ℕ)) where
  pub heap_line : with_line l n (codes "heap" ∷ words) ≡ record l { headings = l.headings ++ n ∷ [] }
  heap_line = λ i. record { headings = l.headings ++ n ∷ []; roots = append-nil l.roots i; log = append-nil l.log i; regions = append-nil l.regions i; remembered = append-nil l.remembered i; objects = append-nil l.objects i }

  pub root_line : with_line l n (codes "root" ∷ words) ≡ record l { roots = l.roots ++ n ∷ [] }
  root_line = λ i. record { headings = append-nil l.headings i; roots = l.roots ++ n ∷ []; log = append-nil l.log i; regions = append-nil l.regions i; remembered = append-nil l.remembered i; objects = append-nil l.objects i }

  pub region_line : with_line l n (codes "region" ∷ words) ≡ record l { regions = l.regions ++ n ∷ [] }
  region_line = λ i. record { headings = append-nil l.headings i; roots = append-nil l.roots i; log = append-nil l.log i; regions = l.regions ++ n ∷ []; remembered = append-nil l.remembered i; objects = append-nil l.objects i }

  pub object_line : with_line l n (codes "object" ∷ words) ≡ record l { objects = l.objects ++ n ∷ [] }
  object_line = λ i. record { headings = append-nil l.headings i; roots = append-nil l.roots i; log = append-nil l.log i; regions = append-nil l.regions i; remembered = append-nil l.remembered i; objects = l.objects ++ n ∷ [] }

  behind : length (drop 1 words) ≡ length words - 1
  behind = let count = length-drop 1 words in omega (arith, count)

  pub dirty_line : with_line l n (codes "dirty" ∷ words) ≡ record l { log = l.log ++ replicate (length words - 1) n }
  dirty_line = λ i. record { headings = append-nil l.headings i; roots = append-nil l.roots i; log = l.log ++ replicate (behind i) n; regions = append-nil l.regions i; remembered = append-nil l.remembered i; objects = append-nil l.objects i }

  pub remembered_line : with_line l n (codes "remembered" ∷ words) ≡ record l { remembered = l.remembered ++ (digits_value 10 (get_or words 0 []), n) ∷ [] }
  remembered_line = λ i. record { headings = append-nil l.headings i; roots = append-nil l.roots i; log = append-nil l.log i; regions = append-nil l.regions i; remembered = l.remembered ++ (digits_value 10 (get_or words 0 []), n) ∷ []; objects = append-nil l.objects i }

  pub no_line : record { headings = l.headings ++ []; roots = l.roots ++ []; log = l.log ++ []; regions = l.regions ++ []; remembered = l.remembered ++ []; objects = l.objects ++ [] } ≡ l
  no_line = λ i. record { headings = append-nil l.headings i; roots = append-nil l.roots i; log = append-nil l.log i; regions = append-nil l.regions i; remembered = append-nil l.remembered i; objects = append-nil l.objects i }

-- a line that says nothing adds no number
module _ (first : List ℕ) (words : List (List ℕ)) (none : says_something (first ∷ words) ≡ false) where
  pub not_word : (word : List ℕ) → says_something (word ∷ words) ≡ true → bytes_eq first word ≡ false
  not_word word some = by (bytes_eq first word) refl
    where
      by : (b : Bool) → bytes_eq first word ≡ b → b ≡ false
      by false e = refl
      by true e = absurd (false≢true (sym none ∙ subst (λ w. says_something (w ∷ words) ≡ true) (sym ((bytes_eq-Decides first word).0 e)) some))

pub unsaid : (l : LineNumbers) (n : ℕ) (words : List (List ℕ)) → says_something words ≡ false → with_line l n words ≡ l
unsaid l n [] none = no_line l n []
unsaid l n (first ∷ words) none =
    let heap = not_word first words none (codes "heap") refl in
    let root = not_word first words none (codes "root") refl in
    let dirty = not_word first words none (codes "dirty") refl in
    let region = not_word first words none (codes "region") refl in
    let remembered = not_word first words none (codes "remembered") refl in
    let object = not_word first words none (codes "object") refl in
    (λ i. record { headings = l.headings ++ number_if (heap i) n; roots = l.roots ++ number_if (root i) n; log = l.log ++ replicate (cards_if (dirty i) (first ∷ words)) n; regions = l.regions ++ number_if (region i) n; remembered = l.remembered ++ region_if (remembered i) (first ∷ words) n; objects = l.objects ++ number_if (object i) n })
    ∙ no_line l n []

-- so many lines were read, and these are left: their numbers are known
pub record AreNumbered (text left : List (List ℕ)) (number : ℕ) (now : LineNumbers) : Type 0 where
  pub above : List (List ℕ)
  pub parts : text ≡ above ++ left
  pub counted : number ≡ length above
  pub numbers : now ≡ numbers_in above

none_known : (d : Option Draft) → said d ≡ None → numbers_read d ≡ numbers_in []
none_known None e = refl
none_known (Some d) e = absurd (false≢true (ap is_some (sym e)))

pub none_numbered : (text : List (List ℕ)) (d : Option Draft) → said d ≡ None → AreNumbered text text 0 (numbers_read d)
none_numbered text d e = record { above = []; parts = refl; counted = refl; numbers = none_known d e }

pub one_numbered : (text left rest : List (List ℕ)) (line : List ℕ) → left ≡ line ∷ rest → (number n : ℕ) → n ≡ number + 1 → (old new : LineNumbers) → AreNumbered text left number old
    → new ≡ with_line old n (words_in line) → AreNumbered text rest n new
one_numbered text left rest line is number n e old new so_far adds = record {
  above = so_far.above ++ line ∷ [];
  parts = so_far.parts ∙ ap (λ ps. so_far.above ++ ps) is ∙ sym (append_assoc so_far.above (line ∷ []) rest);
  counted = let l = length-append so_far.above (line ∷ []) in omega (arith, l, so_far.counted, e);
  numbers = adds ∙ ap (λ l. with_line l n (words_in line)) so_far.numbers ∙ sym (one_more so_far.above line n (omega (arith, so_far.counted, e)));
}

pub all_numbered : (text : List (List ℕ)) (number : ℕ) (now : LineNumbers) → AreNumbered text [] number now → now ≡ numbers_in text
all_numbered text number now all = all.numbers ∙ ap numbers_in (sym (all.parts ∙ append-nil all.above))
