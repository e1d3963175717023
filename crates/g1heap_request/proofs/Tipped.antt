-- A text that gets a tip.
use Rattle.std.proofs.Common.{◌≡◌, ◌∙◌, ◌⊎◌, inl, inr, ◌++◌, ◌∷◌, [], ◌≤◌, ◌<◌, ◌+◌, ℕ, zero, suc, Bool, true, false, List, Contains, length, map, get_or, take, drop, drop_at, find, bytes_eq, option_map, length-append, append_assoc, append-nil, eq-or-lt_of_le, ⊎_elim, Option, Some, None, unwrap_or, refl, sym, ap, subst, codes, arith}
use Rattle.std.specs.Prelude.{IfSome, IsSomeAnd, MatchOption, String}
use Rattle.std.specs.Borrow.{Bor}
use Rattle.clap.specs.Words.{Text}
use Rattle.clap.specs.declared.error.kind.ErrorKind.{ErrorKind}
use Rattle.std.specs.Str.Pattern.{FindsText}
use Rattle.std.proofs.lemmas.Str.Pattern.{IsSplitOnceResult, split_after, split_text_parts}
use Rattle.std.proofs.lemmas.List.{get_or_default}
use Rattle.g1heap_request.specs.Tips.{Has, QuotesFirst, IsDue, IsOwnTip, IsTipped, MayBeTipped, named_among, tip_mark, usage_mark}

-- the clause of `split_once` at a text
abbrev Cuts : Text → Text → Option (Bor Text × Bor Text) → Type 0
Cuts p bs r =
    MatchOption r (FindsText p bs None)
    (λ x. (i : ℕ) × (j : ℕ) × FindsText p bs (Some (i, j)) × (x.0.now ≡ take i bs) × (x.1.now ≡ drop j bs) × (i ≤ j) × (length x.0.now ≡ i) × (length x.1.now + j ≡ length bs))

-- a text is cut at the first place of the other one
pub first_cut : (p bs : Text) (x : Bor Text × Bor Text) → 0 < length p → Cuts p bs (Some x) → Has p x.0.now → ⊥
first_cut p bs x some cut (front, back, is) =
    let parts : bs ≡ x.0.now ++ (p ++ x.1.now) = split_text_parts p bs (Some x) cut in
    let whole : bs ≡ front ++ (p ++ (back ++ (p ++ x.1.now))) =
    parts ∙ ap (λ t. t ++ (p ++ x.1.now)) is ∙ append_assoc front (p ++ back) (p ++ x.1.now) ∙ ap (λ t. front ++ t) (append_assoc p back (p ++ x.1.now)) in
    let inside : length front < cut.0 = omega (arith, cut.6, ap length is, length-append front (p ++ back), length-append p back) in
    cut.2.0 (length front) inside (back ++ (p ++ x.1.now)) (ap (drop (length front)) whole ∙ drop_at front (p ++ (back ++ (p ++ x.1.now))) (length front) refl)

pub no_cut : (p bs : Text) → Cuts p bs None → Has p bs → ⊥
no_cut p bs cut (front, back, is) = split_text_parts p bs None cut front back is

-- what stands before a tip
pub own_cut : (message : Text) (x : Bor Text × Bor Text) → Cuts tip_mark message (Some x) → (own : Text) × IsOwnTip x.0.now own × (message ≡ x.0.now ++ own)
own_cut message x cut = (tip_mark ++ x.1.now, (first_cut tip_mark message x (omega arith) cut, inr (x.1.now, refl)), split_text_parts tip_mark message (Some x) cut)

pub own_none : (message : Text) → Cuts tip_mark message None → (own : Text) × IsOwnTip message own × (message ≡ message ++ own)
own_none message cut = ([], (no_cut tip_mark message cut, inl refl), sym (append-nil message))

pub tipped : (old said tip new : Text) (cut : Bor Text × Bor Text) → Cuts usage_mark old (Some cut) → (own : Text) × IsOwnTip said own × (cut.0.now ≡ said ++ own)
    → new ≡ said ++ (codes "\n\n  tip: " ++ (tip ++ (usage_mark ++ cut.1.now))) → IsTipped tip old new
tipped old said tip new cut cuts (own, owns, parts) after = record {
  said = said;
  own = own;
  usage = cut.1.now;
  is_own = owns;
  first = λ has. first_cut usage_mark old cut (omega arith) cuts (subst (Has usage_mark) (sym parts) has);
  before = split_text_parts usage_mark old (Some cut) cuts ∙ ap (λ m. m ++ (usage_mark ++ cut.1.now)) parts ∙ append_assoc said own (usage_mark ++ cut.1.now);
  after = after;
}

-- the text as it was, or with a tip
pub retold_or : {Z : Type 0} (kind : ErrorKind) (words : List Text) (text : String Z) (read : Text) → read ≡ text.bytes.items → (told : Option (String Z))
    → IfSome told (λ s. (tip : Text) × IsTipped tip read s.bytes.items)
    → ((tip : Text) → IsDue kind words read tip → Has usage_mark read → IsSomeAnd told (λ s. IsTipped tip read s.bytes.items))
    → MayBeTipped kind words text.bytes.items (unwrap_or told text).bytes.items
retold_or {Z = Z} kind words text read is told may must = subst (λ t. MayBeTipped kind words t (unwrap_or told text).bytes.items) is (record { same_or_tipped = go told may; due = λ tip due has. so told tip (must tip due has) })
  where
    go : (told : Option (String Z)) → IfSome told (λ s. (tip : Text) × IsTipped tip read s.bytes.items)
        → ((unwrap_or told text).bytes.items ≡ read) ⊎ ((tip : Text) × IsTipped tip read (unwrap_or told text).bytes.items)
    go None h = inl (sym is)
    go (Some s) h = inr h

    so : (told : Option (String Z)) (tip : Text) → IsSomeAnd told (λ s. IsTipped tip read s.bytes.items) → IsTipped tip read (unwrap_or told text).bytes.items
    so None tip h = absurd h
    so (Some s) tip h = h

-- the first one that passes a test, and none
pub find_at : {X Y : Type 0} (test : Y → Bool) (f : X → Y) (xs : List X) (i : ℕ) (d : X) → i < length xs → ((k : ℕ) → k < i → test (f (get_or xs k d)) ≡ false) → test (f (get_or xs i d)) ≡ true
    → find test (map f xs) ≡ Some (f (get_or xs i d))
find_at test f [] i d lt below here = absurd (omega (arith, lt))
find_at test f (x ∷ xs) zero d lt below here = rw here refl
find_at test f (x ∷ xs) (suc i) d lt below here =
    let no : test (f x) ≡ false = below 0 (omega arith) in
    rw no (find_at test f xs i d (omega (arith, lt)) (λ k l. below (suc k) (omega (arith, l))) here)

pub find_none : {X Y : Type 0} (test : Y → Bool) (f : X → Y) (xs : List X) (d : X) → ((k : ℕ) → k < length xs → test (f (get_or xs k d)) ≡ false) → find test (map f xs) ≡ None
find_none test f [] d all = refl
find_none test f (x ∷ xs) d all =
    let no : test (f x) ≡ false = all 0 (omega arith) in
    rw no (find_none test f xs d (λ k l. all (suc k) (omega (arith, l))))

-- a row of a table of names, and what it says
abbrev pub Row : Type 0
Row = Bor Text × Bor Text

abbrev pub no_row : Row
no_row = (record { ref_ptr = (0, 0); now = [] }, record { ref_ptr = (0, 0); now = [] })

abbrev pub said : Row → Text × Text
said row = (row.0.now, row.1.now)

-- the word is none of the names so far
abbrev pub IsNoneSoFar : Text → List Row → ℕ → Type 0
IsNoneSoFar word rows i = (k : ℕ) → k < i → bytes_eq word (get_or rows k no_row).0.now ≡ false

pub none_more : (word : Text) (rows : List Row) (i : ℕ) → IsNoneSoFar word rows i → bytes_eq word (get_or rows i no_row).0.now ≡ false → IsNoneSoFar word rows (i + 1)
none_more word rows i before here = λ k l. ⊎_elim (λ same. ap (λ j. bytes_eq word (get_or rows j no_row).0.now) same ∙ here) (before k) (eq-or-lt_of_le (omega (arith, l)))

pub named_at : (word : Text) (rows : List Row) (i : ℕ) → i < length rows → IsNoneSoFar word rows i → bytes_eq word (get_or rows i no_row).0.now ≡ true
    → Some (get_or rows i no_row).1.now ≡ option_map (λ n. n.1) (named_among (map said rows) word)
named_at word rows i lt before here = ap (option_map (λ (n : Text × Text). n.1)) (sym (find_at (λ (n : Text × Text). bytes_eq word n.0) said rows i no_row lt before here))

pub named_none : (word : Text) (rows : List Row) → IsNoneSoFar word rows (length rows) → None ≡ option_map (λ n. n.1) (named_among (map said rows) word)
named_none word rows all = ap (option_map (λ (n : Text × Text). n.1)) (sym (find_none (λ (n : Text × Text). bytes_eq word n.0) said rows no_row all))

-- the word between the first two quotes
no_quote : (xs : Text) → (Contains xs 39 → ⊥) → (i : ℕ) → i < length xs → get_or xs i 0 ≡ 39 → ⊥
no_quote xs none i lt is = none (i, lt, get_or_default xs i 39 0 lt ∙ is)

cut_pair : (r : Option Row) (d p : Row) (xs ys : Text) → p ≡ unwrap_or r d → MatchOption r ⊥ (λ x. (x.0.now ≡ xs) × (x.1.now ≡ ys)) → (p.0.now ≡ xs) × (p.1.now ≡ ys)
cut_pair None d p xs ys is h = absurd h
cut_pair (Some x) d p xs ys is h = (ap (λ (q : Row). q.0.now) is ∙ h.0, ap (λ (q : Row). q.1.now) is ∙ h.1)

pub quoted_word : (text word : Text) (r s : Option Row) (d e p q : Row) → QuotesFirst text word → IsSplitOnceResult 39 text r → p ≡ unwrap_or r d → IsSplitOnceResult 39 p.1.now s → q ≡ unwrap_or s e
    → q.0.now ≡ word
quoted_word text word r s d e p q quotes first is second is_too =
    let behind = cut_pair r d p quotes.front (word ++ 39 ∷ quotes.back) is
    (split_after 39 text quotes.front (word ++ 39 ∷ quotes.back) r first (omega arith) quotes.is (no_quote quotes.front quotes.front_has_none)) in
    (cut_pair s e q word quotes.back is_too (split_after 39 p.1.now word quotes.back s second (omega arith) behind.1 (no_quote word quotes.word_has_none))).0
