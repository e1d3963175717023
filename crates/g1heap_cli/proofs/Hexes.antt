-- A text of lines, cut at line ends and spaces, with its data words in hexadecimal.
use Rattle.std.proofs.Common.{◌≡◌, ◌≢◌, ℕ, zero, suc, ◌+◌, ◌-◌, ◌/◌, ◌%◌, ◌<◌, ◌^◌, Bool, true, false, List, [], ◌∷◌, ◌++◌, length, get_or, refl, sym, ◌∙◌, ap, subst, arith, append_assoc}
use Rattle.std.specs.Prelude.{Option, Some, None, MatchOption, Result, Ok, Err, OnOk, codes, decimal, ◌==◌, min, nat_lt, if◌then◌else◌}
use Rattle.std.specs.Borrow.{Bor}
use Rattle.std.specs.Fmt.{digits, digits_onto, digit_glyph}
use Rattle.std.specs.List.{AllByRecursion, AllZip}
use Rattle.std.proofs.lemmas.Fmt.{digits_decimal}
use Rattle.std.proofs.lemmas.Str.Parse.{not_in_digits}
use Rattle.std.proofs.lemmas.Bool.Decides.{nat_tests}
use Rattle.std.proofs.lemmas.Str.Pattern.{IsSplitOnceResult, split_after, split_parts}
use Rattle.g1_text.specs.Lines.{line_text, text_of}
use Rattle.g1heap_cli.specs.Hexadecimal.{hexadecimal, spaced, IsBare, AreInHex, HasHex, object, other}
use Rattle.g1_words.proofs.Numerals.{by_value}

-- ---- bytes that a text lacks

-- the byte is none of these
abbrev pub Lacks : ℕ → List ℕ → Type 0
Lacks c bs = AllByRecursion (λ b. b ≢ c) bs

pub lacks_append : (c : ℕ) (xs ys : List ℕ) → Lacks c xs → Lacks c ys → Lacks c (xs ++ ys)
lacks_append c [] ys p q = q
lacks_append c (x ∷ xs) ys p q = (p.0, lacks_append c xs ys p.1 q)

pub lacks_at : (c : ℕ) (bs : List ℕ) → Lacks c bs → (i : ℕ) → i < length bs → get_or bs i 0 ≢ c
lacks_at c [] p i lt = absurd (omega (arith, lt))
lacks_at c (b ∷ bs) p zero lt = p.0
lacks_at c (b ∷ bs) p (suc i) lt = lacks_at c bs p.1 i (omega (arith, lt))

lacks_from : (c : ℕ) (bs : List ℕ) → ((i : ℕ) → i < length bs → get_or bs i 0 ≢ c) → Lacks c bs
lacks_from c [] each = tt
lacks_from c (b ∷ bs) each = (each 0 (omega arith), lacks_from c bs (λ i lt. each (suc i) (omega (arith, lt))))

pub bare_lacks_space : (w : List ℕ) → IsBare w → Lacks 32 w
bare_lacks_space [] p = tt
bare_lacks_space (b ∷ bs) p = (p.0.0, bare_lacks_space bs p.1)

bare_lacks_end : (w : List ℕ) → IsBare w → Lacks 10 w
bare_lacks_end [] p = tt
bare_lacks_end (b ∷ bs) p = (p.0.1, bare_lacks_end bs p.1)

-- a decimal number has digits alone
pub decimal_lacks : (c n : ℕ) → n < 2 ^ 64 → c < 48 → Lacks c (decimal n)
decimal_lacks c n small low = lacks_from c (decimal n) (not_in_digits by_value (decimal n) c (digits_decimal by_value n small) (λ q. let least = q.0 in omega (arith, low, least)))

glyph_bare : (d : ℕ) → (digit_glyph false d ≢ 32) × (digit_glyph false d ≢ 10)
glyph_bare d = (apart (nat_lt d 10) 32 (omega arith), apart (nat_lt d 10) 10 (omega arith))
  where
    apart : (b : Bool) (c : ℕ) → c < 48 → (if b then 48 + d else 87 + d) ≢ c
    apart true c low = λ e. omega (arith, low, e)
    apart false c low = λ e. omega (arith, low, e)

digits_bare : (k n : ℕ) (acc : List ℕ) → IsBare acc → IsBare (digits_onto k 10 false n acc)
digits_bare zero n acc bare = bare
digits_bare (suc k) n acc bare = go (n / 10 == 0) (digits_bare k (n / 10) (digit_glyph false (n % 10) ∷ acc) (glyph_bare (n % 10), bare))
  where
    go : (b : Bool) → IsBare (digits_onto k 10 false (n / 10) (digit_glyph false (n % 10) ∷ acc))
        → IsBare (if b then digit_glyph false (n % 10) ∷ acc else digits_onto k 10 false (n / 10) (digit_glyph false (n % 10) ∷ acc))
    go true more = (glyph_bare (n % 10), bare)
    go false more = more

pub decimal_bare : (n : ℕ) → IsBare (decimal n)
unfolding digits
decimal_bare n = digits_bare 64 n [] tt

-- ---- the words of a line

line_spaced : (w : List ℕ) (ws : List (List ℕ)) → line_text (w ∷ ws) ≡ spaced (w ∷ ws) ++ 10 ∷ []
line_spaced w [] = refl
line_spaced w (v ∷ ws) = ap (λ l. w ++ 32 ∷ l) (line_spaced v ws) ∙ sym (append_assoc w (32 ∷ spaced (v ∷ ws)) (10 ∷ []))

spaced_lacks_end : (ws : List (List ℕ)) → AllByRecursion IsBare ws → Lacks 10 (spaced ws)
spaced_lacks_end [] p = tt
spaced_lacks_end (w ∷ []) p = bare_lacks_end w p.0
spaced_lacks_end (w ∷ v ∷ ws) p = lacks_append 10 w (32 ∷ spaced (v ∷ ws)) (bare_lacks_end w p.0) ((λ e. omega (arith, e)), spaced_lacks_end (v ∷ ws) p.1)

pub first_bare : (n : ℕ) (w o : List ℕ) (ws os : List (List ℕ)) → AreInHex n (w ∷ ws) (o ∷ os) → IsBare w
first_bare zero w o ws os h = subst IsBare (sym h.0.2) (decimal_bare h.0.0)
first_bare (suc n) w o ws os h = h.0

rest_in_hex : (n : ℕ) (w o : List ℕ) (ws os : List (List ℕ)) → AreInHex n (w ∷ ws) (o ∷ os) → AreInHex (n - 1) ws os
rest_in_hex zero w o ws os h = h.1
rest_in_hex (suc n) w o ws os h = let same : n ≡ suc n - 1 = omega arith in subst (λ m. AreInHex m ws os) same h.2

all_bare : (n : ℕ) (ws os : List (List ℕ)) → AreInHex n ws os → AllByRecursion IsBare ws
all_bare n [] os h = tt
all_bare n (w ∷ ws) [] h = absurd h
all_bare n (w ∷ ws) (o ∷ os) h = (first_bare n w o ws os h, all_bare (n - 1) ws os (rest_in_hex n w o ws os h))

-- what is pushed of a word: in hexadecimal behind the first n
pub word_pushed : (P : List ℕ → Type 0) (n : ℕ) (d : Bool) (w o : List ℕ) (ws os : List (List ℕ)) → d ≡ (n == 0) → AreInHex n (w ∷ ws) (o ∷ os)
    → (d ≡ false → P w) → ((x : ℕ) → x < 2 ^ 64 → w ≡ decimal x → d ≡ true → P (hexadecimal x)) → P o
word_pushed P zero d w o ws os e h plain number = subst P (sym h.0.3) (number h.0.0 h.0.1 h.0.2 e)
word_pushed P (suc n) d w o ws os e h plain number = subst P (sym h.1) (plain (e ∙ none n))
  where
    none : (n : ℕ) → (suc n == 0) ≡ false
    none n = grind (arith, nat_tests)

-- the bytes are one word: nothing is behind a space
pub one_word : (w bs : List ℕ) (x : Bor (List ℕ) × Bor (List ℕ)) → IsBare w → bs ≡ w → IsSplitOnceResult 32 bs (Some x) → ⊥
one_word w bs x bare e h =
    let parts = split_parts 32 bs (Some x) h (omega arith) in
    let there : get_or w (length x.0.now) 0 ≡ 32 = ap (λ l. get_or l (length x.0.now) 0) (sym e ∙ parts.0) ∙ at x.0.now x.1.now in
    let long = ap length (sym e ∙ parts.0) in
    lacks_at 32 w (bare_lacks_space w bare) (length x.0.now) (omega (arith, long, longer x.0.now x.1.now)) there
  where
    at : (xs ys : List ℕ) → get_or (xs ++ 32 ∷ ys) (length xs) 0 ≡ 32
    at [] ys = refl
    at (x ∷ xs) ys = at xs ys

    longer : (xs ys : List ℕ) → length xs < length (xs ++ 32 ∷ ys)
    longer [] ys = omega arith
    longer (x ∷ xs) ys = let l = longer xs ys in omega (arith, l)

-- ---- words that are left

-- these words are left, behind what is there already
pub record AreLeft (n : ℕ) (rest now whole : List ℕ) : Type 0 where
  pub word : List ℕ
  pub words : List (List ℕ)
  pub shown : List ℕ
  pub others : List (List ℕ)
  pub alike : AreInHex n (word ∷ words) (shown ∷ others)
  pub rest_is : rest ≡ spaced (word ∷ words)
  pub now_is : now ++ spaced (shown ∷ others) ≡ whole

pub words_start : (n : ℕ) (w : List ℕ) (ws os : List (List ℕ)) (line old : List ℕ) → AreInHex n (w ∷ ws) os → line ≡ spaced (w ∷ ws) → AreLeft n line old (old ++ spaced os)
words_start n w ws [] line old h e = absurd h
words_start n w ws (o ∷ os) line old h e = record { word = w; words = ws; shown = o; others = os; alike = h; rest_is = e; now_is = refl }

pub words_step : (n : ℕ) (rest now mid new whole : List ℕ) (d : Bool) (x : Bor (List ℕ) × Bor (List ℕ)) → AreLeft n rest now whole → IsSplitOnceResult 32 rest (Some x) → d ≡ (n == 0)
    → (d ≡ false → mid ≡ now ++ x.0.now) → ((v : ℕ) → v < 2 ^ 64 → x.0.now ≡ decimal v → d ≡ true → mid ≡ now ++ hexadecimal v) → new ≡ mid ++ 32 ∷ [] → AreLeft (n - 1) x.1.now new whole
words_step n rest now mid new whole d x left cut e plain number more = go left.word left.words left.shown left.others left.alike left.rest_is left.now_is
  where
    go : (w : List ℕ) (ws : List (List ℕ)) (o : List ℕ) (os : List (List ℕ)) → AreInHex n (w ∷ ws) (o ∷ os) → rest ≡ spaced (w ∷ ws) → now ++ spaced (o ∷ os) ≡ whole → AreLeft (n - 1) x.1.now new whole
    go w [] o os h r k = absurd (one_word w rest x (first_bare n w o [] os h) r cut)
    go w (v ∷ ws) o [] h r k = absurd (rest_in_hex n w o (v ∷ ws) [] h)
    go w (v ∷ ws) o (p ∷ os) h r k =
        let cuts = split_after 32 rest w (spaced (v ∷ ws)) (Some x) cut (omega arith) r (lacks_at 32 w (bare_lacks_space w (first_bare n w o (v ∷ ws) (p ∷ os) h))) in
        let pushed : mid ≡ now ++ o = word_pushed (λ l. mid ≡ now ++ l) n d w o (v ∷ ws) (p ∷ os) e h (λ f. plain f ∙ ap (λ l. now ++ l) cuts.0) (λ y small q t. number y small (cuts.0 ∙ q) t) in
        record {
          word = v;
          words = ws;
          shown = p;
          others = os;
          alike = rest_in_hex n w o (v ∷ ws) (p ∷ os) h;
          rest_is = cuts.1;
          now_is = ap (λ l. l ++ spaced (p ∷ os)) more ∙ append_assoc mid (32 ∷ []) (spaced (p ∷ os)) ∙ ap (λ l. l ++ 32 ∷ spaced (p ∷ os)) pushed
              ∙ append_assoc now o (32 ∷ spaced (p ∷ os)) ∙ k;
        }

pub words_end : {E : Type 0} (n : ℕ) (rest now new whole : List ℕ) (d : Bool) (r : Result (Unit {0}) E) → AreLeft n rest now whole → IsSplitOnceResult 32 rest None → d ≡ (n == 0)
    → (d ≡ false → OnOk r (new ≡ now ++ rest)) → ((v : ℕ) → v < 2 ^ 64 → rest ≡ decimal v → d ≡ true → OnOk r (new ≡ now ++ hexadecimal v)) → OnOk r (new ≡ whole)
words_end {E} n rest now new whole d r left cut e plain number = go left.word left.words left.shown left.others left.alike left.rest_is left.now_is
  where
    done : (r : Result (Unit {0}) E) (l : List ℕ) → now ++ l ≡ whole → OnOk r (new ≡ now ++ l) → OnOk r (new ≡ whole)
    done (Ok u) l k h = h ∙ k
    done (Err f) l k h = tt

    go : (w : List ℕ) (ws : List (List ℕ)) (o : List ℕ) (os : List (List ℕ)) → AreInHex n (w ∷ ws) (o ∷ os) → rest ≡ spaced (w ∷ ws) → now ++ spaced (o ∷ os) ≡ whole → OnOk r (new ≡ whole)
    go w (v ∷ ws) o os h p k = absurd (split_after 32 rest w (spaced (v ∷ ws)) None cut (omega arith) p (lacks_at 32 w (bare_lacks_space w (first_bare n w o (v ∷ ws) os h))))
    go w [] o (q ∷ os) h p k = absurd (rest_in_hex n w o [] (q ∷ os) h)
    go w [] o [] h p k =
        done r o k (word_pushed (λ l. OnOk r (new ≡ now ++ l)) n d w o [] [] e h (λ f. subst (λ l. OnOk r (new ≡ now ++ l)) p (plain f)) (λ y small q t. number y small (p ∙ q) t))

-- ---- lines that are left

pub record LinesAreLeft (rest now whole : List ℕ) : Type 0 where
  pub lines : List (List (List ℕ))
  pub others : List (List (List ℕ))
  pub alike : AllZip HasHex lines others
  pub rest_is : rest ≡ text_of lines
  pub now_is : now ++ text_of others ≡ whole

-- the words of a line, and of the other: both have a first word
has_bare : (l m : List (List ℕ)) → HasHex l m → (line_text l ≡ spaced l ++ 10 ∷ []) × (line_text m ≡ spaced m ++ 10 ∷ []) × AllByRecursion IsBare l
has_bare l m (object {a} {size} {slots} {words} {others} sa ss sl h) = (line_spaced (codes "object") (decimal a ∷ (decimal size ++ 47 ∷ decimal slots) ∷ words), go others h, all_bare (3 + slots) (codes "object" ∷ decimal a ∷ (decimal size ++ 47 ∷ decimal slots) ∷ words) others h)
  where
    go : (os : List (List ℕ)) → AreInHex (3 + slots) (codes "object" ∷ decimal a ∷ (decimal size ++ 47 ∷ decimal slots) ∷ words) os → line_text os ≡ spaced os ++ 10 ∷ []
    go [] h = absurd h
    go (o ∷ os) h = line_spaced o os
has_bare l m (other {word} {words} not bare) = (line_spaced word words, line_spaced word words, bare)

pub lines_start : (said others : List (List (List ℕ))) (text none : List ℕ) → AllZip HasHex said others → text ≡ text_of said → none ≡ [] → LinesAreLeft text none (text_of others)
lines_start said others text none h e n = record { lines = said; others = others; alike = h; rest_is = e; now_is = ap (λ l. l ++ text_of others) n }

pub lines_step : (rest now mid new whole : List ℕ) (x : Bor (List ℕ) × Bor (List ℕ)) → LinesAreLeft rest now whole → IsSplitOnceResult 10 rest (Some x)
    → ((said others : List (List ℕ)) → HasHex said others → x.0.now ≡ spaced said → mid ≡ now ++ spaced others) → new ≡ mid ++ 10 ∷ [] → LinesAreLeft x.1.now new whole
lines_step rest now mid new whole x left cut pushed more = go left.lines left.others left.alike left.rest_is left.now_is
  where
    some : (xs ys : List ℕ) → xs ++ 10 ∷ ys ≡ [] → ⊥
    some [] ys e = let n = ap length e in omega (arith, n)
    some (x ∷ xs) ys e = let n = ap length e in omega (arith, n)

    go : (ls ms : List (List (List ℕ))) → AllZip HasHex ls ms → rest ≡ text_of ls → now ++ text_of ms ≡ whole → LinesAreLeft x.1.now new whole
    go [] ms h r k = absurd (some x.0.now x.1.now (sym (split_parts 10 rest (Some x) cut (omega arith)).0 ∙ r))
    go (l ∷ ls) [] h r k = absurd h
    go (l ∷ ls) (m ∷ ms) h r k =
        let b = has_bare l m h.0 in
        let front : rest ≡ spaced l ++ 10 ∷ text_of ls = r ∙ ap (λ t. t ++ text_of ls) b.0 ∙ append_assoc (spaced l) (10 ∷ []) (text_of ls) in
        let cuts = split_after 10 rest (spaced l) (text_of ls) (Some x) cut (omega arith) front (lacks_at 10 (spaced l) (spaced_lacks_end l b.2)) in
        record {
          lines = ls;
          others = ms;
          alike = h.1;
          rest_is = cuts.1;
          now_is = ap (λ t. t ++ text_of ms) (more ∙ ap (λ t. t ++ 10 ∷ []) (pushed l m h.0 cuts.0) ∙ append_assoc now (spaced m) (10 ∷ []) ∙ ap (λ t. now ++ t) (sym b.1))
              ∙ append_assoc now (line_text m) (text_of ms) ∙ k;
        }

pub lines_end : (rest now new whole : List ℕ) → LinesAreLeft rest now whole → IsSplitOnceResult 10 rest None → new ≡ now ++ rest → new ≡ whole
lines_end rest now new whole left cut more = go left.lines left.others left.alike left.rest_is left.now_is
  where
    go : (ls ms : List (List (List ℕ))) → AllZip HasHex ls ms → rest ≡ text_of ls → now ++ text_of ms ≡ whole → new ≡ whole
    go [] [] h r k = more ∙ ap (λ l. now ++ l) r ∙ k
    go [] (m ∷ ms) h r k = absurd h
    go (l ∷ ls) [] h r k = absurd h
    go (l ∷ ls) (m ∷ ms) h r k =
        let b = has_bare l m h.0 in
        let front : rest ≡ spaced l ++ 10 ∷ text_of ls = r ∙ ap (λ t. t ++ text_of ls) b.0 ∙ append_assoc (spaced l) (10 ∷ []) (text_of ls) in
        absurd (split_after 10 rest (spaced l) (text_of ls) None cut (omega arith) front (lacks_at 10 (spaced l) (spaced_lacks_end l b.2)))

-- ---- the line of an object, and another one

-- a line whose first word is `object` is that of an object: so many words and slots are in front of its data words
pub object_pushed : (P : List (List ℕ) → Type 0) (line : List ℕ) (x : Bor (List ℕ) × Bor (List ℕ)) (n before : ℕ) → IsSplitOnceResult 32 line (Some x) → x.0.now ≡ codes "object"
    → before ≡ min (3 + n) (2 ^ 64 - 1)
    → ((a size slots : ℕ) (words : List (List ℕ)) → a < 2 ^ 64 → size < 2 ^ 32 → slots < 2 ^ 32 → AllByRecursion IsBare words
    → line ≡ spaced (codes "object" ∷ decimal a ∷ (decimal size ++ 47 ∷ decimal slots) ∷ words) → n ≡ slots)
    → ((first : List ℕ) (said others : List (List ℕ)) → AreInHex before (first ∷ said) others → line ≡ spaced (first ∷ said) → P others)
    → (said others : List (List ℕ)) → HasHex said others → line ≡ spaced said → P others
object_pushed P line x n before cut is sum count push said others (object {a} {size} {slots} {words} sa ss sl h) e =
    let bare = all_bare (3 + slots) (codes "object" ∷ decimal a ∷ (decimal size ++ 47 ∷ decimal slots) ∷ words) others h in
    let slots_are = count a size slots words sa ss sl bare.1.1.1 e in
    let same : 3 + slots ≡ before = omega (arith, sum, slots_are, sl) in
    push (codes "object") (decimal a ∷ (decimal size ++ 47 ∷ decimal slots) ∷ words) others
    (subst (λ m. AreInHex m (codes "object" ∷ decimal a ∷ (decimal size ++ 47 ∷ decimal slots) ∷ words) others) same h) e
object_pushed P line x n before cut is sum count push said others (other {word} {words} not bare) e = absurd (go words bare e)
  where
    go : (words : List (List ℕ)) → AllByRecursion IsBare (word ∷ words) → line ≡ spaced (word ∷ words) → ⊥
    go [] bare e = one_word word line x bare.0 e cut
    go (v ∷ ws) bare e = not (sym (split_after 32 line word (spaced (v ∷ ws)) (Some x) cut (omega arith) e (lacks_at 32 word (bare_lacks_space word bare.0))).0 ∙ is)

-- the first word is `object`, or the line stays
pub line_stays : (line : List ℕ) (r : Option (Bor (List ℕ) × Bor (List ℕ))) (said others : List (List ℕ)) → IsSplitOnceResult 32 line r
    → ((x : Bor (List ℕ) × Bor (List ℕ)) → r ≡ Some x → x.0.now ≢ codes "object") → HasHex said others → line ≡ spaced said → line ≡ spaced others
line_stays line r said others cut never (object {a} {size} {slots} {words} sa ss sl h) e =
    let bare = all_bare (3 + slots) (codes "object" ∷ decimal a ∷ (decimal size ++ 47 ∷ decimal slots) ∷ words) others h in
    absurd (go r never (split_after 32 line (codes "object") (spaced (decimal a ∷ (decimal size ++ 47 ∷ decimal slots) ∷ words)) r cut (omega arith) e (lacks_at 32 (codes "object") (bare_lacks_space (codes "object") bare.0))))
  where
    go : (r : Option (Bor (List ℕ) × Bor (List ℕ))) → ((x : Bor (List ℕ) × Bor (List ℕ)) → r ≡ Some x → x.0.now ≢ codes "object")
        → MatchOption r ⊥ (λ x. (x.0.now ≡ codes "object") × (x.1.now ≡ spaced (decimal a ∷ (decimal size ++ 47 ∷ decimal slots) ∷ words))) → ⊥
    go None never m = m
    go (Some x) never m = never x refl m.0
line_stays line r said others cut never (other {word} {words} not bare) e = e
