-- Words that are laid from a source one part after the other.
use Rattle.std.proofs.Common.{◌≡◌, ◌≤◌, ◌<◌, ℕ, zero, suc, ◌+◌, ◌-◌, ◌*◌, Bool, List, [], ◌∷◌, ◌++◌, Option, length, take, drop, replicate, slice_index_or, min, arith, refl, sym, ap, ◌∙◌}
use Rattle.std.proofs.Common.{append_assoc, append-nil, length-append, length-drop, take-append-drop, length-take-le, add-one, drop-cons}
use Rattle.std.proofs.lemmas.List.{take-append-le, take_all, replicate-append-replicate}
use Rattle.std.proofs.lemmas.List.Sums.{sum_by-append}
use Rattle.std.proofs.Math.Seq.{drop-append_seam}
use lib.Seq.{drop-append-le}
use Rattle.std.specs.Io.KnownBytes.{Keeps, prepend_known}
use Rattle.g1_words.specs.declared.fault.Fault.{Fault}
use Rattle.g1_image.specs.Text.{Entry, words_of, table_words}
use Rattle.g1_image.specs.Reading.{IsBytes}
use Rattle.g1_image.specs.Image.{all_words}
use Rattle.g1_image.specs.Ahead.{Takes, TakeFails, region_words}
use Rattle.g1_image.proofs.Words.{take-words_of, drop-words_of, words_of-take, table_words-cons, laid_front}
use Rattle.g1_image.proofs.Taken.{takes_none, takes_more, takes_front, fails_after}

-- what follows doesn't matter to the words before it
pub words_of-front : (m : ℕ) (bs cs : List ℕ) → 8 * m ≤ length bs → words_of m (bs ++ cs) ≡ words_of m bs
words_of-front m bs cs le = sym (words_of-take m (bs ++ cs)) ∙ ap (words_of m) (take-append-le (8 * m) bs cs le) ∙ words_of-take m bs

pub words_of-append : (m n : ℕ) (bs cs : List ℕ) → length bs ≡ 8 * m → words_of (m + n) (bs ++ cs) ≡ words_of m bs ++ words_of n cs
words_of-append m n bs cs e =
    let all : List ℕ = words_of (m + n) (bs ++ cs) in
    let front : take m (words_of (m + n) (bs ++ cs)) ≡ words_of m bs = take-words_of m (m + n) (bs ++ cs) (omega arith) ∙ words_of-front m bs cs (omega (arith, e)) in
    let back : drop m (words_of (m + n) (bs ++ cs)) ≡ words_of n cs =
    drop-words_of m (m + n) n (bs ++ cs) refl ∙ ap (words_of n) (ap (λ k. drop k (bs ++ cs)) (sym e) ∙ drop-append_seam bs cs) in
    sym (take-append-drop m (words_of (m + n) (bs ++ cs))) ∙ (λ t. front t ++ back t)

-- so many words were passed over, and so many are left
pub record Skipped (m n : Bool) (a b : Option (List ℕ)) (count left : ℕ) : Type 0 where
  pub taken : List ℕ
  pub takes : Takes m n a b taken
  pub size : length taken + 8 * left ≡ 8 * count

pub skipped_more : (m n o : Bool) (a b l : Option (List ℕ)) (count left here : ℕ) (w after : List ℕ) → Skipped m n a b count left → o ≡ n →
    Keeps b (prepend_known w l) → IsBytes w → here ≤ left → 8 * here ≤ length w →
    after ≡ drop (8 * here) w → Skipped m o a (prepend_known after l) count (left - here)
skipped_more m n o a b l count left here w after s mark kept are le within e = record {
  taken = s.taken ++ take (8 * here) w;
  takes = takes_more m n o a b (prepend_known after l) s.taken (take (8 * here) w) s.takes (takes_front n o b l w after (8 * here) mark kept are e);
  size = omega (arith, s.size, le, length-append s.taken (take (8 * here) w), length-take-le (8 * here) w within);
}

-- before the first word
pub skipped_none : (m : Bool) (a : Option (List ℕ)) (count : ℕ) → Skipped m m a a count count
skipped_none m a count = record { taken = []; takes = takes_none m a; size = omega arith }

-- after the last word
pub skipped_all : (m n : Bool) (a b : Option (List ℕ)) (count left : ℕ) → Skipped m n a b count left → left ≤ 0 → (bs : List ℕ) × Takes m n a b bs × (length bs ≡ 8 * count)
skipped_all m n a b count left s none = (s.taken, s.takes, omega (arith, s.size))

-- the next words aren't there
pub skipped_fails : (m n o : Bool) (a b : Option (List ℕ)) (count left : ℕ) (e : Fault) → Skipped m n a b count left → 0 < left → TakeFails n o b 8 e → TakeFails m o a (8 * count) e
skipped_fails m n o a b count left e s some h = fails_after m n o a b s.taken 8 (8 * count) e s.takes h (omega (arith, s.size))

-- so many words were laid behind others, and so many are left
pub record Pushed (m n : Bool) (a b : Option (List ℕ)) (count left : ℕ) (old new : List ℕ) : Type 0 where
  pub skipped : Skipped m n a b count left
  pub words : new ≡ old ++ words_of (count - left) skipped.taken

pub pushed_more : (m n o : Bool) (a b l : Option (List ℕ)) (count left here : ℕ) (w after old mid new : List ℕ) → Pushed m n a b count left old mid →
    o ≡ n → Keeps b (prepend_known w l) → IsBytes w → here ≤ left → 8 * here ≤ length w →
    after ≡ drop (8 * here) w → new ≡ mid ++ words_of here w → Pushed m o a (prepend_known after l) count (left - here) old new
unfolding skipped_more
pushed_more m n o a b l count left here w after old mid new p mark kept are le within e is =
    let bs : List ℕ = p.skipped.taken in
    let size : length p.skipped.taken ≡ 8 * (count - left) = omega (arith, p.skipped.size) in
    let sum : count - left + here ≡ count - (left - here) = omega (arith, p.skipped.size, le) in
    let joined : words_of (count - left) p.skipped.taken ++ words_of here w ≡ words_of (count - (left - here)) (p.skipped.taken ++ take (8 * here) w) =
    ap (λ (x : List ℕ). words_of (count - left) p.skipped.taken ++ x) (sym (words_of-take here w)) ∙ sym (words_of-append (count - left) here p.skipped.taken (take (8 * here) w) size)
    ∙ ap (λ k. words_of k (p.skipped.taken ++ take (8 * here) w)) sum in
    record {
      skipped = skipped_more m n o a b l count left here w after p.skipped mark kept are le within e;
      words = is ∙ ap (λ x. x ++ words_of here w) p.words ∙ append_assoc old (words_of (count - left) bs) (words_of here w) ∙ ap (λ x. old ++ x) joined;
    }

pub pushed_none : (m : Bool) (a : Option (List ℕ)) (count : ℕ) (old : List ℕ) → Pushed m m a a count count old old
unfolding skipped_none
pushed_none m a count old =
    let n : 0 ≡ count - count = omega arith in
    record { skipped = skipped_none m a count; words = sym (append-nil old) ∙ ap (λ k. old ++ words_of k []) n }

pub pushed_all : (m n : Bool) (a b : Option (List ℕ)) (count left : ℕ) (old new : List ℕ) → Pushed m n a b count left old new → left ≤ 0 →
    (bs : List ℕ) × Takes m n a b bs × (length bs ≡ 8 * count) × (new ≡ old ++ words_of count bs)
pushed_all m n a b count left old new p none =
    let all : count - left ≡ count = omega arith in
    (p.skipped.taken, p.skipped.takes, omega (arith, p.skipped.size), p.words ∙ ap (λ k. old ++ words_of k p.skipped.taken) all)

-- a region's words: those that were laid, and zeros that are still to come; those that were passed over don't matter
pub region_laid : (w top used : ℕ) (old new bs cs : List ℕ) → used ≡ min top w → length bs ≡ 8 * used → new ≡ old ++ words_of used bs →
    new ++ replicate (w - used) 0 ≡ old ++ region_words w top (bs ++ cs)
region_laid w top used old new bs cs u len p =
    let front : words_of used bs ≡ words_of (min top w) (bs ++ cs) = sym (words_of-front used bs cs (omega (arith, len))) ∙ ap (λ k. words_of k (bs ++ cs)) u in
    let pad : w - used ≡ w - top = omega (arith, u) in
    ap (λ x. x ++ replicate (w - used) 0) p ∙ append_assoc old (words_of used bs) (replicate (w - used) 0) ∙ (λ t. old ++ (front t ++ replicate (pad t) 0))

-- a region without a used word
pub none_laid : (old : List ℕ) (zeros w : ℕ) → old ++ replicate (zeros + w) 0 ≡ (old ++ replicate zeros 0) ++ region_words w 0 []
none_laid old zeros w =
    let used : min 0 w ≡ 0 = omega arith in
    let pad : w - 0 ≡ w = omega arith in
    ap (λ l. old ++ l) (sym (replicate-append-replicate zeros w 0)) ∙ sym (append_assoc old (replicate zeros 0) (replicate w 0))
    ∙ (λ t. (old ++ replicate zeros 0) ++ (words_of (sym used t) [] ++ replicate (sym pad t) 0))

table_words-snoc : (es : List Entry) (e : Entry) → table_words (es ++ e ∷ []) ≡ table_words es + e.top
table_words-snoc es e = omega (arith, sum_by-append (λ (e : Entry). e.top) es (e ∷ []), table_words-cons e [])

-- the words of one region more
all_words-snoc : (w : ℕ) (es : List Entry) (e : Entry) (bs cs : List ℕ) → length bs ≡ 8 * table_words es → length cs ≡ 8 * e.top →
    all_words w (es ++ e ∷ []) (words_of (table_words (es ++ e ∷ [])) (bs ++ cs)) ≡ all_words w es (words_of (table_words es) bs) ++ region_words w e.top cs
all_words-snoc w [] e [] cs len more = laid_front w e [] cs ∙ ap (λ x. words_of (min e.top w) cs ++ x) (append-nil (replicate (w - e.top) 0))
all_words-snoc w [] e (b ∷ bs) cs len more = absurd (omega (arith, len))
all_words-snoc w (x ∷ es) e bs cs len more =
    let sum : length bs ≡ 8 * (x.top + table_words es) = len ∙ ap (λ k. 8 * k) (table_words-cons x es) in
    let rest : List ℕ = drop (8 * x.top) bs in
    let front : words_of (min x.top w) (bs ++ cs) ≡ words_of (min x.top w) bs = words_of-front (min x.top w) bs cs (omega (arith, sum)) in
    let back : drop (8 * x.top) (bs ++ cs) ≡ drop (8 * x.top) bs ++ cs = drop-append-le (8 * x.top) bs cs (omega (arith, sum)) in
    let tail : all_words w (es ++ e ∷ []) (words_of (table_words (es ++ e ∷ [])) (drop (8 * x.top) (bs ++ cs)))
    ≡ all_words w es (words_of (table_words es) (drop (8 * x.top) bs)) ++ region_words w e.top cs =
    ap (λ l. all_words w (es ++ e ∷ []) (words_of (table_words (es ++ e ∷ [])) l)) back ∙ all_words-snoc w es e rest cs (omega (arith, sum, length-drop (8 * x.top) bs)) more in
    let own : List ℕ = words_of (min x.top w) bs in
    let zeros : List ℕ = replicate (w - x.top) 0 in
    let others : List ℕ = all_words w es (words_of (table_words es) (drop (8 * x.top) bs)) in
    laid_front w x (es ++ e ∷ []) (bs ++ cs) ∙ (λ t. front t ++ (replicate (w - x.top) 0 ++ tail t))
    ∙ sym (append_assoc own (zeros ++ others) (region_words w e.top cs) ∙ ap (λ l. own ++ l) (append_assoc zeros others (region_words w e.top cs)))
    ∙ ap (λ l. l ++ region_words w e.top cs) (sym (laid_front w x es bs))

-- the regions before this one were laid
pub record Laid (m n : Bool) (a b : Option (List ℕ)) (w : ℕ) (table : List Entry) (i : ℕ) (out : List ℕ) : Type 0 where
  pub taken : List ℕ
  pub takes : Takes m n a b taken
  pub size : length taken ≡ 8 * table_words (take i table)
  pub words : out ≡ all_words w (take i table) (words_of (table_words (take i table)) taken)

-- before the first region
pub laid_none : (m : Bool) (a : Option (List ℕ)) (w : ℕ) (table : List Entry) (out : List ℕ) → out ≡ [] → Laid m m a a w table 0 out
laid_none m a w table out e = record { taken = []; takes = takes_none m a; size = refl; words = e }

-- after the last region
pub laid_all : (m n : Bool) (a b : Option (List ℕ)) (w : ℕ) (table : List Entry) (i : ℕ) (out : List ℕ) → Laid m n a b w table i out → length table ≤ i →
    (bs : List ℕ) × Takes m n a b bs × (length bs ≡ 8 * table_words table) × (out ≡ all_words w table (words_of (table_words table) bs))
laid_all m n a b w table i out l le =
    let all : take i table ≡ table = take_all i table le in
    (l.taken, l.takes, l.size ∙ ap (λ t. 8 * table_words t) all, l.words ∙ ap (λ t. all_words w t (words_of (table_words t) l.taken)) all)

take-snoc : (i : ℕ) (table : List Entry) (d : Entry) → i < length table → take (i + 1) table ≡ take i table ++ slice_index_or table i d ∷ []
take-snoc i [] d lt = absurd (omega (arith, lt))
take-snoc zero (x ∷ table) d lt = refl
take-snoc (suc i) (x ∷ table) d lt =
    let same : suc i + 1 ≡ suc (i + 1) = omega arith in
    ap (λ k. take k (x ∷ table)) same ∙ ap (λ l. x ∷ l) (take-snoc i table d (omega (arith, lt)))

pub laid_more : (m n o : Bool) (a b c : Option (List ℕ)) (w : ℕ) (table : List Entry) (i : ℕ) (d : Entry) (out new bs : List ℕ) → Laid m n a b w table i out → i < length table → Takes n o b c bs →
    length bs ≡ 8 * (slice_index_or table i d).top → new ≡ out ++ region_words w (slice_index_or table i d).top bs → Laid m o a c w table (i + 1) new
laid_more m n o a b c w table i d out new bs l lt t len is =
    let e : Entry = slice_index_or table i d in
    let es : List Entry = take i table in
    let split : take (i + 1) table ≡ take i table ++ slice_index_or table i d ∷ [] = take-snoc i table d lt in
    record {
      taken = l.taken ++ bs;
      takes = takes_more m n o a b c l.taken bs l.takes t;
      size = length-append l.taken bs ∙ omega (arith, l.size, len, table_words-snoc es e) ∙ ap (λ x. 8 * table_words x) (sym split);
      words = is ∙ ap (λ x. x ++ region_words w e.top bs) l.words ∙ sym (all_words-snoc w es e l.taken bs l.size len) ∙ ap (λ x. all_words w x (words_of (table_words x) (l.taken ++ bs))) (sym split);
    }

-- what the table announces of the first regions, of the next one, and in all
pub table_words-next : (table : List Entry) (i : ℕ) (d : Entry) → i < length table →
    (table_words (take (i + 1) table) ≡ table_words (take i table) + (slice_index_or table i d).top) × (table_words (take i table) + (slice_index_or table i d).top ≤ table_words table)
table_words-next table i d lt =
    let x : Entry = slice_index_or table i d in
    let parts : table_words table ≡ table_words (take i table) + table_words (drop i table) =
    ap table_words (sym (take-append-drop i table)) ∙ sum_by-append (λ (e : Entry). e.top) (take i table) (drop i table) in
    let split : drop i table ≡ x ∷ drop (i + 1) table = drop-cons table i d lt ∙ ap (λ k. x ∷ drop k table) (sym (add-one i)) in
    let sum : table_words (drop i table) ≡ x.top + table_words (drop (i + 1) table) = ap table_words split ∙ table_words-cons x (drop (i + 1) table) in
    (ap table_words (take-snoc i table d lt) ∙ table_words-snoc (take i table) x, omega (arith, parts, sum))
