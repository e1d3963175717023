-- The numbers of a summary, from what is counted by region.
use Rattle.std.proofs.Common.{◌≡◌, ℕ, zero, suc, ◌+◌, ◌-◌, ◌*◌, ◌^◌, ◌/◌, ◌<◌, ◌≤◌, Bool, All, List, [], ◌∷◌, ◌++◌, length, map, flat_map, refl, sym, ◌∙◌, ap, subst, arith, append_assoc, append-nil}
use Rattle.std.specs.Prelude.{min, sum, sum_by, filter, Result, Ok, Err, OnOk}
use Rattle.std.specs.List.{range_with_len}
use Rattle.std.proofs.lemmas.List.{get_or_default}
use Rattle.std.proofs.lemmas.List.Elements.{filter-append}
use Rattle.std.proofs.lemmas.List.Sums.{sum_by-append, sum_by-cons, sum_by-le}
use Rattle.g1_words.specs.declared.object.Object.{Object}
use Rattle.g1_words.specs.Geometry.{most_words}
use Rattle.g1_words.specs.Heap.{Heap, objects_in, regions}
use Rattle.g1_words.specs.Live.{IsLiveBytes, bytes_where}
use Rattle.g1_words.specs.Valid.{IsValid}
use Rattle.g1_words.proofs.Objects.{tops_fit}
use Rattle.g1_image.specs.Image.{Image, IsImage}
use Rattle.g1_mark.proofs.Counting.{bytes_few}
use Rattle.g1_work.specs.Ranges.{used}
use Rattle.g1_text.specs.Lines.{line_text, text_of}
use Rattle.g1_text.proofs.Printed.{text_append}
use Rattle.g1_tables.specs.Summary.{words_where, summary_lines, IsSummary}

-- the words of live objects, region by region
words_by_region : (h : Heap) (test : ℕ → Bool) (rs : List ℕ) → sum (map (bytes_where h test) rs) ≡ 8 * sum_by (λ o. o.size) (filter (λ o. test o.at) (flat_map (objects_in h) rs))
words_by_region h test [] = refl
words_by_region h test (r ∷ rs) =
    let here : List Object = objects_in h r in
    let rest : List Object = flat_map (objects_in h) rs in
    let bytes = sum_by-cons (λ x. x) (bytes_where h test r) (map (bytes_where h test) rs) in
    let words = ap (sum_by (λ o. o.size)) (filter-append (λ o. test o.at) here rest) ∙ sum_by-append (λ o. o.size) (filter (λ o. test o.at) here) (filter (λ o. test o.at) rest) in
    let others = words_by_region h test rs in
    omega (arith, bytes, words, others)

-- numbers that are at most m
sum_few : (f : ℕ → ℕ) (m a n : ℕ) → ((r : ℕ) → r < a + n → f r ≤ m) → sum (map f (range_with_len a n)) ≤ n * m
sum_few f m a zero few = omega arith
sum_few f m a (suc n) few =
    let front = sum_by-cons (λ x. x) (f a) (map f (range_with_len (a + 1) n)) in
    let here = few a (omega arith) in
    let rest = sum_few f m (a + 1) n (λ r lt. few r (omega (arith, lt))) in
    let more : suc n * m ≡ m + n * m = omega arith in
    omega (arith, front, here, rest, more)

module _ (h : Heap) (valid : IsValid h) where
  -- an eighth of the live bytes of all regions
  pub live_words : (lives : List ℕ) (counted : IsLiveBytes h lives) → min (sum lives) (2 ^ 64 - 1) / 8 ≡ words_where h counted.test
  live_words lives counted =
      let test = counted.test in
      let same : sum lives ≡ sum (map (bytes_where h test) (regions h)) = ap sum counted.bytes in
      let words = words_by_region h test (regions h) in
      let few = sum_few (bytes_where h test) (8 * most_words) 0 h.geometry.n (λ r lt. bytes_few h valid test r (omega (arith, lt))) in
      let most = valid.limits.n_most in
      let small : min (sum lives) (2 ^ 64 - 1) ≡ 8 * words_where h test = omega (arith, same, words, few, most) in
      let eighth : 8 * words_where h test / 8 ≡ words_where h test = omega arith in
      ap (λ x. x / 8) small ∙ eighth

  -- no heap has so many words that their number is cut off
  pub used_whole : min (used h.regions) (2 ^ 64 - 1) ≡ used h.regions
  used_whole =
      let few = sum_by-le (λ q. q.top) h.geometry.w h.regions (tops_fit h valid) in
      let same : length h.regions * h.geometry.w ≡ h.geometry.n * h.geometry.w = ap (λ n. n * h.geometry.w) valid.region_count in
      omega (arith, few, same, valid.limits.words_most)

-- nor so many remembered cards
pub cards_whole : (i : Image) → IsImage i → min (sum_by length i.remembered) (2 ^ 64 - 1) ≡ sum_by length i.remembered
cards_whole i is =
    let small : All (λ cards. length cards ≤ 2 ^ 32) i.remembered = λ r d lt.
    let few = (is.remembered r (omega (arith, lt, is.one_each))).count in
    subst (λ cards. length cards ≤ 2 ^ 32) (get_or_default i.remembered r [] d lt) (omega (arith, few)) in
    let most = sum_by-le length (2 ^ 32) i.remembered small in
    omega (arith, most, is.one_each, is.heap.limits.n_most)

-- one line more
line_more : (old now new : List ℕ) (lines : List (List (List ℕ))) (line : List (List ℕ)) → now ≡ old ++ text_of lines → new ≡ now ++ line_text line → new ≡ old ++ text_of (lines ++ line ∷ [])
line_more old now new lines line e p =
    p ∙ ap (λ l. l ++ line_text line) e ∙ append_assoc old (text_of lines) (line_text line)
    ∙ ap (λ l. old ++ (text_of lines ++ l)) (sym (append-nil (line_text line))) ∙ ap (λ l. old ++ l) (sym (text_append lines (line ∷ [])))

-- all lines, one after the other
pub seven_lines : {E : Type 0} (r : Result (Unit {0}) E) (old a b c d e f g : List ℕ) (la lb lc ld le lf lg : List (List ℕ)) → a ≡ old ++ line_text la → b ≡ a ++ line_text lb → c ≡ b ++ line_text lc
    → d ≡ c ++ line_text ld → e ≡ d ++ line_text le → f ≡ e ++ line_text lf → OnOk r (g ≡ f ++ line_text lg) → OnOk r (g ≡ old ++ text_of (la ∷ lb ∷ lc ∷ ld ∷ le ∷ lf ∷ lg ∷ []))
seven_lines (Err x) old a b c d e f g la lb lc ld le lf lg pa pb pc pd pe pf pg = tt
seven_lines (Ok u) old a b c d e f g la lb lc ld le lf lg pa pb pc pd pe pf pg =
    line_more old f g (la ∷ lb ∷ lc ∷ ld ∷ le ∷ lf ∷ []) lg
    (line_more old e f (la ∷ lb ∷ lc ∷ ld ∷ le ∷ []) lf
    (line_more old d e (la ∷ lb ∷ lc ∷ ld ∷ []) le
    (line_more old c d (la ∷ lb ∷ lc ∷ []) ld
    (line_more old b c (la ∷ lb ∷ []) lc
    (line_more old a b (la ∷ []) lb
    (line_more old old a [] la (sym (append-nil old)) pa) pb) pc) pd) pe) pf) pg

-- the summary by the live bytes that were counted
pub summary_told : (i : Image) (h : Heap) (lives numbers none text : List ℕ) (words : ℕ) → IsImage i → h ≡ i.heap → IsLiveBytes h lives → numbers ≡ lives → words ≡ min (sum numbers) (2 ^ 64 - 1) / 8
    → none ≡ [] → text ≡ none ++ text_of (summary_lines i words) → IsSummary i text
summary_told i h lives numbers none text words is same live e count n told =
    let counted : IsLiveBytes i.heap lives = subst (λ (x : Heap). IsLiveBytes x lives) same live in
    let all : words ≡ words_where i.heap counted.test = count ∙ ap (λ l. min (sum l) (2 ^ 64 - 1) / 8) e ∙ live_words i.heap is.heap lives counted in
    record { test = counted.test; passes = counted.passes; printed = told ∙ (λ t. n t ++ text_of (summary_lines i (all t))) }
