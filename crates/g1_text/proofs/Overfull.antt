-- Objects that have more words than a heap, and the line that is refused.
use Rattle.std.proofs.Common.{◌≡◌, inl, inr, ℕ, ◌+◌, ◌≤◌, ◌<◌, ◌^◌, true, false, List, [], ◌∷◌, ◌++◌, length, length-append, get_or, map, filter, append-nil, append_assoc, refl, sym, ◌∙◌, ap, subst, arith}
use Rattle.std.specs.Prelude.{Option, Some, None, drop}
use Rattle.std.proofs.Math.Nat.{lt_of_not-le}
use Rattle.std.proofs.lemmas.List.{map-append}
use Rattle.std.proofs.lemmas.List.Elements.{filter-append}
use Rattle.std.proofs.lemmas.List.Sums.{sum_by_push}
use Rattle.g1_words.specs.Geometry.{Geometry, most_words}
use Rattle.g1_words.specs.declared.fault.Fault.TheVariants.{Memory as OutOfMemory}
use Rattle.g1_text.specs.declared.expected.Expected.{Expected as Wanted}
use Rattle.g1_text.specs.declared.expected.Expected.TheVariants.{FewerWords}
use Rattle.g1_text.specs.declared.expected.Refusal.{Refusal}
use Rattle.g1_text.specs.declared.expected.Refusal.TheVariants.{Expected, Memory}
use Rattle.g1_text.specs.declared.expected.Wrong.{Wrong}
use Rattle.g1_text.specs.declared.expected.Wrong.TheVariants.{Line, Fault}
use Rattle.g1_text.specs.declared.named.Lines.{Lines}
use Rattle.g1_text.specs.Reading.{words_in, says_something, parts_of, lines_in}
use Rattle.g1_text.specs.Graphs.{NamedGraph, SaysNamed, SayNamed, AddsObject, FitsHeap, AreWithinBounds, size_of, words_of, most_words_of, empty_graph}
use Rattle.g1_text.specs.ByName.{HasRead, IsRead}
use Rattle.g1_text.specs.Refused.{IsOtherRefusal}
use Rattle.g1_text.specs.Overfull.{FitsSoFar, IsOverfullLine, ReportsOverfull}
use Rattle.g1_text.proofs.Turns.{lines_of}
use Rattle.g1_text.proofs.Fields.{fronts_one}
use Rattle.g1_text.proofs.OneGraph.{lines_one}
use Rattle.g1_text.proofs.NamedLines.{IsNamedUpTo, Kept, one_said, line_read}

-- LISTS
-- what stands in front of one end of a list, where another is further down
further : {A : Type 0} (xs ys us vs : List A) → xs ++ ys ≡ us ++ vs → length xs ≤ length us → (mid : List A) × (us ≡ xs ++ mid)
further [] ys us vs e le = (us, refl)
further (x ∷ xs) ys [] vs e le = absurd (omega (arith, le))
further (x ∷ xs) ys (u ∷ us) vs e le =
    let r = further xs ys us vs (ap (drop 1) e) (omega (arith, le)) in
    let head : u ≡ x = ap (λ zs. get_or zs 0 x) (sym e) in
    (r.0, (λ i. head i ∷ r.1 i))

-- WORDS ONLY RISE
said_apart : (before after : Option NamedGraph) (xs ys : List (List (List ℕ))) → SayNamed before (xs ++ ys) after → (middle : Option NamedGraph) × SayNamed before xs middle × SayNamed middle ys after
said_apart before after [] ys s = (before, refl, s)
said_apart before after (x ∷ xs) ys s = let r = said_apart (Some s.0) after xs ys s.2 in (r.0, (s.0, s.1, r.1), r.2)

line_fits : (g h : NamedGraph) (words : List (List ℕ)) → SaysNamed (Some g) words h → FitsHeap h → FitsHeap g
line_fits g h words (inl root) fits = subst (λ x. words_of x ≤ most_words_of x.sizes) root.3 fits
line_fits g h words (inr object) fits =
    let now : words_of g + size_of object.0 ≤ most_words_of g.sizes = subst (λ n. n ≤ most_words_of g.sizes) (sum_by_push size_of g.objects object.0) (subst (λ x. words_of x ≤ most_words_of x.sizes) object.3 fits) in
    omega (arith, now)

lines_fit : (g : NamedGraph) (after : Option NamedGraph) (lines : List (List (List ℕ))) → SayNamed (Some g) lines after → FitsSoFar after → FitsHeap g
lines_fit g after [] e fits = subst FitsSoFar (sym e) fits
lines_fit g after (line ∷ lines) s fits = line_fits g s.0 line s.1 (lines_fit s.0 after lines s.2 fits)

-- a graph that is said above others that fit does, too
above_fits : (xs mid : List (List ℕ)) (g : NamedGraph) (after : Option NamedGraph) → SayNamed None (lines_of xs) (Some g) → SayNamed None (lines_of (xs ++ mid)) after → FitsSoFar after → FitsHeap g
above_fits xs mid g after says all fits =
    let two : lines_of (xs ++ mid) ≡ lines_of xs ++ lines_of mid = ap (filter says_something) (map-append words_in xs mid) ∙ filter-append says_something (map words_in xs) (map words_in mid) in
    let r = said_apart None after (lines_of xs) (lines_of mid) (subst (λ ls. SayNamed None ls after) two all) in
    let same : r.0 ≡ Some g = lines_one None r.0 (Some g) (lines_of xs) r.1 says in
    lines_fit g after (lines_of mid) (subst (λ m. SayNamed m (lines_of mid) after) same r.2) fits

-- the line of an object says something
object_says : (g h : NamedGraph) (words : List (List ℕ)) → AddsObject g words h → says_something words ≡ true
object_says g h words adds = ap says_something adds.1.line

module _ (text : List ℕ) (number words most : ℕ) (over : IsOverfullLine text number words most) where
  upto_said : SayNamed None (lines_of (over.above ++ over.line ∷ [])) (Some over.with_object)
  upto_said = one_said over.above over.line (Some over.graph) over.with_object (object_says over.graph over.with_object (words_in over.line) over.adds) over.says (inr over.adds)

  upto_long : length (over.above ++ over.line ∷ []) ≡ number
  upto_long = let l = length-append over.above (over.line ∷ []) in omega (arith, l, over.counted)

  whole : parts_of text ≡ (over.above ++ over.line ∷ []) ++ over.below
  whole = over.parts ∙ sym (append_assoc over.above (over.line ∷ []) over.below)

  sizes_same : most_words_of over.with_object.sizes ≡ most_words_of over.graph.sizes
  sizes_same = ap (λ (g : NamedGraph). most_words_of g.sizes) over.adds.3

  no_room : FitsHeap over.with_object → ⊥
  no_room fits = let more = over.more in let a = over.total in let b = over.limit in absurd (omega (arith, fits, more, a, b, sizes_same))

  -- no lines that fit go on behind it
  pub not_passed : (above left : List (List ℕ)) (now : Option NamedGraph) → parts_of text ≡ above ++ left → SayNamed None (lines_of above) now → FitsSoFar now → number ≤ length above → ⊥
  not_passed above left now parts says fits far =
      let f = further (over.above ++ over.line ∷ []) over.below above left (sym whole ∙ parts) (omega (arith, upto_long, far)) in
      no_room (above_fits (over.above ++ over.line ∷ []) f.0 over.with_object now upto_said (subst (λ ps. SayNamed None (lines_of ps) now) f.1 says) fits)

  -- lines that do not fit end no higher
  not_before : (above left : List (List ℕ)) (g : NamedGraph) → parts_of text ≡ above ++ left → SayNamed None (lines_of above) (Some g) → (FitsHeap g → ⊥) → length above < number → ⊥
  not_before above left g parts says wide near =
      let long = upto_long in
      let count = length-append over.above (over.line ∷ []) in
      let f = further above left over.above (over.line ∷ over.below) (sym parts ∙ over.parts) (omega (arith, long, count, near)) in
      wide (above_fits above f.0 g (Some over.graph) says (subst (λ ps. SayNamed None (lines_of ps) (Some over.graph)) f.1 over.says) over.fits)

  -- lines of that number are these
  there : (above left : List (List ℕ)) (g : NamedGraph) → parts_of text ≡ above ++ left → SayNamed None (lines_of above) (Some g) → length above ≡ number → g ≡ over.with_object
  there above left g parts says long =
      let same : above ≡ over.above ++ over.line ∷ [] = (fronts_one above (over.above ++ over.line ∷ []) left over.below (long ∙ sym upto_long) (sym parts ∙ whole)).0 in
      let one : Some g ≡ Some over.with_object = lines_one None (Some g) (Some over.with_object) (lines_of (over.above ++ over.line ∷ [])) (subst (λ ps. SayNamed None (lines_of ps) (Some g)) same says) upto_said in
      cc

  few : AreWithinBounds over.graph.sizes → words_of over.with_object < 2 ^ 64
  few bounds =
      let most_is = at over.graph.sizes bounds in
      let sum : words_of over.with_object ≡ words_of over.graph + size_of over.adds.0 = ap words_of over.adds.3 ∙ sum_by_push size_of over.graph.objects over.adds.0 in
      let fits = over.fits in
      let small = over.adds.1.fits in
      omega (arith, most_is, sum, fits, small)
    where
      at : (sizes : Option Geometry) → AreWithinBounds sizes → most_words_of sizes ≤ most_words
      at None within = omega arith
      at (Some s) within = within.words_most

  -- A LINE THAT WAS NOT READ is that line or one above it
  pub unread : (above left : List (List ℕ)) (now : Option NamedGraph) (n : ℕ) (x : Refusal) (w : Wrong) → parts_of text ≡ above ++ left → SayNamed None (lines_of above) now → FitsSoFar now → n ≡ length above + 1
      → IsOtherRefusal x → (x ≡ Memory → w ≡ Fault OutOfMemory) → ((e : Wanted) → x ≡ Expected e → w ≡ Line n e) → ReportsOverfull number words most w
  unread above left now n Memory w parts says fits count other memory line = subst (ReportsOverfull number words most) (sym (memory refl)) refl
  unread above left now n (Expected e) w parts says fits count other memory line =
      let near : n < number + 1 = lt_of_not-le (λ (le : number + 1 ≤ n). not_passed above left now parts says fits (omega (arith, le, count))) in
      subst (ReportsOverfull number words most) (sym (line e refl)) (inr (omega (arith, near), other))

  -- A LINE THAT WAS READ AND DOES NOT FIT is that line
  pub overfull : (above left : List (List ℕ)) (g : NamedGraph) (n : ℕ) (e : Wanted) (w : Wrong) → parts_of text ≡ above ++ left → SayNamed None (lines_of above) (Some g) → n ≡ length above → AreWithinBounds g.sizes
      → (FitsHeap g → ⊥) → (words_of g < 2 ^ 64 → e ≡ FewerWords (words_of g) (most_words_of g.sizes)) → (number < n → ⊥) → w ≡ Line n e → ReportsOverfull number words most w
  overfull above left g n e w parts says count bounds wide is low line =
      let far : number < n + 1 = lt_of_not-le (λ (le : n + 1 ≤ number). not_before above left g parts says wide (omega (arith, le, count))) in
      let near : n < number + 1 = lt_of_not-le (λ (le : number + 1 ≤ n). low (omega (arith, le))) in
      let long : n ≡ number = omega (arith, near, far) in
      let same : g ≡ over.with_object = there above left g parts says (sym count ∙ long) in
      let sizes : g.sizes ≡ over.graph.sizes = ap (λ (x : NamedGraph). x.sizes) (same ∙ over.adds.3) in
      let small : words_of g < 2 ^ 64 = subst (λ (x : NamedGraph). words_of x < 2 ^ 64) (sym same) (few (subst AreWithinBounds sizes bounds)) in
      let total : words_of g ≡ words = ap words_of same ∙ sym over.total in
      let limit : most_words_of g.sizes ≡ most = ap most_words_of sizes ∙ sym over.limit in
      subst (ReportsOverfull number words most) (sym line) (inl (long, is small ∙ (λ i. FewerWords (total i) (limit i))))

-- the line that was read last
module _ (text : List ℕ) (left rest : List (List ℕ)) (line : List ℕ) (is : left ≡ line ∷ rest) (number : ℕ) (old new : Lines) (so_far : IsNamedUpTo (parts_of text) left number old)
    (says : (g : Option NamedGraph) → says_something (words_in line) ≡ true → IsRead old g → Kept g (words_in line) new)
    (kept : (g : Option NamedGraph) → says_something (words_in line) ≡ false → IsRead old g → IsRead new g)
    (e : Wanted) (refused : (g : NamedGraph) → HasRead new g → (FitsHeap g → ⊥) × (words_of g < 2 ^ 64 → e ≡ FewerWords (words_of g) (most_words_of g.sizes))) where
  pub overfull_now : (k words most : ℕ) → IsOverfullLine text k words most → (n : ℕ) (w : Wrong) → n ≡ number + 1 → w ≡ Line n e → ReportsOverfull k words most w
  overfull_now k words most over n w count line_is =
      let r = line_read (parts_of text) left rest line is number old new so_far says kept in
      by r.0 r.1 r.2
    where
      whole_here : parts_of text ≡ (so_far.above ++ line ∷ []) ++ rest
      whole_here = so_far.whole ∙ ap (λ ps. so_far.above ++ ps) is ∙ sym (append_assoc so_far.above (line ∷ []) rest)

      long : n ≡ length (so_far.above ++ line ∷ [])
      long = let l = length-append so_far.above (line ∷ []) in let before = so_far.counted in omega (arith, l, before, count)

      low : k < n → ⊥
      low lt = let before = so_far.counted in not_passed text k words most over so_far.above left so_far.now so_far.whole so_far.says so_far.fits (omega (arith, lt, count, before))

      by : (now : Option NamedGraph) → SayNamed None (lines_of (so_far.above ++ line ∷ [])) now → IsRead new now → ReportsOverfull k words most w
      by None s read = let c = refused (empty_graph None) read.1 in absurd (c.0 (omega arith))
      by (Some g) s read = let c = refused g read.1 in overfull text k words most over (so_far.above ++ line ∷ []) rest g n e w whole_here s long read.1.bounds c.0 c.1 low line_is

-- ALL LINES FIT: none is overfull
pub none_overfull : (text : List ℕ) (g : Option NamedGraph) → SayNamed None (lines_in text) g → FitsSoFar g → (number words most : ℕ) → IsOverfullLine text number words most → ⊥
none_overfull text g says fits number words most over =
    not_passed text number words most over (parts_of text) [] g (sym (append-nil (parts_of text))) says fits (
    let a = ap length over.parts in
    let b = length-append over.above (over.line ∷ over.below) in
    let c = over.counted in
    omega (arith, a, b, c))
