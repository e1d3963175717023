-- The table of an image, from its rows.
use Rattle.std.proofs.Common.{◌≡◌, ℕ, ◌+◌, ◌-◌, ◌*◌, ◌≤◌, List, [], ◌∷◌, ◌++◌, length, get_or, take, map, flat_map, sym, ◌∙◌, ap, subst, arith}
use Rattle.std.specs.Prelude.{min, String, string_bytes}
use Rattle.std.specs.List.{range_with_len}
use Rattle.g1_words.specs.Heap.{regions}
use Rattle.g1_image.specs.Image.{Image}
use Rattle.g1_work.specs.Each.{IsEachRun}
use Rattle.g1_text.specs.Lines.{line_text, text_of, region_line}
use Rattle.g1_text.proofs.Printed.{text_map, take_all}
use Rattle.g1_tables.specs.Rows.{AreRows}
use Rattle.g1_tables.proofs.Chunks.{each_out, chunks_join}

module _ {S Z : Type 0} (i : Image) (size chunks : ℕ) where
  -- a worker's run writes the rows of its chunk
  abbrev pub Writes : S → ℕ → S → String Z → Type 0
  Writes s k t out = AreRows i size k (string_bytes out)

  rows_from : (ss ts : List S) (outs : List (String Z)) (d : String Z) → IsEachRun Writes chunks ss ts outs → i.heap.geometry.n ≤ chunks * size →
      flat_map string_bytes outs ≡ text_of (map (region_line i) (regions i.heap))
  rows_from ss ts outs d run enough =
      let n = i.heap.geometry.n in
      let count = run.count in
      let all : 0 + length outs ≡ chunks = omega (arith, count) in
      let none : n - 0 ≡ n = omega arith in
      let start : 0 * size ≡ 0 = omega arith in
      chunks_join string_bytes (λ r. line_text (region_line i r)) n size outs 0 d (subst (λ x. n ≤ x * size) (sym all) enough)
      (λ j lt. let same : j ≡ 0 + j = omega arith in subst (λ k. AreRows i size k (string_bytes (get_or outs j d))) same
      (each_out Writes chunks (λ p. AreRows i size p.0 (string_bytes p.1)) (λ s c t o r. r) ss ts outs run j d (omega (arith, lt, count)))
      ∙ text_map (region_line i) (range_with_len ((0 + j) * size) (min n ((0 + j) * size + size) - (0 + j) * size)))
      ∙ ap (λ x. flat_map (λ r. line_text (region_line i r)) (range_with_len x (n - x))) start
      ∙ ap (λ x. flat_map (λ r. line_text (region_line i r)) (range_with_len 0 x)) none ∙ sym (text_map (region_line i) (regions i.heap))

  pub rows_joined : (ss ts : List S) (outs : List (String Z)) → IsEachRun Writes chunks ss ts outs → i.heap.geometry.n ≤ chunks * size →
      flat_map string_bytes outs ≡ text_of (map (region_line i) (regions i.heap))
  rows_joined ss ts [] run enough =
      let count : 0 ≡ chunks = run.count in
      let start : 0 * size ≡ 0 = omega arith in
      let none : chunks * size ≡ 0 = ap (λ x. x * size) (sym count) ∙ start in
      let empty : i.heap.geometry.n ≡ 0 = omega (arith, enough, none) in
      sym (ap (λ x. text_of (map (region_line i) (range_with_len 0 x))) empty)
  rows_joined ss ts (o ∷ outs) run enough = rows_from ss ts (o ∷ outs) o run enough

-- the rows of the regions from one number up to another
pub rows_end : (i : Image) (text : List ℕ) (from r to : ℕ) → r ≡ to → text
    ≡ flat_map (λ r. line_text (region_line i r)) (range_with_len from (r - from)) → text ≡ text_of (map (region_line i) (range_with_len from (to - from)))
rows_end i text from r to e p = p ∙ ap (λ x. flat_map (λ r. line_text (region_line i r)) (range_with_len from (x - from))) e ∙ sym (text_map (region_line i) (range_with_len from (to - from)))

-- a beginning, and all outs behind it
pub join_end : {Z : Type 0} (none first text lead : List ℕ) (outs : List (String Z)) (n : ℕ) → length outs ≤ n → none ≡ [] → first ≡ none ++ lead →
    text ≡ first ++ flat_map string_bytes (take n outs) → text ≡ lead ++ flat_map string_bytes outs
join_end none first text lead outs n le e p q =
    q ∙ ap (λ xs. xs ++ flat_map string_bytes (take n outs)) (p ∙ ap (λ xs. xs ++ lead) e) ∙ ap (λ xs. lead ++ flat_map string_bytes xs) (take_all n outs le)
