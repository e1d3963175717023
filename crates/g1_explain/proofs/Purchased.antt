-- The lines of a budget, part by part.
use Rattle.std.proofs.Common.{true, ◌≡◌, ℕ, List, [], ◌∷◌, ◌++◌, length, map, flat_map, sym, ◌∙◌, ap, arith}
use Rattle.std.specs.Prelude.{Bool, Some, min, codes, decimal, slice_index, slice_index_or, if◌then◌else◌}
use Rattle.std.specs.List.{range_with_len}
use Rattle.std.proofs.lemmas.List.{append-nil}
use Rattle.std.proofs.lemmas.List.FromFn.{length-map-range_with_len}
use Rattle.g1_words.specs.Heap.{free_region, is_ordinary, regions}
use Rattle.g1_words.specs.declared.region.Region.{Region}
use Rattle.g1_words.specs.Live.{IsLiveBytes, bytes_where}
use Rattle.g1_words.specs.Valid.{IsValid}
use Rattle.g1_image.specs.Image.{Image}
use Rattle.g1_image.specs.Cards.{refined}
use Rattle.g1_choose.specs.declared.candidate.Candidate.{Candidate}
use Rattle.g1_choose.specs.declared.parameters.Cost.{Cost}
use Rattle.g1_choose.specs.Cost.{total}
use Rattle.g1_pause.specs.declared.choosing.Bought.{Bought}
use Rattle.g1_text.specs.Lines.{line_text, text_of}
use Rattle.g1_explain.specs.Choosing.{budget_line, garbage_in, live_lines_of, excluded_lines_of, candidate_lines, bought_lines}
use Rattle.g1_explain.proofs.Texts.{line_then, lines_then}

least : (a b : ℕ) → b ≡ a → min a b ≡ a
least a b e = omega (arith, e)

-- the line of an ordinary region
pub live_end : (old new : List ℕ) (r live garbage cards : ℕ) (q : Region) → true ≡ is_ordinary q.kind → garbage ≡ garbage_in q live
    → new ≡ old ++ line_text (codes "live" ∷ decimal r ∷ decimal live ∷ codes "garbage" ∷ decimal garbage ∷ codes "cards" ∷ decimal cards ∷ []) → new ≡ old ++ text_of (live_lines_of r q live cards)
live_end old new r live garbage cards q is e p =
    let line : ℕ → List (List ℕ) = λ g. codes "live" ∷ decimal r ∷ decimal live ∷ codes "garbage" ∷ decimal g ∷ codes "cards" ∷ decimal cards ∷ [] in
    p ∙ ap (λ g. old ++ line_text (line g)) e ∙ ap (λ l. old ++ l) (sym (append-nil (line_text (line (garbage_in q live)))))
    ∙ ap (λ (b : Bool). old ++ text_of (if b then line (garbage_in q live) ∷ [] else [])) is

-- the lines of a budget, by other names of its lists
pub purchase_end : (cost : Cost) (i : Image) (b : Bought) (base many : ℕ) (sets : List (List ℕ)) (table : List Region) (lives others old a x c d : List ℕ) (order : List Candidate) → table ≡ i.heap.regions
    → lives ≡ b.live.items → others ≡ b.live.items → order ≡ b.order.items → IsValid i.heap → IsLiveBytes i.heap b.live.items → base ≡ total cost (length i.log) []
    → many ≡ i.heap.geometry.n → sets ≡ map (refined i) (regions i.heap) → a ≡ old ++ line_text (budget_line b.budget base)
    → x ≡ a ++ text_of (flat_map (λ r. live_lines_of r (slice_index_or table r free_region) (slice_index lives r) (length (slice_index_or sets r []))) (range_with_len 0 (min (min (length table) (length lives)) many)))
    → c ≡ x ++ text_of (flat_map (λ r. excluded_lines_of r (slice_index_or table r free_region) (slice_index others r)) (range_with_len 0 (min (length table) (length others))))
    → d ≡ c ++ text_of (candidate_lines base b.taken order) → d ≡ old ++ text_of (bought_lines cost i (Some b))
purchase_end cost i b base many sets table lives others old a x c d order te le oe ce valid live eb em es p q r s =
    let n : ℕ = i.heap.geometry.n in
    let count : length b.live.items ≡ n = ap length live.bytes ∙ length-map-range_with_len (bytes_where i.heap live.test) 0 n in
    let tables : length table ≡ n = ap length te ∙ valid.region_count in
    let two : min (length table) (length others) ≡ n = least (length table) (length others) (ap length oe ∙ count ∙ sym tables) ∙ tables in
    let first : min (length table) (length lives) ≡ n = least (length table) (length lives) (ap length le ∙ count ∙ sym tables) ∙ tables in
    let three : min (min (length table) (length lives)) many ≡ n = least (min (length table) (length lives)) many (em ∙ sym first) ∙ first in
    let lines : List (List (List ℕ)) =
    flat_map (λ r. live_lines_of r (slice_index_or table r free_region) (slice_index lives r) (length (slice_index_or sets r []))) (range_with_len 0 (min (min (length table) (length lives)) many)) in
    let excluded : List (List (List ℕ)) = flat_map (λ r. excluded_lines_of r (slice_index_or table r free_region) (slice_index others r)) (range_with_len 0 (min (length table) (length others))) in
    let candidates : List (List (List ℕ)) = candidate_lines base b.taken order in
    line_then old a d (budget_line b.budget base) (lines ++ (excluded ++ candidates)) p (lines_then a x d lines (excluded ++ candidates) q (lines_then x c d excluded candidates r s))
    ∙ (λ t. old
    ++ text_of (budget_line b.budget (eb t)
    ∷ (flat_map (λ r. live_lines_of r (slice_index_or (te t) r free_region) (slice_index (le t) r) (length (slice_index_or (es t) r []))) (range_with_len 0 (three t))
    ++ (flat_map (λ r. excluded_lines_of r (slice_index_or (te t) r free_region) (slice_index (oe t) r)) (range_with_len 0 (two t)) ++ candidate_lines (eb t) b.taken (ce t)))))
