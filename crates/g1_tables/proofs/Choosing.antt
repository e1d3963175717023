-- What is written of a choice.
use Rattle.std.proofs.Common.{◌≡◌, ℕ, zero, suc, inl, inr, List, [], ◌∷◌, ◌++◌, map, flat_map, take, drop, length, All, refl, sym, ◌∙◌, ap, subst, arith, Vec, append-nil}
use Rattle.std.specs.Prelude.{min, codes, slice_index, Result, Ok, Err, IfOk}
use Rattle.std.specs.List.{range_with_len}
use Rattle.std.proofs.lemmas.Bool.{cases_lt}
use Rattle.std.proofs.lemmas.List.{drop_all}
use Rattle.g1_words.specs.Heap.{Heap, regions}
use Rattle.g1_words.specs.Live.{IsLiveBytes}
use Rattle.g1_image.specs.Image.{Image}
use Rattle.g1_image.specs.Cards.{refined}
use Rattle.g1_choose.specs.declared.parameters.Cost.{Cost}
use Rattle.g1_choose.specs.declared.candidate.Candidate.{Candidate}
use Rattle.g1_choose.specs.declared.buying.Purchase.{Purchase}
use Rattle.g1_choose.specs.Choice.{pause_cost}
use Rattle.g1_choose.specs.Candidate.{TellsRegion, IsCandidateOrder}
use Rattle.g1_choose.specs.Bought.{IsPurchase}
use Rattle.g1_choose.proofs.Budget.{longest_from_paid, pause_cost-told}
use Rattle.g1_text.specs.Lines.{line_text, text_of}
use Rattle.g1_text.proofs.Printed.{text_append, text_map, take_all}
use Rattle.g1_tables.specs.Tables.{live_line, live_lines, candidate_line, line_of, choice_lines, total_line, region_line_of, ListsChoice, IsChoiceText}

take_least : {X : Type 0} (xs : List X) (n : ℕ) → take (min (length xs) n) xs ≡ take n xs
take_least xs n = elim (cases_lt n (length xs)) [
  | inl lt ↦ let e : min (length xs) n ≡ n = omega (arith, lt) in ap (λ k. take k xs) e
  | inr ge ↦ let e : min (length xs) n ≡ length xs = omega (arith, ge) in ap (λ k. take k xs) e ∙ take_all (length xs) xs (omega arith) ∙ sym (take_all n xs ge)
]

drop_least : {X : Type 0} (xs : List X) (n : ℕ) → drop (min (length xs) n) xs ≡ drop n xs
drop_least xs n = elim (cases_lt n (length xs)) [
  | inl lt ↦ let e : min (length xs) n ≡ n = omega (arith, lt) in ap (λ k. drop k xs) e
  | inr ge ↦ let e : min (length xs) n ≡ length xs = omega (arith, ge) in ap (λ k. drop k xs) e ∙ drop_all (length xs) xs (omega arith) ∙ sym (drop_all n xs ge)
]

-- the lines of the candidates that are taken, of those that are left, and of the total
pub choice_end : (order bought left : List Candidate) (taken total : ℕ) (none first second last : List ℕ) →
    bought ≡ take (min (length order) taken) order → left ≡ drop (min (length order) taken) order → none ≡ []
    → first ≡ none ++ text_of (map (line_of (codes "taken")) bought) → second ≡ first ++ text_of (map (line_of (codes "left")) left) → last ≡ second ++ line_text (total_line total)
    → last ≡ text_of (choice_lines line_of order taken total)
choice_end order bought left taken total none first second last eb el en p q r =
    let front : List (List (List ℕ)) = map (line_of (codes "taken")) (take taken order) in
    let back : List (List (List ℕ)) = map (line_of (codes "left")) (drop taken order) in
    let end : List (List (List ℕ)) = total_line total ∷ [] in
    let f : text_of (map (line_of (codes "taken")) bought) ≡ text_of front = ap (λ xs. text_of (map (line_of (codes "taken")) xs)) (eb ∙ take_least order taken) in
    let b : text_of (map (line_of (codes "left")) left) ≡ text_of back = ap (λ xs. text_of (map (line_of (codes "left")) xs)) (el ∙ drop_least order taken) in
    r ∙ ap (λ xs. xs ++ line_text (total_line total)) (q ∙ (λ t. (p ∙ (λ i. en i ++ f i)) t ++ b t))
    ∙ ap (λ xs. (text_of front ++ text_of back) ++ xs) (sym (append-nil (line_text (total_line total))))
    ∙ ap (λ xs. xs ++ text_of end) (sym (text_append front back)) ∙ sym (text_append (front ++ back) end)

module _ (c : Cost) (h : Heap) (remembered : List (List ℕ)) (lives : List ℕ) where
  -- candidates with their regions' cost and garbage have the lines of their numbers
  same_lines : (word : List ℕ) (xs : List Candidate) → All (TellsRegion c h remembered lives) xs → map (line_of word) xs ≡ map (region_line_of c h remembered lives word) (map (λ x. x.region) xs)
  same_lines word [] tells = refl
  same_lines word (x ∷ xs) tells =
      let here : TellsRegion c h remembered lives x = tells 0 x (omega arith) in
      let rest = same_lines word xs (λ k d lt. tells (suc k) d (omega (arith, lt))) in
      (λ t. candidate_line word x.region (here.cost t) (here.garbage t) ∷ rest t)

  taken_lines : (word : List ℕ) (n : ℕ) (xs : List Candidate) → All (TellsRegion c h remembered lives) xs
      → map (line_of word) (take n xs) ≡ map (region_line_of c h remembered lives word) (take n (map (λ x. x.region) xs))
  taken_lines word zero xs tells = refl
  taken_lines word (suc n) [] tells = refl
  taken_lines word (suc n) (x ∷ xs) tells =
      let here : TellsRegion c h remembered lives x = tells 0 x (omega arith) in
      let rest = taken_lines word n xs (λ k d lt. tells (suc k) d (omega (arith, lt))) in
      (λ t. candidate_line word x.region (here.cost t) (here.garbage t) ∷ rest t)

  left_lines : (word : List ℕ) (n : ℕ) (xs : List Candidate) → All (TellsRegion c h remembered lives) xs
      → map (line_of word) (drop n xs) ≡ map (region_line_of c h remembered lives word) (drop n (map (λ x. x.region) xs))
  left_lines word zero xs tells = same_lines word xs tells
  left_lines word (suc n) [] tells = refl
  left_lines word (suc n) (x ∷ xs) tells = left_lines word n xs (λ k d lt. tells (suc k) d (omega (arith, lt)))

  by_number : (n total : ℕ) (xs : List Candidate) → All (TellsRegion c h remembered lives) xs
      → choice_lines line_of xs n total ≡ choice_lines (region_line_of c h remembered lives) (map (λ x. x.region) xs) n total
  by_number n total xs tells =
      let front = taken_lines (codes "taken") n xs tells in
      let back = left_lines (codes "left") n xs tells in
      (λ t. front t ++ back t ++ total_line total ∷ [])

  -- the lines of the order, and of how far the budget goes in it
  lists_choice : (d budget : ℕ) (xs : List Candidate) (p : Purchase) (text : List ℕ) → IsCandidateOrder c h remembered lives xs → IsPurchase c d budget xs p
      → text ≡ text_of (choice_lines line_of xs p.taken p.total) → ListsChoice c h remembered lives d budget text
  lists_choice d budget xs p text o bought e =
      let numbers : List ℕ = map (λ x. x.region) xs in
      let paid : p.total ≡ pause_cost c h remembered lives d (take p.taken numbers) = bought.total ∙ sym (pause_cost-told c h remembered lives d p.taken xs o.tells) in
      record {
        order = numbers;
        is_order = o.order;
        taken = p.taken;
        longest = longest_from_paid c h remembered lives d budget p.taken xs o.tells bought.paid;
        printed = e ∙ ap text_of (by_number p.taken p.total xs o.tells) ∙ ap (λ total. text_of (choice_lines (region_line_of c h remembered lives) numbers p.taken total)) paid;
      }

  -- the same of an answer that may be out of memory
  pub lists_if_ok : {Z E : Type 0} (d budget : ℕ) (xs : List Candidate) (p : Purchase) (r : Result (Vec ℕ Z) E) → IsCandidateOrder c h remembered lives xs
      → IsPurchase c d budget xs p → IfOk r (λ v. v.items ≡ text_of (choice_lines line_of xs p.taken p.total)) → IfOk r (λ v. ListsChoice c h remembered lives d budget v.items)
  lists_if_ok d budget xs p (Ok v) o bought e = lists_choice d budget xs p v.items o bought e
  lists_if_ok d budget xs p (Err f) o bought e = tt

-- the text of a choice by an image and its live bytes, of an answer that may be out of memory
pub choice_if_ok : {Z E : Type 0} (c k : Cost) (i j : Image) (budget : ℕ) (lives live : List ℕ) (r : Result (Vec ℕ Z) E) → k ≡ c → j ≡ i → lives ≡ live → IsLiveBytes j.heap live
    → IfOk r (λ v. ListsChoice k j.heap (map (refined j) (regions j.heap)) lives (length j.log) budget v.items) → IfOk r (λ v. IsChoiceText c i budget v.items)
choice_if_ok c k i j budget lives live (Ok v) price same items counted lists = record {
  lives = live;
  counted = subst (λ (x : Image). IsLiveBytes x.heap live) same counted;
  choice = subst (λ (x : Image). ListsChoice c x.heap (map (refined x) (regions x.heap)) live (length x.log) budget v.items) same
      (subst (λ l. ListsChoice c j.heap (map (refined j) (regions j.heap)) l (length j.log) budget v.items) items
      (subst (λ (p : Cost). ListsChoice p j.heap (map (refined j) (regions j.heap)) lives (length j.log) budget v.items) price lists));
}
choice_if_ok c k i j budget lives live (Err f) price same items counted lists = tt

-- the lines of all live bytes
pub live_end : (lives text : List ℕ) (n : ℕ) → n ≡ length lives → text ≡ flat_map (λ r. line_text (live_line r (slice_index lives r))) (range_with_len 0 n) → text ≡ text_of (live_lines lives)
live_end lives text n e p =
    p ∙ ap (λ x. flat_map (λ r. line_text (live_line r (slice_index lives r))) (range_with_len 0 x)) e ∙ sym (text_map (λ r. live_line r (slice_index lives r)) (range_with_len 0 (length lives)))
