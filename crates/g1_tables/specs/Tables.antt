-- What `live` and `choose` print: the live bytes of each region, and which regions a budget buys.
use Rattle.std.specs.Prelude.{◌≡◌, ℕ, List, [], ◌∷◌, ◌++◌, length, map, take, drop, decimal, codes, slice_index}
use Rattle.std.specs.List.{range_with_len}
use Rattle.g1_words.specs.Heap.{Heap, regions}
use Rattle.g1_words.specs.Live.{IsLiveBytes}
use Rattle.g1_image.specs.Image.{Image}
use Rattle.g1_image.specs.Cards.{refined}
use Rattle.g1_choose.specs.declared.parameters.Cost.{Cost}
use Rattle.g1_choose.specs.declared.candidate.Candidate.{Candidate}
use Rattle.g1_choose.specs.Choice.{cost_of, garbage, pause_cost, IsOrder, IsLongest}
use Rattle.g1_text.specs.Lines.{text_of}

-- region R live BYTES
abbrev pub live_line : ℕ → ℕ → List (List ℕ)
live_line r bytes = codes "region" ∷ decimal r ∷ codes "live" ∷ decimal bytes ∷ []

-- a line for each region, by number
abbrev pub live_lines : List ℕ → List (List (List ℕ))
live_lines lives = map (λ r. live_line r (slice_index lives r)) (range_with_len 0 (length lives))

-- THE TEXT OF `live`: a line for each region, with the bytes that the roots reach in it
pub record IsLiveText (h : Heap) (text : List ℕ) : Type 0 where
  pub lives : List ℕ
  pub counted : IsLiveBytes h lives
  pub printed : text ≡ text_of (live_lines lives)

-- region R cost V garbage BYTES, then `taken` or `left`
abbrev pub candidate_line : List ℕ → ℕ → ℕ → ℕ → List (List ℕ)
candidate_line word r cost bytes = codes "region" ∷ decimal r ∷ codes "cost" ∷ decimal cost ∷ codes "garbage" ∷ decimal bytes ∷ word ∷ []

-- that of a candidate with its numbers
abbrev pub line_of : List ℕ → Candidate → List (List ℕ)
line_of word x = candidate_line word x.region x.cost x.garbage

-- total V
abbrev pub total_line : ℕ → List (List ℕ)
total_line total = codes "total" ∷ decimal total ∷ []

-- by the line of each candidate: the lines of candidates in their order, the first n of them taken, and of the total
abbrev pub choice_lines : {X : Type 0} → (List ℕ → X → List (List ℕ)) → List X → ℕ → ℕ → List (List (List ℕ))
choice_lines line order n total = map (line (codes "taken")) (take n order) ++ map (line (codes "left")) (drop n order) ++ total_line total ∷ []

-- by the regions' remembered sets and live bytes
module _ (c : Cost) (h : Heap) (remembered : List (List ℕ)) (lives : List ℕ) where
  -- the line of region r as a candidate
  abbrev pub region_line_of : List ℕ → ℕ → List (List ℕ)
  region_line_of word r = candidate_line word r (cost_of c h remembered lives r) (garbage c h remembered lives r)

  -- the lines of all candidates in their order: those that the budget buys with d dirty cards are taken, and the total is the cost of a pause of them
  pub record ListsChoice (d budget : ℕ) (text : List ℕ) : Type 0 where
    pub order : List ℕ
    pub is_order : IsOrder c h remembered lives order
    pub taken : ℕ
    pub longest : IsLongest c h remembered lives d budget order taken
    pub printed : text ≡ text_of (choice_lines region_line_of order taken (pause_cost c h remembered lives d (take taken order)))

-- THE TEXT OF `choose`, by the image's refined remembered sets and its live bytes
pub record IsChoiceText (c : Cost) (i : Image) (budget : ℕ) (text : List ℕ) : Type 0 where
  pub lives : List ℕ
  pub counted : IsLiveBytes i.heap lives
  pub choice : ListsChoice c i.heap (map (refined i) (regions i.heap)) lives (length i.log) budget text
