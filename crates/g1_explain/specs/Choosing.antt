-- Why the collection set of a budget is what it is: its lines.
use Rattle.std.specs.Prelude.{ℕ, zero, suc, Bool, true, false, Option, Some, None, List, [], ◌∷◌, ◌++◌, ◌+◌, ◌-◌, ◌*◌, ◌^◌, map, flat_map, length, min, codes, decimal, slice_index, slice_index_or, nat_lt, if◌then◌else◌}
use Rattle.g1_words.specs.declared.region.Region.{Region}
use Rattle.g1_words.specs.declared.region.Kind.{Kind}
use Rattle.g1_words.specs.declared.region.Kind.TheVariants.{Free, Ordinary, HumongousFirst, Continuation}
use Rattle.g1_words.specs.Heap.{region, regions, is_ordinary}
use Rattle.g1_image.specs.Image.{Image}
use Rattle.g1_image.specs.Cards.{refined}
use Rattle.g1_choose.specs.declared.candidate.Candidate.{Candidate}
use Rattle.g1_choose.specs.declared.parameters.Cost.{Cost}
use Rattle.g1_choose.specs.Cost.{total}
use Rattle.g1_pause.specs.declared.choosing.Bought.{Bought}

-- budget BUDGET base COST
abbrev pub budget_line : ℕ → ℕ → List (List ℕ)
budget_line budget base = codes "budget" ∷ decimal budget ∷ codes "base" ∷ decimal base ∷ []

-- the bytes of a region that are used and not live
abbrev pub garbage_in : Region → ℕ → ℕ
garbage_in q live = 8 * q.top - live

-- live REGION BYTES garbage BYTES cards CARDS, of an ordinary region
abbrev pub live_lines_of : ℕ → Region → ℕ → ℕ → List (List (List ℕ))
live_lines_of r q live cards =
    if is_ordinary q.kind then (codes "live" ∷ decimal r ∷ decimal live ∷ codes "garbage" ∷ decimal (garbage_in q live) ∷ codes "cards" ∷ decimal cards ∷ []) ∷ [] else []

-- why a region with so much garbage is no candidate, if it is none
abbrev pub reasons : Kind → Bool → ℕ → List (List ℕ)
reasons Free pinned garbage = codes "free" ∷ []
reasons HumongousFirst pinned garbage = codes "humongous" ∷ []
reasons Continuation pinned garbage = codes "continuation" ∷ []
reasons Ordinary true garbage = codes "pinned" ∷ []
reasons Ordinary false zero = codes "no-garbage" ∷ []
reasons Ordinary false (suc garbage) = []

-- excluded REGION REASON
abbrev pub excluded_lines_of : ℕ → Region → ℕ → List (List (List ℕ))
excluded_lines_of r q live = map (λ reason. codes "excluded" ∷ decimal r ∷ reason ∷ []) (reasons q.kind q.pinned (garbage_in q live))

-- the most that 128 bits hold, if a number is more
abbrev pub within_128 : ℕ → ℕ
within_128 x = min x (2 ^ 128 - 1)

-- candidate REGION garbage BYTES cost COST total TOTAL taken, or left
abbrev pub candidate_line : Candidate → ℕ → Bool → List (List ℕ)
candidate_line x total taken =
    codes "candidate" ∷ decimal x.region ∷ codes "garbage" ∷ decimal x.garbage ∷ codes "cost" ∷ decimal x.cost ∷ codes "total" ∷ decimal total
    ∷ (if taken then codes "taken" else codes "left") ∷ []

-- a line for each candidate, the first n of which are taken: its total is the cost of a pause that collects it and all before it
abbrev pub candidate_lines : ℕ → ℕ → List Candidate → List (List (List ℕ))
candidate_lines base n [] = []
candidate_lines base n (x ∷ xs) = candidate_line x (within_128 (base + x.cost)) (nat_lt 0 n) ∷ candidate_lines (within_128 (base + x.cost)) (n - 1) xs

-- the lines of a budget: what each region has, why it is no candidate, and the candidates
abbrev pub bought_lines : Cost → Image → Option Bought → List (List (List ℕ))
bought_lines cost i None = []
bought_lines cost i (Some b) =
    budget_line b.budget (total cost (length i.log) [])
    ∷ (flat_map (λ r. live_lines_of r (region i.heap r) (slice_index b.live.items r) (length (slice_index_or (map (refined i) (regions i.heap)) r []))) (regions i.heap)
    ++ (flat_map (λ r. excluded_lines_of r (region i.heap r) (slice_index b.live.items r)) (regions i.heap)
    ++ candidate_lines (total cost (length i.log) []) b.taken b.order.items))
