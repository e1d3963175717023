-- A plan: where the survivors of a set of regions go.
use Rattle.std.specs.Prelude.{ℕ, List, ◌+◌, ◌/◌, map, count_by, slice_index, sum, nat_lt}
use Rattle.std.specs.List.{range_with_len}
use Rattle.g1_words.specs.Heap.{Heap}
use Rattle.g1_words.specs.Layout.{laid, sizes_of, need, free_regions, places, to_space, end_in}
use Rattle.g1_layout.specs.declared.plan.Run.{Run}

-- the set, its survivors and their new addresses, the regions that these lie in, which survivors stand in each, and how many words all have
pub record Plan : Type 0 where
  pub set : List ℕ
  pub survivors : List ℕ
  pub places : List ℕ
  pub to_space : List ℕ
  pub runs : List Run
  pub words : ℕ

-- how many survivors are laid into the row before its region t
abbrev pub laid_before : Heap → List ℕ → ℕ → ℕ
laid_before h l t = count_by (λ q. nat_lt (q / h.geometry.w) t) (laid h.geometry.w 0 (sizes_of h l))

-- the survivors that are laid into region t of the row: its free region, where their stretch of the list begins and ends, and where the last of them ends
abbrev pub run_at : Heap → List ℕ → ℕ → Run
run_at h l t = record {
  region = slice_index (free_regions h) t;
  from = laid_before h l t;
  to = laid_before h l (t + 1);
  end = end_in h l (slice_index (free_regions h) t);
}

-- a run for each region of to-space, in their order
abbrev pub runs : Heap → List ℕ → List Run
runs h l = map (run_at h l) (range_with_len 0 (need h l))

-- the plan for a set and its survivors
abbrev pub plan_of : Heap → List ℕ → List ℕ → Plan
plan_of h set l = record { set = set; survivors = l; places = places h l; to_space = to_space h l; runs = runs h l; words = sum (sizes_of h l) }
