-- The path by the names of its slots: equal steps in a row once, with their number, and of many only those at both ends.
use Rattle.std.specs.Prelude.{ℕ, ◌+◌, ◌-◌, ◌==◌, ◌&&◌, Bool, true, false, not, List, [], ◌∷◌, ◌++◌, if◌then◌else◌, nat_lt, nat_le, codes, decimal, length, take, drop, flat_map, replicate, sum_by}
use Rattle.std.specs.Str.{bytes_eq}

-- a step, and how often it is done in a row
abbrev pub Repeated : Type 0
Repeated = List ℕ × ℕ

-- a step in front of those that are grouped
abbrev pub grouped_with : List ℕ → List Repeated → List Repeated
grouped_with step [] = (step, 1) ∷ []
grouped_with step (g ∷ gs) = if bytes_eq step g.0 then (step, g.1 + 1) ∷ gs else (step, 1) ∷ g ∷ gs

-- equal neighbours once, with their number
abbrev pub grouped : List (List ℕ) → List Repeated
grouped [] = []
grouped (step ∷ steps) = grouped_with step (grouped steps)

-- three equal steps or more are one run, and fewer stand alone
abbrev pub is_run : ℕ → Bool
is_run n = nat_le 3 n

abbrev pub runs_in : Repeated → List Repeated
runs_in g = if is_run g.1 then g ∷ [] else replicate g.1 (g.0, 1)

-- THE RUNS of steps
abbrev pub runs_of : List (List ℕ) → List Repeated
runs_of steps = flat_map runs_in (grouped steps)

abbrev pub begins_with_space : List ℕ → Bool
begins_with_space [] = false
begins_with_space (c ∷ cs) = c == 32

-- behind a number or dots, a step that does not begin with a space gets one
abbrev pub space_text : Bool → List ℕ → List ℕ
space_text apart step = if apart && not (begins_with_space step) then codes " " else []

abbrev pub count_text : ℕ → List ℕ
count_text n = if is_run n then codes " x " ++ decimal n else []

abbrev pub run_text : Bool → Repeated → List ℕ
run_text apart r = space_text apart r.0 ++ (r.0 ++ count_text r.1)

-- runs one behind the other, the first of them behind a number or dots, or not
abbrev pub runs_text : Bool → List Repeated → List ℕ
runs_text apart [] = []
runs_text apart (r ∷ rs) = run_text apart r ++ runs_text (is_run r.1) rs

-- how many steps they are
abbrev pub steps_in : List Repeated → ℕ
steps_in rs = sum_by (λ r. r.1) rs

-- what is left out, by its number of steps
abbrev pub dots_text : ℕ → List ℕ
dots_text n = codes " .. " ++ (decimal n ++ codes " steps ..")

-- of more than 40 runs only the first 20 and the last 20 are there
abbrev pub ends_text : List Repeated → List ℕ
ends_text rs =
    if nat_lt 40 (length rs)
    then runs_text false (take 20 rs) ++ (dots_text (steps_in (take (length rs - 40) (drop 20 rs))) ++ runs_text true (drop (length rs - 20) rs))
    else runs_text false rs
