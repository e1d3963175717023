-- What each_chunk makes of the states, and gives.
use Rattle.std.specs.Prelude.{◌≡◌, ℕ, ◌<◌, ◌⊎◌, List, [], ◌∷◌, ◌++◌, map, length, IsPermutation}
use Rattle.std.specs.List.{enumerate_from}
use Rattle.g1_words.specs.declared.fault.Fault.{Fault}
use Rattle.g1_words.specs.declared.fault.Fault.TheVariants.{Memory}

-- the numbers are below n and rise
abbrev pub RisesBelow : ℕ → List ℕ → Type 0
RisesBelow n [] = Unit {0}
RisesBelow n (x ∷ []) = x < n
RisesBelow n (x ∷ y ∷ ys) = (x < y) × RisesBelow n (y ∷ ys)

module _ {S O : Type 0} (runs : S → ℕ → S → O → Type 0) where
  -- runs over these chunks, in order, with these outs, lead from s to t
  abbrev pub Ran : S → List (ℕ × O) → S → Type 0
  Ran s [] t = s ≡ t
  Ran s (x ∷ xs) t = (m : S) × runs s x.0 m x.1 × Ran m xs t

-- the chunks of these runs
abbrev pub chunks_of : {O : Type 0} → List (ℕ × O) → List ℕ
chunks_of xs = map (λ x. x.0) xs

-- all of these lists in one
abbrev pub joined : {X : Type 0} → List (List X) → List X
joined [] = []
joined (p ∷ ps) = p ++ joined ps

module _ {S O : Type 0} (runs : S → ℕ → S → O → Type 0) (chunks : ℕ) where
  -- each worker led its state over chunks that rise
  abbrev pub EachRan : List S → List (List (ℕ × O)) → List S → Type 0
  EachRan [] [] [] = Unit {0}
  EachRan (s ∷ ss) (p ∷ ps) (t ∷ ts) = Ran runs s p t × RisesBelow chunks (chunks_of p) × EachRan ss ps ts
  EachRan _ _ _ = ⊥

  -- each chunk was run once, by one of the workers, and the outs are in the order of the chunks
  pub record IsEachRun (before after : List S) (outs : List O) : Type 0 where
    pub parts : List (List (ℕ × O))
    pub workers : EachRan before parts after
    pub once : IsPermutation (joined parts) (enumerate_from 0 outs)
    pub count : length outs ≡ chunks

-- want of memory, or a fault that the task states of one of the chunks
abbrev pub IsFaultOf : (ℕ → Fault → Type 0) → ℕ → Fault → Type 0
IsFaultOf may_fail chunks e = (e ≡ Memory) ⊎ ((chunk : ℕ) × (chunk < chunks) × may_fail chunk e)
