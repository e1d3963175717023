-- Images with humongous objects, and what a pause leaves of them: regions of 16 words, cards of 4.
use Rattle.std.specs.Prelude.{[], ◌∷◌, ◌++◌, replicate}
use Rattle.g1_words.specs.Heap.{free_region}
use Rattle.g1_image.specs.Image.{Image}
use Rattle.g1_examples.specs.Examples.{head, filled, heap16, ordinary, first, more, image}

-- two humongous objects, of which nothing names the first, and the first alone names the second
abbrev pub chain : Image
chain = image (heap16 ((head 20 1 ∷ 33 ∷ replicate 30 0) ++ (filled 32 (head 20 0 ∷ []) ++ filled 32 (head 2 1 ∷ [])))
    (first 16 ∷ more 4 ∷ first 16 ∷ more 4 ∷ ordinary 2 ∷ free_region ∷ []) (65 ∷ []) 6)
    ([] ∷ [] ∷ (0 ∷ []) ∷ [] ∷ [] ∷ [] ∷ []) []

-- after a pause that evacuates nothing: the first is freed, and the second stays
abbrev pub chain_after : Image
chain_after = image (heap16 (replicate 32 0 ++ (filled 32 (head 20 0 ∷ []) ++ filled 32 (head 2 1 ∷ []))) (free_region ∷ free_region ∷ first 16 ∷ more 4 ∷ ordinary 2 ∷ free_region ∷ []) (65 ∷ []) 6)
    ([] ∷ [] ∷ [] ∷ [] ∷ [] ∷ [] ∷ []) []

-- after a second such pause
abbrev pub chain_after_two : Image
chain_after_two = image (heap16 (replicate 64 0 ++ filled 32 (head 2 1 ∷ [])) (free_region ∷ free_region ∷ free_region ∷ free_region ∷ ordinary 2 ∷ free_region ∷ []) (65 ∷ []) 6)
    ([] ∷ [] ∷ [] ∷ [] ∷ [] ∷ [] ∷ []) []

-- a humongous object that only a slot of its own names, in the second region of its run
abbrev pub own_slot : Image
own_slot = image (heap16 ((head 40 20 ∷ replicate 16 0) ++ (1 ∷ replicate 30 0)) (first 16 ∷ more 16 ∷ more 8 ∷ []) [] 3) ((4 ∷ []) ∷ [] ∷ [] ∷ []) []

-- three free regions
abbrev pub own_slot_after : Image
own_slot_after = image (heap16 (replicate 48 0) (free_region ∷ free_region ∷ free_region ∷ []) [] 3) ([] ∷ [] ∷ [] ∷ []) []

-- a humongous object that only a dead object names
abbrev pub named_by_the_dead : Image
named_by_the_dead = image (heap16 (filled 16 (head 2 1 ∷ 17 ∷ []) ++ filled 64 (head 20 0 ∷ []))
    (ordinary 2 ∷ first 16 ∷ more 4 ∷ free_region ∷ free_region ∷ []) [] 5) ([] ∷ (0 ∷ []) ∷ [] ∷ [] ∷ [] ∷ []) []

-- five free regions
abbrev pub nothing_left : Image
nothing_left = image (heap16 (replicate 80 0) (free_region ∷ free_region ∷ free_region ∷ free_region ∷ free_region ∷ []) [] 5) ([] ∷ [] ∷ [] ∷ [] ∷ [] ∷ []) []

-- an object that only a slot of a humongous object names, which nothing names
abbrev pub unnamed_owner : Image
unnamed_owner = image (heap16 ((head 40 20 ∷ replicate 16 0) ++ ((49 ∷ replicate 30 0) ++ (head 2 0 ∷ 4 ∷ replicate 46 0)))
    (first 16 ∷ more 16 ∷ more 8 ∷ ordinary 2 ∷ free_region ∷ free_region ∷ []) [] 6)
    ([] ∷ [] ∷ [] ∷ (4 ∷ []) ∷ [] ∷ [] ∷ []) []

-- after the pause that evacuates region 3: the object is copied, and its owner freed
abbrev pub unnamed_owner_after : Image
unnamed_owner_after = image (heap16 (replicate 64 0 ++ filled 32 (head 2 0 ∷ 4 ∷ [])) (free_region ∷ free_region ∷ free_region ∷ free_region ∷ ordinary 2 ∷ free_region ∷ []) [] 6)
    ([] ∷ [] ∷ [] ∷ [] ∷ [] ∷ [] ∷ []) []
