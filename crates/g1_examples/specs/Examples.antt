-- Small heaps and images on which the definitions are tried: regions of 16 words, cards of 4.
use Rattle.std.specs.Prelude.{ℕ, List, [], ◌∷◌, ◌++◌, ◌+◌, ◌*◌, ◌-◌, ◌^◌, replicate, length, None, true}
use Rattle.g1_words.specs.declared.region.Region.{Region}
use Rattle.g1_words.specs.declared.region.Kind.TheVariants.{Ordinary, HumongousFirst, Continuation}
use Rattle.g1_words.specs.Heap.{region_with, free_region, Heap}
use Rattle.g1_image.specs.Image.{Image}

-- the header of an object
abbrev pub head : ℕ → ℕ → ℕ
head size refs = size * 2 ^ 32 + refs

-- some words and then zeros up to a length
abbrev pub filled : ℕ → List ℕ → List ℕ
filled n xs = xs ++ replicate (n - length xs) 0

-- regions of 16 words and cards of 4
abbrev pub heap16 : List ℕ → List Region → List ℕ → ℕ → Heap
heap16 words table roots n =
    record { geometry = record { w = 16; k = 4; n = n }; words = words; regions = table; roots = roots; current = None }

-- regions of each kind by how many of their words are used
abbrev pub ordinary : ℕ → Region
ordinary t = region_with Ordinary t

-- the first region of a humongous object
abbrev pub first : ℕ → Region
first t = region_with HumongousFirst t

-- a later region of a humongous object
abbrev pub more : ℕ → Region
more t = region_with Continuation t

-- two objects, each named by a root, the later one first
abbrev pub later_root_first : Heap
later_root_first = heap16 (replicate 16 0 ++ filled 48 (head 2 0 ∷ 5 ∷ head 4 0 ∷ 6 ∷ 7 ∷ 8 ∷ [])) (free_region ∷ ordinary 6 ∷ free_region ∷ free_region ∷ []) (19 ∷ 17 ∷ []) 4

-- an object that only a dead object of another region names
abbrev pub dead_owner : Heap
dead_owner = heap16 (filled 16 (head 2 1 ∷ 17 ∷ []) ++ filled 48 (head 3 0 ∷ 1 ∷ 2 ∷ [])) (ordinary 2 ∷ ordinary 3 ∷ free_region ∷ free_region ∷ []) [] 4

-- two objects that name one another and that nothing else names
abbrev pub dead_cycle : Heap
dead_cycle = heap16 (replicate 16 0 ++ filled 48 (head 2 1 ∷ 19 ∷ head 2 1 ∷ 17 ∷ [])) (free_region ∷ ordinary 4 ∷ free_region ∷ free_region ∷ []) [] 4

-- an object that is named from many places
abbrev pub shared_target : Heap
shared_target = heap16 (filled 16 (head 4 1 ∷ 22 ∷ 1 ∷ 2 ∷ head 2 1 ∷ 22 ∷ []) ++ filled 48 (head 5 3 ∷ 22 ∷ 22 ∷ 22 ∷ 1 ∷ head 2 0 ∷ 8 ∷ []))
    (ordinary 6 ∷ ordinary 7 ∷ free_region ∷ free_region ∷ []) (22 ∷ 17 ∷ []) 4

-- survivors that don't fill a region
abbrev pub with_a_gap : Heap
with_a_gap = heap16 (filled 16 (head 12 0 ∷ []) ++ filled 48 (head 5 0 ∷ 0 ∷ 0 ∷ 0 ∷ 0 ∷ head 4 0 ∷ [])) (ordinary 12 ∷ ordinary 9 ∷ free_region ∷ free_region ∷ []) (1 ∷ 17 ∷ 22 ∷ []) 4

-- an image of its parts
abbrev pub image : Heap → List (List ℕ) → List ℕ → Image
image h remembered log = record { heap = h; remembered = remembered; log = log }

-- three regions with live and dead objects, and a remembered card that is out of date
abbrev pub three_regions : Heap
three_regions = heap16 (filled 16 (head 2 0 ∷ 1 ∷ head 2 0 ∷ 1 ∷ []) ++ (filled 16 (head 2 0 ∷ 1 ∷ head 2 0 ∷ 1 ∷ []) ++ filled 64 (head 1 0 ∷ head 1 0 ∷ [])))
    (ordinary 4 ∷ ordinary 4 ∷ ordinary 2 ∷ free_region ∷ free_region ∷ free_region ∷ []) (1 ∷ 17 ∷ 33 ∷ []) 6

-- with the card that is out of date
abbrev pub three_regions_image : Image
three_regions_image = image three_regions ([] ∷ [] ∷ (0 ∷ []) ∷ [] ∷ [] ∷ [] ∷ []) []

-- with the card that covers the reference
abbrev pub dead_owner_image : Image
dead_owner_image = image dead_owner ([] ∷ (0 ∷ []) ∷ [] ∷ [] ∷ []) []

-- with its first region pinned
abbrev pub pinned_owner : Image
pinned_owner = image (record dead_owner { regions = record { kind = Ordinary; top = 2; pinned = true } ∷ ordinary 3 ∷ free_region ∷ free_region ∷ [] }) ([] ∷ (0 ∷ []) ∷ [] ∷ [] ∷ []) []

-- after the pause that evacuates region 1
abbrev pub dead_owner_after : Image
dead_owner_after = image (heap16 (filled 32 (head 2 1 ∷ 33 ∷ []) ++ filled 32 (head 3 0 ∷ 1 ∷ 2 ∷ [])) (ordinary 2 ∷ free_region ∷ ordinary 3 ∷ free_region ∷ []) [] 4)
    ([] ∷ [] ∷ (0 ∷ []) ∷ [] ∷ []) []

-- with the cards that cover the references
abbrev pub shared_target_image : Image
shared_target_image = image shared_target ([] ∷ (0 ∷ 1 ∷ []) ∷ [] ∷ [] ∷ []) []

-- after the pause that evacuates region 1
abbrev pub shared_target_after : Image
shared_target_after = image (heap16 (filled 32 (head 4 1 ∷ 33 ∷ 1 ∷ 2 ∷ head 2 1 ∷ 33 ∷ [])
    ++ filled 32 (head 2 0 ∷ 8 ∷ head 5 3 ∷ 33 ∷ 33 ∷ 33 ∷ 1 ∷ [])) (ordinary 6 ∷ free_region ∷ ordinary 7 ∷ free_region ∷ []) (33 ∷ 35 ∷ []) 4)
    ([] ∷ [] ∷ (0 ∷ 1 ∷ []) ∷ [] ∷ []) []

-- an object that a slot in the second region of a humongous run names
abbrev pub humongous_owner : Heap
humongous_owner = heap16 ((head 40 20 ∷ replicate 16 0) ++ ((49 ∷ replicate 30 0) ++ (head 2 0 ∷ 4 ∷ replicate 46 0)))
    (first 16 ∷ more 16 ∷ more 8 ∷ ordinary 2 ∷ free_region ∷ free_region ∷ []) (1 ∷ []) 6

-- with the card that covers the reference
abbrev pub humongous_owner_image : Image
humongous_owner_image = image humongous_owner ([] ∷ [] ∷ [] ∷ (4 ∷ []) ∷ [] ∷ [] ∷ []) []

-- after the pause that evacuates region 3
abbrev pub humongous_owner_after : Image
humongous_owner_after = image (heap16 ((head 40 20 ∷ replicate 16 0) ++ ((65 ∷ replicate 46 0) ++ (head 2 0 ∷ 4 ∷ replicate 30 0)))
    (first 16 ∷ more 16 ∷ more 8 ∷ free_region ∷ ordinary 2 ∷ free_region ∷ []) (1 ∷ []) 6)
    ([] ∷ [] ∷ [] ∷ [] ∷ (4 ∷ []) ∷ [] ∷ []) []

-- one object, which a root names
abbrev pub one_object : Image
one_object = image (heap16 (replicate 16 0 ++ filled 48 (head 4 1 ∷ 0 ∷ 7 ∷ 9 ∷ [])) (free_region ∷ ordinary 4 ∷ free_region ∷ free_region ∷ []) (17 ∷ []) 4)
    ([] ∷ [] ∷ [] ∷ [] ∷ []) []

-- after the pause that evacuates region 1
abbrev pub one_object_after : Image
one_object_after = image (heap16 (filled 64 (head 4 1 ∷ 0 ∷ 7 ∷ 9 ∷ [])) (ordinary 4 ∷ free_region ∷ free_region ∷ free_region ∷ []) (1 ∷ []) 4)
    ([] ∷ [] ∷ [] ∷ [] ∷ []) []
