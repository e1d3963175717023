-- A region that keeps its kind, its top and the headers of its objects keeps its objects.
use Rattle.std.proofs.Common.{◌≡◌, ℕ, List, [], ◌∷◌, ◌++◌, flat_map, refl, ◌∙◌, Contains, zero, suc, arith, ◌<◌}
use Rattle.g1_words.specs.declared.object.Object.{Object}
use Rattle.g1_words.specs.Heap.{Heap, region, objects_by, kind, objects_in, word, objects, regions}
use Rattle.g1_words.proofs.Computed.{Contains-range}
use Rattle.g1_words.proofs.Members.{Contains-flat_map}
use Rattle.g1_after.proofs.ObjectsMoved.{region_at}

-- an object of a region is one of the heap
pub in_heap : (h : Heap) (r : ℕ) → r < h.geometry.n → (o : Object) → Contains (objects_in h r) o → Contains (objects h) o
in_heap h r lt o m = Contains-flat_map (objects_in h) (regions h) r o (Contains-range 0 h.geometry.n r (omega arith) (omega (arith, lt))) m

pub region_same : (h j : Heap) (r : ℕ) → j.geometry ≡ h.geometry → region j r ≡ region h r
    → ((o : Object) → Contains (objects_in h r) o → word j o.at ≡ word h o.at) → objects_in j r ≡ objects_in h r
region_same h j r g q f = (λ t. objects_by (q t).kind j r) ∙ region_at h j (kind h r) r g q f

pub flat_map-same : {B : Type 0} (f g : ℕ → List B) (xs : List ℕ) → ((x : ℕ) → Contains xs x → f x ≡ g x) → flat_map f xs ≡ flat_map g xs
flat_map-same f g [] e = refl
flat_map-same f g (x ∷ xs) e = λ t. e x (zero, omega arith, refl) t ++ flat_map-same f g xs (λ y h. e y (suc h.0, omega (arith, h.1), h.2)) t
