-- What the roots reach, and how many bytes of each region.
use Rattle.std.specs.Prelude.{◌≡◌, ◌↔◌, ℕ, Bool, List, ◌*◌, map, filter, sum_by, Contains, IsTrue}
use Rattle.g1_words.specs.Heap.{Heap, objects_in, regions}
use Rattle.g1_words.specs.References.{root_targets, targets}

-- the least set that holds the seeds and the children of each of its members
pub data Reached (seeds : List ℕ) (children : ℕ → List ℕ) : ℕ → Type 0 where
  seed : {a : ℕ} → Contains seeds a → Reached seeds children a
  child : {a b : ℕ} → Reached seeds children a → Contains (children a) b → Reached seeds children b

-- the object at an address is reached from the roots
abbrev pub Live : Heap → ℕ → Type 0
Live h a = Reached (root_targets h) (targets h) a

-- 8 bytes for each word of the region's objects that pass the test
abbrev pub bytes_where : Heap → (ℕ → Bool) → ℕ → ℕ
bytes_where h test r = 8 * sum_by (λ o. o.size) (filter (λ o. test o.at) (objects_in h r))

-- the live bytes of each region, counted with a test that passes exactly the live objects
pub record IsLiveBytes (h : Heap) (lives : List ℕ) : Type 0 where
  pub test : ℕ → Bool
  pub passes : (a : ℕ) → IsTrue (test a) ↔ Live h a
  pub bytes : lives ≡ map (bytes_where h test) (regions h)
