-- The live bytes of an ordinary region are at most the bytes that are used.
use Rattle.std.proofs.Common.{◌≡◌, ℕ, Bool, true, false, cond, List, [], ◌∷◌, ◌+◌, ◌*◌, ◌<◌, ◌≤◌, filter, sum_by, length, ◌∙◌, ap, subst, arith}
use Rattle.std.specs.Prelude.{slice_index}
use Rattle.std.proofs.lemmas.List.FromFn.{length-map-range_with_len, get_or-map-range_with_len}
use Rattle.std.proofs.lemmas.List.Sums.{sum_by-cons}
use Rattle.g1_words.specs.declared.object.Object.{Object}
use Rattle.g1_words.specs.declared.region.Kind.TheVariants.{Ordinary}
use Rattle.g1_words.specs.Heap.{Heap, kind, top, start, end, objects_in}
use Rattle.g1_words.specs.Valid.{Tiles, HoldsBy, IsValid}
use Rattle.g1_words.specs.Live.{IsLiveBytes, bytes_where}
use Rattle.g1_words.proofs.Computed.{holds_computed}
use Rattle.g1_choose.specs.Choice.{MayBeLive}
use Rattle.g1_choose.proofs.Naming.{ordinary_within}

sum_filter_at : {A : Type 0} (f : A → ℕ) (p : A → Bool) (x : A) (xs : List A) (b : Bool) → sum_by f (filter p xs) ≤ sum_by f xs → sum_by f (cond b (x ∷ filter p xs) (filter p xs)) ≤ sum_by f (x ∷ xs)
sum_filter_at f p x xs true le = omega (arith, sum_by-cons f x (filter p xs), sum_by-cons f x xs)
sum_filter_at f p x xs false le = omega (arith, sum_by-cons f x xs)

sum_filter : {A : Type 0} (f : A → ℕ) (p : A → Bool) (xs : List A) → sum_by f (filter p xs) ≤ sum_by f xs
sum_filter f p [] = omega arith
sum_filter f p (x ∷ xs) = sum_filter_at f p x xs (p x) (sum_filter f p xs)

-- objects that stand end to end take all the words between
sizes_of_tiles : (words : List ℕ) (from : ℕ) (os : List Object) (to : ℕ) → Tiles words from os to → from + sum_by (λ o. o.size) os ≡ to
sizes_of_tiles words from [] to t = omega (arith, t)
sizes_of_tiles words from (o ∷ os) to t = omega (arith, sizes_of_tiles words (from + o.size) os to t.2, sum_by-cons (λ (o : Object). o.size) o os)

live_at : (h : Heap) (test : ℕ → Bool) (r : ℕ) → IsValid h → r < h.geometry.n → kind h r ≡ Ordinary → bytes_where h test r ≤ 8 * top h r
live_at h test r valid lt e =
    let size : Object → ℕ = λ o. o.size in
    let there : HoldsBy Ordinary h r (objects_in h r) = subst (λ k. HoldsBy k h r (objects_in h r)) e (holds_computed h r valid.shaped lt) in
    omega (arith, sizes_of_tiles h.words (start h r) (objects_in h r) (end h r) there, sum_filter size (λ o. test o.at) (objects_in h r))

pub live_within : (h : Heap) (lives : List ℕ) → IsValid h → IsLiveBytes h lives → MayBeLive h lives
live_within h lives valid live =
    let bytes : ℕ → ℕ = bytes_where h live.test in
    record {
      one_each = ap length live.bytes ∙ length-map-range_with_len bytes 0 h.geometry.n;
      at_most_used = λ r e.
          let lt = ordinary_within h r valid.region_count e in
          let is : slice_index lives r ≡ bytes r = ap (λ l. slice_index l r) live.bytes ∙ get_or-map-range_with_len bytes 0 h.geometry.n r r 0 lt (omega arith) in
          omega (arith, is, live_at h live.test r valid lt e);
    }
