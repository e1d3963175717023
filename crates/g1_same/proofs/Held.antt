-- The rules that the heaps of a pair keep. Each can be decided, so they follow from the fact of one proof that its type carries.
use Rattle.std.proofs.Common.{◌≡◌, ◌<◌, ◌^◌, ◌*◌, ℕ, inl, inr, length, arith, subst, slice_index}
use Rattle.std.proofs.Math.Logic.{∥∥₁_elim}
use Rattle.std.specs.Prelude.{IfSome, Option, Some, None}
use Rattle.g1_words.specs.Geometry.{IsWithinBounds, most_card_words, most_region_words, most_regions, most_roots, most_words}
use Rattle.g1_words.specs.Heap.{Heap, region}
use Rattle.g1_words.specs.declared.region.Kind.TheVariants.{Ordinary}
use Rattle.g1_words.specs.Valid.{AllShaped, IsReference, IsShaped, IsValid}
use Rattle.g1_image.proofs.Decided.{Decided, decided_lt, decided_le, decided_eq, decided_kind, decided_all, decided_each}
use Rattle.g1_image.proofs.DecidedShapes.{decided_shaped}
use Rattle.g1_image.proofs.DecidedReferences.{decided_reference}
use Rattle.g1_image.proofs.ToldFiles.{decided_power}
use Rattle.g1_same.specs.declared.pair.Pair.{Pair}

module _ (h : Heap) (held : ∥ IsValid h ∥₁) where
  -- a rule that can be decided is kept
  kept : {P : Type 0} → Decided P → (IsValid h → P) → P
  kept (inl p) f = p
  kept (inr n) f = absurd (∥∥₁_elim held (λ x y. absurd x) (λ v. n (f v)))

  bounds : IsWithinBounds h.geometry.w h.geometry.k h.geometry.n
  bounds = record {
    w_power = kept (decided_power h.geometry.w) (λ v. v.limits.w_power);
    w_least = kept (decided_le 16 h.geometry.w) (λ v. v.limits.w_least);
    w_most = kept (decided_le h.geometry.w most_region_words) (λ v. v.limits.w_most);
    k_power = kept (decided_power h.geometry.k) (λ v. v.limits.k_power);
    k_least = kept (decided_le 4 h.geometry.k) (λ v. v.limits.k_least);
    k_most = kept (decided_le h.geometry.k most_card_words) (λ v. v.limits.k_most);
    k_in_w = kept (decided_le h.geometry.k h.geometry.w) (λ v. v.limits.k_in_w);
    n_least = kept (decided_le 1 h.geometry.n) (λ v. v.limits.n_least);
    n_most = kept (decided_le h.geometry.n most_regions) (λ v. v.limits.n_most);
    words_most = kept (decided_le (h.geometry.n * h.geometry.w) most_words) (λ v. v.limits.words_most);
  }

  shaped : AllShaped h
  shaped = kept (decided_all (IsShaped h) (decided_shaped h (omega (arith, bounds.w_least))) h.geometry.n) (λ v. v.shaped)

  pub valid_of : IsValid h
  valid_of = record {
    limits = bounds;
    word_count = kept (decided_eq (length h.words) (h.geometry.n * h.geometry.w)) (λ v. v.word_count);
    word_fits = kept (decided_each (λ x. x < 2 ^ 64) (λ x. decided_lt x (2 ^ 64)) h.words) (λ v. v.word_fits);
    region_count = kept (decided_eq (length h.regions) h.geometry.n) (λ v. v.region_count);
    root_count = kept (decided_le (length h.roots) most_roots) (λ v. v.root_count);
    shaped = shaped;
    pins = λ r lt yes. kept (decided_kind (region h r).kind Ordinary) (λ v. v.pins r lt yes);
    zero_above = λ r i lt above below. kept (decided_eq _ 0) (λ v. v.zero_above r i lt above below);
    roots = kept (decided_each (IsReference h) (decided_reference h shaped) h.roots) (λ v. v.roots);
    slots = λ o p has slot. kept (decided_reference h shaped (slice_index h.words p)) (λ v. v.slots o p has slot);
    current_in = current h.current (λ v. v.current_in);
  }
    where
      current : (o : Option ℕ) → (IsValid h → IfSome o (λ r. r < h.geometry.n)) → IfSome o (λ r. r < h.geometry.n)
      current None f = tt
      current (Some r) f = kept (decided_lt r h.geometry.n) f

pub before_valid : (p : Pair) → IsValid p.before.now
before_valid p = valid_of p.before.now p.valid_before

pub after_valid : (p : Pair) → IsValid p.after.now
after_valid p = valid_of p.after.now p.valid_after

-- what holds of two heaps holds of equal ones
pub of_equals : {g h k l : Heap} (P : Heap → Heap → Type 0) → g ≡ k → h ≡ l → P g h → P k l
of_equals {h = h} {k = k} P same alike p = subst (P k) alike (subst (λ x. P x h) same p)
