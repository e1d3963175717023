-- What the lowest of some numbers is that pass a test, and when a run of regions is free.
use Rattle.std.proofs.Common.{◌≡◌, ◌≢◌, ℕ, zero, suc, ◌+◌, ◌-◌, ◌<◌, ◌≤◌, inl, inr, Bool, true, false, cond, ◌&&◌, Some, None, refl, sym, ◌∙◌, ap, arith, le-leb}
use Rattle.std.specs.Prelude.{find}
use Rattle.std.specs.List.{range_with_len, list_all}
use Rattle.std.proofs.lemmas.Bool.{cases_lt, false_from_ne_true}
use Rattle.g1_words.specs.declared.region.Kind.{Kind}
use Rattle.g1_words.specs.declared.region.Kind.TheVariants.{Free, Ordinary, HumongousFirst, Continuation}
use Rattle.g1_words.specs.Heap.{Heap, kind, is_free}
use Rattle.g1_words.proofs.Shapes.{IsBuilt}
use Rattle.g1_trace.specs.Mutator.{is_free_region, is_free_run}
use Rattle.g1_trace.proofs.Ready.{free_run}

pub find_first : (p : ℕ → Bool) (a n x : ℕ) → a ≤ x → x < a + n → p x ≡ true → ((q : ℕ) → a ≤ q → q < x → p q ≡ false) → find p (range_with_len a n) ≡ Some x
find_first p a zero x low high t f = absurd (omega (arith, low, high))
find_first p a (suc n) x low high t f = elim (cases_lt a x) [
  | inl lt ↦ ap (λ b. cond b (Some a) (find p (range_with_len (a + 1) n))) (f a (omega arith) lt)
      ∙ find_first p (a + 1) n x (omega (arith, lt)) (omega (arith, high)) t (λ q l h. f q (omega (arith, l)) h)
  | inr ge ↦
      let e : a ≡ x = omega (arith, ge, low) in
      ap (λ b. cond b (Some a) (find p (range_with_len (a + 1) n))) (ap p e ∙ t) ∙ ap (λ y. Some y) e
]

pub find_none : (p : ℕ → Bool) (a n : ℕ) → ((q : ℕ) → a ≤ q → q < a + n → p q ≡ false) → find p (range_with_len a n) ≡ None
find_none p a zero f = refl
find_none p a (suc n) f = ap (λ b. cond b (Some a) (find p (range_with_len (a + 1) n))) (f a (omega arith) (omega arith)) ∙ find_none p (a + 1) n (λ q l h. f q (omega (arith, l)) (omega (arith, h)))

all_pass : (p : ℕ → Bool) (a n : ℕ) → ((q : ℕ) → a ≤ q → q < a + n → p q ≡ true) → list_all p (range_with_len a n) ≡ true
all_pass p a zero f = refl
all_pass p a (suc n) f = (λ t. f a (omega arith) (omega arith) t && all_pass p (a + 1) n (λ q l h. f q (omega (arith, l)) (omega (arith, h))) t)

module _ (h : Heap) (v : IsBuilt h) (m : ℕ) where
  -- a run with a region that isn't free
  pub run_broken : (q r : ℕ) → q ≤ r → r < q + m → kind h r ≢ Free → is_free_run h m q ≡ false
  run_broken q r low high n = false_from_ne_true (is_free_run h m q) (λ t. let e : q + (r - q) ≡ r = omega (arith, low) in n (ap (kind h) (sym e) ∙ (free_run h v m q t).1 (r - q) (omega (arith, low, high))))

  -- one that doesn't end within the heap
  pub run_past : (q : ℕ) → h.geometry.n < q + m → is_free_run h m q ≡ false
  run_past q past = false_from_ne_true (is_free_run h m q) (λ t. let k = (free_run h v m q t).0 in absurd (omega (arith, k, past)))

  -- and one whose regions are free
  pub run_there : (q : ℕ) → q + m ≤ h.geometry.n → ((r : ℕ) → q ≤ r → r < q + m → kind h r ≡ Free) → is_free_run h m q ≡ true
  run_there q le f = (λ t. le-leb (q + m) h.geometry.n le t && all_pass (is_free_region h) q m (λ r l u. ap is_free (f r l u)) t)

pub not_free : (k : Kind) → is_free k ≡ false → k ≢ Free
not_free Free e = λ z. let clash : true ≡ false = e in cc
not_free Ordinary e = λ z. cc
not_free HumongousFirst e = λ z. cc
not_free Continuation e = λ z. cc

-- one more free region
pub free_below : (h : Heap) (a r : ℕ) → ((q : ℕ) → a ≤ q → q < r → kind h q ≡ Free) → kind h r ≡ Free → (q : ℕ) → a ≤ q → q < r + 1 → kind h q ≡ Free
free_below h a r f here q low high = elim (cases_lt q r) [ inl lt ↦ f q low lt | inr ge ↦ (let e : q ≡ r = omega (arith, ge, high) in ap (kind h) e ∙ here) ]
