-- Survivors are laid into the row one after another.
use Rattle.std.proofs.Common.{◌≡◌, ℕ, zero, suc, ◌+◌, ◌*◌, ◌/◌, ◌%◌, ◌<◌, ◌≤◌, Bool, true, false, cond, List, [], ◌∷◌, ◌++◌, length, get_or, drop, map, All, refl, sym, ◌∙◌, ap, subst}
use Rattle.std.proofs.Common.{arith, leb, append_assoc}
use Rattle.std.proofs.Math.Nat.{div-mul-le_self}
use Rattle.std.proofs.lemmas.List.{get_or-take}
use Rattle.std.proofs.Math.Seq.{drop-cons}
use Rattle.g1_words.specs.Geometry.{most_region_words}
use Rattle.g1_words.proofs.NextFit.{Fitting, spot_below, region_below}
use Rattle.g1_words.specs.Heap.{Heap, object_at}
use Rattle.g1_words.specs.Layout.{free_regions, laid, laid_end, need, next_fit, places, row_address, sizes_of, to_space}
use Rattle.g1_layout.specs.Placed.{CanLay}

-- an object is placed no later than a region's width on
pub next_fit_most : (w a s : ℕ) → next_fit w a s ≤ a + w
next_fit_most w a s = go (leb (a % w + s) w)
  where
    go : (b : Bool) → cond b a ((a / w + 1) * w) ≤ a + w
    go true = omega arith
    go false = let k = div-mul-le_self a w in omega arith

module _ (h : Heap) where
  fitting : (m : List ℕ) → All (λ a. 0 < (object_at h a).size) m → All (λ a. (object_at h a).size ≤ h.geometry.w) m → Fitting h.geometry.w (sizes_of h m)
  fitting [] f g = tt
  fitting (a ∷ m) f g = (f 0 a (omega arith), g 0 a (omega arith), fitting m (λ k d lt. f (suc k) d (omega arith)) (λ k d lt. g (suc k) d (omega arith)))

  -- survivors that can be laid fit in regions
  pub all_fitting : (l : List ℕ) → CanLay h l → Fitting h.geometry.w (sizes_of h l)
  all_fitting l can = fitting l can.filled can.small

  fitting-drop : (i : ℕ) (m : List ℕ) → Fitting h.geometry.w (sizes_of h m) → Fitting h.geometry.w (sizes_of h (drop i m))
  fitting-drop zero m f = f
  fitting-drop (suc i) [] f = tt
  fitting-drop (suc i) (a ∷ m) f = fitting-drop i m f.2

  abbrev pub left_from : List ℕ → ℕ → List ℕ
  left_from l i = sizes_of h (drop i l)

  pub left_from-cons : (l : List ℕ) (i s : ℕ) → i < length l → s ≡ (object_at h (get_or l i 0)).size → left_from l i ≡ s ∷ left_from l (i + 1)
  left_from-cons l i s lt e =
      let n : suc i ≡ i + 1 = omega arith in
      ap (sizes_of h) (drop-cons l i 0 lt) ∙ (λ t. sym e t ∷ left_from l (n t))

-- the first i survivors are laid, and the last of them ends here
pub record Laying (h : Heap) (l : List ℕ) (i end : ℕ) : Type 0 where
  pub rest : laid_end h.geometry.w end (left_from h l i) ≡ laid_end h.geometry.w 0 (sizes_of h l)
  pub near : end ≤ i * (2 * most_region_words)

pub Laying-start : (h : Heap) (l : List ℕ) → Laying h l 0 0
Laying-start h l = record { rest = refl; near = omega arith }

pub Laying-step : (h : Heap) (l : List ℕ) (i end s : ℕ) → CanLay h l → h.geometry.w ≤ most_region_words → Laying h l i end → i < length l → s ≡ (object_at h (get_or l i 0)).size
    → Laying h l (i + 1) (next_fit h.geometry.w end s + s)
Laying-step h l i end s can most k lt e = record {
  rest = ap (laid_end h.geometry.w end) (sym (left_from-cons h l i s lt e)) ∙ k.rest;
  near = let a = next_fit_most h.geometry.w end s in let b = can.small i 0 lt in let c = k.near in omega (arith, e);
}

pub Laying-end : (h : Heap) (l : List ℕ) (i end : ℕ) → Laying h l i end → i ≡ length l → end ≡ laid_end h.geometry.w 0 (sizes_of h l)
Laying-end h l i end k e = ap (laid_end h.geometry.w end) (sym none) ∙ k.rest
  where
    nothing : (m : List ℕ) → sizes_of h (drop (length m) m) ≡ []
    nothing [] = refl
    nothing (x ∷ m) = nothing m

    none : sizes_of h (drop i l) ≡ []
    none = ap (λ n. sizes_of h (drop n l)) e ∙ nothing l

-- what is laid lies in a region that is needed
pub Laying-in_need : (h : Heap) (l : List ℕ) (i end s : ℕ) → 0 < h.geometry.w → CanLay h l → Laying h l i end → i < length l → s ≡ (object_at h (get_or l i 0)).size
    → next_fit h.geometry.w end s / h.geometry.w < need h l
Laying-in_need h l i end s pos can k lt e =
    let q = next_fit h.geometry.w end s in
    let f : Fitting h.geometry.w (s ∷ left_from h l (i + 1)) = subst (Fitting h.geometry.w) (left_from-cons h l i s lt e) (fitting-drop h i l (all_fitting h l can)) in
    let below = spot_below h.geometry.w pos end (s ∷ left_from h l (i + 1)) f (q, s) (zero, omega arith, refl) in
    let whole : laid_end h.geometry.w end (s ∷ left_from h l (i + 1)) ≡ laid_end h.geometry.w 0 (sizes_of h l) = ap (laid_end h.geometry.w end) (sym (left_from-cons h l i s lt e)) ∙ k.rest in
    region_below h.geometry.w pos q (laid_end h.geometry.w 0 (sizes_of h l)) (omega (arith, f.0))

-- the first i survivors have these places
pub record Placing (h : Heap) (l : List ℕ) (i end : ℕ) (ps : List ℕ) : Type 0 where
  pub laying : Laying h l i end
  pub whole : ps ++ map (row_address h) (laid h.geometry.w end (left_from h l i)) ≡ places h l

pub Placing-start : (h : Heap) (l : List ℕ) → Placing h l 0 0 []
Placing-start h l = record { laying = Laying-start h l; whole = refl }

pub Placing-step : (h : Heap) (l : List ℕ) (i end s r : ℕ) (ps : List ℕ) → 0 < h.geometry.w → h.geometry.w ≤ most_region_words → CanLay h l →
    Placing h l i end ps → i < length l → s ≡ (object_at h (get_or l i 0)).size
    → r ≡ get_or (to_space h l) (next_fit h.geometry.w end s / h.geometry.w) 0
    → Placing h l (i + 1) (next_fit h.geometry.w end s + s) (ps ++ (r * h.geometry.w + next_fit h.geometry.w end s % h.geometry.w) ∷ [])
Placing-step h l i end s r ps pos most can k lt e f =
    let q = next_fit h.geometry.w end s in
    let at : r ≡ get_or (free_regions h) (q / h.geometry.w) 0 = f ∙ get_or-take (need h l) (free_regions h) (q / h.geometry.w) 0 (Laying-in_need h l i end s pos can k.laying lt e) in
    let rest = map (row_address h) (laid h.geometry.w (q + s) (left_from h l (i + 1))) in
    record {
      laying = Laying-step h l i end s can most k.laying lt e;
      whole =
          append_assoc ps ((r * h.geometry.w + q % h.geometry.w) ∷ []) rest
          ∙ (λ t. ps ++ (at t * h.geometry.w + q % h.geometry.w) ∷ rest)
          ∙ (λ t. ps ++ map (row_address h) (laid h.geometry.w end (sym (left_from-cons h l i s lt e) t)))
          ∙ k.whole;
    }

pub Placing-end : (h : Heap) (l : List ℕ) (i end : ℕ) (ps : List ℕ) → Placing h l i end ps → i ≡ length l → ps ≡ places h l
Placing-end h l i end ps k e = sym (nil ps) ∙ ap (λ ss. ps ++ map (row_address h) (laid h.geometry.w end ss)) (sym none) ∙ k.whole
  where
    nil : (xs : List ℕ) → xs ++ [] ≡ xs
    nil [] = refl
    nil (x ∷ xs) = ap (λ ys. x ∷ ys) (nil xs)

    nothing : (m : List ℕ) → sizes_of h (drop (length m) m) ≡ []
    nothing [] = refl
    nothing (x ∷ m) = nothing m

    none : sizes_of h (drop i l) ≡ []
    none = ap (λ n. sizes_of h (drop n l)) e ∙ nothing l
