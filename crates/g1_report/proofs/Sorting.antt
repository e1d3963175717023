-- Lines that are put in order, and the same lines as they are read.
use Rattle.std.proofs.Common.{◌≡◌, ◌+◌, ◌<◌, ◌⊎◌, inl, inr, Bool, true, false, not, ◌&&◌, List, [], ◌∷◌, length, get_or, map, filter, cond, refl, sym, ap, subst, ◌∙◌, arith, Ordering, Less, Equal, Greater, Result, Ok, Err}
use Rattle.std.specs.Prelude.{OnOk}
use Rattle.std.specs.Borrow.{Bor}
use Rattle.std.specs.Fn.{ComputesKey}
use denote.Param.Members.{Mut}
use Rattle.std.specs.Ordering.{is_lt, ordering_reverse}
use Rattle.std.specs.Cmp.{IsTotalOrder}
use Rattle.std.specs.List.Sorted.{IsPermutation, IsSortedByKey, IsStableBy, IsStableByKey, ties}
use Rattle.std.proofs.lemmas.Bool.{false≢true}
use Rattle.std.proofs.lemmas.List.{get_or-map, length-map}
use Rattle.std.proofs.lemmas.List.Elements.{filter_agree}
use Rattle.std.proofs.lemmas.List.Sorted.{IsPermutation-map}
use Rattle.g1_report.specs.Sorting.{IsPutInOrder}

-- what a sort by a key says, where the keys are compared as they are read
pub on_sorted : {F X K L E : Type 0} (m : Mut F (Bor X × Unit {0}) K) (f : F) (key : X → K) (read : K → L) (cmp : L → L → Ordering) (before after : List X) (r : Result (Unit {0}) E)
    → ComputesKey m key f → IsPermutation before after
    → OnOk r ((k : X → K) → ComputesKey m k f → IsSortedByKey k (λ x y. cmp (read x) (read y)) after)
    → ((k : X → K) → ComputesKey m k f → IsStableByKey k (λ x y. cmp (read x) (read y)) before after)
    → OnOk r (IsPutInOrder (λ e. read (key e)) cmp before after)
on_sorted m f key read cmp before after (Ok u) computes same rise stable = record { same = same; rise = rise key computes; stable = stable key computes }
on_sorted m f key read cmp before after (Err e) computes same rise stable = rise

kept_or_not : {X Y : Type 0} (g : X → Y) (b : Bool) (x : X) (ys : List Y) (zs : List X) → ys ≡ map g zs → cond b (g x ∷ ys) ys ≡ map g (cond b (x ∷ zs) zs)
kept_or_not g true x ys zs e = ap (λ l. g x ∷ l) e
kept_or_not g false x ys zs e = e

filter-map : {X Y : Type 0} (g : X → Y) (p : Y → Bool) (xs : List X) → filter p (map g xs) ≡ map g (filter (λ x. p (g x)) xs)
filter-map g p [] = refl
filter-map g p (x ∷ xs) = kept_or_not g (p (g x)) x (filter p (map g xs)) (filter (λ x. p (g x)) xs) (filter-map g p xs)

-- one of the elements passes, or none does
one_more : {X : Type 0} (p : X → Bool) (x : X) (xs : List X) (b : Bool) → p x ≡ b → (filter p xs ≡ []) ⊎ ((y : X) × (p y ≡ true)) → (filter p (x ∷ xs) ≡ []) ⊎ ((y : X) × (p y ≡ true))
one_more p x xs true e h = inr (x, e)
one_more p x xs false e (inl none) = inl (ap (λ b. cond b (x ∷ filter p xs) (filter p xs)) e ∙ none)
one_more p x xs false e (inr some) = inr some

some_passes : {X : Type 0} (p : X → Bool) (xs : List X) → (filter p xs ≡ []) ⊎ ((x : X) × (p x ≡ true))
some_passes p [] = inl refl
some_passes p (x ∷ xs) = one_more p x xs (p x) refl (some_passes p xs)

tied : (r s : Ordering) → s ≡ ordering_reverse r → (not (is_lt r) && not (is_lt s)) ≡ true → r ≡ Equal
tied Less s e h = absurd (false≢true h)
tied Equal s e h = refl
tied Greater s e h = absurd (false≢true (ap (λ s. not (is_lt s)) (sym e) ∙ h))

module _ {K X Y : Type 0} {cmp : K → K → Ordering} (o : IsTotalOrder cmp) (g : X → Y) (key : Y → K) where
  abbrev less : Y → Y → Bool
  less x y = is_lt (cmp (key x) (key y))

  -- what ties with one of two that tie does with the other
  alike : (y z w : Y) → ties less y z ≡ true → ties less y w ≡ ties less z w
  alike y z w h =
      let e = tied (cmp (key y) (key z)) (cmp (key z) (key y)) (o.antisymm (key z) (key y)) h in
      let there : cmp (key y) (key w) ≡ cmp (key z) (key w) = o.congr (key y) (key z) (key w) e in
      let back : cmp (key w) (key y) ≡ cmp (key w) (key z) = o.antisymm (key w) (key y) ∙ ap ordering_reverse there ∙ sym (o.antisymm (key w) (key z)) in
      λ i. not (is_lt (there i)) && not (is_lt (back i))

  abbrev lower : X → X → Bool
  lower a b = less (g a) (g b)

  abbrev passes : Y → X → Bool
  passes y x = ties less y (g x)

  from_one : (xs ys : List X) → IsStableBy lower xs ys → (y : Y) (x : X) → passes y x ≡ true → filter (passes y) ys ≡ filter (passes y) xs
  from_one xs ys h y x t =
      filter_agree (passes y) (ties lower x) (λ z. alike y (g x) (g z) t) ys ∙ h x ∙ sym (filter_agree (passes y) (ties lower x) (λ z. alike y (g x) (g z) t) xs)

  stable_read : (xs ys : List X) → IsStableBy lower xs ys → IsStableBy less (map g xs) (map g ys)
  stable_read xs ys h y =
      let kept : filter (passes y) ys ≡ filter (passes y) xs = elim (some_passes (passes y) xs) [
        | inl none ↦ elim (some_passes (passes y) ys) [ inl other ↦ other ∙ sym none | inr some ↦ from_one xs ys h y some.0 some.1 ]
        | inr some ↦ from_one xs ys h y some.0 some.1
      ] in
      filter-map g (ties less y) ys ∙ ap (map g) kept ∙ sym (filter-map g (ties less y) xs)

  sorted_read : (ys : List X) → IsSortedByKey (λ x. key (g x)) cmp ys → IsSortedByKey key cmp (map g ys)
  sorted_read [] h k d low lt = absurd (omega (arith, lt))
  sorted_read (y ∷ ys) h k d low lt =
      let l = y ∷ ys in
      let small : k + 1 < length l = subst (λ m. k + 1 < m) (length-map l g) lt in
      let at = get_or-map g l k y d (omega (arith, small)) in
      let on = get_or-map g l (k + 1) y d small in
      subst (λ z. is_lt (cmp (key z) (key (get_or (map g l) k d))) ≡ false) (sym on)
      (subst (λ z. is_lt (cmp (key (g (get_or l (k + 1) y))) (key z)) ≡ false) (sym at) (h k y low small))

  -- lines that are put in order are so as they are read
  pub put_read : (xs ys : List X) → IsPutInOrder (λ x. key (g x)) cmp xs ys → IsPutInOrder key cmp (map g xs) (map g ys)
  put_read xs ys h = record {
    same = IsPermutation-map g xs ys h.same;
    rise = sorted_read ys h.rise;
    stable = stable_read xs ys h.stable;
  }
