-- What a list of lines says once its texts are read.
use Rattle.std.proofs.Common.{◌≡◌, ℕ, ◌<◌, ◌+◌, ◌≤◌, Bool, true, false, List, [], ◌∷◌, length, get_or, map, cond, refl, sym, ◌∙◌, ap, subst, arith}
use Rattle.std.specs.Prelude.{Option, Some, None, option_map, option_and_then}
use Rattle.std.specs.Borrow.{Bor}
use Rattle.std.specs.Map.{lookup}
use Rattle.g1_report.specs.Program.{or_else}
use Rattle.std.specs.List.Sorted.{IsNonDecreasingBy, IsSortedByKey}
use Rattle.std.specs.Ordering.{is_lt}
use Rattle.std.proofs.Common.{Ordering}
use Rattle.std.proofs.lemmas.List.{get_or-map, length-map}

module _ {K L X Y : Type 0} (g : K → L) (f : X → Y) where
  abbrev line : K × X → L × Y
  line e = (g e.0, f e.1)

  chosen : (b : Bool) (x : X) (o : Option X) → cond b (Some (f x)) (option_map f o) ≡ option_map f (cond b (Some x) o)
  chosen true x o = refl
  chosen false x o = refl

  -- a line is found by its key as it is read
  pub lookup_read : (t : L → Bool) (l : List (K × X)) → option_map f (lookup (λ k. t (g k)) l) ≡ lookup t (map (λ (e : K × X). (g e.0, f e.1)) l)
  lookup_read t [] = refl
  lookup_read t (e ∷ es) =
      sym (chosen (t (g e.0)) e.1 (lookup (λ k. t (g k)) es)) ∙ ap (λ o. cond (t (g e.0)) (Some (f e.1)) o) (lookup_read t es)

  -- the order of the lines is that of the lines that are read
  pub rise_unread : (n : L → ℕ) (l : List (K × X)) → IsNonDecreasingBy (λ (e : L × Y). n e.0) (map (λ (e : K × X). (g e.0, f e.1)) l) → IsNonDecreasingBy (λ (e : K × X). n (g e.0)) l
  rise_unread n l rise i j d le lt =
      let small : j < length (map line l) = subst (λ m. j < m) (sym (length-map l line)) lt in
      let at = get_or-map line l i d (line d) (omega (arith, le, lt)) in
      let on = get_or-map line l j d (line d) lt in
      subst (λ y. n (g (get_or l i d).0) ≤ n y.0) on (subst (λ y. n y.0 ≤ n (get_or (map line l) j (line d)).0) at (rise i j (line d) le small))

  pub rise_read : (n : L → ℕ) (l : List (K × X)) → IsNonDecreasingBy (λ (e : K × X). n (g e.0)) l → IsNonDecreasingBy (λ (e : L × Y). n e.0) (map (λ (e : K × X). (g e.0, f e.1)) l)
  rise_read n [] rise i j d le lt = absurd (omega (arith, lt))
  rise_read n (x ∷ xs) rise i j d le lt =
      let small : j < length (x ∷ xs) = subst (λ m. j < m) (length-map (x ∷ xs) line) lt in
      let at = get_or-map line (x ∷ xs) i x d (omega (arith, le, small)) in
      let on = get_or-map line (x ∷ xs) j x d small in
      subst (λ y. n (get_or (map line (x ∷ xs)) i d).0 ≤ n y.0) (sym on) (subst (λ y. n y.0 ≤ n (g (get_or (x ∷ xs) j x).0)) (sym at) (rise i j x le small))

  pub sorted_unread : (cmp : L → L → Ordering) (l : List (K × X)) → IsSortedByKey (λ (e : L × Y). e.0) cmp (map (λ (e : K × X). (g e.0, f e.1)) l)
      → IsSortedByKey (λ (e : K × X). g e.0) cmp l
  sorted_unread cmp l sorted k d low lt =
      let small : k + 1 < length (map line l) = subst (λ m. k + 1 < m) (sym (length-map l line)) lt in
      let at = get_or-map line l k d (line d) (omega (arith, lt)) in
      let on = get_or-map line l (k + 1) d (line d) lt in
      subst (λ y. is_lt (cmp y.0 (g (get_or l k d).0)) ≡ false) on (subst (λ y. is_lt (cmp (get_or (map line l) (k + 1) (line d)).0 y.0) ≡ false) at (sorted k (line d) low small))

-- what an answer says of a list of lines once they are read
module _ {K L X Y : Type 0} (g : K → L) (f : X → Y) (t : L → Bool) (l list : List (K × X)) (same : list ≡ l) where
  pub read_is : (r : Option X) → r ≡ lookup (λ k. t (g k)) list → option_map f r ≡ lookup t (map (λ (e : K × X). (g e.0, f e.1)) l)
  read_is r e = ap (option_map f) (e ∙ ap (lookup (λ k. t (g k))) same) ∙ lookup_read g f t l

  pub read_some : (r : Option (Bor X)) (x : Bor X) → r ≡ Some x → option_map (λ v. v.now) r ≡ lookup (λ k. t (g k)) list → Some (f x.now) ≡ lookup t (map (λ (e : K × X). (g e.0, f e.1)) l)
  read_some r x is e = read_is (Some x.now) (sym (ap (option_map (λ v. v.now)) is) ∙ e)

  pub read_none : (r : Option (Bor X)) → r ≡ None → option_map (λ v. v.now) r ≡ lookup (λ k. t (g k)) list → None ≡ lookup t (map (λ (e : K × X). (g e.0, f e.1)) l)
  read_none r is e = read_is None (sym (ap (option_map (λ v. v.now)) is) ∙ e)

-- what is found next
module _ {X Y : Type 0} (F : X → Option Y) (o : Option X) where
  pub then_some : (x : X) (r : Option Y) → Some x ≡ o → r ≡ F x → r ≡ option_and_then F o
  then_some x r is e = e ∙ ap (option_and_then F) is

  pub then_none : None ≡ o → None ≡ option_and_then F o
  then_none is = ap (option_and_then F) is

-- one or the other
module _ {X : Type 0} (o p : Option X) where
  pub or_some : (x : X) → Some x ≡ o → Some x ≡ or_else o p
  or_some x is = ap (λ o. or_else o p) is

  pub or_none : (r : Option X) → None ≡ o → r ≡ p → r ≡ or_else o p
  or_none r is e = e ∙ ap (λ o. or_else o p) is
