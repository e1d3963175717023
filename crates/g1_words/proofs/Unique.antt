-- A breadth-first list is the only one of its kind.
use Rattle.std.proofs.Common.{◌≡◌, ℕ, zero, suc, ◌+◌, ◌<◌, ◌⊎◌, inl, inr, not, List, [], ◌∷◌, ◌++◌, length, filter, flat_map, refl, sym, ◌∙◌, ap, subst, arith, append_assoc, append-nil, length-append, Contains}
use Rattle.std.proofs.lemmas.Grind.{flat_map-append}
use Rattle.std.proofs.lemmas.List.Elements.{Contains-append_cases, Contains-append_left, Contains-append_right}
use Rattle.g1_words.specs.Live.{Reached, seed, child}
use Rattle.g1_words.specs.Survivors.{firsts, IsBreadthFirst}
use Rattle.g1_words.specs.Lists.{has}
use Rattle.g1_words.proofs.Members.{Contains-flat_map, flat_map_cases}
use Rattle.g1_words.proofs.Firsts.{Contains-firsts, firsts_member, Distinct, Distinct-firsts, Distinct-apart, firsts-append}

-- one step of the search: what is found by the children of those that are in the list
abbrev pub found_from : List ℕ → (ℕ → List ℕ) → List ℕ → List ℕ
found_from seeds children l = firsts (seeds ++ flat_map children l)

-- what so many steps find
abbrev pub found_in : List ℕ → (ℕ → List ℕ) → ℕ → List ℕ
found_in seeds children zero = []
found_in seeds children (suc m) = found_from seeds children (found_in seeds children m)

-- of two fronts of one list one goes on from the other
pub fronts : {A : Type 0} (p l q r : List A) → p ++ l ≡ q ++ r → ((x : A) × (t : List A) × (q ≡ p ++ x ∷ t)) ⊎ ((t : List A) × (p ≡ q ++ t))
fronts [] l [] r e = inr ([], refl)
fronts [] l (x ∷ q) r e = inl (x, q, refl)
fronts (x ∷ p) l [] r e = inr (x ∷ p, refl)
fronts (x ∷ p) l (y ∷ q) r e =
    let same : x ≡ y = cc in
    let rest : p ++ l ≡ q ++ r = cc in
    elim (fronts p l q r rest) [
      | inl h ↦ inl (h.0, h.1, cc (h.2))
      | inr h ↦ inr (h.0, cc (h.1))
    ]

module _ (seeds : List ℕ) (children : ℕ → List ℕ) where
  -- a front of the list finds a front of the list
  pub found_is_front : (l p r : List ℕ) → l ≡ found_from seeds children l → l ≡ p ++ r → (t : List ℕ) × (l ≡ found_from seeds children p ++ t)
  found_is_front l p r e f = (
    filter (λ y. not (has (seeds ++ flat_map children p) y)) (firsts (flat_map children r)),
    e ∙ ap (λ m. firsts (seeds ++ flat_map children m)) f
        ∙ ap (λ m. firsts (seeds ++ m)) (flat_map-append children p r)
        ∙ ap firsts (sym (append_assoc seeds (flat_map children p) (flat_map children r)))
        ∙ firsts-append (seeds ++ flat_map children p) (flat_map children r),
  )

  -- what finds no more than itself holds all that is reached
  pub all_reached : (p t : List ℕ) → p ≡ found_from seeds children p ++ t → (a : ℕ) → Reached seeds children a → Contains (found_from seeds children p) a
  all_reached p t e a (seed h) = Contains-firsts (seeds ++ flat_map children p) a (Contains-append_left seeds (flat_map children p) a h)
  all_reached p t e b (child {a = a} r h) =
      let k : Contains (found_from seeds children p) a = all_reached p t e a r in
      let m : Contains p a = subst (λ l. Contains l a) (sym e) (Contains-append_left (found_from seeds children p) t a k) in
      Contains-firsts (seeds ++ flat_map children p) b (Contains-append_right seeds (flat_map children p) b (Contains-flat_map children p a b m h))

  -- a breadth-first list ends where its front finds no more
  pub ends_there : (l p r t : List ℕ) → IsBreadthFirst seeds children l → l ≡ p ++ r → p ≡ found_from seeds children p ++ t → r ≡ []
  ends_there l p [] t b e f = refl
  ends_there l p (x ∷ r) t b e f =
      let d : Distinct (p ++ x ∷ r) = subst Distinct (sym b.in_order ∙ e) (Distinct-firsts (seeds ++ flat_map children l)) in
      let here : Contains l x = subst (λ m. Contains m x) (sym e) (Contains-append_right p (x ∷ r) x (zero, omega arith, refl)) in
      let found : Contains (found_from seeds children p) x = all_reached p t f x ((b.reached x).0 here) in
      let front : Contains p x = subst (λ m. Contains m x) (sym f) (Contains-append_left (found_from seeds children p) t x found) in
      absurd (Distinct-apart p x r d front)

  same_from : (n : ℕ) (l m p r s : List ℕ) → IsBreadthFirst seeds children l → IsBreadthFirst seeds children m → l ≡ p ++ r → m ≡ p ++ s → length r < n → l ≡ m
  same_from zero l m p r s a b e f lt = absurd (omega arith)
  same_from (suc n) l m p r s a b e f lt =
      let g = found_is_front l p r a.in_order e in
      let h = found_is_front m p s b.in_order f in
      elim (fronts p r (found_from seeds children p) g.0 (sym e ∙ g.1)) [
        | inl k ↦ same_from n l m (found_from seeds children p) g.0 h.0 a b g.1 h.1
            (let sizes : length p + length r ≡ length (found_from seeds children p) + length g.0 =
            sym (length-append p r) ∙ ap length (sym e ∙ g.1) ∙ length-append (found_from seeds children p) g.0 in
            let longer : length (found_from seeds children p) ≡ length p + suc (length k.1) = ap length k.2 ∙ length-append p (k.0 ∷ k.1) in
            omega arith)
        | inr k ↦
            e ∙ ap (λ t. p ++ t) (ends_there l p r k.0 a e k.1 ∙ sym (ends_there m p s k.0 b f k.1)) ∙ sym f
      ]

  pub breadth_first_unique : (l m : List ℕ) → IsBreadthFirst seeds children l → IsBreadthFirst seeds children m → l ≡ m
  breadth_first_unique l m a b = same_from (suc (length l)) l m [] l m a b refl refl (omega arith)

  -- all that a number of steps finds is reached
  pub found_is_reached : (n a : ℕ) → Contains (found_in seeds children n) a → Reached seeds children a
  found_is_reached zero a h = absurd (omega (arith, h.1))
  found_is_reached (suc n) a h =
      elim (Contains-append_cases seeds (flat_map children (found_in seeds children n)) a (firsts_member (seeds ++ flat_map children (found_in seeds children n)) a h)) [
        | inl k ↦ seed k
        | inr k ↦
            let c = flat_map_cases children (found_in seeds children n) a k in
            child (found_is_reached n c.0 c.1) c.2
      ]

  -- where one more step finds no more, the search has found the breadth-first list
  pub search_ends : (n : ℕ) → found_in seeds children n ≡ found_in seeds children (suc n) → IsBreadthFirst seeds children (found_in seeds children n)
  search_ends n e = record {
    reached = λ a. (
      (λ h. found_is_reached n a h),
      (λ r. (subst (λ l. Contains l a) (sym e) (all_reached (found_in seeds children n) [] (e ∙ sym (append-nil (found_in seeds children (suc n)))) a r))),
    );
    in_order = e;
  }
