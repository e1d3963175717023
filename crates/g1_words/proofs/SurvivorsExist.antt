-- The search for survivors ends, so that each set has its list.
use Rattle.std.proofs.Common.{◌≡◌, ℕ, zero, suc, ◌+◌, ◌<◌, ◌≤◌, inl, inr, not, List, [], ◌∷◌, ◌++◌, length, map, filter, flat_map, refl, sym, ◌∙◌, ap, subst, arith, append_assoc, append-nil, Contains}
use Rattle.std.proofs.Common.{length-append}
use Rattle.std.proofs.lemmas.Grind.{flat_map-append}
use Rattle.std.proofs.lemmas.List.Elements.{Contains-append_cases, Contains-append_left, Contains-append_right}
use Rattle.g1_words.proofs.Firsts.{Distinct, Distinct-firsts, firsts-append}
use Rattle.g1_words.proofs.Members.{Contains-map}
use Rattle.g1_words.proofs.OneToOne.{reached_object}
use Rattle.g1_words.proofs.Sound.{IsSound}
use Rattle.g1_words.proofs.Unique.{found_in, found_is_reached, search_ends}
use Rattle.g1_words.specs.Heap.{Heap, object_at, objects}
use Rattle.g1_words.specs.Lists.{has}
use Rattle.g1_words.specs.Live.{Reached}
use Rattle.g1_words.specs.Survivors.{IsBreadthFirst, Survivors, firsts, children, seeds}
use Rattle.g1_words.specs.declared.object.Object.{Object}

split_at : (ys : List ℕ) (x : ℕ) → Contains ys x → (p : List ℕ) × (q : List ℕ) × (ys ≡ p ++ x ∷ q)
split_at [] x m = absurd (omega (arith, m.1))
split_at (y ∷ ys) x (zero, b, e) = ([], ys, ap (λ z. z ∷ ys) e)
split_at (y ∷ ys) x (suc k, b, e) = let r = split_at ys x (k, omega (arith, b), e) in (y ∷ r.0, r.1, ap (λ zs. y ∷ zs) r.2)

-- a list without repeats whose members all stand in another is no longer than that
pigeons : (xs ys : List ℕ) → Distinct xs → ((x : ℕ) → Contains xs x → Contains ys x) → length xs ≤ length ys
pigeons [] ys d f = omega arith
pigeons (x ∷ xs) ys d f =
    let s = split_at ys x (f x (zero, omega arith, refl)) in
    let k = pigeons xs (s.0 ++ s.1) d.1 (λ y m. elim (Contains-append_cases s.0 (x ∷ s.1) y (subst (λ zs. Contains zs y) s.2 (f y (suc m.0, omega (arith, m.1), m.2)))) [
      | inl a ↦ Contains-append_left s.0 s.1 y a
      | inr (zero, b, e) ↦ absurd (d.0 (subst (λ z. Contains xs z) (sym e) m))
      | inr (suc j, b, e) ↦ Contains-append_right s.0 s.1 y (j, omega (arith, b), e)
    ]) in
    let a = ap length s.2 ∙ length-append s.0 (x ∷ s.1) in
    let b = length-append s.0 s.1 in
    omega arith

module _ (seeds : List ℕ) (children : ℕ → List ℕ) where
  -- each step keeps what the one before has found, in front
  grows : (n : ℕ) → (t : List ℕ) × (found_in seeds children (suc n) ≡ found_in seeds children n ++ t)
  grows zero = (found_in seeds children 1, refl)
  grows (suc n) =
      let p : List ℕ = found_in seeds children n in
      let g = grows n in (
        filter (λ y. not (has (seeds ++ flat_map children p) y)) (firsts (flat_map children g.0)),
        ap (λ m. firsts (seeds ++ flat_map children m)) g.1
            ∙ ap (λ m. firsts (seeds ++ m)) (flat_map-append children p g.0)
            ∙ ap firsts (sym (append_assoc seeds (flat_map children p) (flat_map children g.0)))
            ∙ firsts-append (seeds ++ flat_map children p) (flat_map children g.0),
      )

  distinct : (n : ℕ) → Distinct (found_in seeds children n)
  distinct zero = tt
  distinct (suc n) = Distinct-firsts (seeds ++ flat_map children (found_in seeds children n))

  module _ (bound : List ℕ) (inside : (a : ℕ) → Reached seeds children a → Contains bound a) where
    next_from : (fuel n : ℕ) (t : List ℕ) → found_in seeds children (suc n) ≡ found_in seeds children n ++ t → length bound < suc fuel + length (found_in seeds children n)
        → (length bound < fuel + length (found_in seeds children (suc n)) → (m : ℕ) × (found_in seeds children m ≡ found_in seeds children (suc m))) →
        (m : ℕ) × (found_in seeds children m ≡ found_in seeds children (suc m))
    next_from fuel n [] e lt rest = (n, sym (e ∙ append-nil (found_in seeds children n)))
    next_from fuel n (x ∷ t) e lt rest = let k = ap length e ∙ length-append (found_in seeds children n) (x ∷ t) in rest (omega arith)

    ends_from : (fuel n : ℕ) → length bound < fuel + length (found_in seeds children n) → (m : ℕ) × (found_in seeds children m ≡ found_in seeds children (suc m))
    ends_from zero n lt = let k = pigeons (found_in seeds children n) bound (distinct n) (λ x m. inside x (found_is_reached seeds children n x m)) in absurd (omega arith)
    ends_from (suc fuel) n lt = let g = grows n in next_from fuel n g.0 g.1 lt (ends_from fuel (suc n))

    pub breadth_first_exists : (l : List ℕ) × IsBreadthFirst seeds children l
    breadth_first_exists = let m = ends_from (suc (length bound)) 0 (omega arith) in (found_in seeds children m.0, search_ends seeds children m.0 m.1)

-- a set of a sound heap has its survivors
pub survivors_exist : (h : Heap) (set : List ℕ) → IsSound h → (l : List ℕ) × Survivors h set l
survivors_exist h set s = breadth_first_exists (seeds h set) (children h set) (map (λ o. o.at) (objects h))
    (λ a r. Contains-map (λ (o : Object). o.at) (objects h) (object_at h a) (reached_object h set s a r))
