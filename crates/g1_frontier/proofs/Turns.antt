-- The search from round to round.
use Rattle.std.proofs.Common.{◌≡◌, ℕ, zero, suc, ◌+◌, ◌-◌, ◌≤◌, not, List, [], ◌∷◌, ◌++◌, filter, length, take, drop, refl, sym, ◌∙◌, ap, subst, arith, append_assoc, append-nil, Contains}
use Rattle.std.proofs.Common.{length-append, ⊎_elim, take-append-drop}
use Rattle.std.specs.List.{flat_map}
use Rattle.std.proofs.lemmas.Grind.{flat_map-append}
use Rattle.std.proofs.lemmas.List.{take-take, drop-take, take_rest, take_all}
use Rattle.std.proofs.lemmas.List.Elements.{Contains-append_cases}
use Rattle.g1_words.specs.Lists.{has}
use Rattle.g1_words.specs.Live.{Reached, seed, child}
use Rattle.g1_words.specs.Survivors.{firsts, IsBreadthFirst}
use Rattle.g1_words.proofs.Members.{flat_map_cases}
use Rattle.g1_words.proofs.Firsts.{firsts_member, firsts-append}
use Rattle.g1_words.proofs.Unique.{all_reached}
use Rattle.g1_frontier.proofs.Marks.{firsts_again, firsts_more}
use Rattle.g1_frontier.proofs.Scopes.{Contains-drop}

pub take_front : (xs ys : List ℕ) → take (length xs) (xs ++ ys) ≡ xs
take_front [] ys = refl
take_front (x ∷ xs) ys = ap (λ l. x ∷ l) (take_front xs ys)

pub length_rest : (n : ℕ) (ys : List ℕ) → length (drop n ys) ≤ length ys - n
length_rest zero ys = omega arith
length_rest (suc n) [] = omega arith
length_rest (suc n) (y ∷ ys) = let r = length_rest n ys in omega (arith, r)

-- a slice from i to the end is no longer than the list
pub rest_few : (xs : List ℕ) (i : ℕ) → length (take (length xs - i) (drop i xs)) ≤ length xs
rest_few xs i = let e : length (take (length xs - i) (drop i xs)) ≡ length (drop i xs) = ap length (take_rest xs i) in let r = length_rest i xs in omega arith

-- what two parts take, one behind the other
pub take_parts : (i n : ℕ) (xs : List ℕ) → take (i + n) xs ≡ take i xs ++ take n (drop i xs)
take_parts i n xs = sym (take-append-drop i (take (i + n) xs)) ∙ (λ k. take-take i (i + n) xs (omega arith) k ++ drop-take i n xs k)

module _ (seeds : List ℕ) (children : ℕ → List ℕ) where
  pub begins : (found : List ℕ) → found ≡ firsts ([] ++ seeds) → found ≡ firsts (seeds ++ [])
  begins found e = e ∙ ap firsts (sym (append-nil seeds))

  pub begins_reached : (found : List ℕ) → found ≡ firsts ([] ++ seeds) → (a : ℕ) → Contains found a → Reached seeds children a
  begins_reached found e a h = seed (firsts_member seeds a (subst (λ l. Contains l a) e h))

  again : (found mid : List ℕ) → found ≡ firsts mid → firsts found ≡ found
  again found mid e = ap firsts e ∙ firsts_again mid ∙ sym e

  grows : (found mid more add : List ℕ) → found ≡ firsts mid → more ≡ firsts (found ++ add) → more ≡ found ++ filter (λ y. not (has found y)) (firsts add)
  grows found mid more add e f = f ∙ firsts-append found add ∙ ap (λ l. l ++ filter (λ y. not (has found y)) (firsts add)) (again found mid e)

  pub no_shorter : (found mid more add : List ℕ) → found ≡ firsts mid → more ≡ firsts (found ++ add) → length found ≤ length more
  no_shorter found mid more add e f = let g : length more ≡ length found + length (filter (λ y. not (has found y)) (firsts add)) =
      ap length (grows found mid more add e f) ∙ length-append found (filter (λ y. not (has found y)) (firsts add)) in omega arith

  -- after a round over those that were found and not yet searched
  pub turn : (found more : List ℕ) (from : ℕ) → found ≡ firsts (seeds ++ flat_map children (take from found)) →
      more ≡ firsts (found ++ flat_map children (drop from found)) → more ≡ firsts (seeds ++ flat_map children (take (length found) more))
  turn found more from e f =
      let front : List ℕ = flat_map children (take from found) in
      let back : List ℕ = flat_map children (drop from found) in
      let same : take (length found) more ≡ found = ap (take (length found)) (grows found (seeds ++ front) more back e f) ∙ take_front found (filter (λ y. not (has found y)) (firsts back)) in
      let whole : front ++ back ≡ flat_map children found = sym (flat_map-append children (take from found) (drop from found)) ∙ ap (flat_map children) (take-append-drop from found) in
      f ∙ ap (λ l. firsts (l ++ back)) e ∙ firsts_more (seeds ++ front) back ∙ ap firsts (append_assoc seeds front back ∙ ap (λ l. seeds ++ l) (whole ∙ ap (flat_map children) (sym same)))

  pub turn_reached : (found more : List ℕ) (from : ℕ) → ((a : ℕ) → Contains found a → Reached seeds children a) →
      more ≡ firsts (found ++ flat_map children (drop from found)) → (a : ℕ) → Contains more a → Reached seeds children a
  turn_reached found more from r f a h =
      ⊎_elim (r a)
      (λ (k : Contains (flat_map children (drop from found)) a). let c = flat_map_cases children (drop from found) a k in child (r c.0 (Contains-drop from found c.0 c.1)) c.2)
      (Contains-append_cases found (flat_map children (drop from found)) a (firsts_member (found ++ flat_map children (drop from found)) a (subst (λ l. Contains l a) f h)))

  pub ends : (found : List ℕ) (from : ℕ) → length found ≤ from → found ≡ firsts (seeds ++ flat_map children (take from found)) →
      ((a : ℕ) → Contains found a → Reached seeds children a) → IsBreadthFirst seeds children found
  ends found from le e r =
      let whole : found ≡ firsts (seeds ++ flat_map children found) = e ∙ ap (λ l. firsts (seeds ++ flat_map children l)) (take_all from found le) in record {
        reached = λ a. (
          r a,
          (λ h. subst (λ l. Contains l a) (sym whole) (all_reached seeds children found [] (whole ∙ sym (append-nil (firsts (seeds ++ flat_map children found)))) a h)),
        );
        in_order = whole;
      }
