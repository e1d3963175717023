-- What is read of the words of a line from its front or its back.
use Rattle.std.proofs.Common.{◌≡◌, ◌≢◌, ℕ, ◌+◌, ◌-◌, ◌<◌, ◌≤◌, Bool, true, false, List, [], ◌∷◌, ◌++◌, length, get_or, take, drop, map, refl, sym, ◌∙◌, ap, subst, arith}
use Rattle.std.specs.Prelude.{MatchBool}
use Rattle.std.specs.Borrow.{Bor}
use Rattle.std.specs.Str.{bytes_eq}
use Rattle.std.proofs.lemmas.Bool.{false≢true}
use Rattle.std.proofs.lemmas.Slice.Eq.{bytes_eq-Decides}
use Rattle.std.proofs.lemmas.List.{map-append}
use Rattle.g1_text.proofs.Windows.{window_first, window_last}

-- the texts from one place up to another
abbrev pub seen : List (Bor (List ℕ)) → ℕ → ℕ → List (List ℕ)
seen ws from to = map (λ t. t.now) (take (to - from) (drop from ws))

last_one : {A : Type 0} (xs ys : List A) (x y : A) → xs ++ x ∷ [] ≡ ys ++ y ∷ [] → x ≡ y
last_one [] [] x y e = ap (λ zs. get_or zs 0 x) e
last_one [] (b ∷ []) x y e = absurd (let l = ap length e in omega (arith, l))
last_one [] (b ∷ c ∷ ys) x y e = absurd (let l = ap length e in omega (arith, l))
last_one (a ∷ []) [] x y e = absurd (let l = ap length e in omega (arith, l))
last_one (a ∷ c ∷ xs) [] x y e = absurd (let l = ap length e in omega (arith, l))
last_one (a ∷ xs) (b ∷ ys) x y e = last_one xs ys x y (ap (drop 1) e)

module _ (d : Bor (List ℕ)) (ws : List (Bor (List ℕ))) (from to : ℕ) (some : from < to) (within : to ≤ length ws) (now : List (List ℕ)) (shown : seen ws from to ≡ now) where
  pub first : now ≡ (get_or ws from d).now ∷ seen ws (from + 1) to
  first = sym shown ∙ ap (map (λ t. t.now)) (window_first d ws from to some within)

  last : now ≡ seen ws from (to - 1) ++ (get_or ws (to - 1) d).now ∷ []
  last = sym shown ∙ ap (map (λ t. t.now)) (window_last d ws from to some within) ∙ map-append (λ (t : Bor (List ℕ)). t.now) (take (to - 1 - from) (drop from ws)) (get_or ws (to - 1) d ∷ [])

  -- what is said of the word that is looked for, if it is there and if it is not
  module _ (word : List ℕ) (r : Bool) where
    pub first_found : r ≡ bytes_eq (get_or ws from d).now word → r ≡ true
        → MatchBool r (now ≡ word ∷ seen ws (from + 1) to) ((seen ws (from + 1) to ≡ now) × ((rest : List (List ℕ)) → now ≢ word ∷ rest))
    first_found e t =
        subst (λ q. MatchBool q (now ≡ word ∷ seen ws (from + 1) to) ((seen ws (from + 1) to ≡ now) × ((rest : List (List ℕ)) → now ≢ word ∷ rest))) (sym t)
        (first ∙ ap (λ w. w ∷ seen ws (from + 1) to) ((bytes_eq-Decides (get_or ws from d).now word).0 (sym e ∙ t)))

    other : r ≡ bytes_eq (get_or ws from d).now word → r ≡ false → (rest : List (List ℕ)) → now ≢ word ∷ rest
    other e f rest is = false≢true (sym f ∙ e ∙ (bytes_eq-Decides (get_or ws from d).now word).1 (ap (λ ts. get_or ts 0 []) (sym first ∙ is)))

    pub first_other : r ≡ bytes_eq (get_or ws from d).now word → r ≡ false → MatchBool r (now ≡ word ∷ now) ((now ≡ now) × ((rest : List (List ℕ)) → now ≢ word ∷ rest))
    first_other e f = subst (λ q. MatchBool q (now ≡ word ∷ now) ((now ≡ now) × ((rest : List (List ℕ)) → now ≢ word ∷ rest))) (sym f) (refl, other e f)

    pub last_found : r ≡ bytes_eq (get_or ws (to - 1) d).now word → r ≡ true
        → MatchBool r (now ≡ seen ws from (to - 1) ++ word ∷ []) ((seen ws from (to - 1) ≡ now) × ((front : List (List ℕ)) → now ≢ front ++ word ∷ []))
    last_found e t =
        subst (λ q. MatchBool q (now ≡ seen ws from (to - 1) ++ word ∷ []) ((seen ws from (to - 1) ≡ now) × ((front : List (List ℕ)) → now ≢ front ++ word ∷ []))) (sym t)
        (last ∙ ap (λ w. seen ws from (to - 1) ++ w ∷ []) ((bytes_eq-Decides (get_or ws (to - 1) d).now word).0 (sym e ∙ t)))

    end_other : r ≡ bytes_eq (get_or ws (to - 1) d).now word → r ≡ false → (front : List (List ℕ)) → now ≢ front ++ word ∷ []
    end_other e f front is =
        false≢true (sym f ∙ e ∙ (bytes_eq-Decides (get_or ws (to - 1) d).now word).1 (last_one (seen ws from (to - 1)) front (get_or ws (to - 1) d).now word (sym last ∙ is)))

    pub last_other : r ≡ bytes_eq (get_or ws (to - 1) d).now word → r ≡ false → MatchBool r (now ≡ now ++ word ∷ []) ((now ≡ now) × ((front : List (List ℕ)) → now ≢ front ++ word ∷ []))
    last_other e f = subst (λ q. MatchBool q (now ≡ now ++ word ∷ []) ((now ≡ now) × ((front : List (List ℕ)) → now ≢ front ++ word ∷ []))) (sym f) (refl, end_other e f)
