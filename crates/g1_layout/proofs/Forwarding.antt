-- The table of new addresses, as it is written.
use Rattle.std.proofs.Common.{◌≡◌, ◌≢◌, ℕ, ◌+◌, ◌<◌, Bool, true, false, List, Option, Some, None, AllPairs, All, inl, inr, length, get_or, set, refl, sym, ◌∙◌, ap, arith, Contains}
use Rattle.std.proofs.lemmas.Bool.{false≢true, cases_eq}
use Rattle.std.proofs.lemmas.List.{get_or-set_same, get_or-set_other, get_or_default}
use Rattle.g1_words.specs.Layout.{moved_to}
use Rattle.g1_words.proofs.OneToOne.{moved_stays}
use Rattle.g1_words.specs.Numbers.{number_at, number_if, number_of}
use Rattle.g1_layout.specs.Words.{AreIndices, AreMarkedTo, ArePlacedTo, HasIndex, index_of, goes_to, told, told_at}
use Rattle.g1_words.proofs.Numbering.{number_apart, number_rises}
use Rattle.g1_layout.proofs.Stretches.{moved_at}

-- of two places of a list without repetition the values differ
apart : (l : List ℕ) (k i : ℕ) → AllPairs (λ a b. a ≢ b) l → k < i → i < length l → get_or l k 0 ≢ get_or l i 0
apart l k i d lt within = d k i 0 lt within

module _ (w : ℕ) (positions : List (Option ℕ)) (l : List ℕ) (marks : List Bool) (indices : AreIndices w positions (length marks)) (m : AreMarkedTo w positions l (length l) marks)
    (ps : List ℕ) where
  -- the number of a survivor's mark is below the count
  pub number_inside : (k j : ℕ) → k < length l → index_of w positions (get_or l k 0) ≡ Some j → number_at marks j < number_at marks (length marks)
  number_inside k j lt e = let inside = indices.within (get_or l k 0) j e in number_rises marks j (length marks) inside inside (m.each k j lt e)

  -- one place more is written
  pub placed_more : (n j : ℕ) (by : List ℕ) (y : ℕ) → AllPairs (λ a b. a ≢ b) l → n < length l → length by ≡ number_at marks (length marks) → index_of w positions (get_or l n 0) ≡ Some j → y ≡ get_or ps n 0
      → ArePlacedTo w positions marks l ps n by → ArePlacedTo w positions marks l ps (n + 1) (set by (number_at marks j) y)
  placed_more n j by y d lt long at is so k i less e = elim (cases_eq k n) [
    | inl same ↦
        let one : Some i ≡ Some j = sym e ∙ ap (λ x. index_of w positions (get_or l x 0)) same ∙ at in
        let index : i ≡ j = cc in
        ap (λ x. get_or (set by (number_at marks j) y) (number_at marks x) 0) index
        ∙ get_or-set_same by (number_at marks j) y 0 (omega (arith, long, number_inside n j lt at)) ∙ is ∙ ap (λ x. get_or ps x 0) (sym same)
    | inr other ↦
        let before : k < n = omega (arith, less, other) in
        let number : number_at marks i ≢ number_at marks j = λ same.
        let index : i ≡ j = number_apart marks i j (indices.within (get_or l k 0) i e) (indices.within (get_or l n 0) j at)
        (m.each k i (omega (arith, before, lt)) e) (m.each n j lt at) same in
        apart l k n d before lt (indices.one_to_one (get_or l k 0) (get_or l n 0) j (e ∙ ap (λ x. Some x) index) at) in
        get_or-set_other by (number_at marks j) (number_at marks i) y 0 number ∙ so k i before e
  ]

  -- with all places written, the table tells where each address goes
  pub goes_where_moved : (by : List ℕ) → AllPairs (λ a b. a ≢ b) l → length ps ≡ length l → All (HasIndex w positions) l → ArePlacedTo w positions marks l ps (length l) by
      → (a : ℕ) → goes_to w positions marks by a ≡ moved_to l ps a
  goes_where_moved by d same has so a = at (index_of w positions a) refl
    where
      stays : (Contains l a → ⊥) → a ≡ moved_to l ps a
      stays out = sym (moved_stays l ps a out)

      -- the address of a member has an index
      index_there : Contains l a → (k : ℕ) × ((k < length l) × (get_or l k 0 ≡ a))
      index_there c = (c.0, (c.1, get_or_default l c.0 0 a c.1 ∙ c.2))

      marked : (j : ℕ) (b : Bool) → index_of w positions a ≡ Some j → get_or marks j false ≡ b → told (number_if b (number_at marks j)) by a ≡ moved_to l ps a
      marked j true e f =
          let k = m.only j f in
          let is : get_or l k.0 0 ≡ a = indices.one_to_one (get_or l k.0 0) a j k.1.1 e in
          so k.0 j k.1.0 k.1.1 ∙ sym (moved_at l ps k.0 k.1.0 same d) ∙ ap (moved_to l ps) is
      marked j false e f = stays (λ in_l. let k = index_there in_l in false≢true (sym f ∙ m.each k.0 j k.1.0 (ap (index_of w positions) k.1.1 ∙ e)))

      at : (x : Option ℕ) → index_of w positions a ≡ x → told_at x marks by a ≡ moved_to l ps a
      at None e = stays (λ in_l.
          let k = index_there in_l in
          let i = has k.0 0 k.1.0 in
          let clash : None ≡ Some i.0 = sym e ∙ ap (index_of w positions) (sym k.1.1) ∙ i.1 in cc)
      at (Some j) e = marked j (get_or marks j false) e refl

-- ---- what is read

-- a number that was found is that of a mark
pub number_found : (marks : List Bool) (i n : ℕ) → number_of marks i ≡ Some n → (get_or marks i false ≡ true) × (n ≡ number_at marks i)
number_found marks i n e = at (get_or marks i false) refl e
  where
    at : (b : Bool) → get_or marks i false ≡ b → number_if b (number_at marks i) ≡ Some n → (b ≡ true) × (n ≡ number_at marks i)
    at true f e = (refl, cc)
    at false f e = cc

-- where the index and the number are known, the table tells the place of the number
pub goes_at : (w : ℕ) (positions : List (Option ℕ)) (marks : List Bool) (by : List ℕ) (a i n : ℕ) → index_of w positions a ≡ Some i → number_of marks i ≡ Some n
    → goes_to w positions marks by a ≡ get_or by n 0
goes_at w positions marks by a i n e f = ap (λ x. told_at x marks by a) e ∙ ap (λ x. told x by a) f

-- there is a place for a number that was found
pub number_below : (marks : List Bool) (i n : ℕ) → i < length marks → number_of marks i ≡ Some n → n < number_at marks (length marks)
number_below marks i n lt e = let k = number_found marks i n e in let r = number_rises marks i (length marks) lt lt k.0 in omega (arith, r, k.1)

-- a marked word has a number
pub number_there : (marks : List Bool) (i : ℕ) → get_or marks i false ≡ true → number_of marks i ≡ Some (number_at marks i)
number_there marks i e = ap (λ b. number_if b (number_at marks i)) e
