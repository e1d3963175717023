-- Two heaps have one first difference at most.
use Rattle.std.proofs.Common.{◌≡◌, ℕ, suc, ◌⊎◌, inl, inr, List, [], ◌∷◌, length, refl, sym, ap, subst, ◌∙◌, arith}
use Rattle.std.proofs.lemmas.Bool.{cases_lt}
use native.Mathlib.Decide.{ℕ_discrete}
use Rattle.g1_words.specs.Heap.{Heap, object_at}
use Rattle.g1_same.specs.declared.difference.How.{How}
use Rattle.g1_same.specs.declared.difference.How.TheVariants.{NullBefore, NullAfter, Split, Joined, Size, Slots, Data}
use Rattle.g1_same.specs.declared.difference.Difference.{Difference}
use Rattle.g1_same.specs.declared.difference.Difference.TheVariants.{Roots, At}
use Rattle.g1_same.specs.Path.{LeadsTo, Together, Lower, Before}
use Rattle.g1_same.specs.Same.{IsClash, ClashAt, rank, IsFirstDifference}
use Rattle.g1_same.specs.Laws.{TellSame}
use Rattle.g1_same.proofs.Following.{leads_to_one}

lower_cases : (p q : List ℕ) → length p ≡ length q → (p ≡ q) ⊎ (Lower p q ⊎ Lower q p)
lower_cases [] [] e = inl refl
lower_cases [] (n ∷ q) e = absurd (omega (arith, e))
lower_cases (m ∷ p) [] e = absurd (omega (arith, e))
lower_cases (m ∷ p) (n ∷ q) e = elim (cases_lt m n) [
  | inl lt ↦ inr (inl (inl lt))
  | inr ge ↦ elim (cases_lt n m) [
    | inl gt ↦ inr (inr (inl gt))
    | inr le ↦
        let same : m ≡ n = omega arith in
        elim (lower_cases p q (omega (arith, e))) [
          | inl d ↦ inl (λ t. same t ∷ d t)
          | inr d ↦ elim d [ inl a ↦ inr (inl (inr (same, a))) | inr b ↦ inr (inr (inr (sym same, b))) ]
        ]
  ]
]

-- of two paths one comes first
pub path_cases : (p q : List ℕ) → (p ≡ q) ⊎ (Before p q ⊎ Before q p)
path_cases p q = elim (cases_lt (length p) (length q)) [
  | inl lt ↦ inr (inl (inl lt))
  | inr ge ↦ elim (cases_lt (length q) (length p)) [
    | inl gt ↦ inr (inr (inl gt))
    | inr le ↦
        let same : length p ≡ length q = omega arith in
        elim (lower_cases p q same) [
          | inl e ↦ inl e
          | inr d ↦ elim d [ inl a ↦ inr (inl (inr (same, a))) | inr b ↦ inr (inr (inr (sym same, b))) ]
        ]
  ]
]

module _ (g h : Heap) where
  -- two earlier paths to one object before lead to one object after, where none disagrees
  one_after : (p q r : List ℕ) (a m n : ℕ) → ((q : List ℕ) (how : How) → Before q p → ClashAt g h q how → ⊥) → Before q p → Before r p
      → Together g h q (suc a) (suc m) → Together g h r (suc a) (suc n) → m ≡ n
  one_after p q r a m n none bq br u v = elim (ℕ_discrete m n) [
    | yes e ↦ e
    | no ne ↦ elim (path_cases q r) [
      | inl e ↦ let k = leads_to_one h r (suc m) (suc n) (subst (λ z. LeadsTo h z (suc m)) e u.1) v.1 in omega (arith, k)
      | inr d ↦ elim d [
        | inl b ↦ absurd (none r (Split a m n) br (suc a, suc n, v, (refl, refl, ne, q, b, u)))
        | inr b ↦ absurd (none q (Split a n m) bq (suc a, suc m, u, (refl, refl, λ e. ne (sym e), r, b, v)))
      ]
    ]
  ]

  one_before : (p q r : List ℕ) (b m n : ℕ) → ((q : List ℕ) (how : How) → Before q p → ClashAt g h q how → ⊥) → Before q p → Before r p
      → Together g h q (suc m) (suc b) → Together g h r (suc n) (suc b) → m ≡ n
  one_before p q r b m n none bq br u v = elim (ℕ_discrete m n) [
    | yes e ↦ e
    | no ne ↦ elim (path_cases q r) [
      | inl e ↦ let k = leads_to_one g r (suc m) (suc n) (subst (λ z. LeadsTo g z (suc m)) e u.0) v.0 in omega (arith, k)
      | inr d ↦ elim d [
        | inl c ↦ absurd (none r (Joined m n b) br (suc n, suc b, v, (refl, refl, ne, q, c, u)))
        | inr c ↦ absurd (none q (Joined n m b) bq (suc m, suc b, u, (refl, refl, λ e. ne (sym e), r, c, v)))
      ]
    ]
  ]

  same_how : (p : List ℕ) (x y : ℕ) (how other : How) → ((q : List ℕ) (how : How) → Before q p → ClashAt g h q how → ⊥)
      → rank how ≡ rank other → IsClash g h p how x y → IsClash g h p other x y → how ≡ other
  same_how p x y NullBefore NullBefore none e c d = refl
  same_how p x y NullAfter NullAfter none e c d = refl
  same_how p x y (Split a m n) (Split b i j) none e c d =
      let ea : a ≡ b = omega (arith, c.0, d.0) in
      let en : n ≡ j = omega (arith, c.1, d.1) in
      let em : m ≡ i = one_after p c.3 d.3 a m i none c.4 d.4 c.5 (subst (λ z. Together g h d.3 (suc z) (suc i)) (sym ea) d.5) in
      λ t. Split (ea t) (em t) (en t)
  same_how p x y (Joined m n a) (Joined i j b) none e c d =
      let ea : a ≡ b = omega (arith, c.1, d.1) in
      let en : n ≡ j = omega (arith, c.0, d.0) in
      let em : m ≡ i = one_before p c.3 d.3 a m i none c.4 d.4 c.5 (subst (λ z. Together g h d.3 (suc i) (suc z)) (sym ea) d.5) in
      λ t. Joined (em t) (en t) (ea t)
  same_how p x y (Size m n) (Size i j) none e c d =
      let ea : c.0 ≡ d.0 = omega (arith, c.2, d.2) in
      let eb : c.1 ≡ d.1 = omega (arith, c.3, d.3) in
      let em : m ≡ i = sym c.4 ∙ ap (λ z. (object_at g z).size) ea ∙ d.4 in
      let en : n ≡ j = sym c.5 ∙ ap (λ z. (object_at h z).size) eb ∙ d.5 in
      λ t. Size (em t) (en t)
  same_how p x y (Slots m n) (Slots i j) none e c d =
      let ea : c.0 ≡ d.0 = omega (arith, c.2, d.2) in
      let eb : c.1 ≡ d.1 = omega (arith, c.3, d.3) in
      let em : m ≡ i = sym c.4 ∙ ap (λ z. (object_at g z).refs) ea ∙ d.4 in
      let en : n ≡ j = sym c.5 ∙ ap (λ z. (object_at h z).refs) eb ∙ d.5 in
      λ t. Slots (em t) (en t)
  same_how p x y (Data k) (Data l) none e c d = let ek : k ≡ l = omega (arith, e) in ap Data ek
  same_how p x y how other none e c d = absurd (omega (arith, e))

  pub one_first : (d e : Difference) → IsFirstDifference g h d → IsFirstDifference g h e → TellSame d e
  one_first (Roots m n) (Roots i j) d e = (sym d.is.0 ∙ e.is.0, sym d.is.1 ∙ e.is.1)
  one_first (Roots m n) (At l ts other) d e = absurd (d.is.2 (sym d.is.0 ∙ e.earliest.0 ∙ d.is.1))
  one_first (At k ss how) (Roots i j) d e = absurd (e.is.2 (sym e.is.0 ∙ d.earliest.0 ∙ e.is.1))
  one_first (At k ss how) (At l ts other) d e =
      elim (path_cases (k ∷ ss.items) (l ∷ ts.items)) [
        | inl same ↦
            let there : ClashAt g h (k ∷ ss.items) other = subst (λ z. ClashAt g h z other) (sym same) e.is in
            let here : ClashAt g h (l ∷ ts.items) how = subst (λ z. ClashAt g h z how) same d.is in
            let ex : there.0 ≡ d.is.0 = leads_to_one g (k ∷ ss.items) there.0 d.is.0 there.2.0 d.is.2.0 in
            let ey : there.1 ≡ d.is.1 = leads_to_one h (k ∷ ss.items) there.1 d.is.1 there.2.1 d.is.2.1 in
            let c : IsClash g h (k ∷ ss.items) other d.is.0 d.is.1 = subst (λ z. IsClash g h (k ∷ ss.items) other z d.is.1) ex (subst (λ z. IsClash g h (k ∷ ss.items) other there.0 z) ey there.3) in
            let ek : k ≡ l = cc in
            let es : ss.items ≡ ts.items = cc in
            let hows : how ≡ other = elim (cases_lt (rank how) (rank other)) [
              | inl lt ↦ absurd (e.earliest.2 how lt here)
              | inr ge ↦ elim (cases_lt (rank other) (rank how)) [
                | inl gt ↦ absurd (d.earliest.2 other gt there)
                | inr le ↦ same_how (k ∷ ss.items) d.is.0 d.is.1 how other d.earliest.1 (omega arith) d.is.3 c
              ]
            ] in
            (ek, es, hows)
        | inr r ↦ elim r [
          | inl b ↦ absurd (e.earliest.1 (k ∷ ss.items) how b d.is)
          | inr b ↦ absurd (d.earliest.1 (l ∷ ts.items) other b e.is)
        ]
      ]
