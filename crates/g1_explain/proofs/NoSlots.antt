-- No slot lies on a card that the heap has not.
use Rattle.std.proofs.Common.{◌≡◌, ◌≤◌, ℕ, ◌*◌, ◌/◌, List, [], ◌∷◌, refl, sym, ap, subst, arith, eqb, eqb-true, Contains, zero}
use Rattle.std.proofs.Math.Nat.{div-mul-le_self, mul-le-mul_right}
use Rattle.g1_words.specs.Heap.{Heap, card_of}
use Rattle.g1_words.specs.Valid.{IsValid}
use Rattle.g1_words.proofs.Members.{filter_member}
use Rattle.g1_rem.specs.Starts.{card_count}
use Rattle.g1_rem.specs.Slots.{all_slots, slots_on}
use Rattle.g1_rem.proofs.Entering.{slot_good}
use Rattle.g1_rem.proofs.Marks.{cards_fill}

pub no_slots : (h : Heap) (c : ℕ) → IsValid h → card_count h ≤ c → [] ≡ slots_on h c
no_slots h c valid le = by (slots_on h c) refl
  where
    by : (xs : List ℕ) → slots_on h c ≡ xs → [] ≡ slots_on h c
    by [] e = sym e
    by (x ∷ xs) e =
        let i : Contains (slots_on h c) x = subst (λ l. Contains l x) (sym e) (zero, omega arith, refl) in
        let good = slot_good h c x valid i in
        let on : x / h.geometry.k ≡ c = eqb-true (card_of h x) c (filter_member (λ p. eqb (card_of h p) c) (all_slots h) x i).1 in
        let low : x / h.geometry.k * h.geometry.k ≤ x = div-mul-le_self x h.geometry.k in
        let same : x / h.geometry.k * h.geometry.k ≡ c * h.geometry.k = ap (λ z. z * h.geometry.k) on in
        absurd (omega (arith, good.0, low, same, cards_fill h valid, mul-le-mul_right h.geometry.k le, valid.word_count))
