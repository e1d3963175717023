-- The lines of dirty cards, by the pairs that sets gain.
use Rattle.std.proofs.Common.{◌≡◌, ℕ, zero, suc, ◌+◌, ◌<◌, ◌≤◌, true, false, cond, List, [], ◌∷◌, ◌++◌, length, map, filter, take, drop, get_or, All, refl, sym, ◌∙◌, ap, subst, arith, append_assoc, eqb, eqb-true, eq-eqb, ne_eqb, ltb}
use Rattle.std.specs.Prelude.{codes, decimal}
use Rattle.std.specs.List.Sorted.{IsNonDecreasingBy, IsPartitionedBy, IsPartitionPoint, IsStrictlyIncreasing}
use Rattle.std.proofs.lemmas.Bool.{ltb-false as above, ltb-true as below}
use Rattle.std.proofs.lemmas.List.{get_or-drop, length-drop, get_or_default}
use Rattle.g1_words.specs.Heap.{regions}
use Rattle.g1_image.specs.Image.{Image, IsImage}
use Rattle.g1_image.specs.Cards.{refined}
use Rattle.g1_text.specs.Lines.{line_text, further, text_of}
use Rattle.g1_explain.specs.Cards.{number_words}
use Rattle.g1_explain.specs.Remembered.{gaining, dirty_line, dirty_lines}

-- the line of a card, with the regions of its pairs
abbrev pub pairs_line : List (ℕ × ℕ) → ℕ → List (List ℕ)
pairs_line ps c = codes "dirty" ∷ decimal c ∷ codes "adds" ∷ number_words (map (λ x. x.1) (filter (λ x. eqb x.0 c) ps))

-- ---- the pairs of a card stand together

-- those before have lower cards
front : (xs : List (ℕ × ℕ)) (card a : ℕ) → ((k : ℕ) (d : ℕ × ℕ) → k < a → (get_or xs k d).0 < card) → a ≤ length xs → filter (λ x. eqb x.0 card) (drop a xs) ≡ filter (λ x. eqb x.0 card) xs
front xs card zero h le = refl
front [] card (suc a) h le = absurd (omega (arith, le))
front (x ∷ xs) card (suc a) h le =
    let other : eqb x.0 card ≡ false = ne_eqb x.0 card (λ e. let k = h 0 x (omega arith) in omega (arith, k, e)) in
    front xs card a (λ k d lt. h (suc k) d (omega (arith, lt))) (omega (arith, le)) ∙ sym (ap (λ b. cond b (x ∷ filter (λ x. eqb x.0 card) xs) (filter (λ x. eqb x.0 card) xs)) other)

none_left : (ys : List (ℕ × ℕ)) (card : ℕ) → ((k : ℕ) (d : ℕ × ℕ) → k < length ys → eqb (get_or ys k d).0 card ≡ false) → [] ≡ filter (λ x. eqb x.0 card) ys
none_left [] card h = refl
none_left (y ∷ ys) card h =
    none_left ys card (λ k d lt. h (suc k) d (omega (arith, lt))) ∙ sym (ap (λ b. cond b (y ∷ filter (λ x. eqb x.0 card) ys) (filter (λ x. eqb x.0 card) ys)) (h 0 y (omega arith)))

behind : (ys : List (ℕ × ℕ)) (card b : ℕ) → ((k : ℕ) (d : ℕ × ℕ) → k < b → eqb (get_or ys k d).0 card ≡ true) → ((k : ℕ) (d : ℕ × ℕ) → b ≤ k → k < length ys → eqb (get_or ys k d).0 card ≡ false)
    → b ≤ length ys → take b ys ≡ filter (λ x. eqb x.0 card) ys
behind [] card zero same other le = refl
behind [] card (suc b) same other le = absurd (omega (arith, le))
behind (y ∷ ys) card zero same other le = none_left (y ∷ ys) card (λ k d lt. other k d (omega arith) lt)
behind (y ∷ ys) card (suc b) same other le =
    ap (λ l. y ∷ l) (behind ys card b (λ k d lt. same (suc k) d (omega (arith, lt))) (λ k d low lt. other (suc k) d (omega (arith, low)) (omega (arith, lt))) (omega (arith, le)))
    ∙ sym (ap (λ b. cond b (y ∷ filter (λ x. eqb x.0 card) ys) (filter (λ x. eqb x.0 card) ys)) (same 0 y (omega arith)))

-- from the first that is not lower, the pairs of the card come first
pub same_first : (xs ys : List (ℕ × ℕ)) (card a : ℕ) → IsNonDecreasingBy (λ (x : ℕ × ℕ). x.0) xs → IsPartitionPoint (λ (y : ℕ × ℕ). ltb y.0 card ≡ true) (λ y. ltb y.0 card ≡ false) xs a → ys ≡ drop a xs
    → IsPartitionedBy (λ (y : ℕ × ℕ). eqb y.0 card) ys
same_first xs ys card a rise point e = subst (IsPartitionedBy (λ (y : ℕ × ℕ). eqb y.0 card)) (sym e) (λ i j d le lt t.
    let inside : a + j < length xs = let l = length-drop a xs in omega (arith, lt, l) in
    let low = above (get_or xs (a + i) d).0 card (point.1 (a + i) d (omega arith) (omega (arith, inside, le))) in
    let up = rise (a + i) (a + j) d (omega (arith, le)) inside in
    let here : (get_or (drop a xs) i d).0 ≡ (get_or xs (a + i) d).0 = ap (λ (p : ℕ × ℕ). p.0) (get_or-drop a xs i d) in
    let there : (get_or (drop a xs) j d).0 ≡ (get_or xs (a + j) d).0 = ap (λ (p : ℕ × ℕ). p.0) (get_or-drop a xs j d) in
    let last : (get_or (drop a xs) j d).0 ≡ card = eqb-true (get_or (drop a xs) j d).0 card t in
    eq-eqb (get_or (drop a xs) i d).0 card (omega (arith, low, up, here, there, last)))

pub same_run : (xs ys zs : List (ℕ × ℕ)) (card a b : ℕ) → a ≤ length xs → b ≤ length ys → IsPartitionPoint (λ (y : ℕ × ℕ). ltb y.0 card ≡ true) (λ y. ltb y.0 card ≡ false) xs a → ys ≡ drop a xs
    → IsPartitionPoint (λ (y : ℕ × ℕ). eqb y.0 card ≡ true) (λ y. eqb y.0 card ≡ false) ys b → zs ≡ take b ys → zs ≡ filter (λ x. eqb x.0 card) xs
same_run xs ys zs card a b le le' point e run f =
    f ∙ behind ys card b (λ k d lt. run.0 k d (omega arith) lt) (λ k d low lt. run.1 k d low lt) le'
    ∙ ap (filter (λ x. eqb x.0 card)) e ∙ front xs card a (λ k d lt. below (get_or xs k d).0 card (point.0 k d (omega arith) lt)) le

-- ---- lines

pub card_end : (card : ℕ) (ps zs : List (ℕ × ℕ)) (old mid new : List ℕ) → zs ≡ filter (λ x. eqb x.0 card) ps → mid ≡ old ++ (codes "dirty " ++ (decimal card ++ codes " adds"))
    → new ≡ mid ++ further (number_words (map (λ x. x.1) zs)) → new ≡ old ++ line_text (pairs_line ps card)
card_end card ps zs old mid new e p q =
    let ends : List ℕ = further (number_words (map (λ x. x.1) (filter (λ x. eqb x.0 card) ps))) in
    q ∙ ap (λ (l : List (ℕ × ℕ)). mid ++ further (number_words (map (λ x. x.1) l))) e ∙ ap (λ l. l ++ ends) p ∙ append_assoc old (codes "dirty " ++ (decimal card ++ codes " adds")) ends
    ∙ ap (λ l. old ++ (codes "dirty " ++ l)) (append_assoc (decimal card) (codes " adds") ends)

pub dirty_end : (i : Image) (before after : List (List ℕ)) (cards : List ℕ) (ps : List (ℕ × ℕ)) (old new : List ℕ) → before ≡ i.remembered → after ≡ map (refined i) (regions i.heap) → cards ≡ i.log
    → ((c : ℕ) → map (λ x. x.1) (filter (λ x. eqb x.0 c) ps) ≡ gaining before after c) → new ≡ old ++ text_of (map (pairs_line ps) cards) → new ≡ old ++ text_of (dirty_lines i)
dirty_end i before after cards ps old new e f g each p =
    p ∙ (λ t. old ++ text_of (map (λ c. codes "dirty" ∷ decimal c ∷ codes "adds" ∷ number_words (each c t)) (g t)))
    ∙ (λ t. old ++ text_of (map (dirty_line (e t) (f t)) i.log))

-- the remembered sets of an image rise
pub sets_rise : (i : Image) → IsImage i → All IsStrictlyIncreasing i.remembered
sets_rise i is k d lt =
    let one = is.one_each in
    subst IsStrictlyIncreasing (get_or_default i.remembered k [] d lt) (is.remembered k (omega (arith, lt, one))).rising
