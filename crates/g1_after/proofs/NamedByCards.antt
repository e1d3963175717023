-- A humongous object is named exactly where a root names it, or a card of its remembered set that lies outside its run is exact.
use Rattle.std.proofs.Common.{◌≡◌, ◌≢◌, ℕ, ◌+◌, ◌-◌, ◌*◌, ◌/◌, ◌%◌, ◌<◌, ◌≤◌, inl, inr, Bool, true, false, not, ◌&&◌, ◌||◌, [], Contains, refl, sym, ◌∙◌, ap, subst, arith, eqb, eqb-true}
use Rattle.std.proofs.Common.{eq-eqb, ltb, leb, mod-lt, div-add-mod'}
use Rattle.std.specs.List.{list_any}
use Rattle.std.proofs.lemmas.Bool.{and_from, and_parts, cases_lt, false_from_ne_true, false≢true, le-leb, leb-true, lt-ltb, ltb-true, ne_eqb, not-true, or_cases}
use Rattle.std.proofs.lemmas.Nat.{div-mul-add}
use Rattle.std.proofs.Math.Nat.{add-mul, mul-le-mul_right}
use Rattle.g1_after.proofs.CoveredMoved.{covered_each, exact_by}
use Rattle.g1_after.proofs.RefsOf.{exact_parts, region_of_slot, slot_of}
use Rattle.g1_after.specs.Freed.{NamedByCards}
use Rattle.g1_after.specs.Unnamed.{has_word, is_named, lies_in}
use Rattle.g1_image.specs.Cards.{Covered, is_exact, leads_into}
use Rattle.g1_image.specs.Image.{Image, region_of_card, remembered_of}
use Rattle.g1_words.proofs.Members.{any_member, Contains-from_has}
use Rattle.g1_words.proofs.Shapes.{BeginsRun, IsBuilt, IsBuiltBy, built}
use Rattle.g1_words.proofs.Standing.{home, ordinary_word, run_object, run_word, stands_refs, w_pos, words_apart}
use Rattle.g1_words.specs.Heap.{Heap, card_of, kind, object_at, objects, objects_in, region_of}
use Rattle.g1_words.specs.Lists.{has}
use Rattle.g1_words.specs.References.{Ref, refs, root_targets}
use Rattle.g1_words.specs.declared.object.Object.{Object}
use Rattle.g1_words.specs.declared.region.Kind.TheVariants.{Continuation, HumongousFirst, Ordinary}
use Rattle.g1_words.proofs.Lists.{any_from_in}
use Rattle.g1_words.proofs.Logic.{same_test}

-- an object lies in the region of each of its words
lies_there : (h : Heap) → 0 < h.geometry.w → (o : Object) (p : ℕ) → o.at ≤ p → p < o.at + o.size → lies_in h (region_of h p) o ≡ true
lies_there h pos o p low high =
    let d : p / h.geometry.w * h.geometry.w + p % h.geometry.w ≡ p = div-add-mod' p h.geometry.w in
    let q : p % h.geometry.w < h.geometry.w = mod-lt p pos in
    and_from (ltb o.at (p / h.geometry.w * h.geometry.w + h.geometry.w)) (ltb (p / h.geometry.w * h.geometry.w) (o.at + o.size))
    (lt-ltb o.at (p / h.geometry.w * h.geometry.w + h.geometry.w) (omega arith)) (lt-ltb (p / h.geometry.w * h.geometry.w) (o.at + o.size) (omega arith))

-- ---- the run of a humongous object

module _ (h : Heap) (valid : IsBuilt h) (r : ℕ) (there : r < h.geometry.n) (two : kind h r ≡ HumongousFirst) where
  -- the object that begins in the region
  abbrev whole : Object
  whole = object_at h (r * h.geometry.w)

  -- its run begins there
  first : BeginsRun h r
  first = subst (IsBuiltBy h r) two (valid.shaped r there)

  -- it is the region's object
  stands_first : Contains (objects_in h r) whole
  stands_first = run_object h (w_pos h valid) r two first

  -- no region of the run is ordinary
  not_ordinary : (c : ℕ) → c * h.geometry.w < whole.size → kind h (r + c) ≢ Ordinary
  not_ordinary c less one = elim (cases_lt 0 c) [
    | inl p ↦ let clash : Continuation ≡ Ordinary = sym ((first.run c less).2 p) ∙ one in cc
    | inr z ↦ let at : r + c ≡ r = omega arith in let clash : HumongousFirst ≡ Ordinary = sym two ∙ ap (kind h) (sym at) ∙ one in cc
  ]

  -- an object with a word in a region of the run is the humongous one
  run_alone : (p : Object) (m c : ℕ) → Contains (objects h) p → m < p.size → c * h.geometry.w < whole.size → region_of h (p.at + m) ≡ r + c → p ≡ whole
  run_alone p m c one less below at =
      let s = home h valid p one in
      elim s.2.2 [
        | inl a ↦ absurd (not_ordinary c below (ap (kind h) (sym at ∙ (ordinary_word h valid s.0 p m a less).0) ∙ a.kind))
        | inr a ↦
            let b = run_word h valid s.0 p m a less in
            let mine : (r + c) * h.geometry.w ≡ r * h.geometry.w + c * h.geometry.w = add-mul r c h.geometry.w in
            let its : (s.0 + b.0) * h.geometry.w ≡ s.0 * h.geometry.w + b.0 * h.geometry.w = add-mul s.0 b.0 h.geometry.w in
            let same : (s.0 + b.0) * h.geometry.w ≡ (r + c) * h.geometry.w = ap (λ x. x * h.geometry.w) (sym b.1 ∙ at) in
            let size = a.size in let start = a.at in
            let short : b.0 * h.geometry.w < p.size = subst (λ x. b.0 * h.geometry.w < x) (sym size) b.3 in
            let meet : whole.at + c * h.geometry.w ≡ p.at + b.0 * h.geometry.w = omega arith in
            let one_place : whole.at ≡ p.at = words_apart h valid r s.0 whole p (c * h.geometry.w) (b.0 * h.geometry.w) stands_first s.1 below short meet in
            s.2.1 ∙ ap (object_at h) (sym one_place)
      ]

  -- a region that the object lies in is one of its run
  in_run : (q : ℕ) → lies_in h q whole ≡ true → (c : ℕ) × (c * h.geometry.w < whole.size) × (q ≡ r + c)
  in_run q t =
      let b = and_parts (ltb (r * h.geometry.w) (q * h.geometry.w + h.geometry.w)) (ltb (q * h.geometry.w) (r * h.geometry.w + whole.size)) t in
      let low : r * h.geometry.w < q * h.geometry.w + h.geometry.w = ltb-true (r * h.geometry.w) (q * h.geometry.w + h.geometry.w) b.0 in
      let high : q * h.geometry.w < r * h.geometry.w + whole.size = ltb-true (q * h.geometry.w) (r * h.geometry.w + whole.size) b.1 in
      let le : r ≤ q = elim (cases_lt q r) [
        | inl x ↦ let k : (q + 1) * h.geometry.w ≤ r * h.geometry.w = mul-le-mul_right h.geometry.w (omega arith) in absurd (omega arith)
        | inr x ↦ x
      ] in
      let same : r + (q - r) ≡ q = omega arith in
      let sum : (r + (q - r)) * h.geometry.w ≡ r * h.geometry.w + (q - r) * h.geometry.w = add-mul r (q - r) h.geometry.w in
      let product : (r + (q - r)) * h.geometry.w ≡ q * h.geometry.w = ap (λ x. x * h.geometry.w) same in
      (q - r, omega arith, sym same)

  -- a slot of another object doesn't lie in a region of the run
  slot_apart : (e : Ref) → Contains (refs h) e → has_word whole e.slot ≡ false → lies_in h (region_of h e.slot) whole ≡ false
  slot_apart e m without = false_from_ne_true (lies_in h (region_of h e.slot) whole) (λ y.
      let s = slot_of h e m in
      let stood = home h valid s.owner s.is_one in
      let fits = stands_refs h valid stood.0 s.owner stood.2 in
      let above = s.above in let within = s.within in let at = s.at in
      let z = in_run (region_of h e.slot) y in
      let same : s.owner ≡ whole = run_alone s.owner s.m z.0 s.is_one (omega arith) z.1 (ap (region_of h) (sym at) ∙ z.2) in
      let word : has_word s.owner e.slot ≡ true =
      and_from (leb s.owner.at e.slot) (ltb e.slot (s.owner.at + s.owner.size)) (le-leb s.owner.at e.slot (omega arith)) (lt-ltb e.slot (s.owner.at + s.owner.size) (omega arith)) in
      false≢true (sym without ∙ subst (λ (x : Object). has_word x e.slot ≡ true) same word))

  -- the run's first region is one that the object lies in
  lies_first : lies_in h r whole ≡ true
  lies_first =
      let pos = w_pos h valid in let fits = first.refs in
      and_from (ltb (r * h.geometry.w) (r * h.geometry.w + h.geometry.w)) (ltb (r * h.geometry.w) (r * h.geometry.w + whole.size))
      (lt-ltb (r * h.geometry.w) (r * h.geometry.w + h.geometry.w) (omega arith)) (lt-ltb (r * h.geometry.w) (r * h.geometry.w + whole.size) (omega arith))

  -- its address lies in that region
  region_first : region_of h (r * h.geometry.w) ≡ r
  region_first = let z : r * h.geometry.w ≡ r * h.geometry.w + 0 = omega arith in ap (λ y. y / h.geometry.w) z ∙ div-mul-add r h.geometry.w 0 (w_pos h valid)

-- ---- what names it

module _ (i : Image) (valid : IsBuilt i.heap) (covered : Covered i) (empty : i.log ≡ []) (r : ℕ) (there : r < i.heap.geometry.n) (two : kind i.heap r ≡ HumongousFirst) where
  -- the humongous object
  abbrev object : Object
  object = object_at i.heap (r * i.heap.geometry.w)

  -- the slot of another object names it
  abbrev by_slot : Ref → Bool
  by_slot e = eqb e.target (r * i.heap.geometry.w) && not (has_word object e.slot)

  -- the card lies outside the run, and is exact for the region
  abbrev by_card : ℕ → Bool
  by_card c = not (lies_in i.heap (region_of_card i.heap c) object) && is_exact i.heap r c

  -- the card of such a slot is in the remembered set
  card_from_slot : list_any by_slot (refs i.heap) ≡ true → list_any by_card (remembered_of i r) ≡ true
  card_from_slot a =
      let m = any_member by_slot (refs i.heap) a in
      let e : Ref = m.0 in
      let c : ℕ = card_of i.heap e.slot in
      let p = and_parts (eqb e.target (r * i.heap.geometry.w)) (not (has_word object e.slot)) m.2 in
      let to : region_of i.heap e.target ≡ r = ap (region_of i.heap) (eqb-true e.target (r * i.heap.geometry.w) p.0) ∙ region_first i.heap valid r there two in
      let apart : lies_in i.heap (region_of i.heap e.slot) object ≡ false = slot_apart i.heap valid r there two e m.1 (not-true (has_word object e.slot) p.1) in
      let elsewhere : region_of i.heap e.slot ≢ r = λ z. false≢true (sym apart ∙ ap (λ y. lies_in i.heap y object) z ∙ lies_first i.heap valid r there two) in
      let differ : eqb (region_of i.heap e.slot) r ≡ false = ne_eqb (region_of i.heap e.slot) r elsewhere in
      let cover : ((eqb (region_of i.heap e.slot) r || has (remembered_of i r) c) || has [] c) ≡ true =
      subst (λ xs. ((eqb (region_of i.heap e.slot) r || has (remembered_of i r) c) || has xs c) ≡ true) empty
      (subst (λ y. ((eqb (region_of i.heap e.slot) y || has (remembered_of i y) c) || has i.log c) ≡ true) to (covered_each i covered e m.1)) in
      let held : has (remembered_of i r) c ≡ true = elim (or_cases (eqb (region_of i.heap e.slot) r || has (remembered_of i r) c) false cover) [
        | inl x ↦ elim (or_cases (eqb (region_of i.heap e.slot) r) (has (remembered_of i r) c) x) [ inl y ↦ absurd (false≢true (sym differ ∙ y)) | inr y ↦ y ]
        | inr x ↦ absurd (false≢true x)
      ] in
      let outside : lies_in i.heap (region_of_card i.heap c) object ≡ false = ap (λ y. lies_in i.heap y object) (region_of_slot i.heap valid e.slot) ∙ apart in
      any_from_in by_card (remembered_of i r) c (Contains-from_has (remembered_of i r) c held)
      (and_from (not (lies_in i.heap (region_of_card i.heap c) object)) (is_exact i.heap r c) (ap not outside) (exact_by i.heap r c e m.1 to differ refl))

  -- such a card holds a slot of another object that names it
  slot_from_card : list_any by_card (remembered_of i r) ≡ true → list_any by_slot (refs i.heap) ≡ true
  slot_from_card a =
      let m = any_member by_card (remembered_of i r) a in
      let c : ℕ = m.0 in
      let p = and_parts (not (lies_in i.heap (region_of_card i.heap c) object)) (is_exact i.heap r c) m.2 in
      let k = any_member (λ e. leads_into i.heap r e && eqb (card_of i.heap e.slot) c) (refs i.heap) p.1 in
      let e : Ref = k.0 in
      let x = exact_parts i.heap r c e k.2 in
      let none : 0 * i.heap.geometry.w < object.size = let f = (first i.heap valid r there two).refs in omega arith in
      let target : Object = object_at i.heap e.target in
      let one : Contains (objects i.heap) target = valid.slot_named e k.1 in
      let stood = home i.heap valid target one in
      let fits = stands_refs i.heap valid stood.0 target stood.2 in
      let zero_on : e.target + 0 ≡ e.target = omega arith in
      let zero_up : r ≡ r + 0 = omega arith in
      let same : target ≡ object = run_alone i.heap valid r there two target 0 0 one (omega arith) none (ap (region_of i.heap) zero_on ∙ x.0 ∙ zero_up) in
      let names : e.target ≡ r * i.heap.geometry.w = ap (λ (y : Object). y.at) same in
      let region : region_of_card i.heap c ≡ region_of i.heap e.slot = ap (region_of_card i.heap) (sym x.2) ∙ region_of_slot i.heap valid e.slot in
      let apart : lies_in i.heap (region_of i.heap e.slot) object ≡ false = ap (λ y. lies_in i.heap y object) (sym region) ∙ not-true (lies_in i.heap (region_of_card i.heap c) object) p.0 in
      let other : has_word object e.slot ≡ false = false_from_ne_true (has_word object e.slot) (λ t.
      let b = and_parts (leb (r * i.heap.geometry.w) e.slot) (ltb e.slot (r * i.heap.geometry.w + object.size)) t in
      false≢true (sym apart ∙ lies_there i.heap (w_pos i.heap valid) object e.slot (leb-true (r * i.heap.geometry.w) e.slot b.0) (ltb-true e.slot (r * i.heap.geometry.w + object.size) b.1))) in
      any_from_in by_slot (refs i.heap) e k.1
      (and_from (eqb e.target (r * i.heap.geometry.w)) (not (has_word object e.slot)) (eq-eqb e.target (r * i.heap.geometry.w) names) (ap not other))

  -- so slots of other objects name it where such cards are remembered
  named_is : is_named i.heap object ≡ (has (root_targets i.heap) (r * i.heap.geometry.w) || list_any by_card (remembered_of i r))
  named_is = ap (λ b. has (root_targets i.heap) (r * i.heap.geometry.w) || b) (same_test (list_any by_slot (refs i.heap)) (list_any by_card (remembered_of i r)) card_from_slot slot_from_card)

-- a humongous object is named by a root, or by a card of its remembered set outside its run
pub named_by_cards : NamedByCards
named_by_cards i r t empty there two = named_is i (built i.heap t.image.heap) t.covered empty r there two
