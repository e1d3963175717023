-- The slots on a card are those of the objects from the one over its first word on.
use Rattle.std.proofs.Common.{◌≡◌, ◌≢◌, ◌≤◌, ◌<◌, ℕ, ◌+◌, ◌-◌, ◌*◌, ◌/◌, ◌%◌, inl, inr, List, [], ◌∷◌, ◌++◌, length, filter, flat_map, arith, refl, sym, ap, subst, ◌∙◌, append-nil, eqb, Contains}
use Rattle.std.proofs.Common.{zero, eqb-true, eq-eqb, div-add-mod', mod-lt}
use Rattle.std.specs.Prelude.{Option, Some, None}
use Rattle.std.proofs.lemmas.Bool.{cases_lt}
use Rattle.std.proofs.Math.Nat.{mul-le-mul_right}
use Rattle.std.proofs.lemmas.List.Elements.{Contains-append_cases, Contains-append_left, Contains-append_right}
use Rattle.g1_words.specs.declared.object.Object.{Object}
use Rattle.g1_words.specs.declared.region.Kind.{Kind}
use Rattle.g1_words.specs.declared.region.Kind.TheVariants.{Free, Ordinary, HumongousFirst, Continuation}
use Rattle.g1_words.specs.Heap.{Heap, kind, start, end, card_of, objects, objects_in, objects_by, object_at, slots}
use Rattle.g1_words.specs.Valid.{IsObject, Tiles, IsShapedBy, IsWholeRun, HasObject, IsValid}
use Rattle.g1_words.specs.Walk.{Reaches}
use Rattle.g1_words.proofs.Members.{Contains-filter, Contains-first, Contains-flat_map, Contains-later, cons_cases, filter_member, flat_map_cases, none_contains}
use Rattle.g1_words.proofs.Tiling.{Tiles-le, Tiles-append, Tiles-one, Tiles-stands, same_object}
use Rattle.g1_words.proofs.Objects.{StandsIn, object_stands, object_place, div_between, region_in_words}
use Rattle.g1_words.proofs.Computed.{Contains-range, holds_are, contains_has, has_contains, in_region_has}
use Rattle.g1_words.proofs.Sound.{has_is, k_positive, stands_object, w_positive}
use Rattle.g1_words.proofs.Bounds.{cards_in_region}
use Rattle.g1_rem.specs.Starts.{Covers, IsOver}
use Rattle.g1_rem.specs.Slots.{slots_on, all_slots, is_between}
use Rattle.g1_rem.specs.Marks.{Chain}
use Rattle.g1_rem.specs.Laws.{SlotsRise, SlotsOnCard}
use Rattle.g1_rem.proofs.Rising.{Rises-increasing, Rises, Rises-weaken, Rises-filter, Rises-one}
use Rattle.g1_rem.proofs.Order.{slot_in, Chain-apart, Chain-above, Chain-tiles, Chain-slots, objects_chain, object_fits}
use Rattle.g1_rem.proofs.Scan.{between_is, is_between_there}

-- some object of a row covers each address between its ends
pub Tiles-cover : (words : List ℕ) (from : ℕ) (os : List Object) (to x : ℕ) → Tiles words from os to → from ≤ x → x < to → (o : Object) × Contains os o × Covers o x
Tiles-cover words from [] to x t le lt = absurd (omega (arith, t, le, lt))
Tiles-cover words from (o ∷ os) to x t le lt = elim (cases_lt x (o.at + o.size)) [
  | inl here ↦ (o, Contains-first o os, record { from = omega (arith, t.0, le); to = here })
  | inr past ↦ (let r = Tiles-cover words (from + o.size) os to x t.2 (omega (arith, t.0, past)) lt in (r.0, Contains-later o os r.0 r.1, r.2))
]

module _ (h : Heap) (valid : IsValid h) where
  -- all slots of a heap rise
  pub all_rise : Rises 0 (all_slots h)
  all_rise = Chain-slots 0 (objects h) (objects_chain h valid)

  module _ (c lo hi : ℕ) (at : lo ≡ c * h.geometry.k) (until : hi ≡ lo + h.geometry.k) where
    -- the addresses of the card lie on it
    pub on_card : (p : ℕ) → lo ≤ p → p < hi → card_of h p ≡ c
    on_card p le lt = div_between p h.geometry.k c (omega (arith, at, le)) (omega (arith, at, until, lt))

    -- and no others do
    pub card_there : (p : ℕ) → card_of h p ≡ c → (lo ≤ p) × (p < hi)
    card_there p e =
        let whole : p / h.geometry.k * h.geometry.k + p % h.geometry.k ≡ p = div-add-mod' p h.geometry.k in
        let same : p / h.geometry.k * h.geometry.k ≡ c * h.geometry.k = ap (λ x. x * h.geometry.k) e in
        let small : p % h.geometry.k < h.geometry.k = mod-lt p (k_positive h valid) in
        (omega (arith, whole, same, at), omega (arith, whole, same, at, until, small))

    -- the card ends no later than its region
    card_within : (r : ℕ) → lo < start h r + h.geometry.w → hi ≤ start h r + h.geometry.w
    card_within r lt =
        let m = cards_in_region h.geometry.w h.geometry.k h.geometry.n valid.limits in
        let e : start h r + h.geometry.w ≡ (r * m.0 + m.0) * h.geometry.k = omega (arith, ap (λ x. r * x + x) m.1) in
        elim (cases_lt c (r * m.0 + m.0)) [
          | inl less ↦ (let ge : c + 1 ≤ r * m.0 + m.0 = omega (arith, less) in omega (arith, mul-le-mul_right h.geometry.k ge, e, at, until))
          | inr ge ↦ absurd (omega (arith, mul-le-mul_right h.geometry.k ge, e, at, lt))
        ]

    -- objects that have all slots on the card
    pieces : (os : List Object) → Rises 0 (flat_map slots os) → ((o : Object) → Contains os o → Contains (objects h) o)
        → ((o : Object) (p : ℕ) → Contains (objects h) o → Contains (slots o) p → lo ≤ p → p < hi → Contains os o) → filter (is_between lo hi) (flat_map slots os) ≡ slots_on h c
    pieces os rise ours theirs =
        Rises-one 0 0 (filter (is_between lo hi) (flat_map slots os)) (slots_on h c)
        (Rises-filter (is_between lo hi) 0 (flat_map slots os) rise)
        (Rises-filter (λ p. eqb (card_of h p) c) 0 (all_slots h) all_rise)
        (λ p i.
        let m = filter_member (is_between lo hi) (flat_map slots os) p i in
        let b = is_between_there lo hi p m.1 in
        let q = flat_map_cases slots os p m.0 in
        Contains-filter (λ p. eqb (card_of h p) c) (all_slots h) p (Contains-flat_map slots (objects h) q.0 p (ours q.0 q.1) q.2) (eq-eqb (card_of h p) c (on_card p b.0 b.1)))
        (λ p i.
        let m = filter_member (λ p. eqb (card_of h p) c) (all_slots h) p i in
        let b = card_there p (eqb-true (card_of h p) c m.1) in
        let q = flat_map_cases slots (objects h) p m.0 in
        Contains-filter (is_between lo hi) (flat_map slots os) p (Contains-flat_map slots os q.0 p (theirs q.0 p q.1 q.2 b.0 b.1) q.2) (between_is lo hi p b.0 b.1))

    -- its slots fit into it
    refs_fit : (o : Object) → Contains (objects h) o → o.refs < o.size
    refs_fit o i = (Chain-above 0 (objects h) o (objects_chain h valid) i).1

    -- where an object stands
    stands : (o : Object) → Contains (objects h) o → (r : ℕ) → start h r ≤ o.at → o.at < start h r + h.geometry.w → (r < h.geometry.n) × StandsIn (kind h r) h r o
    stands o i r le lt = object_stands h o r valid (contains_has h o valid.shaped i) (sym (div_between o.at h.geometry.w r le lt))

    -- the objects of a region are the heap's
    in_region : (r : ℕ) (o : Object) → r < h.geometry.n → Contains (objects_in h r) o → Contains (objects h) o
    in_region r o lt i = has_contains h o (in_region_has h r o valid.shaped lt i)

    -- an ordinary region has one row of objects
    ordinary_row : (r : ℕ) (os : List Object) → kind h r ≡ Ordinary → Tiles h.words (start h r) os (end h r) → os ≡ objects_in h r
    ordinary_row r os e t = holds_are Ordinary h r os t ∙ ap (λ k. objects_by k h r) (sym e)

    -- the region of the card's first word
    first_region : (start h (lo / h.geometry.w) ≤ lo) × (lo < start h (lo / h.geometry.w) + h.geometry.w)
    first_region =
        let w : ℕ = h.geometry.w in
        let whole : lo / h.geometry.w * h.geometry.w + lo % h.geometry.w ≡ lo = div-add-mod' lo h.geometry.w in
        let small : lo % h.geometry.w < h.geometry.w = mod-lt lo (w_positive h valid) in
        (omega (arith, whole), omega (arith, whole, small))

    -- no object is over the card's first word: no slot is on it
    none_by : (k : Kind) (q : ℕ) (o : Object) → kind h q ≡ k → q < h.geometry.n → IsOver h lo None → start h q ≤ lo → Contains (objects h) o → lo < o.at → StandsIn k h q o → ⊥
    none_by Free q o e lt none le i past t = t
    none_by Ordinary q o e lt none le i past t =
        let pre : List Object = t.before.0 in
        let post : List Object = t.after.0 in
        let x = Tiles-cover h.words (start h q) pre o.at lo t.before.1 le past in
        let row : pre ++ o ∷ post ≡ objects_in h q = ordinary_row q (pre ++ o ∷ post) e (Tiles-append h.words (start h q) pre o.at (o ∷ post) (end h q) t.before.1 (refl, t.object, t.after.1)) in
        let there : Contains (objects_in h q) x.0 = subst (λ l. Contains l x.0) row (Contains-append_left pre (o ∷ post) x.0 x.1) in
        none x.0 (in_region q x.0 lt there) x.2
    none_by HumongousFirst q o e lt none le i past t = omega (arith, t.0, le, past)
    none_by Continuation q o e lt none le i past t = t

    -- so the card has no slots
    pub none_on : IsOver h lo None → [] ≡ slots_on h c
    none_on none = pieces [] tt (λ o i. absurd (none_contains o i)) (λ o p i s le lt.
        let b = slot_in o p s in
        let fit = refs_fit o i in
        let q : ℕ = lo / h.geometry.w in
        elim (cases_lt lo o.at) [
          | inl past ↦ (
              let r = first_region in
              let e = card_within (lo / h.geometry.w) r.1 in
              let st = stands o i (lo / h.geometry.w) (omega (arith, r.0, past)) (omega (arith, e, b.0, lt)) in
              absurd (none_by (kind h (lo / h.geometry.w)) (lo / h.geometry.w) o refl st.0 none r.0 i past st.1))
          | inr from ↦ absurd (none o i (record { from = from; to = omega (arith, b.1, fit, le) }))
        ])

    -- an object is over the card's first word
    module _ (a : ℕ) (over : IsOver h lo (Some a)) where
      abbrev first : Object
      first = object_at h a

      mine : Contains (objects h) (object_at h a)
      mine = over.0

      -- an object with a slot on the card isn't before that one
      not_before : (o : Object) (p : ℕ) → Contains (objects h) o → Contains (slots o) p → lo ≤ p → a ≤ o.at
      not_before o p i s le = elim (cases_lt o.at a) [
        | inl lt ↦ (let b = slot_in o p s in
            let k = Chain-apart 0 (objects h) o (object_at h a) (objects_chain h valid) i mine lt in
            absurd (omega (arith, k, b.1, refs_fit o i, le, over.1.from)))
        | inr ge ↦ ge
      ]

      here : (a / h.geometry.w < h.geometry.n) × StandsIn (kind h (a / h.geometry.w)) h (a / h.geometry.w) (object_at h a)
      here = object_stands h (object_at h a) (a / h.geometry.w) valid (contains_has h (object_at h a) valid.shaped mine) refl

      one_row : (os : List Object) (to : ℕ) → Tiles h.words a os to → Rises 0 (flat_map slots os)
      one_row os to t =
          let c : Chain a (os ++ []) = Chain-tiles h.words a os to [] t tt in
          let d : Chain a os = subst (λ l. Chain a l) (append-nil os) c in
          Rises-weaken 0 a (flat_map slots os) (omega arith) (Chain-slots a os d)

      -- in an ordinary region, the row from that object to the region's top has them
      pub ordinary_on : (r : ℕ) → r ≡ a / h.geometry.w → kind h r ≡ Ordinary →
          Reaches h.words a (end h r) × ((os : List Object) → Tiles h.words a os (end h r) → filter (is_between lo hi) (flat_map slots os) ≡ slots_on h c)
      ordinary_on r place e =
          let st : (r < h.geometry.n) × StandsIn (kind h r) h r (object_at h a) = subst (λ x. (x < h.geometry.n) × StandsIn (kind h x) h x (object_at h a)) (sym place) here in
          let t : StandsIn Ordinary h r (object_at h a) = subst (λ k. StandsIn k h r (object_at h a)) e st.1 in
          let s : IsShapedBy Ordinary h r = subst (λ k. IsShapedBy k h r) e (valid.shaped r st.0).by_kind in
          let pre : List Object = t.before.0 in
          let from : start h r ≤ a = Tiles-le h.words (start h r) pre a t.before.1 in
          let ends : a + (object_at h a).size ≤ end h r = Tiles-le h.words (a + (object_at h a).size) t.after.0 (end h r) t.after.1 in
          let within : hi ≤ start h r + h.geometry.w = card_within r (omega (arith, ends, s.1, over.1.to)) in (
            (object_at h a ∷ t.after.0, (refl, t.object, t.after.1)),
            λ os u.
                let row : pre ++ os ≡ objects_in h r = ordinary_row r (pre ++ os) e (Tiles-append h.words (start h r) pre a os (end h r) t.before.1 u) in
                pieces os (one_row os (end h r) u)
                (λ o i. in_region r o st.0 (subst (λ l. Contains l o) row (Contains-append_right pre os o i)))
                (λ o p i sl le lt.
                let ge = not_before o p i sl le in
                let b = slot_in o p sl in
                let has : HasObject h o = contains_has h o valid.shaped i in
                let placed : has.place ≡ r = sym (object_place h o valid has) ∙ div_between o.at h.geometry.w r (omega (arith, from, ge)) (omega (arith, within, b.0, lt)) in
                let listed : Contains (objects_in h has.place) o = subst (λ l. Contains l o) (holds_are (kind h has.place) h has.place has.others has.holds) has.one_of in
                let there : Contains (pre ++ os) o = subst (λ l. Contains l o) (sym row) (subst (λ x. Contains (objects_in h x) o) placed listed) in
                elim (Contains-append_cases pre os o there) [
                  | inl j ↦ (let q = Tiles-stands h.words (start h r) pre a o t.before.1 j in
                      absurd (omega (arith, Tiles-le h.words (o.at + o.size) q.after.0 a q.after.1, ge, refs_fit o i)))
                  | inr j ↦ j
                ]),
          )

      -- a humongous object stands alone
      alone_by : (k : Kind) (o : Object) (p : ℕ) → k ≢ Ordinary → kind h (a / h.geometry.w) ≡ k → IsShapedBy k h (a / h.geometry.w) →
          StandsIn k h (a / h.geometry.w) (object_at h a) → Contains (objects h) o → Contains (slots o) p → lo ≤ p → p < hi → Contains (object_at h a ∷ []) o
      alone_by Free o p not e s t i sl le lt = absurd t
      alone_by Ordinary o p not e s t i sl le lt = absurd (not refl)
      alone_by HumongousFirst o p not e s t i sl le lt =
          let r : ℕ = a / h.geometry.w in
          let q : ℕ = lo / h.geometry.w in
          let ge = not_before o p i sl le in
          let b = slot_in o p sl in
          let f = first_region in
          let within : hi ≤ start h (lo / h.geometry.w) + h.geometry.w = card_within (lo / h.geometry.w) f.1 in
          let same : s.0 ≡ object_at h a = same_object h.words s.0 (object_at h a) s.1.object t.1 (s.1.at ∙ sym t.0) in
          let run : IsWholeRun h (a / h.geometry.w) (object_at h a).size = subst (λ q. IsWholeRun h (a / h.geometry.w) q.size) same s.4 in
          elim (cases_lt a o.at) [
            | inl more ↦ (
                let k = Chain-apart 0 (objects h) (object_at h a) o (objects_chain h valid) mine i more in
                let st = stands o i (lo / h.geometry.w) (omega (arith, f.0, k, over.1.to)) (omega (arith, within, b.0, lt)) in
                elim (cases_lt (a / h.geometry.w) (lo / h.geometry.w)) [
                  | inl further ↦ (
                      let e : a / h.geometry.w + (lo / h.geometry.w - a / h.geometry.w) ≡ lo / h.geometry.w = omega (arith, further) in
                      let mul : (a / h.geometry.w + (lo / h.geometry.w - a / h.geometry.w)) * h.geometry.w ≡ lo / h.geometry.w * h.geometry.w = ap (λ x. x * h.geometry.w) e in
                      let cont : kind h (lo / h.geometry.w) ≡ Continuation = subst (λ x. kind h x ≡ Continuation) e
                      (run (lo / h.geometry.w - a / h.geometry.w) (omega (arith, further)) (omega (arith, mul, f.0, over.1.to, t.0))).1 in
                      let none : StandsIn Continuation h (lo / h.geometry.w) o = subst (λ k. StandsIn k h (lo / h.geometry.w) o) cont st.1 in
                      absurd none)
                  | inr same_region ↦ (
                      let lower : (lo / h.geometry.w) * h.geometry.w ≤ (a / h.geometry.w) * h.geometry.w = mul-le-mul_right h.geometry.w same_region in
                      let st2 = stands o i (a / h.geometry.w) (omega (arith, t.0, more)) (omega (arith, within, b.0, lt, lower)) in
                      let t2 : StandsIn HumongousFirst h (a / h.geometry.w) o = subst (λ k. StandsIn k h (a / h.geometry.w) o) e st2.1 in
                      absurd (omega (arith, t2.0, t.0, more)))
                ])
            | inr less ↦ (
                let at_same : a ≡ o.at = omega (arith, ge, less) in
                (zero, omega arith, ap (object_at h) at_same ∙ sym (has_is h o valid (contains_has h o valid.shaped i))))
          ]
      alone_by Continuation o p not e s t i sl le lt = absurd t

      pub alone_on : kind h (a / h.geometry.w) ≢ Ordinary → Reaches h.words a (a + (object_at h a).size)
          × ((os : List Object) → Tiles h.words a os (a + (object_at h a).size) → filter (is_between lo hi) (flat_map slots os) ≡ slots_on h c)
      alone_on not =
          let it : IsObject h.words (object_at h a) = stands_object (kind h (a / h.geometry.w)) h (a / h.geometry.w) (object_at h a) here.1 in
          let row : Tiles h.words a (object_at h a ∷ []) (a + (object_at h a).size) = (refl, it, refl) in (
            (object_at h a ∷ [], row),
            λ os u.
                let same : object_at h a ∷ [] ≡ os = Tiles-one h.words a (object_at h a ∷ []) os (a + (object_at h a).size) row u in
                subst (λ l. filter (is_between lo hi) (flat_map slots l) ≡ slots_on h c) same
                (pieces (object_at h a ∷ []) (one_row (object_at h a ∷ []) (a + (object_at h a).size) row)
                (λ o i. elim (cons_cases (object_at h a) [] o i) [ inl e ↦ subst (λ z. Contains (objects h) z) e mine | inr n ↦ absurd (none_contains o n) ])
                (λ o p i sl le lt. alone_by (kind h (a / h.geometry.w)) o p not refl (valid.shaped (a / h.geometry.w) here.0).by_kind here.1 i sl le lt)),
          )

-- the words from an object on to an end are filled by objects that have all slots on the card
pub record RowOn (h : Heap) (c lo hi a end : ℕ) : Type 0 where
  pub in_words : end ≤ length h.words
  pub filled : Reaches h.words a end
  pub all : (os : List Object) → Tiles h.words a os end → filter (is_between lo hi) (flat_map slots os) ≡ slots_on h c

-- the same object, at equal addresses
pub over_at : (h : Heap) (x y : ℕ) (v w : Option ℕ) → x ≡ y → v ≡ w → IsOver h x v → IsOver h y w
over_at h x y v w e f o = subst (λ z. IsOver h z w) e (subst (λ z. IsOver h x z) f o)

-- the row to the top of an ordinary region
pub ordinary_row_on : (h : Heap) (c lo hi a : ℕ) → IsValid h → lo ≡ c * h.geometry.k → hi ≡ lo + h.geometry.k → IsOver h lo (Some a) →
    kind h (a / h.geometry.w) ≡ Ordinary → RowOn h c lo hi a (end h (a / h.geometry.w))
ordinary_row_on h c lo hi a valid e f over k =
    let r = ordinary_on h valid c lo hi e f a over (a / h.geometry.w) refl k in
    let s = object_stands h (object_at h a) (a / h.geometry.w) valid (contains_has h (object_at h a) valid.shaped over.0) refl in
    let shaped : IsShapedBy Ordinary h (a / h.geometry.w) = subst (λ k. IsShapedBy k h (a / h.geometry.w)) k (valid.shaped (a / h.geometry.w) s.0).by_kind in
    record { in_words = omega (arith, region_in_words h (a / h.geometry.w) valid s.0, shaped.1); filled = r.0; all = r.1 }

-- the one humongous object
pub alone_row_on : (h : Heap) (c lo hi a : ℕ) → IsValid h → lo ≡ c * h.geometry.k → hi ≡ lo + h.geometry.k → IsOver h lo (Some a) →
    kind h (a / h.geometry.w) ≢ Ordinary → RowOn h c lo hi a (a + (object_at h a).size)
alone_row_on h c lo hi a valid e f over k =
    let r = alone_on h valid c lo hi e f a over k in
    record { in_words = omega (arith, object_fits h valid (object_at h a) over.0, valid.word_count); filled = r.0; all = r.1 }

-- the object over a card lies in one of the regions
pub over_region : (h : Heap) (lo a : ℕ) → IsValid h → IsOver h lo (Some a) → (a / h.geometry.w < h.geometry.n) × (a < length h.words)
over_region h lo a valid over =
    let fit = object_fits h valid (object_at h a) over.0 in
    let c = Chain-above 0 (objects h) (object_at h a) (objects_chain h valid) over.0 in (
      (object_stands h (object_at h a) (a / h.geometry.w) valid (contains_has h (object_at h a) valid.shaped over.0) refl).0,
      omega (arith, fit, c.1, valid.word_count),
    )

-- the slots on a card rise
pub slots_rise : SlotsRise
slots_rise h c valid = Rises-increasing 0 (slots_on h c) (Rises-filter (λ p. eqb (card_of h p) c) 0 (all_slots h) (all_rise h valid))

-- and are those that lie on it
pub slots_on_card : SlotsOnCard
slots_on_card h c p = (
  (λ k.
      let m = filter_member (λ p. eqb (card_of h p) c) (all_slots h) p k in
      let q = flat_map_cases slots (objects h) p m.0 in
      (q.0, q.1, slot_in q.0 p q.2, eqb-true (card_of h p) c m.1)),
  (λ (o, k, s, e).
      let i : Contains (slots o) p = Contains-range (o.at + 1) o.refs p (omega (arith, s.0)) (omega (arith, s.1)) in
      Contains-filter (λ p. eqb (card_of h p) c) (all_slots h) p (Contains-flat_map slots (objects h) o p k i) (eq-eqb (card_of h p) c e)),
)
