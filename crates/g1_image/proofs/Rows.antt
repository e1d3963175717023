-- Marks at the objects of a row, and of all regions.
use Rattle.std.proofs.Common.{◌≡◌, ◌≢◌, ◌≤◌, ◌<◌, ℕ, zero, suc, ◌+◌, ◌-◌, ◌*◌, ◌⊎◌, inl, inr, Bool, true, false, List, [], ◌∷◌, length, set, replicate, arith, refl, sym}
use Rattle.std.proofs.Common.{ap, subst, ◌∙◌, get_or-set_other, get_or-set_same}
use Rattle.std.specs.Prelude.{IsTrue}
use Rattle.std.proofs.lemmas.Bool.{cases_lt, cases_eq}
use Rattle.std.proofs.Math.Nat.{mul-le-mul_right}
use Rattle.g1_words.specs.Heap.{Heap, region, start, end}
use Rattle.g1_words.specs.Valid.{IsObject, Tiles, IsShapedBy, HasObject, HoldsBy}
use Rattle.g1_words.specs.Walk.{Reaches, StandsBetween}
use Rattle.g1_words.specs.declared.object.Object.{Object}
use Rattle.g1_words.specs.declared.region.Kind.{Kind}
use Rattle.g1_words.specs.declared.region.Kind.TheVariants.{Free, Ordinary, HumongousFirst, Continuation}
use Rattle.g1_words.proofs.Tiling.{Front, Reaches-front, Reaches-rest, Tiles-le, same_size}
use Rattle.g1_words.proofs.Objects.{StandsIn, holds_stands, Within, stands_within, ordinary_has, first_has}
use Rattle.g1_image.specs.Draft.{ShapedBelow}
use Rattle.g1_image.specs.Marks.{InRow, StartsIn, StartsBetween, StartsOf, StartsAre, mark, Marked, Marks, StartsAt}
use Rattle.g1_words.proofs.Sound.{stands_object}

-- a mark that is set, and the others
pub mark_at : (marks : List Bool) (k a : ℕ) → k < length marks → k ≡ a → mark (set marks k true) a ≡ true
mark_at marks k a lt e = subst (λ x. mark (set marks k true) x ≡ true) e (get_or-set_same marks k true false lt)

pub mark_off : (marks : List Bool) (k a : ℕ) → k ≢ a → mark (set marks k true) a ≡ mark marks a
mark_off marks k a ne = get_or-set_other marks k a true false (λ e. ne (sym e))

-- a walk over the objects from one address on has come to another, where an object stands; the marks begin at the address base
module _ (words : List ℕ) (base from at : ℕ) (q : Object) (passed : Reaches words from at) (object : IsObject words q) (q_at : q.at ≡ at) where
  before_or_at : (a : ℕ) → Reaches words from a → a < at + q.size → (a < at) ⊎ (at ≡ a)
  before_or_at a r lt = elim (cases_lt a at) [
    | inl b ↦ inl b
    | inr ge ↦ elim (cases_lt at a) [
      | inl more ↦
          let f : Front words at a = Reaches-front words at a (Reaches-rest words from passed.0 r.0 at a passed.1 r.1 ge) more in
          absurd (omega (arith, f.within, f.at, same_size words f.first q f.object object (f.at ∙ sym q_at), lt))
      | inr le ↦ inr (omega (arith, ge, le))
    ]
  ]

  -- the object is marked
  pub Marked-step : base ≤ from → (old marks new : List Bool) → at < base + length marks → new ≡ set marks (at - base) true
      → Marked (λ k. InRow words from at (base + k)) old marks → Marked (λ k. InRow words from (at + q.size) (base + k)) old new
  Marked-step below old marks new inside e m =
      let over : from ≤ at = Tiles-le words from passed.0 at passed.1 in
      let lt : at - base < length marks = omega (arith, inside, below, over) in
      let here : (k : ℕ) → at - base ≡ k → IsTrue (mark new k) = λ k i. ap (λ l. mark l k) e ∙ mark_at marks (at - base) k lt i in
      let kept : (k : ℕ) → IsTrue (mark marks k) → IsTrue (mark new k) = λ k t. elim (cases_eq (at - base) k) [
        | inl i ↦ here k i
        | inr ne ↦ ap (λ l. mark l k) e ∙ mark_off marks (at - base) k ne ∙ t
      ] in
      record {
        sound = λ k t. elim (cases_eq (at - base) k) [
          | inl i ↦
              let same : at ≡ base + k = omega (arith, i, below, over) in
              inr (subst (λ x. Reaches words from x) same passed, omega (arith, same, object.refs_fit))
          | inr ne ↦ elim (m.sound k (sym (mark_off marks (at - base) k ne) ∙ sym (ap (λ l. mark l k) e) ∙ t)) [ inl o ↦ inl o | inr p ↦ inr (p.0, omega (arith, p.1)) ]
        ];
        stay = λ k t. kept k (m.stay k t);
        whole = λ k p. elim (before_or_at (base + k) p.0 p.1) [ inl b ↦ kept k (m.whole k (p.0, b)) | inr i ↦ here k (omega (arith, i)) ];
      }

pub marked_none : (P : ℕ → Type 0) (marks : List Bool) → ((a : ℕ) → P a → ⊥) → Marked P marks marks
marked_none P marks f = record { sound = λ a t. inl t; stay = λ a t. t; whole = λ a p. absurd (f a p) }

-- nothing is marked where no object was passed
pub Marked-start : (words : List ℕ) (base from : ℕ) (old : List Bool) → Marked (λ k. InRow words from from (base + k)) old old
Marked-start words base from old = marked_none (λ k. InRow words from from (base + k)) old (λ k p. omega (arith, Tiles-le words from p.0.0 (base + k) p.0.1, p.1))

pub marked_one : (base at : ℕ) (marks new : List Bool) → base ≤ at → at < base + length marks → new ≡ set marks (at - base) true → Marked (λ k. base + k ≡ at) marks new
marked_one base at marks new le inside e =
    let lt : at - base < length marks = omega (arith, inside, le) in
    let here : (k : ℕ) → at - base ≡ k → IsTrue (mark new k) = λ k i. ap (λ l. mark l k) e ∙ mark_at marks (at - base) k lt i in
    record {
      sound = λ k t. elim (cases_eq (at - base) k) [ inl i ↦ inr (omega (arith, i, le)) | inr ne ↦ inl (sym (mark_off marks (at - base) k ne) ∙ sym (ap (λ l. mark l k) e) ∙ t) ];
      stay = λ k t. elim (cases_eq (at - base) k) [ inl i ↦ here k i | inr ne ↦ ap (λ l. mark l k) e ∙ mark_off marks (at - base) k ne ∙ t ];
      whole = λ k i. here k (omega (arith, i));
    }

pub Marks-start : (h : Heap) (from base n : ℕ) → Marks (λ k. StartsBetween h from from (base + k)) (replicate n false)
Marks-start h from base n = record {
  sound = λ a t. let e : false ≡ true = sym (off n a) ∙ t in cc;
  whole = λ a s. absurd (omega (arith, s.1, s.2));
} where
  off : (n a : ℕ) → mark (replicate n false) a ≡ false
  off zero a = refl
  off (suc n) zero = refl
  off (suc n) (suc a) = off n a

pub Marks-more : (h : Heap) (from r base : ℕ) (old new : List Bool) → from ≤ r → Marks (λ k. StartsBetween h from r (base + k)) old
    → Marked (λ k. StartsIn (region h r).kind h r (base + k)) old new → Marks (λ k. StartsBetween h from (r + 1) (base + k)) new
Marks-more h from r base old new le m d = record {
  sound = λ a t. elim (d.sound a t) [ inl o ↦ (let s = m.sound a o in (s.0, s.1, omega (arith, s.2), s.3)) | inr p ↦ (r, le, omega arith, p) ];
  whole = λ a s. elim (cases_lt s.0 r) [
    | inl lt ↦ d.stay a (m.whole a (s.0, s.1, lt, s.3))
    | inr ge ↦ d.whole a (let e : s.0 ≡ r = omega (arith, ge, s.2) in subst (λ x. StartsIn (region h x).kind h x (base + a)) e s.3)
  ];
}

starts_object : (k : Kind) (h : Heap) (r a : ℕ) → r < h.geometry.n → (region h r).kind ≡ k → IsShapedBy k h r → StartsIn k h r a → StartsAt h a
starts_object Free h r a lt kind s t = absurd t
starts_object Ordinary h r a lt kind s t =
    let row : Tiles h.words (start h r) s.2 (end h r) = subst (λ k. HoldsBy k h r s.2) kind s.3 in
    let f : Front h.words a (end h r) = Reaches-front h.words a (end h r) (Reaches-rest h.words (start h r) t.0.0 s.2 a (end h r) t.0.1 row (omega (arith, t.1))) t.1 in
    let stands : StandsBetween h.words (start h r) (end h r) f.first = record {
      before = subst (λ x. Reaches h.words (start h r) x) (sym f.at) t.0;
      object = f.object;
      after = subst (λ x. Reaches h.words (x + f.first.size) (end h r)) (sym f.at) f.rest;
    } in
    (f.first, ordinary_has h r f.first lt kind stands, f.at)
starts_object HumongousFirst h r a lt kind s t = (s.0, first_has h r s.0 lt s.1, s.1.at ∙ sym t)
starts_object Continuation h r a lt kind s t = absurd t

pub stands_starts : (k : Kind) (h : Heap) (r : ℕ) (o : Object) → StandsIn k h r o → StartsIn k h r o.at
stands_starts Free h r o t = absurd t
stands_starts Ordinary h r o t = (t.before, omega (arith, Tiles-le h.words (o.at + o.size) t.after.0 (end h r) t.after.1, t.object.refs_fit))
stands_starts HumongousFirst h r o t = t.0
stands_starts Continuation h r o t = absurd t

pub in_place : (h : Heap) (o : Object) (has : HasObject h o) → StandsIn (region h has.place).kind h has.place o
in_place h o has = holds_stands (region h has.place).kind h has.place has.others o has.holds has.one_of

-- the marks of all regions are the heap's
pub StartsOf-all : (h : Heap) (marks : List Bool) → ShapedBelow h h.geometry.n → StartsOf h 0 h.geometry.n marks → StartsAre h marks
StartsOf-all h marks shaped m =
    let zero : start h 0 ≡ 0 = omega arith in
    let shifted : (a : ℕ) → start h 0 + a ≡ a = λ a. omega (arith, zero) in
    record {
      each = record {
        sound = λ a t. let s = subst (StartsBetween h 0 h.geometry.n) (shifted a) (m.each.sound a t) in starts_object (region h s.0).kind h s.0 a s.2 refl (shaped s.0 s.2).by_kind s.3;
        whole = λ a s. m.each.whole a (subst (StartsBetween h 0 h.geometry.n) (s.2 ∙ sym (shifted a))
            (s.1.place, (let le : 0 ≤ s.1.place = omega arith in le), s.1.in_heap, stands_starts (region h s.1.place).kind h s.1.place s.0 (in_place h s.0 s.1)));
      };
      count = omega (arith, m.count, zero);
    }

pub next_start : (h : Heap) (r p : ℕ) → r < p → start h r + h.geometry.w ≤ start h p
next_start h r p lt = let le : r + 1 ≤ p = omega arith in omega (arith, mul-le-mul_right h.geometry.w le)

apart_in : (k : Kind) (h : Heap) (r p : ℕ) (o q : Object) → (region h r).kind ≡ k → IsShapedBy k h r → StandsIn k h r o → StandsIn (region h p).kind h p q →
    Within h r o → Within h p q → o.at < q.at → r ≤ p → o.at + o.size ≤ q.at
apart_in Free h r p o q kind s t u wo wq lt le = absurd t
apart_in Ordinary h r p o q kind s t u wo wq lt le = elim (cases_lt r p) [
  | inl more ↦ omega (arith, Tiles-le h.words (o.at + o.size) t.after.0 (end h r) t.after.1, s.1, next_start h r p more, wq.from)
  | inr ge ↦
      let same : p ≡ r = omega (arith, ge, le) in
      let v : StandsBetween h.words (start h r) (end h r) q = subst (λ k. StandsIn k h r q) kind (subst (λ x. StandsIn (region h x).kind h x q) same u) in
      let f : Front h.words o.at q.at = Reaches-front h.words o.at q.at (Reaches-rest h.words (start h r) t.before.0 v.before.0 o.at q.at t.before.1 v.before.1 (omega (arith, lt))) lt in
      omega (arith, f.within, same_size h.words f.first o f.object t.object f.at)
]
apart_in HumongousFirst h r p o q kind s t u wo wq lt le = elim (cases_lt q.at (o.at + o.size)) [
  | inr ge ↦ ge
  | inl in_it ↦ elim (cases_lt r p) [
    | inl more ↦
        let e : s.0.size ≡ o.size = same_size h.words s.0 o s.1.object t.1 (s.1.at ∙ sym t.0) in
        let gap : (p - r) * h.geometry.w + start h r ≡ start h p = let g : p ≡ (p - r) + r = omega arith in omega (arith, ap (λ x. x * h.geometry.w) g) in
        let k = s.4 (p - r) (omega arith) (omega (arith, e, gap, wq.from, in_it, t.0)) in
        let place : r + (p - r) ≡ p = omega arith in
        let there : (region h p).kind ≡ Continuation = subst (λ x. (region h x).kind ≡ Continuation) place k.1 in
        absurd (subst (λ k. StandsIn k h p q) there u)
    | inr ge ↦
        let same : p ≡ r = omega (arith, ge, le) in
        let v = subst (λ k. StandsIn k h r q) kind (subst (λ x. StandsIn (region h x).kind h x q) same u) in
        absurd (omega (arith, v.0, t.0, lt))
  ]
]
apart_in Continuation h r p o q kind s t u wo wq lt le = absurd t

-- no object reaches into another
pub apart : (h : Heap) (o q : Object) → 0 < h.geometry.w → ShapedBelow h h.geometry.n → HasObject h o → HasObject h q → o.at < q.at → o.at + o.size ≤ q.at
apart h o q some shaped ho hq lt =
    let so = in_place h o ho in
    let sq = in_place h q hq in
    let wo : Within h ho.place o = stands_within (region h ho.place).kind h ho.place o some (shaped ho.place ho.in_heap).by_kind so in
    let wq : Within h hq.place q = stands_within (region h hq.place).kind h hq.place q some (shaped hq.place hq.in_heap).by_kind sq in
    elim (cases_lt hq.place ho.place) [
      | inl less ↦ absurd (omega (arith, next_start h hq.place ho.place less, wo.from, wq.to, lt))
      | inr ge ↦ apart_in (region h ho.place).kind h ho.place hq.place o q refl (shaped ho.place ho.in_heap).by_kind so sq wo wq lt ge
    ]

pub has_header : (h : Heap) (o : Object) → HasObject h o → IsObject h.words o
has_header h o has = stands_object (region h has.place).kind h has.place o (in_place h o has)

pub past_marks : (marks : List Bool) (a : ℕ) → IsTrue (mark marks a) → length marks ≤ a → ⊥
past_marks [] a t le = let e : false ≡ true = t in cc
past_marks (m ∷ marks) zero t le = omega (arith, le)
past_marks (m ∷ marks) (suc a) t le = past_marks marks a t (omega (arith, le))

pub marked_as : (words words2 : List ℕ) (base from from2 to to2 : ℕ) (old new : List Bool) → words ≡ words2 → from ≡ from2 → to ≡ to2 →
    Marked (λ k. InRow words from to (base + k)) old new → Marked (λ k. InRow words2 from2 to2 (base + k)) old new
marked_as words words2 base from from2 to to2 old new a b c m =
    subst (λ x. Marked (λ k. InRow words2 from2 x (base + k)) old new) c (subst (λ x. Marked (λ k. InRow words2 x to (base + k)) old new) b
    (subst (λ x. Marked (λ k. InRow x from to (base + k)) old new) a m))

pub start_in : (h : Heap) (r : ℕ) → 16 ≤ h.geometry.w → r < h.geometry.n → start h r < h.geometry.n * h.geometry.w
start_in h r some lt = omega (arith, next_start h r h.geometry.n lt, some)
