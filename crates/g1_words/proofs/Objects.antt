-- Where the objects of a heap stand.
use Rattle.std.proofs.Common.{◌≡◌, ◌≤◌, ◌<◌, ℕ, zero, suc, ◌+◌, ◌-◌, ◌*◌, ◌/◌, List, [], ◌∷◌, length, arith, refl, sym, ap, subst, ◌∙◌}
use Rattle.std.specs.Prelude.{All, Contains, Option, Some, None, IfSome, IfNone}
use Rattle.std.proofs.lemmas.Nat.{div-mul-add}
use Rattle.std.proofs.lemmas.List.{get_or_default}
use Rattle.std.proofs.Math.Nat.{mul-le-mul_left}
use Rattle.g1_words.specs.Heap.{Heap, free_region, region, start, end}
use Rattle.g1_words.specs.Valid.{IsObject, IsFirst, HoldsBy, HasObject, IsShapedBy, IsValid}
use Rattle.g1_words.specs.Walk.{Reaches, StandsBetween}
use Rattle.g1_words.proofs.Tiling.{Tiles-le, Tiles-stands, stands_row}
use Rattle.g1_words.specs.declared.object.Object.{Object}
use Rattle.g1_words.specs.declared.region.Region.{Region}
use Rattle.g1_words.specs.declared.region.Kind.{Kind}
use Rattle.g1_words.specs.declared.region.Kind.TheVariants.{Free, Ordinary, HumongousFirst, Continuation}

-- how an object stands in a region of this kind
abbrev pub StandsIn : Kind → Heap → ℕ → Object → Type 0
StandsIn Free h r o = ⊥
StandsIn Ordinary h r o = StandsBetween h.words (start h r) (end h r) o
StandsIn HumongousFirst h r o = (o.at ≡ start h r) × IsObject h.words o
StandsIn Continuation h r o = ⊥

in_none : (os : List Object) (o : Object) → os ≡ [] → Contains os o → ⊥
in_none os o e (k, lt, s) = omega (arith, lt, ap length e)

in_one : (os : List Object) (q o : Object) → os ≡ q ∷ [] → Contains os o → o ≡ q
in_one os q o e c = one (subst (λ l. Contains l o) e c) where
  one : Contains (q ∷ []) o → o ≡ q
  one (zero, lt, s) = sym s
  one (suc k, lt, s) = absurd (omega (arith, lt))

pub holds_stands : (k : Kind) (h : Heap) (r : ℕ) (os : List Object) (o : Object) → HoldsBy k h r os → Contains os o → StandsIn k h r o
holds_stands Free h r os o t c = in_none os o t c
holds_stands Ordinary h r os o t c = Tiles-stands h.words (start h r) os (end h r) o t c
holds_stands HumongousFirst h r os o (q, first, e) c =
    let same : o ≡ q = in_one os q o e c in
    rw same (first.at, first.object)
holds_stands Continuation h r os o t c = in_none os o t c

pub record Within (h : Heap) (r : ℕ) (o : Object) : Type 0 where
  pub from : start h r ≤ o.at
  pub to : o.at < start h r + h.geometry.w

pub stands_within : (k : Kind) (h : Heap) (r : ℕ) (o : Object) → 0 < h.geometry.w → IsShapedBy k h r → StandsIn k h r o → Within h r o
stands_within Free h r o some s t = absurd t
stands_within Ordinary h r o some s t =
    record {
      from = Tiles-le h.words (start h r) t.before.0 o.at t.before.1;
      to = omega (arith, Tiles-le h.words (o.at + o.size) t.after.0 (end h r) t.after.1, t.object.refs_fit, s.1);
    }
stands_within HumongousFirst h r o some s t = record { from = omega (arith, t.0); to = omega (arith, t.0, some) }
stands_within Continuation h r o some s t = absurd t

pub div_between : (a w r : ℕ) → r * w ≤ a → a < r * w + w → a / w ≡ r
div_between a w r from to =
    let e : a ≡ r * w + (a - r * w) = omega arith in
    ap (λ x. x / w) e ∙ div-mul-add r w (a - r * w) (omega arith)

pub object_place : (h : Heap) (o : Object) → IsValid h → (has : HasObject h o) → o.at / h.geometry.w ≡ has.place
object_place h o valid has =
    let some : 0 < h.geometry.w = omega (arith, valid.limits.w_least) in
    let t = holds_stands (region h has.place).kind h has.place has.others o has.holds has.one_of in
    let within = stands_within (region h has.place).kind h has.place o some (valid.shaped has.place has.in_heap).by_kind t in
    div_between o.at h.geometry.w has.place within.from within.to

pub object_stands : (h : Heap) (o : Object) (r : ℕ) → IsValid h → HasObject h o → r ≡ o.at / h.geometry.w → (r < h.geometry.n) × StandsIn (region h r).kind h r o
object_stands h o r valid has e =
    let place : has.place ≡ r = sym (e ∙ object_place h o valid has) in
    let t = holds_stands (region h has.place).kind h has.place has.others o has.holds has.one_of in
    (omega (arith, has.in_heap, place), subst (λ x. StandsIn (region h x).kind h x o) place t)

pub ordinary_has : (h : Heap) (r : ℕ) (o : Object) → r < h.geometry.n → (region h r).kind ≡ Ordinary → StandsBetween h.words (start h r) (end h r) o → HasObject h o
ordinary_has h r o lt e s =
    let row = stands_row h.words (start h r) (end h r) o s in
    record {
      place = r;
      others = row.0;
      in_heap = lt;
      holds = subst (λ k. HoldsBy k h r row.0) (sym e) row.1;
      one_of = row.2;
    }

pub first_has : (h : Heap) (r : ℕ) (o : Object) → r < h.geometry.n → IsFirst h r o → HasObject h o
first_has h r o lt first =
    record {
      place = r;
      others = o ∷ [];
      in_heap = lt;
      holds = subst (λ k. HoldsBy k h r (o ∷ [])) (sym first.kind) (o, first, refl);
      one_of = (0, omega arith, refl);
    }

-- the words of an ordinary region are filled by objects, up to its top
pub ordinary_filled : (h : Heap) (r : ℕ) → IsValid h → r < h.geometry.n → (region h r).kind ≡ Ordinary → Reaches h.words (start h r) (end h r)
ordinary_filled h r valid lt e =
    let s : IsShapedBy Ordinary h r = subst (λ k. IsShapedBy k h r) e (valid.shaped r lt).by_kind in
    (s.2, subst (λ k. HoldsBy k h r s.2) e s.3)

pub ordinary_top : (h : Heap) (r : ℕ) → IsValid h → r < h.geometry.n → (region h r).kind ≡ Ordinary → (region h r).top ≤ h.geometry.w
ordinary_top h r valid lt e =
    let s : IsShapedBy Ordinary h r = subst (λ k. IsShapedBy k h r) e (valid.shaped r lt).by_kind in s.1

pub first_object : (h : Heap) (r : ℕ) → IsValid h → r < h.geometry.n → (region h r).kind ≡ HumongousFirst → (o : Object) × IsFirst h r o
first_object h r valid lt e =
    let s : IsShapedBy HumongousFirst h r = subst (λ k. IsShapedBy k h r) e (valid.shaped r lt).by_kind in (s.0, s.1)

-- a region lies within the words
pub region_in_words : (h : Heap) (r : ℕ) → IsValid h → r < h.geometry.n → start h r + h.geometry.w ≤ length h.words
region_in_words h r valid lt =
    let le : r + 1 ≤ h.geometry.n = omega arith in
    omega (arith, valid.word_count, mul-le-mul_left h.geometry.w le)

-- a search through the words of an ordinary region is one through its objects
module _ (h : Heap) (r a : ℕ) (words : List ℕ) (from to : ℕ) (found : Option Object) (valid : IsValid h) (lt : r < h.geometry.n)
    (kind : (region h r).kind ≡ Ordinary) (the_words : words ≡ h.words) (the_start : from ≡ start h r) (the_end : to ≡ end h r) where
  moved : (o : Object) → StandsBetween words from to o → StandsBetween h.words (start h r) (end h r) o
  moved o s = subst (λ x. StandsBetween h.words (start h r) x o) the_end (subst (λ x. StandsBetween h.words x to o) the_start (subst (λ x. StandsBetween x from to o) the_words s))

  back : (o : Object) → StandsBetween h.words (start h r) (end h r) o → StandsBetween words from to o
  back o s = subst (λ x. StandsBetween words from x o) (sym the_end) (subst (λ x. StandsBetween words x (end h r) o) (sym the_start)
      (subst (λ x. StandsBetween x (start h r) (end h r) o) (sym the_words) s))

  pub ordinary_filled_there : Reaches words from to
  ordinary_filled_there =
      let f : Reaches h.words (start h r) (end h r) = ordinary_filled h r valid lt kind in
      subst (λ x. Reaches words from x) (sym the_end) (subst (λ x. Reaches words x (end h r)) (sym the_start) (subst (λ x. Reaches x (start h r) (end h r)) (sym the_words) f))

  pub ordinary_found : IfSome found (λ o. (o.at ≡ a) × StandsBetween words from to o) → IfSome found (λ o. (o.at ≡ a) × HasObject h o)
  ordinary_found s = go found s where
    go : (found : Option Object) → IfSome found (λ o. (o.at ≡ a) × StandsBetween words from to o) → IfSome found (λ o. (o.at ≡ a) × HasObject h o)
    go None s = tt
    go (Some o) s = (s.0, ordinary_has h r o lt kind (moved o s.1))

  pub ordinary_none : r ≡ a / h.geometry.w → IfNone found ((o : Object) → o.at ≡ a → StandsBetween words from to o → ⊥) → IfNone found ((o : Object) → o.at ≡ a → HasObject h o → ⊥)
  ordinary_none e s = go found s where
    go : (found : Option Object) → IfNone found ((o : Object) → o.at ≡ a → StandsBetween words from to o → ⊥) → IfNone found ((o : Object) → o.at ≡ a → HasObject h o → ⊥)
    go None s = λ o here has.
        let t : StandsIn (region h r).kind h r o = (object_stands h o r valid has (e ∙ ap (λ x. x / h.geometry.w) (sym here))).1 in
        let u : StandsBetween h.words (start h r) (end h r) o = subst (λ k. StandsIn k h r o) kind t in
        s o here (back o u)
    go (Some o) s = tt

-- no object stands past the regions
pub none_past : (h : Heap) (r a : ℕ) → IsValid h → h.geometry.n ≤ r → r ≡ a / h.geometry.w → (o : Object) → o.at ≡ a → HasObject h o → ⊥
none_past h r a valid le e o here has =
    let p : r < h.geometry.n = (object_stands h o r valid has (e ∙ ap (λ x. x / h.geometry.w) (sym here))).0 in
    omega arith

-- no object stands in a region of a kind that leaves no place for it
pub none_of_kind : (h : Heap) (r a : ℕ) (k : Kind) → IsValid h → (region h r).kind ≡ k → r ≡ a / h.geometry.w →
    ((o : Object) → o.at ≡ a → StandsIn k h r o → ⊥) → (o : Object) → o.at ≡ a → HasObject h o → ⊥
none_of_kind h r a k valid kind e never o here has =
    never o here (subst (λ k. StandsIn k h r o) kind (object_stands h o r valid has (e ∙ ap (λ x. x / h.geometry.w) (sym here))).1)

-- the header read at a humongous object's start is its own
pub first_there : (h : Heap) (r : ℕ) (words : List ℕ) (q : Object) → IsValid h → r < h.geometry.n → (region h r).kind ≡ HumongousFirst → words ≡ h.words →
    q.at ≡ start h r → ((o : Object) → o.at ≡ start h r → IsObject words o → o ≡ q) → HasObject h q
first_there h r words q valid lt kind e at only =
    let first : (o : Object) × IsFirst h r o = first_object h r valid lt kind in
    let same : first.0 ≡ q = only first.0 first.1.at (subst (λ x. IsObject x first.0) (sym e) first.1.object) in
    subst (λ o. HasObject h o) same (first_has h r first.0 lt first.1)

pub top_by_kind : (k : Kind) (h : Heap) (r : ℕ) → IsShapedBy k h r → (region h r).top ≤ h.geometry.w
top_by_kind Free h r s = omega arith
top_by_kind Ordinary h r s = s.1
top_by_kind HumongousFirst h r s = omega (arith, s.3)
top_by_kind Continuation h r s = omega (arith, s.5)

-- no region has more used words than words
pub tops_fit : (h : Heap) → IsValid h → All (λ q. q.top ≤ h.geometry.w) h.regions
tops_fit h valid k d lt =
    let free : Region = free_region in
    let fits : (region h k).top ≤ h.geometry.w = top_by_kind (region h k).kind h k (valid.shaped k (omega (arith, lt, valid.region_count))).by_kind in
    subst (λ q. q.top ≤ h.geometry.w) (get_or_default h.regions k free d lt) fits
