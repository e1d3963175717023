-- One more root, slot or pair is linked.
use Rattle.std.proofs.Common.{◌≡◌, ℕ, suc, ◌+◌, ◌-◌, ◌%◌, ◌^◌, ◌<◌, ◌≤◌, inl, inr, List, length, get_or, refl, sym, ap, subst, ◌∙◌, arith, slice_index, Contains, Option, Some, None, IfSome, IfNone}
use Rattle.std.specs.Prelude.{Result, Ok, Err, IfOk, OnOk}
use Rattle.std.proofs.lemmas.Bool.{cases_lt}
use Rattle.std.proofs.lemmas.List.{get_or_read}
use Rattle.g1_words.specs.declared.object.Object.{Object}
use Rattle.g1_words.specs.Heap.{Heap, word, object_at, objects}
use Rattle.g1_words.specs.Valid.{IsReference}
pub use Rattle.g1_words.proofs.Logic.{some_then}
use Rattle.g1_same.specs.declared.pair.Pair.{Pair}
use Rattle.g1_same.specs.declared.walk.Walk.{Walk}
use Rattle.g1_same.specs.Walk.{IsTour, IsLinked, IsWay, IsBelow, HasGrown}
use Rattle.g1_same.proofs.Held.{after_valid, before_valid}
use Rattle.g1_same.proofs.Heaps.{slot_names}
use Rattle.g1_same.proofs.Linked.{LinksRoots, LinksSlots, LinksPairs}
use Rattle.g1_same.proofs.Adding.{linked_more}

pub none_then : {X : Type 0} (P : Type 0) (o : Option X) → ((x : X) → o ≡ Some x → ⊥) → IfNone o P → P
none_then P None none h = h
none_then P (Some x) none h = absurd (none x refl)

pub on_ok : {T E : Type 0} (r : Result T E) (P Q : T → Type 0) → ((x : T) → P x → Q x) → IfOk r P → IfOk r Q
on_ok (Ok x) P Q f h = f x h
on_ok (Err e) P Q f h = h

pub both_ok : {T E : Type 0} (r : Result T E) (G : Type 0) (P Q : T → Type 0) → ((x : T) → G → P x → Q x) → OnOk r G → IfOk r P → IfOk r Q
both_ok (Ok x) G P Q f g h = f x g h
both_ok (Err e) G P Q f g h = h

pub some_map : {X : Type 0} (o : Option X) (P Q : X → Type 0) → ((x : X) → P x → Q x) → IfSome o P → IfSome o Q
some_map None P Q f h = h
some_map (Some x) P Q f h = f x h

pub roots_more : (g h : Heap) (w v : Walk) (k : ℕ) → HasGrown w v → LinksRoots g h w k → IsLinked v 0 k (slice_index g.roots k) (slice_index h.roots k) → LinksRoots g h v (k + 1)
roots_more g h w v k grown linked new n lt = elim (cases_lt n k) [
  | inl p ↦ linked_more w v grown 0 n (slice_index g.roots n) (slice_index h.roots n) (linked n p)
  | inr p ↦ let e : k ≡ n = omega (arith, lt, p) in subst (λ z. IsLinked v 0 z (slice_index g.roots z) (slice_index h.roots z)) e new
]

pub roots_kept : (g h : Heap) (w v : Walk) (k : ℕ) → HasGrown w v → LinksRoots g h w k → LinksRoots g h v k
roots_kept g h w v k grown linked n lt = linked_more w v grown 0 n (slice_index g.roots n) (slice_index h.roots n) (linked n lt)

pub slots_kept : (g h : Heap) (w v : Walk) (i k : ℕ) → HasGrown w v → i < length w.before.items → LinksSlots g h w i k → LinksSlots g h v i k
slots_kept g h w v i k grown p linked n lt =
    let l = linked_more w v grown (suc i) n (word g (slice_index w.before.items i + 1 + n)) (word h (slice_index w.after.items i + 1 + n)) (linked n lt) in
    subst (λ z. IsLinked v (suc i) n (word g (z + 1 + n)) (word h (slice_index v.after.items i + 1 + n))) (sym (grown.olds i p))
    (subst (λ z. IsLinked v (suc i) n (word g (slice_index w.before.items i + 1 + n)) (word h (z + 1 + n))) (sym (grown.news i p)) l)

pub slots_more : (g h : Heap) (w v : Walk) (i k a b : ℕ) → HasGrown w v → i < length w.before.items → slice_index w.before.items i ≡ a → slice_index w.after.items i ≡ b
    → LinksSlots g h w i k → IsLinked v (suc i) k (word g (a + 1 + k)) (word h (b + 1 + k)) → LinksSlots g h v i (k + 1)
slots_more g h w v i k a b grown p ea eb linked new n lt = elim (cases_lt n k) [
  | inl q ↦ slots_kept g h w v i k grown p linked n q
  | inr q ↦
      let e : k ≡ n = omega (arith, lt, q) in
      subst (λ z. IsLinked v (suc i) z (word g (slice_index v.before.items i + 1 + z)) (word h (slice_index v.after.items i + 1 + z))) e
      (subst (λ z. IsLinked v (suc i) k (word g (z + 1 + k)) (word h (slice_index v.after.items i + 1 + k))) (sym (grown.olds i p ∙ ea))
      (subst (λ z. IsLinked v (suc i) k (word g (a + 1 + k)) (word h (z + 1 + k))) (sym (grown.news i p ∙ eb)) new))
]

pub pairs_more : (g h : Heap) (w v : Walk) (m : ℕ) → HasGrown w v → m < length w.before.items → LinksPairs g h w m
    → LinksSlots g h v m (object_at g (slice_index w.before.items m)).refs → LinksPairs g h v (m + 1)
pairs_more g h w v m grown p linked new i lt = elim (cases_lt i m) [
  | inl q ↦
      let r : i < length w.before.items = omega (arith, q, p) in
      subst (λ z. LinksSlots g h v i (object_at g z).refs) (sym (grown.olds i r)) (slots_kept g h w v i (object_at g (slice_index w.before.items i)).refs grown r (linked i q))
  | inr q ↦
      let e : m ≡ i = omega (arith, lt, q) in
      subst (λ z. LinksSlots g h v z (object_at g (slice_index v.before.items z)).refs) e (subst (λ z. LinksSlots g h v m (object_at g z).refs) (sym (grown.olds m p)) new)
]

slot_way : (g h : Heap) (os ns : List ℕ) (i n a b x y : ℕ) → i < length os → slice_index os i ≡ a → slice_index ns i ≡ b
    → n < (object_at g a).refs → n < (object_at h b).refs → word g (a + 1 + n) ≡ x → word h (b + 1 + n) ≡ y → IsWay g h os ns (i + 1) n x y
slot_way g h os ns i n a b x y lt ea eb p q ex ey =
    let e : suc i ≡ i + 1 = omega arith in
    let way : IsWay g h os ns (suc i) n x y = (
      lt,
      subst (λ z. n < (object_at g z).refs) (sym ea) p,
      subst (λ z. n < (object_at h z).refs) (sym eb) q,
      subst (λ z. word g (z + 1 + n) ≡ x) (sym ea) ex,
      subst (λ z. word h (z + 1 + n) ≡ y) (sym eb) ey,
    ) in
    subst (λ z. IsWay g h os ns z n x y) e way

pub below_along : (w : Walk) (f k n : ℕ) → f ≡ k → IsBelow w f n → IsBelow w k n
below_along w f k n e below = subst (λ z. IsBelow w z n) e below

pub pairs_kept : (g h : Heap) (w v : Walk) (m : ℕ) → HasGrown w v → m ≤ length w.before.items → LinksPairs g h w m → LinksPairs g h v m
pairs_kept g h w v m grown p linked i lt =
    let r : i < length w.before.items = omega (arith, lt, p) in
    subst (λ z. LinksSlots g h v i (object_at g z).refs) (sym (grown.olds i r)) (slots_kept g h w v i (object_at g (slice_index w.before.items i)).refs grown r (linked i lt))

-- a list has the slots of the object at an address
pub record HasSlots (h : Heap) (a : ℕ) (list : List ℕ) : Type 0 where
  pub count : length list ≡ (object_at h a).refs
  pub each : (n : ℕ) → n < length list → slice_index list n ≡ word h (a + 1 + n)

has_slots : (h : Heap) (a : ℕ) (o : Object) (list : List ℕ) → o ≡ object_at h a → length list ≡ o.refs
    → ((i : ℕ) → i < o.refs → slice_index list i ≡ word h (o.at + 1 + i)) → HasSlots h a list
has_slots h a o list is count each = record {
  count = count ∙ ap (λ q. q.refs) is;
  each = λ n lt. each n (omega (arith, lt, count)) ∙ ap (λ q. word h (q.at + 1 + n)) is;
}

-- the pair at place i is of these two objects, with as many slots
pub record IsPair (g h : Heap) (w : Walk) (i a b : ℕ) : Type 0 where
  pub place : i < length w.before.items
  pub before : slice_index w.before.items i ≡ a
  pub after : slice_index w.after.items i ≡ b
  pub before_in : Contains (objects g) (object_at g a)
  pub after_in : Contains (objects h) (object_at h b)
  pub header : word g a ≡ word h b

pub pair_read : (p : Pair) (w : Walk) (f : ℕ) {a b : ℕ} → IsTour p.before.now p.after.now w → 0 < f → f ≤ length w.before.items
    → a ≡ get_or w.before.items (f - 1) a → b ≡ get_or w.after.items (f - 1) b → IsPair p.before.now p.after.now w (f - 1) a b
pair_read p w f {a = a} {b = b} walk some within read_a read_b =
    let lt : f - 1 < length w.before.items = omega (arith, some, within) in
    let a_is : a ≡ slice_index w.before.items (f - 1) = get_or_read w.before.items (f - 1) a lt read_a 0 in
    let b_is : b ≡ slice_index w.after.items (f - 1) = get_or_read w.after.items (f - 1) b (omega (arith, lt, walk.pairs)) read_b 0 in
    record {
      place = lt;
      before = sym a_is;
      after = sym b_is;
      before_in = subst (λ z. Contains (objects p.before.now) (object_at p.before.now z)) (sym a_is) (walk.names_before (f - 1) lt);
      after_in = subst (λ z. Contains (objects p.after.now) (object_at p.after.now z)) (sym b_is) (walk.names_after (f - 1) lt);
      header = ap (word p.before.now) a_is ∙ walk.alike (f - 1) lt ∙ ap (word p.after.now) (sym b_is);
    }

-- the lists have the slots of two objects, which have as many
pub record AreRead (p : Pair) (a b : ℕ) (olds news : List ℕ) : Type 0 where
  pub before_in : Contains (objects p.before.now) (object_at p.before.now a)
  pub after_in : Contains (objects p.after.now) (object_at p.after.now b)
  pub refs : (object_at p.before.now a).refs ≡ (object_at p.after.now b).refs
  pub here : HasSlots p.before.now a olds
  pub there : HasSlots p.after.now b news

pub slots_read : (p : Pair) (a b : ℕ) {o q : Object} (olds news : List ℕ) → Contains (objects p.before.now) (object_at p.before.now a) → Contains (objects p.after.now) (object_at p.after.now b)
    → word p.before.now a ≡ word p.after.now b → o ≡ object_at p.before.now a → q ≡ object_at p.after.now b
    → length olds ≡ o.refs → ((i : ℕ) → i < o.refs → slice_index olds i ≡ word p.before.now (o.at + 1 + i))
    → length news ≡ q.refs → ((i : ℕ) → i < q.refs → slice_index news i ≡ word p.after.now (q.at + 1 + i)) → AreRead p a b olds news
slots_read p a b {o = o} {q = q} olds news before_in after_in header is_o is_q old_count old_each new_count new_each = record {
  before_in = before_in;
  after_in = after_in;
  refs = ap (λ x. x % 2 ^ 32) header;
  here = has_slots p.before.now a o olds is_o old_count old_each;
  there = has_slots p.after.now b q news is_q new_count new_each;
}

module _ {p : Pair} {a b : ℕ} {olds news : List ℕ} (read : AreRead p a b olds news) (n : ℕ) (lt : n < length olds) where
  below_new : n < length news
  below_new = omega (arith, lt, read.here.count, read.refs, read.there.count)

  pub within_old : n < (object_at p.before.now a).refs
  within_old = omega (arith, lt, read.here.count)

  pub within_new : n < (object_at p.after.now b).refs
  within_new = omega (arith, lt, read.here.count, read.refs)

  pub old_word : slice_index olds n ≡ word p.before.now (a + 1 + n)
  old_word = read.here.each n lt

  pub new_word : slice_index news n ≡ word p.after.now (b + 1 + n)
  new_word = read.there.each n below_new

  pub old_names : IsReference p.before.now (slice_index olds n)
  old_names = subst (IsReference p.before.now) (sym old_word) (slot_names p.before.now a n (before_valid p) read.before_in within_old)

  pub new_names : IsReference p.after.now (slice_index news n)
  new_names = subst (IsReference p.after.now) (sym new_word) (slot_names p.after.now b n (after_valid p) read.after_in within_new)

-- both slots stand at a way of a later walk, if the objects are the pair before place f
pub slots_way : {p : Pair} {w : Walk} (v : Walk) (f : ℕ) {a b : ℕ} {olds news : List ℕ} → 0 < f → IsPair p.before.now p.after.now w (f - 1) a b → AreRead p a b olds news → HasGrown w v
    → (n : ℕ) → n < length olds → IsWay p.before.now p.after.now v.before.items v.after.items f n (slice_index olds n) (slice_index news n)
slots_way {p = p} v f {a = a} {b = b} {olds = olds} {news = news} some pair read grown n lt =
    let one : f - 1 + 1 ≡ f = omega (arith, some) in
    subst (λ z. IsWay p.before.now p.after.now v.before.items v.after.items z n (slice_index olds n) (slice_index news n)) one
    (slot_way p.before.now p.after.now v.before.items v.after.items (f - 1) n a b (slice_index olds n) (slice_index news n) (omega (arith, pair.place, grown.more))
    (grown.olds (f - 1) pair.place ∙ pair.before) (grown.news (f - 1) pair.place ∙ pair.after) (within_old read n lt) (within_new read n lt) (sym (old_word read n lt)) (sym (new_word read n lt)))
