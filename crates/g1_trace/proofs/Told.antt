-- What is read of a heap, told as the table of commands tells it.
use Rattle.std.proofs.Common.{◌≡◌, ◌≢◌, ℕ, suc, ◌+◌, ◌-◌, ◌<◌, ◌≤◌, inl, inr, Bool, true, false, cond, eqb, List, Contains, length, get_or, refl, sym, ◌∙◌, ap, subst, arith, lt-ltb, le-ltb}
use Rattle.std.proofs.lemmas.List.FromFn.{get_or-map-range_with_len, length-map-range_with_len}
use Rattle.std.specs.Int.{from_bool}
use Rattle.g1_words.specs.Geometry.{most_words}
use Rattle.g1_words.specs.declared.object.Object.{Object}
use Rattle.g1_words.specs.Heap.{Heap, word, object_at, objects}
use Rattle.g1_words.specs.Valid.{IsReference, IsValid}
use Rattle.g1_words.proofs.Bounds.{object_within}
use Rattle.g1_words.proofs.Computed.{has_contains}
use Rattle.g1_words.proofs.Sound.{has_is, sound}
use Rattle.g1_trace.specs.declared.command.Command.TheVariants.{Get, Put, Set, Say, Same}
use Rattle.g1_trace.specs.declared.command.Reply.{Reply}
use Rattle.g1_trace.specs.declared.command.Reply.TheVariants.{Ok, Range, Number}
use Rattle.g1_trace.specs.Commands.{View, Nothing, SetRoot, SetSlot, SetValue, Answer, answer, answer_of, in_range, not_null, within}
use Rattle.g1_trace.specs.Mutator.{heap_view}

-- what a root names is an object, told by its header
pub record IsNamed (h : Heap) (a : ℕ) : Type 0 where
  pub there : Contains (objects h) (object_at h a)
  pub refs : (object_at h a).refs < (object_at h a).size
  pub within : a + (object_at h a).size ≤ length h.words
  pub small : length h.words ≤ most_words

pub root_named : (h : Heap) (r : ℕ) → IsValid h → r < length h.roots → get_or h.roots r 0 ≢ 0 → IsNamed h (get_or h.roots r 0 - 1)
root_named h r valid lt some = by (get_or h.roots r 0) (valid.roots r 0 lt) some
  where
    by : (x : ℕ) → IsReference h x → x ≢ 0 → IsNamed h (x - 1)
    by x (inl e) n = absurd (n e)
    by x (inr (o, has, e)) n =
        let at : o.at ≡ x - 1 = omega (arith, e) in
        let is : o ≡ object_at h o.at = has_is h o valid has in
        let fits : o.refs < o.size = (sound h valid).slots_fit o (has_contains h o has) in
        let end = object_within h valid o has in
        let count = valid.word_count in
        let most = valid.limits.words_most in
        subst (IsNamed h) at (record {
          there = subst (Contains (objects h)) is (has_contains h o has);
          refs = subst (λ (q : Object). q.refs < q.size) is fits;
          within = subst (λ (q : Object). o.at + q.size ≤ length h.words) is (omega (arith, end, count));
          small = omega (arith, count, most);
        })

module _ (v : View) where
  range_yes : (r : ℕ) (rest : Answer) → r < length v.roots → in_range v r rest ≡ rest
  range_yes r rest lt = ap (λ b. cond b rest (answer Range Nothing)) (lt-ltb r (length v.roots) lt)

  names : (x a : ℕ) (rest : ℕ → Answer) → x ≡ suc a → not_null v x rest ≡ rest a
  names x a rest e = ap (λ x. not_null v x rest) e

  within_yes : (m : ℕ) (xs : List ℕ) (rest : Answer) → m < length xs → within v m xs rest ≡ rest
  within_yes m xs rest lt = ap (λ b. cond b rest (answer Range Nothing)) (lt-ltb m (length xs) lt)

  within_no : (m : ℕ) (xs : List ℕ) (rest : Answer) → length xs ≤ m → within v m xs rest ≡ answer Range Nothing
  within_no m xs rest le = ap (λ b. cond b rest (answer Range Nothing)) (le-ltb m (length xs) le)

module _ (h : Heap) (a : ℕ) where
  slot_count : length ((heap_view h).slots a) ≡ (object_at h a).refs
  slot_count = length-map-range_with_len (word h) (a + 1) (object_at h a).refs

  slot_read : (m : ℕ) → m < (object_at h a).refs → get_or ((heap_view h).slots a) m 0 ≡ word h (a + 1 + m)
  slot_read m lt = get_or-map-range_with_len (word h) (a + 1) (object_at h a).refs m (a + 1 + m) 0 lt refl

  value_count : length ((heap_view h).values a) ≡ (object_at h a).size - 1 - (object_at h a).refs
  value_count = length-map-range_with_len (word h) (a + 1 + (object_at h a).refs) ((object_at h a).size - 1 - (object_at h a).refs)

  value_read : (m : ℕ) → m < (object_at h a).size - 1 - (object_at h a).refs → get_or ((heap_view h).values a) m 0 ≡ word h (a + 1 + (object_at h a).refs + m)
  value_read m lt = get_or-map-range_with_len (word h) (a + 1 + (object_at h a).refs) ((object_at h a).size - 1 - (object_at h a).refs) m (a + 1 + (object_at h a).refs + m) 0 lt refl

-- ---- two roots: a slot is read or written

module _ (h : Heap) (r q m : ℕ) (o : Object) (lr : r < length h.roots) (lq : q < length h.roots) (is : o ≡ object_at h o.at) where
  refs_is : o.refs ≡ (object_at h o.at).refs
  refs_is = ap (λ (x : Object). x.refs) is

  pub get_range : (reply : Reply) → get_or h.roots q 0 ≡ o.at + 1 → (reply ≡ Range) × (o.refs ≤ m) → answer reply Nothing ≡ answer_of (heap_view h) (Get r q m)
  get_range reply n out =
      let e : get_or h.roots q 0 ≡ suc o.at = omega (arith, n) in
      let c = slot_count h o.at in
      let f = refs_is in
      let le = out.1 in
      ap (λ x. answer x Nothing) out.0
      ∙ sym (range_yes (heap_view h) r _ lr ∙ range_yes (heap_view h) q _ lq ∙ names (heap_view h) (get_or h.roots q 0) o.at _ e
      ∙ within_no (heap_view h) m ((heap_view h).slots o.at) _ (omega (arith, c, f, le)))

  pub get_done : (x : ℕ) → get_or h.roots q 0 ≡ o.at + 1 → m < o.refs → x ≡ word h (o.at + 1 + m) → answer Ok (SetRoot r x) ≡ answer_of (heap_view h) (Get r q m)
  get_done x n lt w =
      let e : get_or h.roots q 0 ≡ suc o.at = omega (arith, n) in
      let c = slot_count h o.at in
      let f = refs_is in
      ap (λ y. answer Ok (SetRoot r y)) (w ∙ sym (slot_read h o.at m (omega (arith, f, lt))))
      ∙ sym (range_yes (heap_view h) r _ lr ∙ range_yes (heap_view h) q _ lq ∙ names (heap_view h) (get_or h.roots q 0) o.at _ e
      ∙ within_yes (heap_view h) m ((heap_view h).slots o.at) _ (omega (arith, c, f, lt)))

  pub put_range : (reply : Reply) → get_or h.roots r 0 ≡ o.at + 1 → (reply ≡ Range) × (o.refs ≤ m) → answer reply Nothing ≡ answer_of (heap_view h) (Put r m q)
  put_range reply n out =
      let e : get_or h.roots r 0 ≡ suc o.at = omega (arith, n) in
      let c = slot_count h o.at in
      let f = refs_is in
      let le = out.1 in
      ap (λ x. answer x Nothing) out.0
      ∙ sym (range_yes (heap_view h) r _ lr ∙ range_yes (heap_view h) q _ lq ∙ names (heap_view h) (get_or h.roots r 0) o.at _ e
      ∙ within_no (heap_view h) m ((heap_view h).slots o.at) _ (omega (arith, c, f, le)))

  pub put_done : (x : ℕ) → get_or h.roots r 0 ≡ o.at + 1 → m < o.refs → x ≡ get_or h.roots q 0 → answer Ok (SetSlot o.at m x) ≡ answer_of (heap_view h) (Put r m q)
  put_done x n lt w =
      let e : get_or h.roots r 0 ≡ suc o.at = omega (arith, n) in
      let c = slot_count h o.at in
      let f = refs_is in
      ap (λ y. answer Ok (SetSlot o.at m y)) w
      ∙ sym (range_yes (heap_view h) r _ lr ∙ range_yes (heap_view h) q _ lq ∙ names (heap_view h) (get_or h.roots r 0) o.at _ e
      ∙ within_yes (heap_view h) m ((heap_view h).slots o.at) _ (omega (arith, c, f, lt)))

-- ---- two roots are compared

same_number : (b : Bool) → from_bool b ≡ cond b 1 0
same_number true = refl
same_number false = refl

pub same_done : (h : Heap) (r q : ℕ) → r < length h.roots → q < length h.roots → (x y n : ℕ) → x ≡ get_or h.roots r 0 → y ≡ get_or h.roots q 0 → n ≡ from_bool (eqb x y)
    → answer (Number n) Nothing ≡ answer_of (heap_view h) (Same r q)
same_done h r q lr lq x y n is other e =
    let same : n ≡ cond (eqb (get_or h.roots r 0) (get_or h.roots q 0)) 1 0 = e ∙ same_number (eqb x y) ∙ (λ t. cond (eqb (is t) (other t)) 1 0) in
    ap (λ z. answer (Number z) Nothing) same ∙ sym (range_yes (heap_view h) r _ lr ∙ range_yes (heap_view h) q _ lq)

-- ---- one root: a data word is read or written

module _ (h : Heap) (r m : ℕ) (o : Object) (lr : r < length h.roots) (is : o ≡ object_at h o.at) (n : get_or h.roots r 0 ≡ o.at + 1) where
  there : get_or h.roots r 0 ≡ suc o.at
  there = omega (arith, n)

  count_is : length ((heap_view h).values o.at) ≡ o.size - 1 - o.refs
  count_is = value_count h o.at ∙ ap (λ (x : Object). x.size - 1 - x.refs) (sym is)

  pub set_range : (reply : Reply) (x : ℕ) → (reply ≡ Range) × (o.size - 1 - o.refs ≤ m) → answer reply Nothing ≡ answer_of (heap_view h) (Set r m x)
  set_range reply x out =
      let c = count_is in
      let le = out.1 in
      ap (λ y. answer y Nothing) out.0
      ∙ sym (range_yes (heap_view h) r _ lr ∙ names (heap_view h) (get_or h.roots r 0) o.at _ there ∙ within_no (heap_view h) m ((heap_view h).values o.at) _ (omega (arith, c, le)))

  pub set_done : (x : ℕ) → m < o.size - 1 - o.refs → answer Ok (SetValue o.at m x) ≡ answer_of (heap_view h) (Set r m x)
  set_done x lt =
      let c = count_is in
      sym (range_yes (heap_view h) r _ lr ∙ names (heap_view h) (get_or h.roots r 0) o.at _ there ∙ within_yes (heap_view h) m ((heap_view h).values o.at) _ (omega (arith, c, lt)))

  pub say_range : (reply : Reply) → (reply ≡ Range) × (o.size - 1 - o.refs ≤ m) → answer reply Nothing ≡ answer_of (heap_view h) (Say r m)
  say_range reply out =
      let c = count_is in
      let le = out.1 in
      ap (λ y. answer y Nothing) out.0
      ∙ sym (range_yes (heap_view h) r _ lr ∙ names (heap_view h) (get_or h.roots r 0) o.at _ there ∙ within_no (heap_view h) m ((heap_view h).values o.at) _ (omega (arith, c, le)))

  pub say_done : (x : ℕ) → m < o.size - 1 - o.refs → x ≡ word h (o.at + 1 + o.refs + m) → answer (Number x) Nothing ≡ answer_of (heap_view h) (Say r m)
  say_done x lt w =
      let c = count_is in
      let z : o.size - 1 - o.refs ≡ (object_at h o.at).size - 1 - (object_at h o.at).refs = ap (λ (x : Object). x.size - 1 - x.refs) is in
      let p : word h (o.at + 1 + o.refs + m) ≡ get_or ((heap_view h).values o.at) m 0 = ap (λ (x : Object). word h (o.at + 1 + x.refs + m)) is ∙ sym (value_read h o.at m (omega (arith, z, lt))) in
      ap (λ y. answer (Number y) Nothing) (w ∙ p)
      ∙ sym (range_yes (heap_view h) r _ lr ∙ names (heap_view h) (get_or h.roots r 0) o.at _ there ∙ within_yes (heap_view h) m ((heap_view h).values o.at) _ (omega (arith, c, lt)))
