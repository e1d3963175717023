-- A walk that links all roots and all slots of its pairs tells the renaming.
use Rattle.std.proofs.Common.{◌≡◌, ℕ, zero, suc, ◌+◌, ◌-◌, ◌<◌, ◌≤◌, inl, inr, length, get_or, map, Contains, refl, sym, ap, subst, ◌∙◌, arith, slice_index}
use Rattle.std.proofs.lemmas.List.{ext_get_or, length-map, get_or-map}
use Rattle.std.proofs.lemmas.List.FromFn.{get_or-map-range_with_len, length-map-range_with_len}
use Rattle.g1_words.specs.declared.object.Object.{Object}
use Rattle.g1_words.specs.Heap.{Heap, word, object_at, objects}
use Rattle.g1_words.specs.Valid.{IsValid}
use Rattle.g1_words.specs.Live.{Live, seed, child}
use Rattle.g1_words.specs.Copy.{renamed, words_at, renamed_words, IsCopy}
use Rattle.g1_words.specs.Graph.{SameGraph}
use Rattle.g1_after.proofs.CopyWords.{renamed_word, length-renamed_words}
use Rattle.g1_same.specs.declared.walk.Walk.{Walk}
use Rattle.g1_same.specs.Walk.{IsLinked, IsWay, IsWalk}
use Rattle.g1_same.proofs.Linked.{LinksRoots, LinksPairs}
use Rattle.g1_words.proofs.Sound.{object_in}
use Rattle.g1_same.proofs.Heaps.{root_of, slot_of, root_live, slot_live}
use Rattle.g1_same.proofs.Tables.{index_apart}
use Rattle.g1_same.proofs.Adding.{before_within, after_within}

module _ (g h : Heap) (left : IsValid g) (right : IsValid h) (w : Walk) (walk : IsWalk g h w) where
  abbrev rename : ℕ → ℕ
  rename a = slice_index w.after.items (slice_index w.new_of.items a - 1)

  rename_at : (i : ℕ) → i < length w.before.items → rename (slice_index w.before.items i) ≡ slice_index w.after.items i
  rename_at i p =
      let k = (walk.index_before (slice_index w.before.items i) i (before_within g h w left walk i p)).1 (p, refl) in
      let e : slice_index w.new_of.items (slice_index w.before.items i) - 1 ≡ i = omega (arith, k) in
      ap (slice_index w.after.items) e

  linked_renamed : (f n x y : ℕ) → IsLinked w f n x y → y ≡ renamed rename x
  linked_renamed f n x y (inl e) = e.1 ∙ sym (ap (renamed rename) e.0)
  linked_renamed f n x y (inr k) = k.3 ∙ ap suc (sym (rename_at k.0 k.1)) ∙ ap (renamed rename) (sym k.2)

  linked_place : (f n x y b : ℕ) → IsLinked w f n x y → x ≡ suc b → (i : ℕ) × (i < length w.before.items) × (slice_index w.before.items i ≡ b)
  linked_place f n x y b (inl e) t = absurd (omega (arith, e.0, t))
  linked_place f n x y b (inr k) t = (k.0, k.1, omega (arith, k.2, t))

  -- ---- each pair is reached

  way_live : (t f n a b i : ℕ) → i ≤ t → f ≤ i → i < length w.before.items → IsWay g h w.before.items w.after.items f n (suc a) (suc b) → Live g a
  way_live t zero n a b i le back p way = root_live g a n way.0 way.2
  way_live zero (suc j) n a b i le back p way = absurd (omega (arith, le, back))
  way_live (suc t) (suc j) n a b i le back p way =
      slot_live g (slice_index w.before.items j) a n
      (way_live t (slice_index w.from.items j) (slice_index w.number.items j) (slice_index w.before.items j) (slice_index w.after.items j) j
      (omega (arith, le, back)) (walk.backward j way.0) way.0 (walk.ways j way.0))
      way.1 way.3

  pub live_at : (i : ℕ) → i < length w.before.items → Live g (slice_index w.before.items i)
  live_at i p = way_live i (slice_index w.from.items i) (slice_index w.number.items i) (slice_index w.before.items i) (slice_index w.after.items i) i
      (omega arith) (walk.backward i p) p (walk.ways i p)

  pub once : (i j : ℕ) → i < length w.before.items → j < length w.before.items → slice_index w.before.items i ≡ slice_index w.before.items j → i ≡ j
  once = index_apart w.new_of.items w.before.items walk.index_before (before_within g h w left walk)

  module _ (count : length g.roots ≡ length h.roots) (roots : LinksRoots g h w (length g.roots)) (pairs : LinksPairs g h w (length w.before.items)) where
    -- each reached object is that of a pair
    pub found : (a : ℕ) → Live g a → (i : ℕ) × (i < length w.before.items) × (slice_index w.before.items i ≡ a)
    found a (seed c) =
        let r = root_of g a c in
        linked_place 0 r.0 (slice_index g.roots r.0) (slice_index h.roots r.0) a (roots r.0 r.1) r.2
    found b (child {a = a} r c) =
        let i = found a r in
        let s = slot_of g a b c in
        let o : ℕ = slice_index w.before.items i.0 in
        linked_place (suc i.0) s.0 (word g (o + 1 + s.0)) (word h (slice_index w.after.items i.0 + 1 + s.0)) b
        (pairs i.0 i.1 s.0 (subst (λ z. s.0 < (object_at g z).refs) (sym i.2) s.1))
        (subst (λ z. word g (z + 1 + s.0) ≡ suc b) (sym i.2) s.2)

    word_copied : (i m : ℕ) → i < length w.before.items → m < (object_at g (slice_index w.before.items i)).size
        → word h (slice_index w.after.items i + m) ≡ get_or (renamed_words rename g (object_at g (slice_index w.before.items i))) m 0
    word_copied i m p lt =
        let a : ℕ = slice_index w.before.items i in
        let b : ℕ = slice_index w.after.items i in
        let o : Object = object_at g a in
        let alike = walk.alike i p in
        elim (renamed_word rename g o m (object_in g a left (walk.names_before i p)).0 lt) [
          | inl k ↦ elim k.1 [
            | inl z ↦
                let e : b + m ≡ b = omega (arith, z) in
                let d : a ≡ a + m = omega (arith, z) in
                ap (word h) e ∙ sym alike.header ∙ ap (word g) d ∙ sym k.0
            | inr z ↦
                let e : b + m ≡ b + 1 + o.refs + (m - 1 - o.refs) = omega (arith, z) in
                let d : a + 1 + o.refs + (m - 1 - o.refs) ≡ a + m = omega (arith, z) in
                ap (word h) e ∙ sym (alike.data_words (m - 1 - o.refs) (omega (arith, z, lt))) ∙ ap (word g) d ∙ sym k.0
          ]
          | inr k ↦
              let e : b + m ≡ b + 1 + (m - 1) = omega (arith, k.0) in
              let d : a + 1 + (m - 1) ≡ a + m = omega (arith, k.0) in
              ap (word h) e ∙ linked_renamed (suc i) (m - 1) (word g (a + 1 + (m - 1))) (word h (b + 1 + (m - 1)))
              (pairs i p (m - 1) (omega (arith, k.0, k.1))) ∙ ap (λ z. renamed rename (word g z)) d ∙ sym k.2
        ]

    copied_at : (i : ℕ) → i < length w.before.items → IsCopy rename g h (object_at g (slice_index w.before.items i))
    copied_at i p =
        let a : ℕ = slice_index w.before.items i in
        let o : Object = object_at g a in
        let at : rename a ≡ slice_index w.after.items i = rename_at i p in
        let long : length (words_at h (rename a) o.size) ≡ o.size = length-map-range_with_len (word h) (rename a) o.size in
        let also : length (renamed_words rename g o) ≡ o.size = length-renamed_words rename g o (object_in g a left (walk.names_before i p)).0 in
        ext_get_or 0 (words_at h (rename a) o.size) (renamed_words rename g o) (long ∙ sym also)
        (λ m lt. let q : m < o.size = omega (arith, lt, long) in
        get_or-map-range_with_len (word h) (rename a) o.size m (rename a + m) 0 q refl ∙ ap (λ z. word h (z + m)) at ∙ word_copied i m p q)

    pub same : SameGraph g h
    same = record {
      rename = rename;
      one_to_one = λ a b la lb e.
          let i = found a la in
          let j = found b lb in
          let fi : rename a ≡ slice_index w.after.items i.0 = ap rename (sym i.2) ∙ rename_at i.0 i.1 in
          let fj : rename b ≡ slice_index w.after.items j.0 = ap rename (sym j.2) ∙ rename_at j.0 j.1 in
          let k : i.0 ≡ j.0 = index_apart w.old_of.items w.after.items walk.index_after (after_within g h w right walk) i.0 j.0
          (omega (arith, i.1, walk.pairs)) (omega (arith, j.1, walk.pairs)) (sym fi ∙ e ∙ fj) in
          sym i.2 ∙ ap (slice_index w.before.items) k ∙ j.2;
      roots = ext_get_or 0 h.roots (map (renamed rename) g.roots) (sym count ∙ sym (length-map g.roots (renamed rename)))
          (λ n lt. let p : n < length g.roots = omega (arith, lt, count) in linked_renamed 0 n (slice_index g.roots n) (slice_index h.roots n)
          (roots n p) ∙ sym (get_or-map (renamed rename) g.roots n 0 0 p));
      stands = λ a la.
          let i = found a la in
          let f : slice_index w.after.items i.0 ≡ rename a = sym (rename_at i.0 i.1) ∙ ap rename i.2 in
          subst (λ z. Contains (objects h) (object_at h z)) f (walk.names_after i.0 i.1);
      copies = λ a la. let i = found a la in subst (λ z. IsCopy rename g h (object_at g z)) i.2 (copied_at i.0 i.1);
    }

    pub images : w.after.items ≡ map same.rename w.before.items
    unfolding same
    images = ext_get_or 0 w.after.items (map rename w.before.items) (walk.pairs ∙ sym (length-map w.before.items rename))
        (λ i lt. let p : i < length w.before.items = omega (arith, lt, walk.pairs) in sym (rename_at i p) ∙ sym (get_or-map rename w.before.items i 0 0 p))
