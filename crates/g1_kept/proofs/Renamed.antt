-- A walk that has paired all roots and compared all objects shows that everything is kept.
use Rattle.std.proofs.Common.{◌≡◌, ℕ, zero, suc, ◌+◌, ◌-◌, ◌<◌, inl, inr, List, length, get_or, map, Contains, IsTrue, IsFalse, refl, sym, ap, subst, ◌∙◌, arith, slice_index, cond, Bool}
use Rattle.std.proofs.lemmas.Bool.{cases_Bool, false≢true}
use Rattle.std.proofs.lemmas.List.{ext_get_or, length-map, get_or-map}
use Rattle.std.proofs.lemmas.List.FromFn.{get_or-map-range_with_len, length-map-range_with_len}
use Rattle.g1_words.specs.declared.object.Object.{Object}
use Rattle.g1_words.specs.Lists.{has}
use Rattle.g1_words.specs.Heap.{Heap, word, kind, region_of, regions, object_at, objects, objects_in}
use Rattle.g1_words.specs.Survivors.{in_set}
use Rattle.g1_words.specs.Valid.{IsValid}
use Rattle.g1_words.specs.Copy.{renamed, words_at, renamed_words, IsCopy}
use Rattle.g1_words.proofs.Members.{flat_map_cases}
use Rattle.g1_words.proofs.Computed.{range_below}
use Rattle.g1_words.proofs.Sound.{sound, object_in}
use Rattle.g1_after.proofs.CopyWords.{renamed_word, length-renamed_words}
use Rattle.g1_same.proofs.Heaps.{root_of, slot_of}
use Rattle.g1_same.proofs.Tables.{index_apart}
use Rattle.g1_kept.specs.declared.pairs.Pairs.{Pairs}
use Rattle.g1_kept.specs.Keeps.{MayHoldCopy, IsOutside, Keeps, Remains, outside, root, slot, KeepsTable}
use Rattle.g1_kept.specs.Walk.{IsPairWalk, ArePaired, PairsRoots, IsCompared, ComparesOutside, ComparesPairs}
use Rattle.g1_kept.proofs.Adding.{before_within, after_within}
use Rattle.g1_kept.proofs.Regions.{not_at_object}
use Rattle.g1_kept.proofs.Remaining.{remains_object}

module _ (fill : Bool) (set : List ℕ) (g h : Heap) (left : IsValid g) (right : IsValid h) (w : Pairs) (walk : IsPairWalk fill set g h w) where
  abbrev found_at : ℕ → ℕ
  found_at a = slice_index w.after.items (slice_index w.new_of.items a - 1)

  abbrev rename : ℕ → ℕ
  rename a = cond (in_set g set a) (found_at a) a

  rename_out : (a : ℕ) → IsFalse (in_set g set a) → rename a ≡ a
  rename_out a e = ap (λ b. cond b (found_at a) a) e

  rename_at : (i : ℕ) → i < length w.before.items → rename (slice_index w.before.items i) ≡ slice_index w.after.items i
  rename_at i p =
      let a : ℕ = slice_index w.before.items i in
      let k = (walk.index_before a i (before_within fill set g h w left walk i p)).1 (p, refl) in
      let e : slice_index w.new_of.items a - 1 ≡ i = omega (arith, k) in
      ap (λ b. cond b (found_at a) a) (walk.of_set i p) ∙ ap (slice_index w.after.items) e

  stays_word : (x : ℕ) → ((a : ℕ) → x ≡ suc a → IsFalse (in_set g set a)) → x ≡ renamed rename x
  stays_word zero out = refl
  stays_word (suc a) out = ap suc (sym (rename_out a (out a refl)))

  paired_renamed : (x y : ℕ) → ArePaired set g w x y → y ≡ renamed rename x
  paired_renamed x y (inl e) = e.1 ∙ stays_word x e.0
  paired_renamed x y (inr k) = k.3 ∙ ap suc (sym (rename_at k.0 k.1)) ∙ ap (renamed rename) (sym k.2)

  -- an object of the set that a paired word references is that of a pair
  paired_place : (x y a : ℕ) → ArePaired set g w x y → x ≡ suc a → IsTrue (in_set g set a) → (i : ℕ) × (i < length w.before.items) × (slice_index w.before.items i ≡ a)
  paired_place x y a (inl e) t of_set = absurd (false≢true (sym (e.0 a t) ∙ of_set))
  paired_place x y a (inr k) t of_set = (k.0, k.1, omega (arith, k.2, t))

  -- the words of an object that was compared are copied
  word_copied : (a b m : ℕ) → Contains (objects g) (object_at g a) → IsCompared set g h w a b → m < (object_at g a).size
      → word h (b + m) ≡ get_or (renamed_words rename g (object_at g a)) m 0
  word_copied a b m object c lt =
      let o : Object = object_at g a in
      elim (renamed_word rename g o m (object_in g a left object).0 lt) [
        | inl k ↦ elim k.1 [
          | inl z ↦
              let e : b + m ≡ b = omega (arith, z) in
              let d : a ≡ a + m = omega (arith, z) in
              ap (word h) e ∙ sym c.alike.header ∙ ap (word g) d ∙ sym k.0
          | inr z ↦
              let e : b + m ≡ b + 1 + o.refs + (m - 1 - o.refs) = omega (arith, z) in
              let d : a + 1 + o.refs + (m - 1 - o.refs) ≡ a + m = omega (arith, z) in
              ap (word h) e ∙ sym (c.alike.data_words (m - 1 - o.refs) (omega (arith, z, lt))) ∙ ap (word g) d ∙ sym k.0
        ]
        | inr k ↦
            let e : b + m ≡ b + 1 + (m - 1) = omega (arith, k.0) in
            let d : a + 1 + (m - 1) ≡ a + m = omega (arith, k.0) in
            ap (word h) e ∙ paired_renamed (word g (a + 1 + (m - 1))) (word h (b + 1 + (m - 1))) (c.slots (m - 1) (omega (arith, k.0, k.1))) ∙ ap (λ z. renamed rename (word g z)) d ∙ sym k.2
      ]

  copied_at : (a : ℕ) → Contains (objects g) (object_at g a) → IsCompared set g h w a (rename a) → IsCopy rename g h (object_at g a)
  copied_at a object c =
      let o : Object = object_at g a in
      let long : length (words_at h (rename a) o.size) ≡ o.size = length-map-range_with_len (word h) (rename a) o.size in
      let also : length (renamed_words rename g o) ≡ o.size = length-renamed_words rename g o (object_in g a left object).0 in
      ext_get_or 0 (words_at h (rename a) o.size) (renamed_words rename g o) (long ∙ sym also)
      (λ m lt. let q : m < o.size = omega (arith, lt, long) in
      get_or-map-range_with_len (word h) (rename a) o.size m (rename a + m) 0 q refl ∙ word_copied a (rename a) m object c q)

  module _ (table : KeepsTable fill set g h) (count : length h.roots ≡ length g.roots) (roots : PairsRoots set g h w (length g.roots))
      (others : ComparesOutside set g h w g.geometry.n) (pairs : ComparesPairs set g h w (length w.before.items)) where
    pair_compared : (a i : ℕ) → i < length w.before.items → slice_index w.before.items i ≡ a → IsCompared set g h w a (rename a)
    pair_compared a i p e =
        let to : slice_index w.after.items i ≡ rename a = sym (rename_at i p) ∙ ap rename e in
        subst (λ z. IsCompared set g h w z (rename a)) e (subst (λ z. IsCompared set g h w (slice_index w.before.items i) z) to (pairs i p))

    outside_compared : (a : ℕ) → IsOutside set g h a → IsCompared set g h w a (rename a)
    outside_compared a o =
        let m = flat_map_cases (objects_in g) (regions g) (object_at g a) o.object in
        let c = m.2 in
        let here : region_of g a ≡ m.0 = (sound g left).in_region m.0 (object_at g a) c in
        let lt : m.0 < g.geometry.n = omega (arith, range_below 0 g.geometry.n m.0 m.1) in
        let compared = others m.0 lt (ap (has set) (sym here) ∙ o.outside) (λ e. (sound g left).in_used (object_at g a) o.object (ap (kind g) here ∙ e)) (λ e. o.in_use (ap (kind h) here ∙ e)) a c in
        subst (λ z. IsCompared set g h w a z) (sym (rename_out a o.outside)) compared

    compared : (a : ℕ) → Remains set g h a → IsCompared set g h w a (rename a)
    compared a (outside o) = outside_compared a o
    compared a (root c of_set) =
        let r = root_of g a c in
        let i = paired_place (slice_index g.roots r.0) (slice_index h.roots r.0) a (roots r.0 r.1) r.2 of_set in
        pair_compared a i.0 i.1 i.2
    compared b (slot {a = a} r c of_set) =
        let s = slot_of g a b c in
        let i = paired_place (word g (a + 1 + s.0)) (word h (rename a + 1 + s.0)) b ((compared a r).slots s.0 s.1) s.2 of_set in
        pair_compared b i.0 i.1 i.2

    placed : (a : ℕ) → Remains set g h a → IsTrue (in_set g set a) → (i : ℕ) × (i < length w.before.items) × (slice_index w.before.items i ≡ a)
    placed a (outside o) of_set = absurd (false≢true (sym o.outside ∙ of_set))
    placed a (root c also) of_set =
        let r = root_of g a c in
        paired_place (slice_index g.roots r.0) (slice_index h.roots r.0) a (roots r.0 r.1) r.2 of_set
    placed b (slot {a = a} r c also) of_set =
        let s = slot_of g a b c in
        paired_place (word g (a + 1 + s.0)) (word h (rename a + 1 + s.0)) b ((compared a r).slots s.0 s.1) s.2 of_set

    to_place : (a i : ℕ) → i < length w.before.items → slice_index w.before.items i ≡ a → rename a ≡ slice_index w.after.items i
    to_place a i p e = ap rename (sym e) ∙ rename_at i p

    moves : (a : ℕ) → Remains set g h a → IsTrue (in_set g set a) → MayHoldCopy fill g (rename a)
    moves a r of_set = let i = placed a r of_set in subst (MayHoldCopy fill g) (sym (to_place a i.0 i.1 i.2)) (walk.room i.0 i.1)

    -- no copy is where an object outside the set stands
    apart : (a b : ℕ) → Remains set g h a → Remains set g h b → IsTrue (in_set g set a) → IsFalse (in_set g set b) → rename a ≡ rename b → ⊥
    apart a b ra rb of_set out e =
        let room : MayHoldCopy fill g b = subst (MayHoldCopy fill g) (e ∙ rename_out b out) (moves a ra of_set) in
        not_at_object fill g b left (remains_object set g h left b rb) room

    one_to_one : (a b : ℕ) → Remains set g h a → Remains set g h b → rename a ≡ rename b → a ≡ b
    one_to_one a b ra rb e = elim (cases_Bool (in_set g set a)) [
      | inl t ↦ elim (cases_Bool (in_set g set b)) [
        | inl u ↦
            let i = placed a ra t in
            let j = placed b rb u in
            let k : i.0 ≡ j.0 = index_apart w.old_of.items w.after.items walk.index_after (after_within fill set g h w right walk) i.0 j.0
            (omega (arith, i.1, walk.pairs)) (omega (arith, j.1, walk.pairs)) (sym (to_place a i.0 i.1 i.2) ∙ e ∙ to_place b j.0 j.1 j.2) in
            sym i.2 ∙ ap (slice_index w.before.items) k ∙ j.2
        | inr u ↦ absurd (apart a b ra rb t u e)
      ]
      | inr t ↦ elim (cases_Bool (in_set g set b)) [
        | inl u ↦ absurd (apart b a rb ra u t (sym e))
        | inr u ↦ sym (rename_out a t) ∙ e ∙ rename_out b u
      ]
    ]

    pub keeps : Keeps fill set g h
    keeps = record {
      table = table;
      rename = rename;
      stays = rename_out;
      moves = moves;
      one_to_one = one_to_one;
      roots = ext_get_or 0 h.roots (map (renamed rename) g.roots) (count ∙ sym (length-map g.roots (renamed rename)))
          (λ n lt. let p : n < length g.roots = omega (arith, lt, count) in paired_renamed (slice_index g.roots n) (slice_index h.roots n) (roots n p)
          ∙ sym (get_or-map (renamed rename) g.roots n 0 0 p));
      stands = λ a r. (compared a r).stands;
      copies = λ a r. copied_at a (remains_object set g h left a r) (compared a r);
    }
