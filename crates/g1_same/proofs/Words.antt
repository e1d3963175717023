-- What two words are to a walk, by its tables.
use Rattle.std.proofs.Common.{◌≡◌, ◌≢◌, ℕ, suc, ◌-◌, ◌<◌, inl, inr, List, [], ◌∷◌, length, get_or, Contains, sym, ap, subst, ◌∙◌, arith, slice_index}
use Rattle.std.proofs.lemmas.List.{get_or_read}
use Rattle.g1_words.specs.Heap.{Heap, object_at, objects}
use Rattle.g1_words.specs.Valid.{IsValid, IsReference}
use Rattle.g1_same.specs.declared.pair.Pair.{Pair}
use Rattle.g1_same.specs.declared.walk.Walk.{Walk}
use Rattle.g1_same.specs.declared.difference.How.{How}
use Rattle.g1_same.specs.declared.difference.How.TheVariants.{NullBefore, NullAfter, Split, Joined, Size, Slots, Data}
use Rattle.g1_same.specs.Path.{Before}
use Rattle.g1_same.specs.Same.{IsClash}
use Rattle.g1_same.specs.Walk.{IsSeen, IsPaired, IsLeast, IsLower, IsNew, IsWalkOf}
use Rattle.g1_words.proofs.Sound.{object_in}
use Rattle.g1_same.proofs.Held.{after_valid, before_valid}
use Rattle.g1_same.proofs.Heaps.{object_named}
use Rattle.g1_same.proofs.Tables.{index_none, index_some}

pub named : (h : Heap) (x : ℕ) → IsValid h → x ≢ 0 → IsReference h x → Contains (objects h) (object_at h (x - 1))
named h x valid some names = object_named h x (x - 1) valid names (omega arith)

pub named_below : (h : Heap) (x : ℕ) → IsValid h → x ≢ 0 → IsReference h x → x - 1 < length h.words
named_below h x valid some names = let o = object_in h (x - 1) valid (named h x valid some names) in omega (arith, o.0, o.1)

-- the entries of two tables for two objects
pub record IsRead (new_of old_of : List ℕ) (a b i j : ℕ) : Type 0 where
  pub a_lt : a < length new_of
  pub b_lt : b < length old_of
  pub is_i : i ≡ slice_index new_of a
  pub is_j : j ≡ slice_index old_of b

pub reading : (p : Pair) (new_of old_of : List ℕ) (x y i j : ℕ) → length new_of ≡ length p.before.now.words → length old_of ≡ length p.after.now.words
    → IsReference p.before.now x → IsReference p.after.now y → x ≢ 0 → y ≢ 0 → i ≡ get_or new_of (x - 1) i → j ≡ get_or old_of (y - 1) j → IsRead new_of old_of (x - 1) (y - 1) i j
reading p new_of old_of x y i j before after old new x_some y_some read_i read_j =
    let left = named_below p.before.now x (before_valid p) x_some old in
    let right = named_below p.after.now y (after_valid p) y_some new in
    let a_lt : x - 1 < length new_of = omega (arith, left, before) in
    let b_lt : y - 1 < length old_of = omega (arith, right, after) in
    record { a_lt = a_lt; b_lt = b_lt; is_i = get_or_read new_of (x - 1) i a_lt read_i 0; is_j = get_or_read old_of (y - 1) j b_lt read_j 0 }

module _ {R : ℕ → ℕ → Type 0} {g h : Heap} {w : Walk} {a b i j : ℕ} (walk : IsWalkOf R g h w) (read : IsRead w.new_of.items w.old_of.items a b i j) where
  in_before : i ≢ 0 → (i - 1 < length w.before.items) × (slice_index w.before.items (i - 1) ≡ a)
  in_before some = subst (λ m. (m - 1 < length w.before.items) × (slice_index w.before.items (m - 1) ≡ a)) (sym read.is_i)
      (index_some w.new_of.items w.before.items walk.index_before a read.a_lt (λ z. some (read.is_i ∙ z)))

  in_after : j ≢ 0 → (j - 1 < length w.after.items) × (slice_index w.after.items (j - 1) ≡ b)
  in_after some = subst (λ m. (m - 1 < length w.after.items) × (slice_index w.after.items (m - 1) ≡ b)) (sym read.is_j)
      (index_some w.old_of.items w.after.items walk.index_after b read.b_lt (λ z. some (read.is_j ∙ z)))

  pub known_here : i ≡ j → i ≢ 0 → IsPaired w.before.items w.after.items (suc a) (suc b)
  known_here same some =
      let p = in_before some in
      let q = in_after (λ z. some (same ∙ z)) in
      inr (i - 1, p.0, ap suc (sym p.1), ap suc (sym q.1 ∙ ap (λ m. slice_index w.after.items (m - 1)) (sym same)))

  -- the object before was found with another one after
  pub split_here : i ≢ j → i ≢ 0 → (i - 1 < length w.before.items) × (slice_index w.before.items (i - 1) ≡ a) × (slice_index w.after.items (i - 1) ≢ b)
  split_here other some =
      let p = in_before some in (
        p.0,
        p.1,
        λ e.
            let k = (walk.index_after b (i - 1) read.b_lt).1 (omega (arith, p.0, walk.pairs), e) in
            other (omega (arith, k, read.is_j, some)),
      )

  -- the object after was found with another one before
  pub joined_here : i ≢ j → i ≡ 0 → (j - 1 < length w.before.items) × (slice_index w.after.items (j - 1) ≡ b) × (slice_index w.before.items (j - 1) ≢ a)
  joined_here other none =
      let some : j ≢ 0 = λ z. other (none ∙ sym z) in
      let q = in_after some in (
        omega (arith, q.0, walk.pairs),
        q.1,
        λ e.
            let k = (walk.index_before a (j - 1) read.a_lt).1 (omega (arith, q.0, walk.pairs), e) in
            omega (arith, k, read.is_i, none),
      )

  pub new_before : i ≡ 0 → IsNew w.before.items a
  new_before none = index_none w.new_of.items w.before.items walk.index_before a read.a_lt (sym read.is_i ∙ none)

  pub new_after : j ≡ 0 → IsNew w.after.items b
  new_after none = index_none w.old_of.items w.after.items walk.index_after b read.b_lt (sym read.is_j ∙ none)

none_before : (q : List ℕ) → Before q [] → ⊥
none_before [] (inl e) = absurd (omega (arith, e))
none_before [] (inr e) = e.1
none_before (x ∷ q) (inl e) = absurd (omega (arith, e))
none_before (x ∷ q) (inr e) = e.1

-- what is a clash at every path was seen
pub seen_of : (g h : Heap) (w : Walk) (x y : ℕ) (how : How) → ((p : List ℕ) → IsClash g h p how x y) → IsSeen g h w how x y
seen_of g h w x y NullBefore k = k
seen_of g h w x y NullAfter k = k
seen_of g h w x y (Split a m n) k = let e = k [] in absurd (none_before e.3 e.4)
seen_of g h w x y (Joined m n b) k = let e = k [] in absurd (none_before e.3 e.4)
seen_of g h w x y (Size m n) k = k
seen_of g h w x y (Slots m n) k = k
seen_of g h w x y (Data m) k = k

-- and it is the least where both objects are new
pub least_of : (g h : Heap) (w : Walk) (a b : ℕ) (how : How) → ((p : List ℕ) → IsClash g h p how (suc a) (suc b)) → IsNew w.before.items a → IsNew w.after.items b → IsLower g h how a b
    → IsLeast g h w how (suc a) (suc b)
least_of g h w a b NullBefore k old new low = tt
least_of g h w a b NullAfter k old new low = tt
least_of g h w a b (Split c m n) k old new low = tt
least_of g h w a b (Joined m n c) k old new low = let e = k [] in absurd (none_before e.3 e.4)
least_of g h w a b (Size m n) k old new low = λ c d e f. let p : a ≡ c = omega (arith, e) in let q : b ≡ d = omega (arith, f) in
    (subst (IsNew w.before.items) p old, subst (IsNew w.after.items) q new, tt)
least_of g h w a b (Slots m n) k old new low = λ c d e f.
    let p : a ≡ c = omega (arith, e) in
    let q : b ≡ d = omega (arith, f) in
    (subst (IsNew w.before.items) p old, subst (IsNew w.after.items) q new, subst (λ z. IsLower g h (Slots m n) z d) p (subst (λ z. IsLower g h (Slots m n) a z) q low))
least_of g h w a b (Data m) k old new low = λ c d e f.
    let p : a ≡ c = omega (arith, e) in
    let q : b ≡ d = omega (arith, f) in
    (subst (IsNew w.before.items) p old, subst (IsNew w.after.items) q new, subst (λ z. IsLower g h (Data m) z d) p (subst (λ z. IsLower g h (Data m) a z) q low))
