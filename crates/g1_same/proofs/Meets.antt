-- Any two words agree by what a walk has found, or reference two new objects that are alike, or disagree in a way.
use Rattle.std.proofs.Common.{◌≡◌, ℕ, zero, suc, ◌+◌, ◌-◌, ◌<◌, ◌/◌, ◌%◌, ◌^◌, ◌⊎◌, inl, inr, List, length, Contains, refl, sym, ◌∙◌, arith, slice_index}
use Rattle.g1_words.specs.Heap.{Heap, word, object_at, objects}
use Rattle.g1_words.specs.Valid.{IsValid, IsReference}
use Rattle.g1_same.proofs.Heaps.{object_named}
use Rattle.g1_words.proofs.Sound.{object_in}
use Rattle.g1_image.proofs.Decided.{decided_eq, first_breach}
use Rattle.g1_same.specs.declared.walk.Walk.{Walk}
use Rattle.g1_same.specs.declared.meeting.Met.{Met}
use Rattle.g1_same.specs.declared.meeting.Met.TheVariants.{Known, New, Clash}
use Rattle.g1_same.specs.declared.difference.How.{How}
use Rattle.g1_same.specs.declared.difference.How.TheVariants.{NullBefore, NullAfter, Split, Joined, Size, Slots, Data}
use Rattle.g1_same.specs.Same.{IsClash}
use Rattle.g1_same.specs.Walk.{AreAlike, IsWalk, IsMet, IsLower}
use Rattle.g1_same.proofs.Words.{IsRead, known_here, split_here, joined_here, new_before, new_after, seen_of, least_of}

-- two objects are alike, or differ in a way that is the first of those of the objects alone
abbrev Compared : Heap → Heap → ℕ → ℕ → Type 0
Compared g h a b = AreAlike g h a b ⊎ ((how : How) × ((p : List ℕ) → IsClash g h p how (suc a) (suc b)) × IsLower g h how a b)

pub same_header : (x y : ℕ) → x / 2 ^ 32 ≡ y / 2 ^ 32 → x % 2 ^ 32 ≡ y % 2 ^ 32 → x ≡ y
same_header x y d m = omega (arith, d, m)

-- the data words of this number are equal
abbrev IsEqualAt : Heap → Heap → ℕ → ℕ → ℕ → Type 0
IsEqualAt g h a b k = word g (a + 1 + (object_at g a).refs + k) ≡ word h (b + 1 + (object_at g a).refs + k)

data_compared : (g h : Heap) (a b : ℕ) → word g a ≡ word h b → Compared g h a b
data_compared g h a b header = elim (first_breach (IsEqualAt g h a b) (λ k. decided_eq _ _) ((object_at g a).size - 1 - (object_at g a).refs)) [
  | inl all ↦ inl (record { header = header; data_words = λ k lt. all k (omega (arith, lt)) })
  | inr d ↦ inr (Data d.0, λ p. (a, b, refl, refl, header, (let k = d.1.within in omega (arith, k)), d.1.breach), d.1.before)
]

compared : (g h : Heap) (a b : ℕ) → Compared g h a b
compared g h a b = elim (decided_eq (object_at g a).size (object_at h b).size) [
  | inr ne ↦ inr (Size (object_at g a).size (object_at h b).size, λ p. (a, b, refl, refl, refl, refl, ne), tt)
  | inl sizes ↦ elim (decided_eq (object_at g a).refs (object_at h b).refs) [
    | inr ne ↦ inr (Slots (object_at g a).refs (object_at h b).refs, λ p. (a, b, refl, refl, refl, refl, ne), sizes)
    | inl refs ↦ data_compared g h a b (same_header (word g a) (word h b) sizes refs)
  ]
]

module _ (g h : Heap) (left : IsValid g) (right : IsValid h) (w : Walk) (walk : IsWalk g h w) where
  within_before : (a : ℕ) → Contains (objects g) (object_at g a) → a < length w.new_of.items
  within_before a c = let o = object_in g a left c in omega (arith, o.0, o.1, walk.table_before)

  within_after : (b : ℕ) → Contains (objects h) (object_at h b) → b < length w.old_of.items
  within_after b c = let o = object_in h b right c in omega (arith, o.0, o.1, walk.table_after)

  abbrev Meeting : ℕ → ℕ → Type 0
  Meeting x y = (m : Met) × IsMet g h w x y m

  met_objects : (a b : ℕ) → a < length w.new_of.items → b < length w.old_of.items → Meeting (suc a) (suc b)
  met_objects a b a_lt b_lt =
      let i : ℕ = slice_index w.new_of.items a in
      let j : ℕ = slice_index w.old_of.items b in
      let read : IsRead w.new_of.items w.old_of.items a b i j = record { a_lt = a_lt; b_lt = b_lt; is_i = refl; is_j = refl } in
      elim (decided_eq i j) [
        | inr other ↦ elim (decided_eq i 0) [
          | inr some ↦
              let s = split_here walk read other some in
              (Clash (Split a (slice_index w.after.items (i - 1)) b), ((refl, refl, s.2, i - 1, s.0, s.1, refl), tt))
          | inl none ↦
              let s = joined_here walk read other none in
              (Clash (Joined (slice_index w.before.items (j - 1)) a b), ((refl, refl, s.2, j - 1, s.0, refl, s.1), new_before walk read none))
        ]
        | inl same ↦ elim (decided_eq i 0) [
          | inr some ↦ (Known, known_here walk read same some)
          | inl none ↦ new_objects none (sym same ∙ none)
        ]
      ]
    where
      new_objects : slice_index w.new_of.items a ≡ 0 → slice_index w.old_of.items b ≡ 0 → Meeting (suc a) (suc b)
      new_objects i_none j_none = elim (compared g h a b) [
        | inl alike ↦ (New a b, (refl, refl, i_none, j_none, alike))
        | inr d ↦
            let read : IsRead w.new_of.items w.old_of.items a b (slice_index w.new_of.items a) (slice_index w.old_of.items b) = record { a_lt = a_lt; b_lt = b_lt; is_i = refl; is_j = refl } in
            let old = new_before walk read i_none in
            let new = new_after walk read j_none in
            (Clash d.0, (seen_of g h w (suc a) (suc b) d.0 d.1, least_of g h w a b d.0 d.1 old new d.2))
      ]

  pub met : (x y : ℕ) → IsReference g x → IsReference h y → Meeting x y
  met zero zero p q = (Known, inl (refl, refl))
  met zero (suc b) p q = (Clash NullBefore, ((λ s. (refl, λ e. absurd (omega (arith, e)))), tt))
  met (suc a) zero p q = (Clash NullAfter, ((λ s. ((λ e. absurd (omega (arith, e))), refl)), tt))
  met (suc a) (suc b) p q = met_objects a b (within_before a (object_named g (suc a) a left p refl)) (within_after b (object_named h (suc b) b right q refl))
