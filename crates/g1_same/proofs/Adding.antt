-- A walk to which a pair is added is a walk.
use Rattle.std.proofs.Common.{◌≡◌, ℕ, zero, suc, ◌+◌, ◌<◌, ◌≤◌, ◌++◌, ◌⊎◌, inl, inr, List, [], ◌∷◌, length, set, Contains, refl, sym, ap, subst, ◌∙◌, arith, slice_index}
use Rattle.std.proofs.lemmas.Bool.{cases_lt}
use Rattle.std.proofs.lemmas.List.{get_or_append_left, get_or_push, length_push, length-set}
use Rattle.g1_words.specs.Geometry.{most_words}
use Rattle.g1_words.specs.Heap.{Heap, word, object_at, objects}
use Rattle.g1_words.specs.Valid.{IsValid}
use Rattle.g1_same.specs.declared.walk.Walk.{Walk}
use Rattle.g1_same.specs.Walk.{IsIndex, AreAlike, IsPaired, IsLinked, IsWay, IsWalkOf, IsEarlier, IsBelow, HasGrown}
use Rattle.g1_words.proofs.Sound.{object_in}
use Rattle.g1_same.proofs.Tables.{index_more, index_few}

pub way_more : (g h : Heap) (os ns qs ms : List ℕ) → length os ≤ length qs
    → ((i : ℕ) → i < length os → slice_index qs i ≡ slice_index os i) → ((i : ℕ) → i < length os → slice_index ms i ≡ slice_index ns i)
    → (f n x y : ℕ) → IsWay g h os ns f n x y → IsWay g h qs ms f n x y
way_more g h os ns qs ms more olds news zero n x y w = w
way_more g h os ns qs ms more olds news (suc j) n x y w =
    let a = sym (olds j w.0) in
    let b = sym (news j w.0) in (
      omega (arith, w.0, more),
      subst (λ q. n < (object_at g q).refs) a w.1,
      subst (λ q. n < (object_at h q).refs) b w.2,
      subst (λ q. word g (q + 1 + n) ≡ x) a w.3,
      subst (λ q. word h (q + 1 + n) ≡ y) b w.4,
    )

earlier_along : (f m k n p q r s : ℕ) → f ≡ p → m ≡ q → k ≡ r → n ≡ s → IsEarlier p q r s → IsEarlier f m k n
earlier_along f m k n p q r s e1 e2 e3 e4 (inl t) = inl (omega (arith, t, e1, e3))
earlier_along f m k n p q r s e1 e2 e3 e4 (inr t) = inr (omega (arith, t.0, e1, e3), omega (arith, t.1, e2, e4))

pub earlier_next : (p q r s : ℕ) → IsEarlier p q r s → IsEarlier p q r (s + 1)
earlier_next p q r s (inl t) = inl t
earlier_next p q r s (inr t) = inr (t.0, omega (arith, t.1))

pub linked_more : (w v : Walk) → HasGrown w v → (f n x y : ℕ) → IsLinked w f n x y → IsLinked v f n x y
linked_more w v grown f n x y (inl e) = inl e
linked_more w v grown f n x y (inr k) = inr (
  k.0,
  omega (arith, k.1, grown.more),
  k.2 ∙ ap suc (sym (grown.olds k.0 k.1)),
  k.3 ∙ ap suc (sym (grown.news k.0 k.1)),
  earlier_along _ _ f (n + 1) _ _ f (n + 1) (grown.froms k.0 k.1) (grown.numbers k.0 k.1) refl refl k.4,
)

-- what was found before a way is linked by it
pub linked_by : (w : Walk) (f n x y : ℕ) → IsBelow w f n → IsPaired w.before.items w.after.items x y → IsLinked w f n x y
linked_by w f n x y below (inl e) = inl e
linked_by w f n x y below (inr k) = inr (k.0, k.1, k.2, k.3, earlier_next (slice_index w.from.items k.0) (slice_index w.number.items k.0) f n (below k.0 k.1))

pub grown_same : (w : Walk) → HasGrown w w
grown_same w = record { more = omega arith; olds = λ i p. refl; news = λ i p. refl; froms = λ i p. refl; numbers = λ i p. refl }

pub grown_more : (w v u : Walk) → HasGrown w v → HasGrown v u → HasGrown w u
grown_more w v u a b = record {
  more = omega (arith, a.more, b.more);
  olds = λ i p. b.olds i (omega (arith, p, a.more)) ∙ a.olds i p;
  news = λ i p. b.news i (omega (arith, p, a.more)) ∙ a.news i p;
  froms = λ i p. b.froms i (omega (arith, p, a.more)) ∙ a.froms i p;
  numbers = λ i p. b.numbers i (omega (arith, p, a.more)) ∙ a.numbers i p;
}

-- the pairs of a walk are within its tables
pub before_within : {R : ℕ → ℕ → Type 0} (g h : Heap) (w : Walk) → IsValid g → IsWalkOf R g h w → (i : ℕ) → i < length w.before.items → slice_index w.before.items i < length w.new_of.items
before_within g h w valid walk i p = let o = object_in g (slice_index w.before.items i) valid (walk.names_before i p) in omega (arith, o.0, o.1, walk.table_before)

pub after_within : {R : ℕ → ℕ → Type 0} (g h : Heap) (w : Walk) → IsValid h → IsWalkOf R g h w → (i : ℕ) → i < length w.after.items → slice_index w.after.items i < length w.old_of.items
after_within g h w valid walk i p = let o = object_in h (slice_index w.after.items i) valid (walk.names_after i (omega (arith, p, walk.pairs))) in omega (arith, o.0, o.1, walk.table_after)

pub few_pairs : {R : ℕ → ℕ → Type 0} (g h : Heap) (w : Walk) → IsValid g → IsWalkOf R g h w → length w.before.items ≤ length g.words
few_pairs g h w valid walk = let k = index_few w.new_of.items w.before.items walk.index_before (before_within g h w valid walk) in omega (arith, k, walk.table_before)

-- so their places fit the tables
pub pairs_fit : {R : ℕ → ℕ → Type 0} (g h : Heap) (w : Walk) → IsValid g → IsWalkOf R g h w → length w.before.items ≤ most_words
pairs_fit g h w valid walk = let k = few_pairs g h w valid walk in omega (arith, k, valid.word_count, valid.limits.words_most)

pub record IsAdded (w v : Walk) (f n a b : ℕ) : Type 0 where
  pub before : v.before.items ≡ w.before.items ++ a ∷ []
  pub after : v.after.items ≡ w.after.items ++ b ∷ []
  pub from : v.from.items ≡ w.from.items ++ f ∷ []
  pub number : v.number.items ≡ w.number.items ++ n ∷ []
  pub new_of : v.new_of.items ≡ set w.new_of.items a (suc (length w.before.items))
  pub old_of : v.old_of.items ≡ set w.old_of.items b (suc (length w.before.items))

pub pushed_old : (xs ys : List ℕ) (x i : ℕ) → ys ≡ xs ++ x ∷ [] → i < length xs → slice_index ys i ≡ slice_index xs i
pushed_old xs ys x i e p = ap (λ l. slice_index l i) e ∙ get_or_append_left xs (x ∷ []) 0 i p

pub pushed_new : (xs ys : List ℕ) (x i : ℕ) → ys ≡ xs ++ x ∷ [] → i ≡ length xs → slice_index ys i ≡ x
pushed_new xs ys x i e p = ap (λ l. slice_index l i) e ∙ get_or_push xs x 0 i (sym p)

pub pushed_length : (xs ys : List ℕ) (x : ℕ) → ys ≡ xs ++ x ∷ [] → length ys ≡ length xs + 1
pushed_length xs ys x e = ap length e ∙ length_push xs x

module _ {R : ℕ → ℕ → Type 0} (g h : Heap) (w v : Walk) (f n a b : ℕ) (walk : IsWalkOf R g h w) (e : IsAdded w v f n a b) where
  len : length v.before.items ≡ length w.before.items + 1
  len = pushed_length w.before.items v.before.items a e.before

  pub added_grown : HasGrown w v
  added_grown = record {
    more = omega (arith, len);
    olds = λ i p. pushed_old w.before.items v.before.items a i e.before p;
    news = λ i p. pushed_old w.after.items v.after.items b i e.after (omega (arith, p, walk.pairs));
    froms = λ i p. pushed_old w.from.items v.from.items f i e.from (omega (arith, p, walk.froms));
    numbers = λ i p. pushed_old w.number.items v.number.items n i e.number (omega (arith, p, walk.numbers));
  }

  from_old : (i : ℕ) → i < length w.before.items → slice_index v.from.items i ≡ slice_index w.from.items i
  from_old i p = pushed_old w.from.items v.from.items f i e.from (omega (arith, p, walk.froms))

  number_old : (i : ℕ) → i < length w.before.items → slice_index v.number.items i ≡ slice_index w.number.items i
  number_old i p = pushed_old w.number.items v.number.items n i e.number (omega (arith, p, walk.numbers))

  before_new : (i : ℕ) → i ≡ length w.before.items → slice_index v.before.items i ≡ a
  before_new i q = pushed_new w.before.items v.before.items a i e.before q

  after_new : (i : ℕ) → i ≡ length w.before.items → slice_index v.after.items i ≡ b
  after_new i q = pushed_new w.after.items v.after.items b i e.after (q ∙ sym walk.pairs)

  from_new : (i : ℕ) → i ≡ length w.before.items → slice_index v.from.items i ≡ f
  from_new i q = pushed_new w.from.items v.from.items f i e.from (q ∙ sym walk.froms)

  number_new : (i : ℕ) → i ≡ length w.before.items → slice_index v.number.items i ≡ n
  number_new i q = pushed_new w.number.items v.number.items n i e.number (q ∙ sym walk.numbers)

  split : (i : ℕ) → i < length v.before.items → (i < length w.before.items) ⊎ (i ≡ length w.before.items)
  split i p = elim (cases_lt i (length w.before.items)) [ inl q ↦ inl q | inr q ↦ inr (omega (arith, p, q, len)) ]

  -- this way found what is new
  pub added_only : (i : ℕ) → length w.before.items ≤ i → i < length v.before.items → (slice_index v.from.items i ≡ f) × (slice_index v.number.items i ≡ n)
  added_only i ge lt = elim (split i lt) [ inl q ↦ absurd (omega (arith, ge, q)) | inr q ↦ (from_new i q, number_new i q) ]

  -- and it is alike, if the objects are
  pub added_alike : AreAlike g h a b → (i : ℕ) → length w.before.items ≤ i → i < length v.before.items → AreAlike g h (slice_index v.before.items i) (slice_index v.after.items i)
  added_alike alike i ge lt = elim (split i lt) [
    | inl q ↦ absurd (omega (arith, ge, q))
    | inr q ↦ subst (λ z. AreAlike g h z (slice_index v.after.items i)) (sym (before_new i q)) (subst (λ z. AreAlike g h a z) (sym (after_new i q)) alike)
  ]

  -- the two words now name a pair
  pub added_linked : IsLinked v f n (suc a) (suc b)
  added_linked =
      let l : ℕ = length w.before.items in
      inr (l, omega (arith, len), ap suc (sym (before_new l refl)), ap suc (sym (after_new l refl)), inr (from_new l refl, let k = number_new l refl in omega (arith, k)))

  pub added_below : IsBelow w f n → IsBelow v f (n + 1)
  added_below below i p = elim (split i p) [
    | inl q ↦ earlier_along _ _ f (n + 1) _ _ f (n + 1) (from_old i q) (number_old i q) refl refl (earlier_next _ _ f n (below i q))
    | inr q ↦ inr (from_new i q, let k = number_new i q in omega (arith, k))
  ]

  module _ (x_in : Contains (objects g) (object_at g a)) (y_in : Contains (objects h) (object_at h b)) (alike : R a b)
      (a_lt : a < length w.new_of.items) (b_lt : b < length w.old_of.items)
      (a_new : slice_index w.new_of.items a ≡ 0) (b_new : slice_index w.old_of.items b ≡ 0)
      (way : IsWay g h w.before.items w.after.items f n (suc a) (suc b)) (back : f ≤ length w.before.items) (below : IsBelow w f n) where
    added_ways : (i : ℕ) → i < length v.before.items
        → IsWay g h v.before.items v.after.items (slice_index v.from.items i) (slice_index v.number.items i) (suc (slice_index v.before.items i)) (suc (slice_index v.after.items i))
    added_ways i p =
        let more = added_grown.more in
        elim (split i p) [
          | inl q ↦
              let old = way_more g h w.before.items w.after.items v.before.items v.after.items more added_grown.olds added_grown.news
              (slice_index w.from.items i) (slice_index w.number.items i) (suc (slice_index w.before.items i)) (suc (slice_index w.after.items i)) (walk.ways i q) in
              same_way g h v.before.items v.after.items _ _ _ _ _ _ _ _ (sym (from_old i q)) (sym (number_old i q)) (ap suc (sym (added_grown.olds i q))) (ap suc (sym (added_grown.news i q))) old
          | inr q ↦
              let new = way_more g h w.before.items w.after.items v.before.items v.after.items more added_grown.olds added_grown.news f n (suc a) (suc b) way in
              same_way g h v.before.items v.after.items _ _ _ _ _ _ _ _ (sym (from_new i q)) (sym (number_new i q)) (ap suc (sym (before_new i q))) (ap suc (sym (after_new i q))) new
        ]
      where
        same_way : (g h : Heap) (os ns : List ℕ) (f f' n n' x x' y y' : ℕ) → f ≡ f' → n ≡ n' → x ≡ x' → y ≡ y' → IsWay g h os ns f n x y → IsWay g h os ns f' n' x' y'
        same_way g h os ns f f' n n' x x' y y' p q r s w =
            subst (λ z. IsWay g h os ns z n' x' y') p (subst (λ z. IsWay g h os ns f z x' y') q (subst (λ z. IsWay g h os ns f n z y') r (subst (λ z. IsWay g h os ns f n x z) s w)))

    added_rising : (i j : ℕ) → i < j → j < length v.before.items
        → IsEarlier (slice_index v.from.items i) (slice_index v.number.items i) (slice_index v.from.items j) (slice_index v.number.items j)
    added_rising i j lt p = elim (split j p) [
      | inl q ↦ let r : i < length w.before.items = omega (arith, lt, q) in
          earlier_along _ _ _ _ _ _ _ _ (from_old i r) (number_old i r) (from_old j q) (number_old j q) (walk.rising i j lt q)
      | inr q ↦ let r : i < length w.before.items = omega (arith, lt, q) in
          earlier_along _ _ _ _ _ _ _ _ (from_old i r) (number_old i r) (from_new j q) (number_new j q) (below i r)
    ]

    pub added_walk : IsWalkOf R g h v
    added_walk = record {
      table_before = ap length e.new_of ∙ length-set w.new_of.items a (suc (length w.before.items)) ∙ walk.table_before;
      table_after = ap length e.old_of ∙ length-set w.old_of.items b (suc (length w.before.items)) ∙ walk.table_after;
      index_before = subst (λ t. IsIndex t v.before.items) (sym e.new_of) (subst (λ l. IsIndex (set w.new_of.items a (suc (length w.before.items))) l)
          (sym e.before) (index_more w.new_of.items w.before.items walk.index_before a a_lt a_new));
      index_after = subst (λ t. IsIndex t v.after.items) (sym e.old_of) (subst (λ l. IsIndex (set w.old_of.items b (suc (length w.before.items))) l) (sym e.after)
          (subst (λ m. IsIndex (set w.old_of.items b (suc m)) (w.after.items ++ b ∷ [])) walk.pairs (index_more w.old_of.items w.after.items walk.index_after b b_lt b_new)));
      pairs = pushed_length w.after.items v.after.items b e.after ∙ ap (λ m. m + 1) walk.pairs ∙ sym len;
      froms = pushed_length w.from.items v.from.items f e.from ∙ ap (λ m. m + 1) walk.froms ∙ sym len;
      numbers = pushed_length w.number.items v.number.items n e.number ∙ ap (λ m. m + 1) walk.numbers ∙ sym len;
      names_before = λ i p. elim (split i p) [
        | inl q ↦ subst (λ z. Contains (objects g) (object_at g z)) (sym (added_grown.olds i q)) (walk.names_before i q)
        | inr q ↦ subst (λ z. Contains (objects g) (object_at g z)) (sym (before_new i q)) x_in
      ];
      names_after = λ i p. elim (split i p) [
        | inl q ↦ subst (λ z. Contains (objects h) (object_at h z)) (sym (added_grown.news i q)) (walk.names_after i q)
        | inr q ↦ subst (λ z. Contains (objects h) (object_at h z)) (sym (after_new i q)) y_in
      ];
      alike = λ i p. elim (split i p) [
        | inl q ↦ subst (λ z. R z (slice_index v.after.items i)) (sym (added_grown.olds i q))
            (subst (λ z. R (slice_index w.before.items i) z) (sym (added_grown.news i q)) (walk.alike i q))
        | inr q ↦ subst (λ z. R z (slice_index v.after.items i)) (sym (before_new i q)) (subst (λ z. R a z) (sym (after_new i q)) alike)
      ];
      backward = λ i p. elim (split i p) [
        | inl q ↦ subst (λ z. z ≤ i) (sym (from_old i q)) (walk.backward i q)
        | inr q ↦ let k = from_new i q in omega (arith, k, q, back)
      ];
      ways = added_ways;
      rising = added_rising;
    }
