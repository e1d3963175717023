-- A walk to which a pair is added is a walk.
use Rattle.std.proofs.Common.{◌≡◌, ℕ, suc, ◌+◌, ◌<◌, ◌≤◌, ◌++◌, ◌⊎◌, inl, inr, List, [], ◌∷◌, length, set, Contains, IsTrue, refl, sym, ap, subst, ◌∙◌, arith, slice_index, Bool}
use Rattle.std.proofs.lemmas.Bool.{cases_lt}
use Rattle.std.proofs.lemmas.List.{length-set}
use Rattle.g1_words.specs.Geometry.{most_words}
use Rattle.g1_words.specs.Heap.{Heap, object_at, objects}
use Rattle.g1_words.specs.Survivors.{in_set}
use Rattle.g1_words.specs.Valid.{IsValid}
use Rattle.g1_words.proofs.Sound.{object_in}
use Rattle.g1_same.specs.Walk.{IsIndex}
use Rattle.g1_same.proofs.Adding.{pushed_length, pushed_new, pushed_old}
use Rattle.g1_same.proofs.Tables.{index_more, index_few}
use Rattle.g1_kept.specs.declared.pairs.Pairs.{Pairs}
use Rattle.g1_kept.specs.Keeps.{MayHoldCopy}
use Rattle.g1_kept.specs.Lost.{Match}
use Rattle.g1_kept.specs.Walk.{IsPairWalk, HasMorePairs, ArePaired}

-- the pairs of a walk are within its tables
pub before_within : (fill : Bool) (chosen : List ℕ) (g h : Heap) (w : Pairs) → IsValid g → IsPairWalk fill chosen g h w
    → (i : ℕ) → i < length w.before.items → slice_index w.before.items i < length w.new_of.items
before_within fill chosen g h w valid walk i p = let o = object_in g (slice_index w.before.items i) valid (walk.names_before i p) in omega (arith, o.0, o.1, walk.table_before)

pub after_within : (fill : Bool) (chosen : List ℕ) (g h : Heap) (w : Pairs) → IsValid h → IsPairWalk fill chosen g h w
    → (i : ℕ) → i < length w.after.items → slice_index w.after.items i < length w.old_of.items
after_within fill chosen g h w valid walk i p = let o = object_in h (slice_index w.after.items i) valid (walk.names_after i (omega (arith, p, walk.pairs))) in omega (arith, o.0, o.1, walk.table_after)

pub few_pairs : (fill : Bool) (chosen : List ℕ) (g h : Heap) (w : Pairs) → IsValid g → IsPairWalk fill chosen g h w → length w.before.items ≤ length g.words
few_pairs fill chosen g h w valid walk = let k = index_few w.new_of.items w.before.items walk.index_before (before_within fill chosen g h w valid walk) in omega (arith, k, walk.table_before)

-- so their places fit the tables
pub pairs_fit : (fill : Bool) (chosen : List ℕ) (g h : Heap) (w : Pairs) → IsValid g → IsPairWalk fill chosen g h w → length w.before.items ≤ most_words
pairs_fit fill chosen g h w valid walk = let k = few_pairs fill chosen g h w valid walk in omega (arith, k, valid.word_count, valid.limits.words_most)

pub record IsAdded (w v : Pairs) (a b : ℕ) : Type 0 where
  pub before : v.before.items ≡ w.before.items ++ a ∷ []
  pub after : v.after.items ≡ w.after.items ++ b ∷ []
  pub new_of : v.new_of.items ≡ set w.new_of.items a (suc (length w.before.items))
  pub old_of : v.old_of.items ≡ set w.old_of.items b (suc (length w.before.items))

module _ (fill : Bool) (chosen : List ℕ) (g h : Heap) (w v : Pairs) (a b : ℕ) (walk : IsPairWalk fill chosen g h w) (e : IsAdded w v a b) where
  len : length v.before.items ≡ length w.before.items + 1
  len = pushed_length w.before.items v.before.items a e.before

  pub added_grown : HasMorePairs w v
  added_grown = record {
    more = omega (arith, len);
    olds = λ i p. pushed_old w.before.items v.before.items a i e.before p;
    news = λ i p. pushed_old w.after.items v.after.items b i e.after (omega (arith, p, walk.pairs));
  }

  before_new : (i : ℕ) → i ≡ length w.before.items → slice_index v.before.items i ≡ a
  before_new i q = pushed_new w.before.items v.before.items a i e.before q

  after_new : (i : ℕ) → i ≡ length w.before.items → slice_index v.after.items i ≡ b
  after_new i q = pushed_new w.after.items v.after.items b i e.after (q ∙ sym walk.pairs)

  split : (i : ℕ) → i < length v.before.items → (i < length w.before.items) ⊎ (i ≡ length w.before.items)
  split i p = elim (cases_lt i (length w.before.items)) [ inl q ↦ inl q | inr q ↦ inr (omega (arith, p, q, len)) ]

  -- the two words now reference a pair
  pub added_paired : ArePaired chosen g v (suc a) (suc b)
  added_paired =
      let l : ℕ = length w.before.items in
      inr (l, omega (arith, len), ap suc (sym (before_new l refl)), ap suc (sym (after_new l refl)))

  -- what holds of the old pairs and of the new one holds of all
  all_pairs : (P : ℕ → ℕ → Type 0) → ((i : ℕ) → i < length w.before.items → P (slice_index w.before.items i) (slice_index w.after.items i)) → P a b
      → (i : ℕ) → i < length v.before.items → P (slice_index v.before.items i) (slice_index v.after.items i)
  all_pairs P old new i p = elim (split i p) [
    | inl q ↦ subst (λ z. P z (slice_index v.after.items i)) (sym (added_grown.olds i q)) (subst (λ z. P (slice_index w.before.items i) z) (sym (added_grown.news i q)) (old i q))
    | inr q ↦ subst (λ z. P z (slice_index v.after.items i)) (sym (before_new i q)) (subst (λ z. P a z) (sym (after_new i q)) new)
  ]

  module _ (x_in : Contains (objects g) (object_at g a)) (y_in : Contains (objects h) (object_at h b))
      (of_set : IsTrue (in_set g chosen a)) (room : MayHoldCopy fill g b) (matched : Match chosen g h a b)
      (a_lt : a < length w.new_of.items) (b_lt : b < length w.old_of.items)
      (a_new : slice_index w.new_of.items a ≡ 0) (b_new : slice_index w.old_of.items b ≡ 0) where
    pub added_walk : IsPairWalk fill chosen g h v
    added_walk = record {
      table_before = ap length e.new_of ∙ length-set w.new_of.items a (suc (length w.before.items)) ∙ walk.table_before;
      table_after = ap length e.old_of ∙ length-set w.old_of.items b (suc (length w.before.items)) ∙ walk.table_after;
      index_before = subst (λ t. IsIndex t v.before.items) (sym e.new_of) (subst (λ l. IsIndex (set w.new_of.items a (suc (length w.before.items))) l)
          (sym e.before) (index_more w.new_of.items w.before.items walk.index_before a a_lt a_new));
      index_after = subst (λ t. IsIndex t v.after.items) (sym e.old_of) (subst (λ l. IsIndex (set w.old_of.items b (suc (length w.before.items))) l) (sym e.after)
          (subst (λ m. IsIndex (set w.old_of.items b (suc m)) (w.after.items ++ b ∷ [])) walk.pairs (index_more w.old_of.items w.after.items walk.index_after b b_lt b_new)));
      pairs = pushed_length w.after.items v.after.items b e.after ∙ ap (λ m. m + 1) walk.pairs ∙ sym len;
      names_before = all_pairs (λ x y. Contains (objects g) (object_at g x)) walk.names_before x_in;
      names_after = all_pairs (λ x y. Contains (objects h) (object_at h y)) walk.names_after y_in;
      of_set = all_pairs (λ x y. IsTrue (in_set g chosen x)) walk.of_set of_set;
      room = all_pairs (λ x y. MayHoldCopy fill g y) walk.room room;
      matched = all_pairs (Match chosen g h) walk.matched matched;
    }
