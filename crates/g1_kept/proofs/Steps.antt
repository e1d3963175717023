-- What the loops of the walk read.
use Rattle.std.proofs.Common.{◌≡◌, ℕ, ◌*◌, ◌<◌, List, length, Contains, sym, ap, subst, ◌∙◌, slice_index, Bool}
use Rattle.g1_words.specs.Heap.{Heap, object_at, objects}
use Rattle.g1_words.specs.Valid.{IsValid}
use Rattle.g1_kept.specs.declared.pairs.Pairs.{Pairs}
use Rattle.g1_kept.specs.Lost.{Match}
use Rattle.g1_kept.specs.Keeps.{KeepsTable}
use Rattle.g1_kept.specs.Walk.{IsPairWalk}

-- two valid heaps of the same sizes have as many words
pub as_many_words : (fill : Bool) (set : List ℕ) (g h : Heap) → IsValid g → IsValid h → KeepsTable fill set g h → length h.words ≡ length g.words
as_many_words fill set g h left right table = right.word_count ∙ ap (λ s. s.n * s.w) table.geometry ∙ sym left.word_count

-- the pair at a place is of these two objects
pub record IsPair (set : List ℕ) (g h : Heap) (w : Pairs) (i a b : ℕ) : Type 0 where
  pub before : slice_index w.before.items i ≡ a
  pub after : slice_index w.after.items i ≡ b
  pub before_in : Contains (objects g) (object_at g a)
  pub after_in : Contains (objects h) (object_at h b)
  pub matched : Match set g h a b

pub pair_read : (fill : Bool) (set : List ℕ) (g h : Heap) (w : Pairs) (i a b : ℕ) → IsPairWalk fill set g h w → i < length w.before.items
    → a ≡ slice_index w.before.items i → b ≡ slice_index w.after.items i → IsPair set g h w i a b
pair_read fill set g h w i a b walk lt a_is b_is = record {
  before = sym a_is;
  after = sym b_is;
  before_in = subst (λ z. Contains (objects g) (object_at g z)) (sym a_is) (walk.names_before i lt);
  after_in = subst (λ z. Contains (objects h) (object_at h z)) (sym b_is) (walk.names_after i lt);
  matched = subst (λ z. Match set g h z b) (sym a_is) (subst (λ z. Match set g h (slice_index w.before.items i) z) (sym b_is) (walk.matched i lt));
}
