-- Cards in chunks: their patches, chunk after chunk.
use Rattle.std.proofs.Common.{◌≡◌, ℕ, ◌+◌, ◌*◌, List, ◌++◌, take, drop, ap, subst, ◌∙◌}
use Rattle.std.specs.Prelude.{Result, Ok, Err, IfOk}
use Rattle.std.specs.Global.{Vec}
use Rattle.g1_words.specs.Heap.{Heap}
use Rattle.g1_work.proofs.Chunks.{given_more}
use Rattle.g1_copy.specs.Patches.{patches_by_card}

module _ (h : Heap) (l cards : List ℕ) (size : ℕ) where
  -- the patches of the first n chunks, and of the next one
  pub shared_more : (n : ℕ) (made part all : List (ℕ × ℕ)) → made ≡ patches_by_card h l (take (n * size) cards) → part ≡ patches_by_card h l (take size (drop (n * size) cards))
      → all ≡ made ++ part → all ≡ patches_by_card h l (take ((n + 1) * size) cards)
  shared_more n made part all e f g = g ∙ (λ i. e i ++ f i) ∙ given_more cards size _ n

  -- the patches of a chunk that a thread made
  pub shared_part : {E : Type 0} (r : Result (Vec (ℕ × ℕ)) E) (v : Vec (ℕ × ℕ)) (part next : List ℕ) → r ≡ Ok v → IfOk r (λ x. x.items ≡ patches_by_card h l part) → part ≡ next
      → v.items ≡ patches_by_card h l next
  shared_part (Ok x) v part next is made e = let same : x ≡ v = cc in subst (λ y. y.items ≡ patches_by_card h l next) same (made ∙ ap (patches_by_card h l) e)
  shared_part (Err x) v part next is made e = let clash : Err x ≡ Ok v = is in absurd cc
