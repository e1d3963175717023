-- How the walk takes the search on.
use Rattle.std.proofs.Common.{◌≡◌, ℕ, suc, ◌+◌, ◌++◌, ◌∷◌, [], ◌<◌, ◌∙◌, inl, inr, List, IsTrue, refl, sym, subst, arith, Bool}
use Rattle.g1_words.specs.Heap.{Heap, word, object_at}
use Rattle.g1_words.specs.Survivors.{in_set}
use Rattle.g1_same.specs.Walk.{AreAlike, IsNew}
use Rattle.g1_kept.specs.declared.lost.Lost.{Lost}
use Rattle.g1_kept.specs.declared.lost.Lost.TheVariants as lost
use Rattle.g1_kept.specs.declared.pairs.Pairs.{Pairs}
use Rattle.g1_kept.specs.Keeps.{MayHoldCopy}
use Rattle.g1_kept.specs.Lost.{IsLoss}
use Rattle.g1_kept.specs.Order.{IsSearch, Clash, IsLostAt}
use Rattle.g1_kept.specs.Walk.{HasMorePairs, ArePaired, HasTurn, HasWords, PassesWords, StopsAtWords, PassesObjects, StopsAtObjects, IsFirstOfObjects}
use Rattle.g1_kept.proofs.Adding.{IsAdded}
use Rattle.g1_kept.proofs.Search.{words_on, added_search, contents_on}

module _ (fill : Bool) (set : List ℕ) (g h : Heap) (w : Pairs) where
  -- ---- two words

  pub passes_same : (x y : ℕ) → ArePaired set g w x y → PassesWords fill set g h w w x y
  passes_same x y paired f n s at = words_on fill set g h w.before.items w.after.items f n s x y at paired

  pub passes_new : (v : Pairs) (a b : ℕ) → IsAdded w v a b → IsTrue (in_set g set a) → MayHoldCopy fill g b → IsNew w.before.items a → IsNew w.after.items b
      → PassesWords fill set g h w v (suc a) (suc b)
  passes_new v a b e of_set room new_old new_new f n s at =
      subst (λ l. IsSearch fill set g h l v.after.items f (n + 1)) (sym e.before)
      (subst (λ l. IsSearch fill set g h (w.before.items ++ a ∷ []) l f (n + 1)) (sym e.after) (added_search fill set g h w.before.items w.after.items f n s a b at of_set room new_old new_new))

  pub stops_differ : (x y : ℕ) (other : Lost) → Clash set g w.before.items w.after.items x y → StopsAtWords fill set g h w x y other other
  stops_differ x y other clash f n s at lost = record {
    olds = w.before.items;
    news = w.after.items;
    from = f;
    number = n;
    search = s;
    here = lost clash;
  }

  pub stops_occupied : (a b : ℕ) (other : Lost) → IsTrue (in_set g set a) → (MayHoldCopy fill g b → ⊥) → IsNew w.before.items a → IsNew w.after.items b
      → StopsAtWords fill set g h w (suc a) (suc b) other (lost.Copy a b)
  stops_occupied a b other of_set room new_old new_new f n s at lost = record {
    olds = w.before.items;
    news = w.after.items;
    from = f;
    number = n;
    search = s;
    here = (at, of_set, new_old, new_new, room);
  }

  -- ---- two objects

  pub turn_more : (v : Pairs) (t a b : ℕ) → HasMorePairs w v → HasTurn set g h w t a b → HasTurn set g h v t a b
  turn_more v t a b grown (inl o) = inl o
  turn_more v t a b grown (inr o) = inr (o.0, omega (arith, o.1, grown.more), o.2, o.3 ∙ sym (grown.olds o.0 o.1), o.4 ∙ sym (grown.news o.0 o.1))

  -- the words of a slot of the objects of a turn
  pub words_at : (t a b n x y : ℕ) → HasTurn set g h w t a b → n < (object_at g a).refs → n < (object_at h b).refs → word g (a + 1 + n) ≡ x → word h (b + 1 + n) ≡ y
      → HasWords set g h w (suc t) (n + 1) x y
  words_at t a b n x y turn lt lt' ex ey = let one : suc n ≡ n + 1 = omega arith in subst (λ z. HasWords set g h w (suc t) z x y) one (a, b, turn, lt, lt', ex, ey)

  pub passes_contents : (v : Pairs) (a b : ℕ) → AreAlike g h a b → PassesObjects fill set g h w v a b 1 → PassesObjects fill set g h w v a b 0
  passes_contents v a b alike passes t s turn = passes t (contents_on fill set g h w.before.items w.after.items t a b s turn alike) turn

  pub stops_later : (a b : ℕ) (l : Lost) → AreAlike g h a b → StopsAtObjects fill set g h w a b 1 l → StopsAtObjects fill set g h w a b 0 l
  stops_later a b l alike stops t s turn = stops t (contents_on fill set g h w.before.items w.after.items t a b s turn alike) turn

  -- what is lost of headers or data words is lost at the turn of the objects
  lost_here : (a b t : ℕ) (l : Lost) → IsLoss fill set g h l → IsFirstOfObjects g h a b l → HasTurn set g h w t a b → IsLostAt fill set g h w.before.items w.after.items (suc t) 0 l
  lost_here a b t (lost.Header c d) loss first turn =
      (t, refl, refl, subst (λ z. HasTurn set g h w t z d) (sym first.0) (subst (λ z. HasTurn set g h w t a z) (sym first.1) turn), loss.1)
  lost_here a b t (lost.Data c d k) loss first turn = (
    t,
    refl,
    refl,
    subst (λ z. HasTurn set g h w t z d) (sym first.0) (subst (λ z. HasTurn set g h w t a z) (sym first.1) turn),
    loss.2,
    loss.1,
    loss.3,
    first.2,
  )
  lost_here a b t lost.Sizes loss first turn = absurd first
  lost_here a b t lost.Roots loss first turn = absurd first
  lost_here a b t (lost.Set r) loss first turn = absurd first
  lost_here a b t (lost.Region r) loss first turn = absurd first
  lost_here a b t (lost.Unpinned r) loss first turn = absurd first
  lost_here a b t (lost.Pinned r) loss first turn = absurd first
  lost_here a b t (lost.Copy c d) loss first turn = absurd first
  lost_here a b t (lost.Slot c d k) loss first turn = absurd first
  lost_here a b t (lost.Root k) loss first turn = absurd first

  pub stops_contents : (a b : ℕ) (l : Lost) → IsLoss fill set g h l → IsFirstOfObjects g h a b l → StopsAtObjects fill set g h w a b 0 l
  stops_contents a b l loss first t s turn = record {
    olds = w.before.items;
    news = w.after.items;
    from = suc t;
    number = 0;
    search = s;
    here = lost_here a b t l loss first turn;
  }
