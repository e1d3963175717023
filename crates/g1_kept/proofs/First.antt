-- The first loss, and that there is one at most.
use Rattle.std.proofs.Common.{◌≡◌, ◌≢◌, ℕ, ◌<◌, ◌⊎◌, inl, inr, List, length, IsTrue, IsFalse, refl, sym, subst, ◌∙◌, arith, Bool}
use Rattle.std.proofs.lemmas.Bool.{cases_lt, false≢true}
use native.Mathlib.Decide.{ℕ_discrete}
use Rattle.g1_words.specs.Lists.{has}
use Rattle.g1_words.specs.Heap.{Heap, kind, pinned}
use Rattle.g1_words.specs.Valid.{IsValid}
use Rattle.g1_kept.specs.declared.lost.Lost.{Lost}
use Rattle.g1_kept.specs.declared.lost.Lost.TheVariants as lost
use Rattle.g1_kept.specs.Keeps.{IsAsItWas, KeepsRegion, KeepsTable}
use Rattle.g1_kept.specs.Lost.{HasOtherTop, IsUsedOutside, IsLoss}
use Rattle.g1_kept.specs.Order.{KeepsBefore, IsEarliestLoss, IsMetFirst}
use Rattle.g1_kept.specs.Laws.{OneLoss}
use Rattle.g1_kept.proofs.OneLoss.{one_met}
use Rattle.g1_kept.proofs.Regions.{other_top}

-- what is lost of a region
data AtRegion (fill : Bool) (set : List ℕ) (g h : Heap) (l : Lost) (r : ℕ) : Type 0 where
  for_set : l ≡ lost.Set r → IsTrue (has set r) → AtRegion fill set g h l r
  for_table : l ≡ lost.Region r → IsFalse (has set r) → (kind h r ≢ kind g r) ⊎ HasOtherTop fill g h r → AtRegion fill set g h l r
  for_unpinned : l ≡ lost.Unpinned r → IsFalse (has set r) → kind h r ≡ kind g r → (HasOtherTop fill g h r → ⊥) → IsTrue (pinned g r) → AtRegion fill set g h l r
  for_pinned : l ≡ lost.Pinned r → IsFalse (has set r) → kind h r ≡ kind g r → (HasOtherTop fill g h r → ⊥) → IsFalse (pinned g r) → AtRegion fill set g h l r

module _ (fill : Bool) (set : List ℕ) (g h : Heap) (left : IsValid g) (right : IsValid h) where
  both : (r : ℕ) → kind h r ≡ kind g r → (HasOtherTop fill g h r → ⊥) → (kind h r ≢ kind g r) ⊎ HasOtherTop fill g h r → ⊥
  both r k t (inl d) = d k
  both r k t (inr d) = t d

  -- one region has one loss
  same_region : (l m : Lost) (r : ℕ) → AtRegion fill set g h l r → AtRegion fill set g h m r → l ≡ m
  same_region l m r (for_set e t) (for_set f u) = e ∙ sym f
  same_region l m r (for_set e t) (for_table f u d) = absurd (false≢true (sym u ∙ t))
  same_region l m r (for_set e t) (for_unpinned f u a b p) = absurd (false≢true (sym u ∙ t))
  same_region l m r (for_set e t) (for_pinned f u a b p) = absurd (false≢true (sym u ∙ t))
  same_region l m r (for_table e t d) (for_set f u) = absurd (false≢true (sym t ∙ u))
  same_region l m r (for_table e t d) (for_table f u d') = e ∙ sym f
  same_region l m r (for_table e t d) (for_unpinned f u a b p) = absurd (both r a b d)
  same_region l m r (for_table e t d) (for_pinned f u a b p) = absurd (both r a b d)
  same_region l m r (for_unpinned e t a b p) (for_set f u) = absurd (false≢true (sym t ∙ u))
  same_region l m r (for_unpinned e t a b p) (for_table f u d) = absurd (both r a b d)
  same_region l m r (for_unpinned e t a b p) (for_unpinned f u a' b' p') = e ∙ sym f
  same_region l m r (for_unpinned e t a b p) (for_pinned f u a' b' p') = absurd (false≢true (sym p' ∙ p))
  same_region l m r (for_pinned e t a b p) (for_set f u) = absurd (false≢true (sym t ∙ u))
  same_region l m r (for_pinned e t a b p) (for_table f u d) = absurd (both r a b d)
  same_region l m r (for_pinned e t a b p) (for_unpinned f u a' b' p') = absurd (false≢true (sym p ∙ p'))
  same_region l m r (for_pinned e t a b p) (for_pinned f u a' b' p') = e ∙ sym f

  as_it_was : (r : ℕ) → IsUsedOutside set g r → kind h r ≡ kind g r → KeepsRegion fill set g h r → IsAsItWas fill g h r
  as_it_was r out same k = elim (k.other out.outside) [
    | inl e ↦ absurd (out.used e)
    | inr s ↦ elim s [ inl f ↦ absurd (out.used (sym same ∙ f.1)) | inr was ↦ was ]
  ]

  -- a region of which something is lost is not as it has to be
  not_set : (r : ℕ) → IsLoss fill set g h (lost.Set r) → KeepsRegion fill set g h r → ⊥
  not_set r c k = c.2 (k.of_set c.1)

  not_region : (r : ℕ) → h.geometry ≡ g.geometry → IsLoss fill set g h (lost.Region r) → KeepsRegion fill set g h r → ⊥
  not_region r same_sizes c k = elim (k.other c.0.outside) [
    | inl e ↦ c.0.used e
    | inr s ↦ elim s [
      | inl f ↦ c.1 f
      | inr was ↦ elim c.2 [ inl d ↦ d was.same_kind | inr d ↦ other_top fill g h r was d ]
    ]
  ]

  not_unpinned : (r : ℕ) → IsLoss fill set g h (lost.Unpinned r) → KeepsRegion fill set g h r → ⊥
  not_unpinned r c k = let was = as_it_was r c.0 c.1 k in false≢true (sym c.4 ∙ was.same_pin ∙ c.3)

  not_pinned : (r : ℕ) → IsLoss fill set g h (lost.Pinned r) → KeepsRegion fill set g h r → ⊥
  not_pinned r c k = let was = as_it_was r c.0 c.1 k in false≢true (sym c.3 ∙ sym was.same_pin ∙ c.4)

  -- what is met first when the tables and the number of roots are as they have to be is the first loss
  pub later : (l : Lost) → KeepsTable fill set g h → length h.roots ≡ length g.roots → IsLoss fill set g h l → IsMetFirst fill set g h l → IsEarliestLoss fill set g h l
  later lost.Sizes t n c m = tt
  later lost.Roots t n c m = t
  later (lost.Set r) t n c m = absurd (not_set r c (t.regions r c.0))
  later (lost.Region r) t n c m = absurd (not_region r t.geometry c (t.regions r c.0.in_heap))
  later (lost.Unpinned r) t n c m = absurd (not_unpinned r c (t.regions r c.0.in_heap))
  later (lost.Pinned r) t n c m = absurd (not_pinned r c (t.regions r c.0.in_heap))
  later (lost.Copy a b) t n c m = (t, n, m)
  later (lost.Header a b) t n c m = (t, n, m)
  later (lost.Data a b k) t n c m = (t, n, m)
  later (lost.Slot a b k) t n c m = (t, n, m)
  later (lost.Root k) t n c m = (t, n, m)

  -- where the first loss is
  data Stage (l : Lost) : Type 0 where
    sizes : l ≡ lost.Sizes → h.geometry ≢ g.geometry → Stage l
    region : (r : ℕ) → r < g.geometry.n → AtRegion fill set g h l r → KeepsBefore fill set g h r → (KeepsRegion fill set g h r → ⊥) → Stage l
    roots : l ≡ lost.Roots → KeepsTable fill set g h → length h.roots ≢ length g.roots → Stage l
    words : KeepsTable fill set g h → length h.roots ≡ length g.roots → IsMetFirst fill set g h l → Stage l

  stage : (l : Lost) → IsLoss fill set g h l → IsEarliestLoss fill set g h l → Stage l
  stage lost.Sizes c e = sizes refl c
  stage lost.Roots c e = roots refl e c
  stage (lost.Set r) c e = region r c.0 (for_set refl c.1) e (not_set r c)
  stage (lost.Region r) c e = region r c.0.in_heap (for_table refl c.0.outside c.2) e (not_region r e.0 c)
  stage (lost.Unpinned r) c e = region r c.0.in_heap (for_unpinned refl c.0.outside c.1 c.2 c.3) e (not_unpinned r c)
  stage (lost.Pinned r) c e = region r c.0.in_heap (for_pinned refl c.0.outside c.1 c.2 c.3) e (not_pinned r c)
  stage (lost.Copy a b) c e = words e.0 e.1 e.2
  stage (lost.Header a b) c e = words e.0 e.1 e.2
  stage (lost.Data a b k) c e = words e.0 e.1 e.2
  stage (lost.Slot a b k) c e = words e.0 e.1 e.2
  stage (lost.Root k) c e = words e.0 e.1 e.2

  one : (l m : Lost) → Stage l → Stage m → l ≡ m
  one l m (words t n a) (sizes f d) = absurd (d t.geometry)
  one l m (words t n a) (region r lt at b not) = absurd (not (t.regions r lt))
  one l m (words t n a) (roots f t' n') = absurd (n' n)
  one l m (words t n a) (words t' n' b) = one_met fill set g h l m a b
  one l m (sizes e d) (sizes f d') = e ∙ sym f
  one l m (sizes e d) (region r lt at b not) = absurd (d b.0)
  one l m (sizes e d) (roots f t n) = absurd (d t.geometry)
  one l m (sizes e d) (words t n a) = absurd (d t.geometry)
  one l m (region r lt at b not) (sizes f d) = absurd (d b.0)
  one l m (region r lt at b not) (roots f t n) = absurd (not (t.regions r lt))
  one l m (region r lt at b not) (words t n a) = absurd (not (t.regions r lt))
  one l m (region r lt at b not) (region q lt' at' b' not') = elim (cases_lt r q) [
    | inl below ↦ absurd (not (b'.1 r below))
    | inr le ↦ elim (ℕ_discrete r q) [
      | yes e ↦ same_region l m q (subst (AtRegion fill set g h l) e at) at'
      | no d ↦ absurd (not' (b.1 q (omega (arith, le, d))))
    ]
  ]
  one l m (roots e t n) (sizes f d) = absurd (d t.geometry)
  one l m (roots e t n) (region r lt at b not) = absurd (not (t.regions r lt))
  one l m (roots e t n) (roots f t' n') = e ∙ sym f
  one l m (roots e t n) (words t' n' a) = absurd (n n')

pub one_loss : OneLoss
one_loss fill set g h l m left right lost first lost' first' = one fill set g h left right l m (stage fill set g h left right l lost first) (stage fill set g h left right m lost' first')
