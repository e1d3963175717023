-- An image whose heap has null in its stale words.
use Rattle.std.proofs.Common.{◌≡◌, ℕ, List, length, get_or}
use Rattle.g1_words.specs.Heap.{Heap}
use Rattle.g1_words.specs.Valid.{IsValid}
use Rattle.g1_image.specs.Image.{IsUsedCard, IsRememberedSet, IsLog, IsImage}
use Rattle.g1_image.specs.Faults.{SetsAreGood}
use Rattle.g1_image.specs.Stale.{without}

module _ (h : Heap) (roots slots : List (ℕ × ℕ)) where
  used_kept : (c : ℕ) → IsUsedCard h c → IsUsedCard (without h roots slots) c
  used_kept c u = record { in_heap = u.in_heap; used = u.used }

  set_kept : (r : ℕ) (cards : List ℕ) → IsRememberedSet h r cards → IsRememberedSet (without h roots slots) r cards
  set_kept r cards s = record {
    rising = s.rising;
    elsewhere = λ k d lt. let e = s.elsewhere k d lt in (used_kept (get_or cards k d) e.0, e.1);
    count = s.count;
    owner = s.owner;
  }

  log_kept : (cards : List ℕ) → IsLog h cards → IsLog (without h roots slots) cards
  log_kept cards l = record { used = λ k d lt. used_kept (get_or cards k d) (l.used k d lt); distinct = l.distinct; count = l.count }

  -- the cards may stay, since they depend on the regions alone
  pub image_kept : (remembered : List (List ℕ)) (log : List ℕ) → IsValid (without h roots slots) → length remembered ≡ h.geometry.n → SetsAreGood h remembered → IsLog h log
      → IsImage (record { heap = without h roots slots; remembered = remembered; log = log })
  image_kept remembered log valid count sets logged = record {
    heap = valid;
    one_each = count;
    remembered = λ r lt. set_kept r _ (sets r lt);
    log = log_kept log logged;
  }
