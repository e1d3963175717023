-- The set of a choice, by what its steps go by.
use Rattle.std.proofs.Common.{◌≡◌, ℕ, List, map, filter, length, sym, subst}
use Rattle.std.specs.Prelude.{Vec}
use Rattle.std.specs.Global.{Global}
use Rattle.g1_words.specs.Heap.{Heap, regions}
use Rattle.g1_words.specs.Lists.{has}
use Rattle.g1_words.specs.Live.{IsLiveBytes}
use Rattle.g1_image.specs.Image.{Image}
use Rattle.g1_image.specs.Cards.{refined}
use Rattle.g1_choose.specs.declared.parameters.Cost.{Cost}
use Rattle.g1_choose.specs.Candidate.{IsCandidateOrder}
use Rattle.g1_choose.specs.Choice.{IsChosen}
use Rattle.g1_choose.specs.Bought.{IsPaid}
use Rattle.g1_choose.specs.Named.{AreTakeable}
use Rattle.g1_pause.specs.declared.choosing.Bought.{Bought}
use Rattle.g1_pause.specs.declared.settings.Choice.{Choice}
use Rattle.g1_pause.specs.declared.settings.Choice.TheVariants.{Budget, Given}
use Rattle.g1_pause.specs.Answer.{IsSetFor}
use Rattle.g1_pause.specs.Bought.{IsBought}

-- the steps go by the image: its heap, its refined sets, its log, and live bytes of its regions
pub record GoesBy (cost : Cost) (choice : Choice) (i : Image) (budget : ℕ) (live : List ℕ) (k : Cost) (h : Heap) (remembered : List (List ℕ)) (dirty : ℕ) (lives : List ℕ) : Type 0 where
  pub asked : choice ≡ Budget budget
  pub price : k ≡ cost
  pub heap : h ≡ i.heap
  pub sets : remembered ≡ map (refined i) (regions i.heap)
  pub log : dirty ≡ length i.log
  pub same : lives ≡ live
  pub counted : IsLiveBytes i.heap live

pub bought_set : (cost k : Cost) (choice : Choice) (i : Image) (h : Heap) (budget dirty : ℕ) (remembered : List (List ℕ)) (live lives set : List ℕ)
    → GoesBy cost choice i budget live k h remembered dirty lives → IsChosen k h remembered lives dirty budget set → IsSetFor cost i choice set
bought_set cost k choice i h budget dirty remembered live lives set by chosen =
    subst (λ (x : Choice). IsSetFor cost i x set) (sym by.asked)
    (live, by.counted, rw (by.price, by.heap, by.sets, by.log, by.same) at chosen)

pub bought_by : (cost k : Cost) (choice : Choice) (i : Image) (h : Heap) (dirty : ℕ) (remembered : List (List ℕ)) (lives : List ℕ) (b : Bought)
    → GoesBy cost choice i b.budget b.live.items k h remembered dirty lives → IsCandidateOrder k h remembered lives b.order.items
    → IsPaid k dirty b.budget b.order.items b.taken → IsBought cost choice i b
bought_by cost k choice i h dirty remembered lives b by order paid = record {
  asked = by.asked;
  live = by.counted;
  order = rw (by.price, by.heap, by.sets, by.same) at order;
  paid = rw (by.price, by.log) at paid;
}

pub given_set : (cost : Cost) (choice : Choice) (i : Image) (h : Heap) (list : Vec ℕ Global) (xs set : List ℕ)
    → choice ≡ Given list → h ≡ i.heap → xs ≡ list.items → AreTakeable h xs → set ≡ filter (has xs) (regions h) → IsSetFor cost i choice set
given_set cost choice i h list xs set asked heap items accepted rising =
    subst (λ (x : Choice). IsSetFor cost i x set) (sym asked) (rw (heap, items) at accepted, rw (heap, items) at rising)
