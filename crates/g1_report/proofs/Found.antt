-- What is found first of two heaps.
use Rattle.std.proofs.Common.{◌≡◌, ℕ, Bool, List, ◌∷◌, subst}
use Rattle.std.specs.Prelude.{Option}
use Rattle.g1_words.specs.Heap.{Heap}
use Rattle.g1_words.specs.Valid.{IsValid}
use Rattle.g1_words.specs.Graph.{SameGraph}
use Rattle.g1_same.specs.declared.difference.Difference.{Difference}
use Rattle.g1_same.specs.declared.comparing_stale.StaleEnd.{StaleEnd}
use Rattle.g1_same.specs.declared.comparing_stale.Earliest.TheVariants as earliest
use Rattle.g1_same.specs.Same.{IsFirstDifference}
use Rattle.g1_same.specs.Stale.{LeadsToStale}
use Rattle.g1_same.specs.Earliest.{HasNoStaleUntil, IsEarliestOf}
use Rattle.g1_same.specs.Laws.{NeverBoth}
use Rattle.g1_report.specs.declared.sides.Strays.{Strays}
use Rattle.g1_report.specs.Agreement.{stale_roots, stale_slots, AgreeAsAsked}

-- lists of stale words that are others say the same
pub none_leads : (g h : Heap) (roots slots others ends : List (ℕ × ℕ)) → roots ≡ others → slots ≡ ends
    → ((p : List ℕ) (x z : ℕ) → LeadsToStale g h roots slots p x z → ⊥) → (p : List ℕ) (x z : ℕ) → LeadsToStale g h others ends p x z → ⊥
none_leads g h roots slots others ends e f none =
    subst (λ l. (p : List ℕ) (x z : ℕ) → LeadsToStale g h l ends p x z → ⊥) e (subst (λ l. (p : List ℕ) (x z : ℕ) → LeadsToStale g h roots l p x z → ⊥) f none)

-- a first difference, with what it says of stale words, is no renaming
pub differ_found : (g h : Heap) (roots slots others ends : List (ℕ × ℕ)) (d : Difference) → roots ≡ others → slots ≡ ends → IsValid g → NeverBoth
    → IsEarliestOf g h roots slots (earliest.Differ d) → IsFirstDifference g h d × HasNoStaleUntil g h others ends d × (SameGraph g h → ⊥)
differ_found g h roots slots others ends d e f valid never first = (
  first.0,
  subst (λ l. HasNoStaleUntil g h l ends d) e (subst (λ l. HasNoStaleUntil g h roots l d) f first.1),
  never g h d valid first.0.is,
)

-- a stale word that a path leads to is no agreement
pub stale_reached : (g h : Heap) (stale : Option Strays) (set : List ℕ) (fill : Bool) (e : StaleEnd)
    → IsEarliestOf g h (stale_roots stale) (stale_slots stale) (earliest.Stale e) → AgreeAsAsked g h stale set fill → ⊥
stale_reached g h stale set fill e first agree = agree.no_stale (e.root ∷ e.slots.items) e.before e.word first.1
