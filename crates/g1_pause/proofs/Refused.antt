-- Why a pause is refused.
use Rattle.std.proofs.Common.{◌≡◌, ℕ, ◌⊎◌, inl, inr, List, Result, Ok, Err, sym, subst}
use Rattle.std.specs.Prelude.{slice_index, IfErr, Vec}
use Rattle.std.specs.Global.{Global}
use Rattle.g1_words.specs.declared.fault.Fault.{Fault}
use Rattle.g1_words.specs.declared.fault.Fault.TheVariants.{Memory, Set}
use Rattle.g1_words.specs.Heap.{Heap}
use Rattle.g1_image.specs.Image.{Image}
use Rattle.g1_choose.specs.declared.parameters.Cost.{Cost}
use Rattle.g1_choose.specs.Named.{IsFirstBad}
use Rattle.g1_pause.specs.declared.settings.Choice.{Choice}
use Rattle.g1_pause.specs.declared.settings.Choice.TheVariants.{Given}
use Rattle.g1_pause.specs.Answer.{FaultOfChoice, IsEvacuated, bad_set}

-- a list is refused by its first bad region
pub named_refused : {X : Type 0} (choice : Choice) (h g : Heap) (list : Vec ℕ Global) (xs : List ℕ) (r : Result X Fault)
    → choice ≡ Given list → g ≡ h → xs ≡ list.items
    → IfErr r (λ e. (e ≡ Memory) ⊎ ((k : ℕ) × IsFirstBad g xs k × (e ≡ Set (slice_index xs k))))
    → IfErr r (λ e. (e ≡ Memory) ⊎ FaultOfChoice h choice e)
named_refused choice h g list xs (Ok v) named heap items f = f
named_refused choice h g list xs (Err e) named heap items (inl m) = inl m
named_refused choice h g list xs (Err e) named heap items (inr b) =
    inr (subst (λ (x : Choice). FaultOfChoice h x e) (sym named) (rw (heap, items) at b))

-- so is the pause of the image that has this heap
pub choice_refused : (cost : Cost) (choice : Choice) (i j : Image) (e : Fault) → j ≡ i → (e ≡ Memory) ⊎ FaultOfChoice j.heap choice e
    → (e ≡ Memory) ⊎ IsEvacuated cost choice i (Err e)
choice_refused cost choice i j e same (inl m) = inl m
choice_refused cost choice i j e same (inr bad) = inr (bad_set (subst (λ (x : Image). FaultOfChoice x.heap choice e) same bad))
