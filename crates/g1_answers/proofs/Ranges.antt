-- Numbers in their ranges are not refused.
use Rattle.std.proofs.Common.{◌≡◌, ◌⊎◌, inr, ℕ, ◌<◌, length, Some, None, Result, Ok, Err, sym, ◌∙◌, subst}
use Rattle.std.specs.Prelude.{IfErr}
use Rattle.g1_words.specs.declared.fault.Fault.{Fault}
use Rattle.g1_words.specs.declared.fault.Fault.TheVariants as fault
use Rattle.g1_choose.specs.declared.parameters.Cost.{Cost}
use Rattle.g1_choose.specs.Cost.{IsCost}
use Rattle.g1_work.specs.Team.{AreWorkers, IsChunk}
use Rattle.g1_pause.specs.declared.settings.Choice.{Choice}
use Rattle.g1_pause.specs.Settings.{Settings, by_workers, by_chunk, by_cost}
use Rattle.g1_answers.specs.declared.question.Sharing.{Sharing}
use Rattle.g1_answers.specs.declared.question.Pause.{Pause}
use Rattle.g1_answers.specs.Numbers.{RefusesNumbers, RefusesPause, HasBoth, by_number, by_choice}

pub none_refused : (sharing : Sharing) (cost : Cost) → AreWorkers sharing.workers → IsChunk sharing.chunk → IsCost cost → (which : ℕ) → RefusesNumbers sharing cost which → ⊥
none_refused sharing cost workers chunk good which (by_workers bad) = bad workers
none_refused sharing cost workers chunk good which (by_chunk fine bad) = bad chunk
none_refused sharing cost workers chunk good which (by_cost fine also bad) = bad good

-- settings that were taken were in their ranges
pub settings_in_range : (sharing : Sharing) (cost : Cost) (s : Settings) (choice : Choice) → s ≡ record { workers = sharing.workers; chunk = sharing.chunk; cost = cost; choice = choice }
    → AreWorkers s.workers → IsChunk s.chunk → IsCost s.cost → (which : ℕ) → RefusesNumbers sharing cost which → ⊥
settings_in_range sharing cost s choice same workers chunk good =
    none_refused sharing cost (subst (λ t. AreWorkers t.workers) same workers) (subst (λ t. IsChunk t.chunk) same chunk) (subst (λ t. IsCost t.cost) same good)

-- a pause is refused by its numbers, if they are
pub refused_by_number : (pause : Pause) (X : Type 0) (r : Result X Fault)
    → IfErr r (λ e. (which : ℕ) × RefusesNumbers pause.sharing pause.cost which × (e ≡ fault.Settings which))
    → IfErr r (λ e. (e ≡ fault.Memory) ⊎ ((which : ℕ) × RefusesPause pause which × (e ≡ fault.Settings which)))
refused_by_number pause X (Ok v) h = tt
refused_by_number pause X (Err e) h = inr (h.0, by_number h.1, h.2)

pub has_both : (pause : Pause) (budget : ℕ) → pause.budget ≡ Some budget → 0 < length pause.regions.items → HasBoth pause
has_both pause budget is many = (λ e. let clash : Some budget ≡ None = sym is ∙ e in cc, many)

pub no_pause_refused : (pause : Pause) → ((which : ℕ) → RefusesNumbers pause.sharing pause.cost which → ⊥) → (HasBoth pause → ⊥) → (which : ℕ) → RefusesPause pause which → ⊥
no_pause_refused pause none not_both which (by_number {which = w} bad) = none w bad
no_pause_refused pause none not_both which (by_choice fine both) = not_both both
