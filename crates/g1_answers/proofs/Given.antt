-- What a command gives, from what its steps return.
use Rattle.std.proofs.Common.{◌≡◌, ◌⊎◌, inl, inr, ℕ, List, [], Option, Some, None, Result, Ok, Err, refl, sym, subst}
use Rattle.std.specs.Prelude.{IfErr}
use Rattle.std.specs.Io.KnownBytes.{Keeps}
use Rattle.std.proofs.KnownBytes.{Keeps-refl}
use Rattle.g1_words.specs.declared.limits.Limits.{Limits}
use Rattle.g1_words.specs.declared.fault.Fault.{Fault}
use Rattle.g1_words.specs.declared.fault.Fault.TheVariants as fault
use Rattle.g1_words.specs.declared.fault.Device.TheVariants as device
use Rattle.g1_image.specs.Faults.{FaultWithin, MayFailWithin}
use Rattle.g1_image.specs.Source.{HoldsOfLeft}
use Rattle.g1_image.specs.Sink.{Writes}
use Rattle.g1_choose.specs.declared.parameters.Cost.{Cost}
use Rattle.g1_pause.specs.declared.settings.Choice.{Choice}
use Rattle.g1_pause.specs.Answer.{IsAnswerWithin}
use Rattle.g1_pause.specs.Streams.{RunGivesWithin}
use Rattle.g1_command.specs.Deliveries.{Delivers}
use Rattle.g1_command.proofs.Delivered.{flushed}
use Rattle.g1_answers.specs.Replies.{Settled, refused, MayRefuse, Gives}

-- a reply, as a text or a fault
abbrev pub Reply : Type 1
Reply = Result (List ℕ) Fault → Type 0

-- what holds whatever is left holds of what is left
pub of_left : (left : Option (List ℕ)) (P : List ℕ → Type 0) → ((xs : List ℕ) → P xs) → HoldsOfLeft left P
of_left None P h = ([], h [], tt)
of_left (Some xs) P h = (xs, h xs, refl)

-- and what follows from what holds of it, too
pub left_so : (left : Option (List ℕ)) (P Q : List ℕ → Type 0) → ((xs : List ℕ) → P xs → Q xs) → HoldsOfLeft left P → HoldsOfLeft left Q
left_so left P Q f h = (h.0, f h.0 h.1, h.2)

-- a text that is delivered is given
pub sent : (Is : Reply) (text : List ℕ) (old new : Option (List ℕ)) (r : Result (Unit {0}) Fault) → Is (Ok text) → Delivers text old new r
    → IfErr r (λ e. e ≡ fault.Device device.Output) → Gives Is old new r
sent Is text old new (Ok u) is d e = (text, is, d)
sent Is text old new (Err f) is d e = subst (λ x. Gives Is old new (Err x)) (sym e) (text, d.0, is, d.1)

-- behind a fault nothing is written
pub withheld : (Is : Reply) (old : Option (List ℕ)) (e : Fault) → MayRefuse Is e → Gives Is old old (Err e)
withheld Is old (fault.Device device.Output) h = absurd h
withheld Is old (fault.Device device.Input) h = (Keeps-refl old, h)
withheld Is old fault.Memory h = (Keeps-refl old, h)
withheld Is old _ h = (Keeps-refl old, h)

-- one reply for another
pub refusal_so : (Is To : Reply) → ((r : Result (List ℕ) Fault) → Is r → To r) → (e : Fault) → MayRefuse Is e → MayRefuse To e
refusal_so Is To f (fault.Device device.Output) h = absurd h
refusal_so Is To f (fault.Device device.Input) h = tt
refusal_so Is To f fault.Memory h = tt
refusal_so Is To f e h = f (Err e) h

pub gives_so : (Is To : Reply) → ((r : Result (List ℕ) Fault) → Is r → To r) → (old new : Option (List ℕ)) (r : Result (Unit {0}) Fault) → Gives Is old new r → Gives To old new r
gives_so Is To f old new (Ok u) h = (h.0, f (Ok h.0) h.1, h.2)
gives_so Is To f old new (Err (fault.Device device.Output)) h = (h.0, h.1, f (Ok h.0) h.2, h.3)
gives_so Is To f old new (Err (fault.Device device.Input)) h = h
gives_so Is To f old new (Err fault.Memory) h = h
gives_so Is To f old new (Err e) h = (h.0, f (Err e) h.1)

-- a setting is refused, memory is wanted, the input failed
pub setting_refused : (Refuses : ℕ → Type 0) (Is : Reply) (e : Fault) → (which : ℕ) × Refuses which × (e ≡ fault.Settings which) → MayRefuse (Settled Refuses Is) e
setting_refused Refuses Is e h = subst (MayRefuse (Settled Refuses Is)) (sym h.2) (refused h.1)

pub memory_wanted : (Is : Reply) (e : Fault) → e ≡ fault.Memory → MayRefuse Is e
memory_wanted Is e is = subst (MayRefuse Is) (sym is) tt

pub input_failed : (Is : Reply) (e : Fault) → e ≡ fault.Device device.Input → MayRefuse Is e
input_failed Is e is = subst (MayRefuse Is) (sym is) tt

-- the fault of bytes is no device's
fault_refused : (limits : Limits) (xs : List ℕ) (Is : Reply) (e : Fault) → FaultWithin limits xs e → Is (Err e) → MayRefuse Is e
fault_refused limits xs Is (fault.Device device.Output) f h = absurd f.3
fault_refused limits xs Is (fault.Device device.Input) f h = tt
fault_refused limits xs Is fault.Memory f h = tt
fault_refused limits xs Is _ f h = h

-- the image is not read
pub not_read : (limits : Limits) (left : Option (List ℕ)) (Is : List ℕ → Reply) → ((xs : List ℕ) (e : Fault) → FaultWithin limits xs e → Is xs (Err e)) → (e : Fault)
    → (e ≡ fault.Device device.Input) ⊎ HoldsOfLeft left (λ xs. MayFailWithin limits xs e) → HoldsOfLeft left (λ xs. MayRefuse (Is xs) e)
not_read limits left Is reply e (inl p) = of_left left (λ xs. MayRefuse (Is xs) e) (λ xs. input_failed (Is xs) e p)
not_read limits left Is reply e (inr (xs, inl p, is)) = (xs, memory_wanted (Is xs) e p, is)
not_read limits left Is reply e (inr (xs, inr f, is)) = (xs, fault_refused limits xs (Is xs) e f (reply xs e f), is)

-- what a sink that failed has of a text
pub cut : (Is : Reply) (text : List ℕ) (old new : Option (List ℕ)) (e : Fault) → Is (Ok text) → Writes text old new (Err e) → Gives Is old new (Err e)
cut Is text old new (fault.Device device.Output) is w = (text, w.0, is, w.2)
cut Is text old new (fault.Device device.Input) is w = absurd w
cut Is text old new fault.Memory is w = (w, tt)
cut Is text old new _ is w = absurd w

-- a pause that is refused, or whose output failed
pub run_refused : (limits : Limits) (cost : Cost) (choice : Choice) (xs : List ℕ) (old new : Option (List ℕ)) (e : Fault) → RunGivesWithin limits cost choice xs old new (Err e)
    → Gives (IsAnswerWithin limits cost choice xs) old new (Err e)
run_refused limits cost choice xs old new (fault.Device device.Output) g = (g.0, g.1, g.2, g.4)
run_refused limits cost choice xs old new (fault.Device device.Input) g = (g, tt)
run_refused limits cost choice xs old new fault.Memory g = (g, tt)
run_refused limits cost choice xs old new _ g = (g.0, g.1)

-- a pause that was made, and its answer handed on
pub run_done : (limits : Limits) (cost : Cost) (choice : Choice) (before left : Option (List ℕ)) → before ≡ left → (old mid new : Option (List ℕ)) (u : Unit {0})
    → HoldsOfLeft before (λ xs. RunGivesWithin limits cost choice xs old mid (Ok u)) → Keeps mid new → (r : Result (Unit {0}) Fault) → IfErr r (λ e. e ≡ fault.Device device.Output)
    → HoldsOfLeft left (λ xs. Gives (IsAnswerWithin limits cost choice xs) old new r)
run_done limits cost choice before left same old mid new u h kept r failed =
    subst (λ l. HoldsOfLeft l (λ xs. Gives (IsAnswerWithin limits cost choice xs) old new r)) same
    (left_so before (λ xs. RunGivesWithin limits cost choice xs old mid (Ok u)) (λ xs. Gives (IsAnswerWithin limits cost choice xs) old new r)
    (λ xs g. sent (IsAnswerWithin limits cost choice xs) g.0 old new r g.1 (flushed g.0 old mid new r g.2 kept) failed) h)
