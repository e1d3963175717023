-- No pause of an image names a device, so a run that is refused gives what it may.
use Rattle.std.proofs.Common.{◌≡◌, ◌≢◌, ℕ, ◌⊎◌, inl, inr, Bool, List, [], ◌∷◌, Option, Some, None, Result, Ok, Err, refl, sym, ◌∙◌, subst}
use Rattle.std.specs.Io.KnownBytes.{IsAtEnd}
use Rattle.std.specs.Prelude.{slice_index}
use Rattle.std.proofs.KnownBytes.{Keeps-refl}
use Rattle.g1_words.specs.declared.limits.Limits.{Limits}
use Rattle.g1_words.specs.declared.fault.Fault.{Fault}
use Rattle.g1_words.specs.declared.fault.Fault.TheVariants as fault
use Rattle.g1_words.specs.declared.fault.Device.{Device}
use Rattle.g1_words.specs.declared.fault.Device.TheVariants as device
use Rattle.g1_words.specs.Heap.{Heap}
use Rattle.g1_image.specs.Image.{Image, IsTextIn, IsTextWithin}
use Rattle.g1_image.specs.declared.cursor.Version.TheVariants.{Two}
use Rattle.g1_image.specs.Faults.{MayFailWithin}
use Rattle.g1_image.specs.Cards.{uncovered}
use Rattle.g1_image.specs.Sink.{Writes}
use Rattle.g1_image.specs.Source.{IsReadOut}
use Rattle.g1_choose.specs.declared.parameters.Cost.{Cost}
use Rattle.g1_pause.specs.declared.settings.Choice.{Choice}
use Rattle.g1_pause.specs.declared.settings.Choice.TheVariants.{Budget, Given}
use Rattle.g1_pause.specs.Answer.{FaultOfChoice, IsEvacuated, bad_set, IsAnswerWithin, unread}
use Rattle.g1_pause.specs.Streams.{HoldsOfLeft, RunGivesWithin, input_mark, output_mark}

chosen : (h : Heap) (choice : Choice) (d : Device) → FaultOfChoice h choice (fault.Device d) → ⊥
chosen h (Budget b) d bad = bad
chosen h (Given list) d bad = let clash : fault.Device d ≡ fault.Set (slice_index list.items bad.0) = bad.2 in cc

evacuated : (cost : Cost) (choice : Choice) (i : Image) (d : Device) → IsEvacuated cost choice i (Err (fault.Device d)) → ⊥
evacuated cost choice i d (bad_set bad) = chosen i.heap choice d bad

-- a refusal of a pause names no device
pub refusal_names_none : (cost : Cost) (choice : Choice) (i : Image) (e : Fault) → (e ≡ fault.Memory) ⊎ IsEvacuated cost choice i (Err e) → (d : Device) → e ≢ fault.Device d
refusal_names_none cost choice i e (inl p) d q = absurd (let clash : fault.Device d ≡ fault.Memory = sym q ∙ p in cc)
refusal_names_none cost choice i e (inr r) d q = evacuated cost choice i d (subst (λ f. IsEvacuated cost choice i (Err f)) q r)

-- nor does one for want of cover
pub bare_names_none : (i : Image) (e : Fault) → (e ≡ fault.Memory) ⊎ ((p : ℕ) × (rest : List ℕ) × (uncovered i ≡ p ∷ rest) × (e ≡ fault.Uncovered p)) → (d : Device) → e ≢ fault.Device d
bare_names_none i e (inl p) d q = absurd (let clash : fault.Device d ≡ fault.Memory = sym q ∙ p in cc)
bare_names_none i e (inr u) d q = absurd (let clash : fault.Device d ≡ fault.Uncovered u.0 = sym q ∙ u.3 in cc)

-- such a refusal leaves the marks
pub leaves_input : (mark : Bool) (e : Fault) → ((d : Device) → e ≢ fault.Device d) → mark ≡ input_mark {X = Unit {0}} mark (Err e)
leaves_input mark (fault.Device device.Input) none = absurd (none device.Input refl)
leaves_input mark _ none = refl

pub leaves_output : (mark : Bool) (e : Fault) → e ≢ fault.Device device.Output → mark ≡ output_mark {X = Unit {0}} mark (Err e)
leaves_output mark (fault.Device device.Output) none = absurd (none refl)
leaves_output mark _ none = refl

-- a run gives the refusal that is the answer
answered : (limits : Limits) (cost : Cost) (choice : Choice) (xs : List ℕ) (old : Option (List ℕ)) (e : Fault) → e ≢ fault.Device device.Output →
    IsAnswerWithin limits cost choice xs (Err e) → RunGivesWithin limits cost choice xs old old (Err e)
answered limits cost choice xs old fault.Memory none a = Keeps-refl old
answered limits cost choice xs old (fault.Device device.Input) none a = Keeps-refl old
answered limits cost choice xs old (fault.Device device.Output) none a = absurd (none refl)
answered limits cost choice xs old _ none a = (Keeps-refl old, a)

-- the source failed, memory was wanted, or the bytes that were left are no text of an image
pub run_unread : (limits : Limits) (cost : Cost) (choice : Choice) (left old : Option (List ℕ)) (e : Fault) → e ≢ fault.Device device.Output → (e ≡ fault.Device device.Input) ⊎ HoldsOfLeft left (λ xs. MayFailWithin limits xs e)
    → HoldsOfLeft left (λ xs. RunGivesWithin limits cost choice xs old old (Err e))
run_unread limits cost choice None old e none (inl p) = ([], subst (λ f. RunGivesWithin limits cost choice [] old old (Err f)) (sym p) (Keeps-refl old), tt)
run_unread limits cost choice (Some xs) old e none (inl p) = (xs, subst (λ f. RunGivesWithin limits cost choice xs old old (Err f)) (sym p) (Keeps-refl old), refl)
run_unread limits cost choice left old e none (inr (xs, inl p, is)) = (xs, subst (λ f. RunGivesWithin limits cost choice xs old old (Err f)) (sym p) (Keeps-refl old), is)
run_unread limits cost choice left old e none (inr (xs, inr f, is)) = (xs, answered limits cost choice xs old e none (unread f), is)

-- the image that was read is refused
pub run_refused : (limits : Limits) (cost : Cost) (choice : Choice) (left old : Option (List ℕ)) (i : Image) (e : Fault) → ((d : Device) → e ≢ fault.Device d) → HoldsOfLeft left (λ xs. IsTextWithin limits xs i)
    → (e ≡ fault.Memory) ⊎ ((within : Limits) (bytes : List ℕ) → IsTextWithin within bytes i → IsAnswerWithin within cost choice bytes (Err e)) → HoldsOfLeft left (λ xs. RunGivesWithin limits cost choice xs old old (Err e))
run_refused limits cost choice left old i e none t (inl p) = (t.0, subst (λ f. RunGivesWithin limits cost choice t.0 old old (Err f)) (sym p) (Keeps-refl old), t.2)
run_refused limits cost choice left old i e none t (inr a) = (t.0, answered limits cost choice t.0 old e (none device.Output) (a limits t.0 t.1), t.2)

-- the text of the image after being what is sent to the sink, the answer stands, or where the output failed a beginning of it
gives : (limits : Limits) (cost : Cost) (choice : Choice) (xs text : List ℕ) (old new : Option (List ℕ)) (r : Result (Unit {0}) Fault) →
    IsAnswerWithin limits cost choice xs (Ok text) → Writes text old new r → RunGivesWithin limits cost choice xs old new r
gives limits cost choice xs text old new (Ok u) a w = (text, a, w)
gives limits cost choice xs text old new (Err fault.Memory) a w = w
gives limits cost choice xs text old new (Err (fault.Device device.Output)) a w = (text, w.0, a, w.1, w.2)
gives limits cost choice xs text old new (Err _) a w = absurd w

pub run_written : (limits : Limits) (cost : Cost) (choice : Choice) (left old new : Option (List ℕ)) (i j l : Image) (r : Result (Unit {0}) Fault) → HoldsOfLeft left (λ xs. IsTextWithin limits xs i)
    → ((within : Limits) (bytes out : List ℕ) → IsTextWithin within bytes i → IsTextIn Two out j → IsAnswerWithin within cost choice bytes (Ok out)) → l ≡ j → (text : List ℕ) → IsTextIn Two text l → Writes text old new r
    → HoldsOfLeft left (λ xs. RunGivesWithin limits cost choice xs old new r)
run_written limits cost choice left old new i j l r t told after text is w = (t.0, gives limits cost choice t.0 text old new r (told limits t.0 text t.1 (subst (IsTextIn Two text) after is)) w, t.2)

-- the mark that a refused read leaves is the run's
pub same_input : (mark : Bool) (e : Fault) → input_mark {X = Image} mark (Err e) ≡ input_mark {X = Unit {0}} mark (Err e)
same_input mark (fault.Device device.Input) = refl
same_input mark _ = refl

-- what a refused read tells of the end the run tells
pub same_end : (left : Option (List ℕ)) (e : Fault) → IsReadOut {X = Image} left (Err e) → IsReadOut {X = Unit {0}} left (Err e)
same_end left fault.Memory end = tt
same_end left (fault.Device device.Input) end = tt
same_end left _ end = end

-- a source that was read out stays so, whatever comes after
pub read_out : (left : Option (List ℕ)) (r : Result (Unit {0}) Fault) → IsAtEnd left → IsReadOut left r
read_out left (Err fault.Memory) end = tt
read_out left (Err (fault.Device device.Input)) end = tt
read_out left _ end = end

-- what was sent to the sink is no fault of the input's
pub sent_input : (text : List ℕ) (old new : Option (List ℕ)) (r : Result (Unit {0}) Fault) (mark : Bool) → Writes text old new r → mark ≡ input_mark mark r
sent_input text old new (Err (fault.Device device.Input)) mark w = absurd w
sent_input text old new (Err fault.Memory) mark w = refl
sent_input text old new (Err (fault.Device device.Output)) mark w = refl
sent_input text old new (Ok u) mark w = refl
sent_input text old new (Err _) mark w = absurd w
