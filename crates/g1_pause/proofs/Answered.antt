-- What the steps of a whole pause tell of its answer.
use Rattle.std.proofs.Common.{◌≡◌, ℕ, ◌⊎◌, inl, inr, List, ◌∷◌, Result, Ok, Err, sym, subst}
use Rattle.std.specs.Prelude.{IfOk, IfErr, Vec}
use Rattle.std.specs.Global.{Global}
use Rattle.g1_words.specs.declared.limits.Limits.{Limits}
use Rattle.g1_words.specs.declared.fault.Fault.{Fault}
use Rattle.g1_words.specs.declared.fault.Fault.TheVariants.{Memory, Uncovered}
use Rattle.g1_image.specs.Image.{Image, IsTextIn, IsTextWithin}
use Rattle.g1_image.specs.declared.cursor.Version.TheVariants.{Two}
use Rattle.g1_image.specs.Faults.{MayFailWithin}
use Rattle.g1_image.specs.Cards.{IsTracked, uncovered}
use Rattle.g1_choose.specs.declared.parameters.Cost.{Cost}
use Rattle.g1_pause.specs.declared.settings.Choice.{Choice}
use Rattle.g1_pause.specs.Answer.{IsEvacuated, IsAnswerWithin, unread, not_covered, refused, written}
use Rattle.g1_pause.specs.Follows.{TextFollowsWithin}
use Rattle.g1_pause.specs.Laws.{OneAnswer, AnswerFollows}

module _ (cost : Cost) (choice : Choice) where
  -- the fault is the answer to each text of the image, or memory was wanting
  abbrev pub ToldOf : Image → Fault → Type 0
  ToldOf i e = (e ≡ Memory) ⊎ ((limits : Limits) (bs : List ℕ) → IsTextWithin limits bs i → IsAnswerWithin limits cost choice bs (Err e))

  pub uncovered_told : (i : Image) (e : Fault) → (e ≡ Memory) ⊎ ((p : ℕ) × (rest : List ℕ) × (uncovered i ≡ p ∷ rest) × (e ≡ Uncovered p)) → ToldOf i e
  uncovered_told i e (inl m) = inl m
  uncovered_told i e (inr u) = inr (λ limits bs t. subst (λ (f : Fault). IsAnswerWithin limits cost choice bs (Err f)) (sym u.3) (not_covered t u.2))

  pub refused_told : (i k : Image) (e : Fault) → k ≡ i → IsTracked k → (e ≡ Memory) ⊎ IsEvacuated cost choice k (Err e) → ToldOf i e
  refused_told i k e same tracked (inl m) = inl m
  refused_told i k e same tracked (inr r) = inr (λ limits bs t. refused (subst (IsTextWithin limits bs) (sym same) t) tracked.covered r)

  -- each text of the image after is the answer to each text of the image
  pub after_told : (i k j : Image) → k ≡ i → IsTracked k → IsEvacuated cost choice k (Ok j) → (limits : Limits) (bs out : List ℕ) → IsTextWithin limits bs i → IsTextIn Two out j → IsAnswerWithin limits cost choice bs (Ok out)
  after_told i k j same tracked e limits bs out t after = written (subst (IsTextWithin limits bs) (sym same) t) tracked.covered e after

module _ (limits : Limits) (cost : Cost) (choice : Choice) (bytes : List ℕ) where
  -- the fault is the answer, or memory was wanting
  abbrev pub Told : Fault → Type 0
  Told e = (e ≡ Memory) ⊎ IsAnswerWithin limits cost choice bytes (Err e)

  -- the fault is the only answer, or memory was wanting
  abbrev pub OnlyTold : Fault → Type 0
  OnlyTold e = (e ≡ Memory) ⊎ ((y : Result (List ℕ) Fault) → IsAnswerWithin limits cost choice bytes y → y ≡ Err e)

  pub unread_told : (e : Fault) → MayFailWithin limits bytes e → Told e
  unread_told e (inl m) = inl m
  unread_told e (inr f) = inr (unread f)

  -- a text of the image that was read has the answer
  pub fault_told : (i : Image) (e : Fault) → IsTextWithin limits bytes i → (e ≡ Memory) ⊎ ((within : Limits) (bs : List ℕ) → IsTextWithin within bs i → IsAnswerWithin within cost choice bs (Err e)) → Told e
  fault_told i e t (inl m) = inl m
  fault_told i e t (inr a) = inr (a limits bytes t)

  pub only_told : OneAnswer → (e : Fault) → Told e → OnlyTold e
  only_told one e (inl m) = inl m
  only_told one e (inr a) = inr (λ y b. one limits cost choice bytes y (Err e) b a)

  -- a fault that came up by way of memory
  pub memory_told : {X : Type 0} (r : Result X Fault) → IfErr r (λ e. e ≡ Memory) → IfErr r Told × IfErr r OnlyTold
  memory_told (Ok v) m = (m, m)
  memory_told (Err e) m = (inl m, inl m)

  -- the text of the image after that was written is the answer
  pub text_told : (i j l : Image) (r : Result (Vec ℕ Global) Fault) → IsTextWithin limits bytes i → ((within : Limits) (bs out : List ℕ) → IsTextWithin within bs i → IsTextIn Two out j → IsAnswerWithin within cost choice bs (Ok out)) → l ≡ j
      → IfOk r (λ v. IsTextIn Two v.items l) → IfOk r (λ v. IsAnswerWithin limits cost choice bytes (Ok v.items))
  text_told i j l (Err e) t told after w = w
  text_told i j l (Ok v) t told after w = told limits bytes v.items t (subst (IsTextIn Two v.items) after w)

  pub only_written : OneAnswer → (r : Result (Vec ℕ Global) Fault) → IfOk r (λ v. IsAnswerWithin limits cost choice bytes (Ok v.items))
      → IfOk r (λ v. (y : Result (List ℕ) Fault) → IsAnswerWithin limits cost choice bytes y → y ≡ Ok v.items)
  only_written one (Err e) a = a
  only_written one (Ok v) a = λ y b. one limits cost choice bytes y (Ok v.items) b a

  pub written_follows : AnswerFollows → (r : Result (Vec ℕ Global) Fault) → IfOk r (λ v. IsAnswerWithin limits cost choice bytes (Ok v.items)) → IfOk r (λ v. TextFollowsWithin limits cost choice bytes v.items)
  written_follows follows (Err e) a = a
  written_follows follows (Ok v) a = follows limits cost choice bytes v.items a
