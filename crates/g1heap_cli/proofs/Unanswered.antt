-- Why a file has no answer, from why its source is refused.
use Rattle.std.proofs.Common.{◌≡◌, ◌⊎◌, inl, inr, ℕ, List, Option, Some, None, Result, Err, refl, sym, ap, ◌∙◌, subst}
use Rattle.std.specs.Option.{option_map}
use Rattle.std.specs.Prelude.{IfSome}
use Rattle.g1_words.specs.declared.fault.Fault.{Fault}
use Rattle.g1_words.specs.declared.fault.Fault.TheVariants as fault
use Rattle.g1_words.specs.declared.fault.Device.TheVariants as device
use Rattle.g1_words.specs.declared.limits.Limits.{Limits}
use Rattle.g1_command.specs.declared.refusal.Refusal.{Refusal}
use Rattle.g1_command.specs.declared.refusal.Refusal.TheVariants as refusal
use Rattle.g1_image.specs.Image.{Image, IsTextWithin}
use Rattle.g1_image.specs.Faults.{FaultWithin}
use Rattle.g1_answers.specs.Replies.{Gives, MayRefuse}
use Rattle.g1heap_request.specs.declared.options.Part.{Part}
use Rattle.g1heap_cli.specs.Reasons.{LacksPart, MayLack}
use Rattle.g1heap_cli.specs.Refusals.{RefusesFile, IsUnread}
use Rattle.g1heap_cli.specs.Found.{RefusesBytes}
use Rattle.g1heap_cli.specs.Streams.{AreNamed, KeepsNamed, HoldsOfNamed, HoldsOfKept}
use Rattle.g1heap_cli.specs.Refuses.{HasNoAnswer, IsUnreadOrSet}

module _ {V : Type 0} (items : V → List ℕ) (file : List ℕ) (left : Option (List ℕ)) (kept : Option V) (keeps : KeepsNamed items file left kept) where
  -- what holds of the bytes that are kept holds of those of the name
  pub kept_named : (P : List ℕ → Type 0) → HoldsOfKept items kept P → HoldsOfNamed file left P
  kept_named P (bytes, p, same) = (bytes, p, λ is. at left (keeps is))
    where
      at : (l : Option (List ℕ)) → IfSome l (λ xs. option_map items kept ≡ Some xs) → IfSome l (λ xs. xs ≡ bytes)
      at None h = tt
      at (Some xs) h = subst (λ o. IfSome o (λ ys. ys ≡ bytes)) h same

  -- the part of an image is not there, or memory was wanted
  pub no_part : (limits : Limits) (p : Part) (i : Image) (r : Refusal) → HoldsOfKept items kept (λ xs. IsTextWithin limits xs i) → MayLack file p i r
      → IsUnread file r ⊎ HoldsOfNamed file left (λ bytes. RefusesBytes limits file bytes r ⊎ ((j : Image) × IsTextWithin limits bytes j × LacksPart file p j r))
  no_part limits p i r text (inl is) = inl (inr (fault.Memory, refl, subst (RefusesFile file fault.Memory) (sym is) refl))
  no_part limits p i r text (inr lacks) = let is = kept_named (λ xs. IsTextWithin limits xs i) text in inr (is.0, inr (i, is.1, lacks), is.2)

  -- the bytes are no image's
  pub no_image_of : (limits : Limits) (p : Part) (f : Fault) (r : Refusal) → HoldsOfKept items kept (λ xs. FaultWithin limits xs f) → RefusesFile file f r
      → IsUnread file r ⊎ HoldsOfNamed file left (λ bytes. RefusesBytes limits file bytes r ⊎ ((j : Image) × IsTextWithin limits bytes j × LacksPart file p j r))
  no_image_of limits p f r bad told = let is = kept_named (λ xs. FaultWithin limits xs f) bad in inr (is.0, inl (f, is.1, told), is.2)

  module _ (limits : Limits) (Is : List ℕ → Result (List ℕ) Fault → Type 0) (bytes : List ℕ) (named : AreNamed file left bytes) (r : Refusal) where
    -- the fault of a reply
    pub no_reply : (f : Fault) → MayRefuse (Is bytes) f → RefusesFile file f r ⊎ (IsUnread file r ⊎ HoldsOfKept items kept (λ xs. RefusesBytes limits file xs r))
        → IsUnread file r ⊎ HasNoAnswer limits file Is left r
    no_reply f may (inl told) = inr (bytes, inl (f, may, told), named)
    no_reply f may (inr (inl unread)) = inl unread
    no_reply f may (inr (inr refused)) = let is = kept_named (λ xs. RefusesBytes limits file xs r) refused in inr (is.0, inr is.1, is.2)

    -- the file may also be one of which regions are collected
    or_set : IsUnread file r ⊎ HasNoAnswer limits file Is left r → IsUnreadOrSet file r ⊎ HasNoAnswer limits file Is left r
    or_set (inl unread) = inl (inl unread)
    or_set (inr none) = inr none

    -- the fault of an image that is made, or that of the output
    pub no_image : (old new : Option (List ℕ)) (f : Fault) → Gives (Is bytes) old new (Err f) → (f ≡ fault.Device device.Output → r ≡ refusal.Fault f)
        → (f ≡ fault.Device device.Output) ⊎ (RefusesFile file f r ⊎ (IsUnread file r ⊎ HoldsOfKept items kept (λ xs. RefusesBytes limits file xs r)))
        → (IsUnreadOrSet file r ⊎ HasNoAnswer limits file Is left r) ⊎ (r ≡ refusal.Fault (fault.Device device.Output))
    no_image old new f gives same (inl is) = inr (same is ∙ ap refusal.Fault is)
    no_image old new (fault.Device device.Output) gives same (inr of) = inr (same refl)
    no_image old new (fault.Device device.Input) gives same (inr of) = inl (or_set (no_reply (fault.Device device.Input) gives.1 of))
    no_image old new fault.Memory gives same (inr of) = inl (or_set (no_reply fault.Memory gives.1 of))
    no_image old new f gives same (inr of) = inl (or_set (no_reply f gives.1 of))
