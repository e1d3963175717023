-- Why a side of `same` is not read, from why its bytes have none.
use Rattle.std.proofs.Common.{◌≡◌, ◌≢◌, ◌⊎◌, inl, inr, ℕ, true, false, true≢false, List, codes, Option, Some, None, Result, Ok, Err, refl, sym, subst}
use Rattle.std.specs.Prelude.{IfErr, IfSome, IfNone}
use Rattle.g1_words.specs.declared.limits.Limits.{Limits}
use Rattle.g1_words.specs.declared.fault.Fault.{Fault}
use Rattle.g1_words.specs.declared.fault.Fault.TheVariants as fault
use Rattle.g1_words.specs.declared.fault.Device.TheVariants as device
use Rattle.g1_words.specs.declared.fault.Place.{Place}
use Rattle.g1_image.specs.Faults.{FaultWithin, MayFailWithin}
use Rattle.g1_image.specs.Source.{HoldsOfLeft}
use Rattle.g1_image.specs.Stale.{FaultWithout}
use Rattle.g1_command.specs.declared.refusal.Refusal.{Refusal}
use Rattle.g1heap_cli.specs.declared.files.SideContent.{SideContent}
use Rattle.g1heap_cli.specs.Compared.{AreLines, IsContent}
use Rattle.g1heap_cli.specs.Found.{RefusesBytes}
use Rattle.g1heap_cli.specs.Refusals.{is_of_machine, RefusesFile, IsUnread}
use Rattle.g1heap_cli.specs.SideReasons.{HasOtherFault, RefusesContent, IsUnreadSide}
use Rattle.g1heap_cli.specs.Streams.{AreNamed}

-- what holds of the bytes that are left holds of those that are known
pub of_known : (xs : List ℕ) (P : List ℕ → Type 0) → HoldsOfLeft (Some xs) P → P xs
of_known xs P (bytes, is, same) = subst P (sym same) is

module _ (limits : Limits) (left : Option (List ℕ)) where
  -- a fault that is not the machine's is one of the bytes with null in their stale words
  pub other_of : (e : Fault) → is_of_machine e ≡ false → (e ≡ fault.Device device.Input) ⊎ HoldsOfLeft left (λ xs. (e ≡ fault.Memory) ⊎ FaultWithout limits xs e)
      → HoldsOfLeft left (HasOtherFault limits)
  other_of e own (inl is) = absurd (true≢false (subst (λ x. is_of_machine x ≡ false) is own))
  other_of e own (inr (bytes, inl is, same)) = absurd (true≢false (subst (λ x. is_of_machine x ≡ false) is own))
  other_of e own (inr (bytes, inr x, same)) = (bytes, (e, x), same)

  -- what is found in bytes is found in those that are left
  pub content_left : (bytes : List ℕ) (o : Option SideContent) → IfSome left (λ xs. xs ≡ bytes) → IfSome o (IsContent limits bytes) → IfSome o (λ c. HoldsOfLeft left (λ xs. IsContent limits xs c))
  content_left bytes None same is = tt
  content_left bytes (Some c) same is = (bytes, is, same)

  -- bytes without stale words have no fault of a reference
  pub none_left : (bytes : List ℕ) (o : Option SideContent) → IfSome left (λ xs. xs ≡ bytes) → IfNone o ((p : Place) → FaultWithin limits bytes (fault.Reference p) → ⊥)
      → IfNone o (HoldsOfLeft left (λ xs. (p : Place) → FaultWithin limits xs (fault.Reference p) → HasOtherFault limits xs))
  none_left bytes None same none = (bytes, (λ p x. absurd (none p x)), same)
  none_left bytes (Some c) same none = tt

module _ (limits : Limits) (file bytes : List ℕ) where
  -- the refusal for what a reader of the bytes may answer
  pub for_fault : (f : Fault) (r : Refusal) → MayFailWithin limits bytes f → (FaultWithin limits bytes f → HasOtherFault limits bytes) → RefusesFile file f r
      → IsUnread file r ⊎ (HasOtherFault limits bytes × RefusesBytes limits file bytes r)
  for_fault f r (inl memory) other told = inl (inr (f, subst (λ x. is_of_machine x ≡ true) (sym memory) refl, told))
  for_fault f r (inr x) other told = inr (other x, (f, x, told))

  -- bytes that are no lines
  pub no_lines : (AreLines bytes → ⊥) → (r : Result SideContent Refusal) → IfErr r (λ e. IsUnread file e ⊎ (HasOtherFault limits bytes × RefusesBytes limits file bytes e))
      → IfErr r (λ e. IsUnread file e ⊎ RefusesContent limits file bytes e)
  no_lines none (Ok c) is = tt
  no_lines none (Err e) (inl unread) = inl unread
  no_lines none (Err e) (inr (other, bad)) = inr (none, other, bad)

  -- the bytes of what has this name
  pub named : (left : Option (List ℕ)) → AreNamed file left bytes → (r : Result SideContent Refusal) → IfErr r (λ e. IsUnread file e ⊎ RefusesContent limits file bytes e)
      → IfErr r (IsUnreadSide limits file left)
  named left are (Ok c) is = tt
  named left are (Err e) (inl unread) = inl unread
  named left are (Err e) (inr bad) = inr (bytes, bad, are)

-- whatever the bytes were
pub any_named : (limits : Limits) (file : List ℕ) (left : Option (List ℕ)) (r : Refusal) → IsUnreadSide limits file left r → IsUnreadSide limits file None r
any_named limits file left r (inl unread) = inl unread
any_named limits file left r (inr (bytes, bad, are)) = inr (bytes, bad, λ same. tt)

-- a file that is not standard input
pub of_file : (limits : Limits) (file : List ℕ) (left : Option (List ℕ)) → file ≢ codes "-" → (r : Result SideContent Refusal) → IfErr r (IsUnreadSide limits file None)
    → IfErr r (IsUnreadSide limits file left)
of_file limits file left other (Ok c) is = tt
of_file limits file left other (Err e) (inl unread) = inl unread
of_file limits file left other (Err e) (inr (bytes, bad, are)) = inr (bytes, bad, λ same. absurd (other same))
