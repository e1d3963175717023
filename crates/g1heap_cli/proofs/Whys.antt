-- The reply of `why`, and its refusals by those of its image.
use Rattle.std.proofs.Common.{◌≡◌, ◌⊎◌, ℕ, inl, inr, List, Result, Ok, Err, refl, subst, Vec, Global}
use Rattle.std.specs.Prelude.{Option, None, IfOk, IfErr}
use Rattle.std.specs.Option.{option_map}
use Rattle.g1_words.specs.declared.fault.Fault.{Fault}
use Rattle.g1_image.specs.Image.{Image, IsTextWithin}
use Rattle.g1_command.specs.declared.refusal.Refusal.{Refusal}
use Rattle.g1_explain.specs.Keeping.{IsReasonFault}
use Rattle.g1heap_request.specs.declared.image_file.ImageFile.{ImageFile}
use Rattle.g1heap_request.specs.declared.options.Why.{Why}
use Rattle.g1heap_cli.specs.Reasons.{IsRefusedIn, RefusesReason, RefusesImage, RefusesNamesBehind, RefusesWhy}
use Rattle.g1heap_cli.specs.Refusals.{RefusesFile, IsUnread}
use Rattle.g1heap_cli.specs.Replies.{IsWhyReply}
use Rattle.g1heap_cli.specs.Streams.{KeepsNamed, HoldsOfKept, LeavesBehind}
use Rattle.g1heap_cli.specs.Named.{MayBeNamed, RefusesNamesGiven}
use Rattle.g1heap_cli.specs.Texts.{IsReasonText}
use Rattle.g1heap_cli.proofs.Explained.{left_read}

-- a slot that isn't covered, or memory, is refused as its fault, or as what the bytes are when they are read again
pub fault_refused : {K : Type 0} (file : List ℕ) (a : ℕ) (i : Image) (f : Fault) (r : Refusal) → IsReasonFault i a f → RefusesFile file f r ⊎ K → RefusesReason file a i r ⊎ K
fault_refused file a i f r why (inl x) = inl (inr (f, why, x))
fault_refused file a i f r why (inr k) = inr k

-- of the image in a file, from what its source keeps
module _ (image : ImageFile) (left : Option (List ℕ)) (file : ImageFile) (kept : Option (Vec ℕ Global)) (same : file ≡ image)
    (keeps : KeepsNamed (λ (v : Vec ℕ Global). v.items) image.name.bytes.items left kept) (Refuses : Image → Refusal → Type 0) where
  -- the refusal of its bytes
  pub kept_refused : (r : Refusal) → IsRefusedIn (λ (v : Vec ℕ Global). v.items) kept file r → IsUnread image.name.bytes.items r ⊎ RefusesImage image left Refuses r
  kept_refused r x = by (subst (λ (f : ImageFile). IsRefusedIn (λ (v : Vec ℕ Global). v.items) kept f r) same x)
    where
      by : IsRefusedIn (λ (v : Vec ℕ Global). v.items) kept image r → IsUnread image.name.bytes.items r ⊎ RefusesImage image left Refuses r
      by (inl unread) = inl unread
      by (inr read) = inr (read.0, inl read.1, (λ dash. left_read left (option_map (λ (v : Vec ℕ Global). v.items) kept) read.0 (keeps dash) read.2))

  -- or that of the image that they are
  pub image_refused : (i : Image) (r : Refusal) → HoldsOfKept (λ (v : Vec ℕ Global). v.items) kept (λ xs. IsTextWithin file.limits xs i) → Refuses i r → RefusesImage image left Refuses r
  image_refused i r read x = (
    read.0,
    inr (i, subst (λ (f : ImageFile). IsTextWithin f.limits read.0 i) same read.1, x),
    (λ dash. left_read left (option_map (λ (v : Vec ℕ Global). v.items) kept) read.0 (keeps dash) read.2),
  )

module _ (why : Why) (left rest : Option (List ℕ)) (leaves : LeavesBehind why.image.name.bytes.items left rest) (file : ImageFile) (kept : Option (Vec ℕ Global)) (same : file ≡ why.image)
    (keeps : KeepsNamed (λ (v : Vec ℕ Global). v.items) why.image.name.bytes.items left kept) (i : Image)
    (read : HoldsOfKept (λ (v : Vec ℕ Global). v.items) kept (λ xs. IsTextWithin file.limits xs i)) where
  -- what keeps an object of the image in the bytes that were read is the reply
  pub why_replied : {X E : Type 0} (r : Result X E) (text : X → List ℕ) → IfOk r (λ x. MayBeNamed why.names rest i.heap (IsReasonText why.address i) (text x))
      → IfOk r (λ x. IsWhyReply why left 0 (text x))
  why_replied (Err e) text h = tt
  why_replied (Ok x) text h = (
    rest,
    leaves,
    (
      refl,
      (
        read.0,
        (i, subst (λ (f : ImageFile). IsTextWithin f.limits read.0 i) same read.1, h),
        λ dash. left_read left (option_map (λ (v : Vec ℕ Global). v.items) kept) read.0 (keeps dash) read.2,
      ),
    ),
  )

  -- what is asked of an image
  abbrev asked : Image → Refusal → Type 0
  asked j e = RefusesReason why.image.name.bytes.items why.address j e ⊎ RefusesNamesBehind why.image why.names left e

  -- a refusal of that image, of the names or of the bytes is one of `why`
  why_so : (r : Refusal)
      → RefusesReason file.name.bytes.items why.address i r ⊎ RefusesNamesGiven why.names rest None r ⊎ IsRefusedIn (λ (v : Vec ℕ Global). v.items) kept file r → RefusesWhy why left r
  why_so r (inl x) = inr (image_refused why.image left file kept same keeps asked i r read (inl (subst (λ (f : ImageFile). RefusesReason f.name.bytes.items why.address i r) same x)))
  why_so r (inr (inl names)) = inr (image_refused why.image left file kept same keeps asked i r read (inr (rest, leaves, names)))
  why_so r (inr (inr x)) = kept_refused why.image left file kept same keeps asked r x

  pub why_refused : {X : Type 0} (r : Result X Refusal)
      → IfErr r (λ e. RefusesReason file.name.bytes.items why.address i e ⊎ RefusesNamesGiven why.names rest None e ⊎ IsRefusedIn (λ (v : Vec ℕ Global). v.items) kept file e)
      → IfErr r (RefusesWhy why left)
  why_refused (Ok x) h = tt
  why_refused (Err e) h = why_so e h
