-- Why g1heap refuses a request: the refusal of the file that it names.
use Rattle.std.specs.Prelude.{◌≡◌, ◌⊎◌, ◌≤◌, ℕ, Bool, true, List, [], ◌++◌, codes, decimal, Contains, Option, Some, None, String}
use Rattle.g1_words.specs.Heap.{objects, object_at}
use Rattle.g1_words.specs.declared.fault.Fault.{Fault}
use Rattle.g1_words.specs.declared.fault.Fault.TheVariants as fault
use Rattle.g1_image.specs.Image.{Image, IsTextWithin}
use Rattle.g1_command.specs.declared.refusal.Refusal.{Refusal}
use Rattle.g1_command.specs.declared.refusal.Refusal.TheVariants as refusal
use Rattle.g1_choose.specs.Cost.{IsCost}
use Rattle.g1_choose.specs.declared.parameters.Cost.{Cost}
use Rattle.g1_pause.specs.declared.settings.Choice.{Choice}
use Rattle.g1_explain.specs.Explained.{IsMapOfPause}
use Rattle.g1_explain.specs.Keeping.{IsReasonFault}
use Rattle.g1_text.specs.Reading.{AreGraphLines, parts_of}
use Rattle.g1_text.specs.Refused.{IsLineOrMemory}
use Rattle.g1_text.specs.Reported.{Reports}
use Rattle.g1_text.specs.Short.{TellsImage}
use Rattle.g1_text.specs.declared.expected.Wrong.{Wrong}
use Rattle.g1_text.specs.declared.expected.Wrong.TheVariants as wrong
use Rattle.g1heap_request.specs.declared.image_file.ImageFile.{ImageFile}
use Rattle.g1heap_request.specs.declared.options.Explain.{Explain}
use Rattle.g1heap_request.specs.declared.options.Part.{Part}
use Rattle.g1heap_request.specs.declared.options.Part.TheVariants as part
use Rattle.g1heap_request.specs.declared.options.Why.{Why}
use Rattle.g1heap_cli.specs.Refusals.{Tells, told_line, ended, IsUnread, RefusesFile}
use Rattle.g1heap_cli.specs.Lines.{RefusesLines}
use Rattle.g1heap_cli.specs.Streams.{HoldsOfKept, HoldsOfNamed, LeavesBehind}
use Rattle.g1heap_cli.specs.Found.{RefusesBytes}
use Rattle.g1heap_cli.specs.Named.{RefusesNamesGiven}
use Rattle.g1heap_cli.specs.Texts.{AsksFor}

-- the refusal of a file that is to be an image, of which these bytes are kept: it is not read, or its bytes have a fault
abbrev pub IsRefusedIn : {V : Type 0} → (V → List ℕ) → Option V → ImageFile → Refusal → Type 0
IsRefusedIn items kept image r = IsUnread image.name.bytes.items r ⊎ HoldsOfKept items kept (λ bytes. RefusesBytes image.limits image.name.bytes.items bytes r)

-- an image lacks the part: the region, or an object at the address
abbrev pub LacksPart : List ℕ → Part → Image → Refusal → Type 0
LacksPart file (part.Region n) i r =
    (i.heap.geometry.n ≤ n) × Tells 2 (λ t. t ≡ told_line file (codes "no region " ++ (decimal n ++ (codes ": the image has " ++ ended (decimal i.heap.geometry.n))))) r
LacksPart file (part.Object a) i r =
    (Contains (objects i.heap) (object_at i.heap a) → ⊥)
    × Tells 2 (λ t. (what : List ℕ) × (t ≡ told_line file (codes "no object starts at " ++ (decimal a ++ (codes ": " ++ ended what))))) r
LacksPart file p i r = ⊥

-- it lacks the part, or memory was wanted
abbrev pub MayLack : List ℕ → Part → Image → Refusal → Type 0
MayLack file p i r = (r ≡ refusal.Fault fault.Memory) ⊎ LacksPart file p i r

-- the lines of an image are wrong: what is reported is their first wrong line. Lines that tell an image are not: memory is out
pub record IsWrongOfImage (lines : List ℕ) (why : Wrong) : Type 0 where
  pub reports : Reports lines why
  pub tells : (i : Image) → TellsImage lines i → why ≡ wrong.Fault fault.Memory

-- of `make`: for a line, or because memory is out; which line it is, is said of lines of an image
abbrev pub RefusesMake : List ℕ → List ℕ → Refusal → Type 0
RefusesMake file lines r = (why : Wrong) × IsLineOrMemory why × ((AreGraphLines (parts_of lines) → ⊥) → IsWrongOfImage lines why) × RefusesLines file why r

-- of `why`, for an image: no object starts at the address; or memory is wanted, or a slot that leads into its region isn't covered
abbrev pub RefusesReason : List ℕ → ℕ → Image → Refusal → Type 0
RefusesReason file a i r = MayLack file (part.Object a) i r ⊎ ((f : Fault) × IsReasonFault i a f × RefusesFile file f r)

-- of the image in a file: its bytes have a fault, or it is an image of which something is refused
abbrev pub RefusesImage : ImageFile → Option (List ℕ) → (Image → Refusal → Type 0) → Refusal → Type 0
RefusesImage image left Refuses r =
    HoldsOfNamed image.name.bytes.items left (λ bytes. RefusesBytes image.limits image.name.bytes.items bytes r ⊎ ((i : Image) × IsTextWithin image.limits bytes i × Refuses i r))

-- of the file of names that is given, if there is one: it is read behind the image
abbrev pub RefusesNamesBehind : {Z : Type 0} → ImageFile → Option (String Z) → Option (List ℕ) → Refusal → Type 0
RefusesNamesBehind image names left r = (rest : Option (List ℕ)) × LeavesBehind image.name.bytes.items left rest × RefusesNamesGiven names rest None r

-- THE REFUSAL OF `why`: the file is not read, or its bytes have a fault, or so has what is asked of their image, or the file of names is refused
abbrev pub RefusesWhy : Why → Option (List ℕ) → Refusal → Type 0
RefusesWhy why left r =
    IsUnread why.image.name.bytes.items r
    ⊎ RefusesImage why.image left (λ i e. RefusesReason why.image.name.bytes.items why.address i e ⊎ RefusesNamesBehind why.image why.names left e) r

-- no settings have this cost; or memory is wanted for them
abbrev pub RefusesCost : Cost → Refusal → Type 0
RefusesCost cost r = (r ≡ refusal.Fault fault.Memory) ⊎ ((IsCost cost → ⊥) × (r ≡ refusal.Fault (fault.Settings 3)))

-- of a pause of an image: a map is wanted, and there is none since the pause is refused, for its fault; or memory is wanted
abbrev pub RefusesPause : List ℕ → Cost → Choice → Bool → Image → Refusal → Type 0
RefusesPause file cost choice map i r = (r ≡ refusal.Fault fault.Memory) ⊎ ((map ≡ true) × (f : Fault) × IsMapOfPause cost choice i [] (Some f) × RefusesFile file f r)

-- of what `explain` is asked of an image: the file of names is refused, or the pause
abbrev pub RefusesExplained : Explain → Option (List ℕ) → Image → Refusal → Type 0
RefusesExplained e left i r =
    RefusesNamesBehind e.image e.names left r ⊎ ((choice : Choice) × AsksFor e.budget e.set.items choice × RefusesPause e.image.name.bytes.items e.cost choice e.map i r)
