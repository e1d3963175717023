-- Why g1heap refuses a request: by the files that it names, and by their bytes. `left` is what standard input has left.
use Rattle.std.specs.Prelude.{◌≡◌, ◌⊎◌, ℕ, List, ◌++◌, codes, String, Option, Some, None, Result}
use Rattle.g1_words.specs.declared.fault.Fault.{Fault}
use Rattle.g1_words.specs.declared.fault.Fault.TheVariants as fault
use Rattle.g1_words.specs.declared.fault.Device.TheVariants as device
use Rattle.g1_words.specs.declared.limits.Limits.{Limits}
use Rattle.g1_image.specs.Image.{Image, IsTextWithin}
use Rattle.g1_command.specs.declared.refusal.Refusal.{Refusal}
use Rattle.g1_command.specs.declared.refusal.Refusal.TheVariants as refusal
use Rattle.g1_answers.specs.Questions.{IsReply}
use Rattle.g1_answers.specs.Images.{IsNewImage}
use Rattle.g1_answers.specs.Replies.{MayRefuse}
use Rattle.g1heap_request.specs.declared.asking.Ask.{Ask}
use Rattle.g1heap_request.specs.declared.asking.Rewrite.{Rewrite}
use Rattle.g1heap_request.specs.declared.dump.Convert.{Convert}
use Rattle.g1heap_request.specs.declared.image_file.ImageFile.{ImageFile}
use Rattle.g1heap_request.specs.declared.options.Explain.{Explain}
use Rattle.g1heap_request.specs.declared.options.Part.{Part}
use Rattle.g1heap_request.specs.declared.options.ImageAfter.{ImageAfter}
use Rattle.g1heap_request.specs.declared.options.Request.{Request}
use Rattle.g1heap_request.specs.declared.options.Request.TheVariants as request
use Rattle.g1heap_request.specs.declared.options.Trace.{Trace}
use Rattle.g1heap_request.specs.declared.output.Output.{Output}
use Rattle.g1heap_request.specs.declared.output.Output.TheVariants as output
use Rattle.g1heap_cli.specs.Refusals.{Tells, RefusesFile, IsUnread, told_line, ended, cause_line}
use Rattle.g1heap_cli.specs.Found.{RefusesBytes}
use Rattle.g1heap_cli.specs.Reasons.{LacksPart, RefusesMake, RefusesWhy, RefusesCost, RefusesImage, RefusesExplained}
use Rattle.g1heap_cli.specs.Streams.{HoldsOfNamed}
use Rattle.g1heap_cli.specs.TraceReasons.{RefusesTraceText}
use Rattle.g1heap_cli.specs.SameReasons.{RefusesSame}

-- ---- what is written
-- a file can't be made, or can't get its name
abbrev pub CantWrite : List ℕ → Refusal → Type 0
CantWrite file r = Tells 7 (λ t. (why : List ℕ) × (t ≡ told_line file (codes "can't be written: " ++ ended why))) r

-- THE REFUSAL OF A FILE THAT IS NOT WRITTEN: it can't be, or the machine has a fault, a want of memory or a write that failed
abbrev pub IsUnwritten : List ℕ → Refusal → Type 0
IsUnwritten file r = CantWrite file r ⊎ RefusesFile file (fault.Device device.Output) r

-- the answer does not get where it is to go
abbrev pub IsUnsent : Output → Refusal → Type 0
IsUnsent (output.File name) r = IsUnwritten name.bytes.items r
IsUnsent output.Standard r = r ≡ refusal.Fault (fault.Device device.Output)
IsUnsent output.Default r = r ≡ refusal.Fault (fault.Device device.Output)

-- a refusal in place of one that says that the output failed, if the output is a list: that wanted memory
abbrev pub IsOfList : Refusal → Refusal → Type 0
IsOfList (refusal.Fault (fault.Device device.Output)) r = r ≡ refusal.Fault fault.Memory
IsOfList why r = r ≡ why

-- ---- what is read
-- how regions are given
abbrev pub set_tip : List ℕ
set_tip = codes "regions are given by '--set', as in '--set 1,2,5-9'"

-- a file of which regions are collected is not read; behind that it can't be opened may stand how regions are given
abbrev pub IsUnreadOrSet : List ℕ → Refusal → Type 0
IsUnreadOrSet file r = IsUnread file r ⊎ Tells 7 (λ t. (why : List ℕ) × (t ≡ told_line file (codes "can't be opened: " ++ ended why) ++ cause_line set_tip)) r

-- a file has no answer: the fault of its bytes, or the one that the reply is, or that a fault of the machine stopped it. It is read once more for the rule
-- that is broken
abbrev pub HasNoAnswer : Limits → List ℕ → (List ℕ → Result (List ℕ) Fault → Type 0) → Option (List ℕ) → Refusal → Type 0
HasNoAnswer limits file Is left r =
    HoldsOfNamed file left (λ bytes. ((f : Fault) × MayRefuse (Is bytes) f × RefusesFile file f r) ⊎ RefusesBytes limits file bytes r)

-- ---- by request
-- why a part is not printed: the file is not read, its bytes are no image's, or the image lacks the part
abbrev pub RefusesPart : ImageFile → Part → Option (List ℕ) → Refusal → Type 0
RefusesPart image part left r =
    IsUnread image.name.bytes.items r
    ⊎ HoldsOfNamed image.name.bytes.items left (λ bytes.
    RefusesBytes image.limits image.name.bytes.items bytes r ⊎ ((i : Image) × IsTextWithin image.limits bytes i × LacksPart image.name.bytes.items part i r))

-- why no image is made of lines
abbrev pub RefusesLinesOf : List ℕ → Option (List ℕ) → Refusal → Type 0
RefusesLinesOf file left r = IsUnread file r ⊎ HoldsOfNamed file left (λ lines. RefusesMake file lines r)

-- why a question is not answered, and why no image is made of another one
abbrev pub RefusesAsk : Ask → Option (List ℕ) → Refusal → Type 0
RefusesAsk a left r = IsUnread a.image.name.bytes.items r ⊎ HasNoAnswer a.image.limits a.image.name.bytes.items (IsReply a.image.limits a.question) left r

abbrev pub RefusesRewrite : Rewrite → Option (List ℕ) → Refusal → Type 0
RefusesRewrite a left r =
    IsUnreadOrSet a.image.name.bytes.items r ⊎ HasNoAnswer a.image.limits a.image.name.bytes.items (IsNewImage a.image.limits a.wanted) left r

-- why no pause is explained: no settings have its cost, the file is not read, or what is asked of its image is refused
abbrev pub RefusesExplain : Explain → Option (List ℕ) → Refusal → Type 0
RefusesExplain e left r = RefusesCost e.cost r ⊎ IsUnreadOrSet e.image.name.bytes.items r ⊎ RefusesImage e.image left (RefusesExplained e left) r

-- why no image is made of a heap dump: the file is not read, or it is refused with some text; or the file of names is not written
abbrev pub IsUnwrittenIfGiven : {Z : Type 0} → Option (String Z) → Refusal → Type 0
IsUnwrittenIfGiven None r = ⊥
IsUnwrittenIfGiven (Some file) r = IsUnwritten file.bytes.items r

abbrev pub RefusesDump : Convert → Refusal → Type 0
RefusesDump c r =
    IsUnread c.dump.bytes.items r ⊎ ((status : ℕ) × Tells status (λ t. (why : List ℕ) × (t ≡ told_line c.dump.bytes.items (ended why))) r) ⊎ IsUnwrittenIfGiven c.names r

-- the replies to a trace, or the image that it makes, do not get where they are to go
abbrev pub IsUnsentOf : Option ImageAfter → Refusal → Type 0
IsUnsentOf None r = r ≡ refusal.Fault (fault.Device device.Output)
IsUnsentOf (Some after) r = IsUnsent after.output r ⊎ (r ≡ refusal.Fault (fault.Device device.Output))

-- why a trace is refused, by what is known of its bytes: for its cost, it is not read, its lines are refused, or what it makes is not sent
abbrev pub RefusesTraceBy : Trace → ((List ℕ → Type 0) → Type 0) → Refusal → Type 0
RefusesTraceBy trace Of r =
    RefusesCost trace.cost r ⊎ IsUnread trace.name.bytes.items r ⊎ Of (λ bytes. RefusesTraceText trace bytes r) ⊎ IsUnsentOf trace.image r

abbrev pub RefusesTrace : Trace → Option (List ℕ) → Refusal → Type 0
RefusesTrace trace left r = RefusesTraceBy trace (HoldsOfNamed trace.name.bytes.items left) r

-- WHY A REQUEST IS REFUSED
abbrev pub Refuses : Request → Option (List ℕ) → Refusal → Type 0
Refuses (request.Help text) left r = r ≡ refusal.Fault (fault.Device device.Output)
Refuses (request.Same same) left r = RefusesSame same left r ⊎ (r ≡ refusal.Fault (fault.Device device.Output))
Refuses (request.Print image part hex out) left r = RefusesPart image part left r ⊎ IsUnsent out r
Refuses (request.Make lines out) left r = RefusesLinesOf lines.bytes.items left r ⊎ IsUnsent out r
Refuses (request.Convert c) left r = RefusesDump c r ⊎ IsUnsent c.output r
Refuses (request.Explain e) left r = RefusesExplain e left r ⊎ IsUnsent e.output r
Refuses (request.Why why) left r = RefusesWhy why left r ⊎ (r ≡ refusal.Fault (fault.Device device.Output))
Refuses (request.Trace trace) left r = RefusesTrace trace left r
Refuses (request.Ask a) left r = RefusesAsk a left r ⊎ IsUnsent a.output r
Refuses (request.Rewrite a) left r = RefusesRewrite a left r ⊎ IsUnsent a.output r
