-- What g1heap replies to a request: a status and a text. `left` is what standard input has left.
use Rattle.std.specs.Prelude.{◌≡◌, ℕ, Bool, List, Option, Ok}
use Rattle.g1_words.specs.declared.limits.Limits.TheVariants.{Wide}
use Rattle.g1_image.specs.Image.{IsImageTextWithin}
use Rattle.g1_pause.specs.declared.settings.Choice.{Choice}
use Rattle.g1_answers.specs.Questions.{IsReply}
use Rattle.g1_answers.specs.Images.{IsNewImage}
use Rattle.g1heap_request.specs.declared.asking.Ask.{Ask}
use Rattle.g1heap_request.specs.declared.asking.Rewrite.{Rewrite}
use Rattle.g1heap_request.specs.declared.image_file.ImageFile.{ImageFile}
use Rattle.g1heap_request.specs.declared.options.Part.{Part}
use Rattle.g1heap_request.specs.declared.options.Request.{Request}
use Rattle.g1heap_request.specs.declared.options.Request.TheVariants as request
use Rattle.g1heap_request.specs.declared.options.Same.{Same}
use Rattle.g1heap_request.specs.declared.options.Explain.{Explain}
use Rattle.g1heap_request.specs.declared.options.Why.{Why}
use Rattle.g1heap_request.specs.declared.options.Trace.{Trace}
use Rattle.g1heap_cli.specs.Streams.{HoldsOfNamed, LeavesBehind}
use Rattle.g1heap_cli.specs.Texts.{IsPrinted, IsMade, IsWhyText, AsksFor, IsExplainText, form_of}
use Rattle.g1heap_cli.specs.SameReplies.{IsSameText}
use Rattle.g1heap_cli.specs.Leaving.{Reply, Just}
use Rattle.g1heap_cli.specs.Traced.{RepliesToTrace}

-- with status 0 a text, by the bytes of what has this name
abbrev pub ByNamed : List ℕ → Option (List ℕ) → (List ℕ → List ℕ → Type 0) → Reply
ByNamed file left Is status text = (status ≡ 0) × HoldsOfNamed file left (λ bytes. Is bytes text)

-- the reply to a question of an image, and an image that is made of one
abbrev pub IsAsked : Ask → Option (List ℕ) → Reply
IsAsked a left = ByNamed a.image.name.bytes.items left (λ bytes text. IsReply a.image.limits a.question bytes (Ok text))

abbrev pub IsRewritten : Rewrite → Option (List ℕ) → Reply
IsRewritten r left = ByNamed r.image.name.bytes.items left (λ bytes text. IsNewImage r.image.limits r.wanted bytes (Ok text))

-- the bytes of an image
abbrev pub IsSomeImage : Reply
IsSomeImage status text = (status ≡ 0) × IsImageTextWithin Wide text

-- the lines of a part of an image, and the bytes that lines make
abbrev pub IsPrintReply : ImageFile → Part → Bool → Option (List ℕ) → Reply
IsPrintReply image part hex left = ByNamed image.name.bytes.items left (IsPrinted image.limits part hex)

abbrev pub IsMakeReply : List ℕ → Option (List ℕ) → Reply
IsMakeReply file left = ByNamed file left IsMade

-- what keeps an object. A file of names is read behind the image: `rest` is what standard input has left then
abbrev pub IsWhyReply : Why → Option (List ℕ) → Reply
IsWhyReply why left status text =
    (rest : Option (List ℕ)) × LeavesBehind why.image.name.bytes.items left rest
    × ByNamed why.image.name.bytes.items left (IsWhyText why.image.limits why.address why.names rest) status text

-- the reply to a trace
abbrev pub IsTraceReply : Trace → Option (List ℕ) → Reply
IsTraceReply trace left = RepliesToTrace trace (HoldsOfNamed trace.name.bytes.items left)

-- the explanation of a pause, by a choice that the request asks for, and with names that are read behind the image
abbrev pub IsExplainReply : Explain → Option (List ℕ) → Reply
IsExplainReply e left status text =
    (rest : Option (List ℕ)) × LeavesBehind e.image.name.bytes.items left rest
    × HoldsOfNamed e.image.name.bytes.items left (λ bytes. (choice : Choice) × AsksFor e.budget e.set.items choice
    × IsExplainText e.image.limits e.cost choice (form_of e.map) e.names rest bytes status text)

-- whether two files have one heap, or how they differ
abbrev pub IsSameReply : Same → Option (List ℕ) → Reply
IsSameReply same left = IsSameText same left

-- THE REPLY TO A REQUEST
abbrev pub IsReplyTo : Request → Option (List ℕ) → Reply
IsReplyTo (request.Help text) left = Just 0 text.bytes.items
IsReplyTo (request.Same same) left = IsSameReply same left
IsReplyTo (request.Print image part hex output) left = IsPrintReply image part hex left
IsReplyTo (request.Make lines output) left = IsMakeReply lines.bytes.items left
IsReplyTo (request.Convert asked) left = IsSomeImage
IsReplyTo (request.Explain explain) left = IsExplainReply explain left
IsReplyTo (request.Why why) left = IsWhyReply why left
IsReplyTo (request.Trace trace) left = IsTraceReply trace left
IsReplyTo (request.Ask a) left = IsAsked a left
IsReplyTo (request.Rewrite r) left = IsRewritten r left
