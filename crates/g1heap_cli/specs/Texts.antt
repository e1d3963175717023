-- The texts that `print`, `make`, `why` and `explain` reply, by the bytes that they read.
use Rattle.std.specs.Prelude.{◌≡◌, ◌<◌, ◌⊎◌, ℕ, Bool, true, false, List, Contains, Option, Some, None, String}
use Rattle.g1_words.specs.declared.fault.Fault.{Fault}
use Rattle.g1_words.specs.Fault.{status_of}
use Rattle.g1_words.specs.Heap.{objects, object_at}
use Rattle.g1_words.specs.declared.limits.Limits.{Limits}
use Rattle.g1_words.specs.declared.limits.Limits.TheVariants.{Wide}
use Rattle.g1_image.specs.Image.{Image, IsTextIn, IsTextWithin, IsImageTextWithin}
use Rattle.g1_image.specs.Parts.{CountsFit}
use Rattle.g1_image.specs.declared.cursor.Version.TheVariants.{Two}
use Rattle.g1_text.specs.Lines.{text_of, line_text}
use Rattle.g1_text.specs.Reading.{AreGraphLines, lines_in, parts_of}
use Rattle.g1_text.specs.Forms.{ImageHeading, ImageLine, HasMeaning}
use Rattle.g1_text.specs.Content.{Content, file_with}
use Rattle.g1_text.specs.Short.{TellsAll, TellsImage, Closes}
use Rattle.g1_text.specs.Counted.{IsMadeOf}
use Rattle.g1_text.specs.Late.{NoneRemembered}
use Rattle.g1_text.specs.Graphs.{NamedGraph, SaysGraph}
use Rattle.g1_text.specs.Carried.{CarryGraph}
use Rattle.g1_text.specs.Plain.{IsPlainText}
use Rattle.g1_choose.specs.declared.parameters.Cost.{Cost}
use Rattle.g1_pause.specs.declared.settings.Choice.{Choice}
use Rattle.g1_pause.specs.declared.settings.Choice.TheVariants.{Budget, Given}
use Rattle.g1_explain.specs.declared.form.Form.{Form}
use Rattle.g1_explain.specs.declared.form.Form.TheVariants as form
use Rattle.g1_explain.specs.Explained.{IsExplained}
use Rattle.g1_explain.specs.Keeping.{IsReason}
use Rattle.g1_explain.specs.Lines.{reason_lines}
use Rattle.g1_tables.specs.Summary.{IsSummary}
use Rattle.g1heap_request.specs.declared.options.Part.{Part}
use Rattle.g1heap_request.specs.declared.options.Part.TheVariants as part
use Rattle.g1heap_cli.specs.Hexadecimal.{object_line_in, region_lines_in, image_lines_in}
use Rattle.g1heap_cli.specs.Named.{MayBeNamed}

-- P holds of an image whose text the bytes are, within these limits
abbrev pub HoldsOfImage : Limits → (Image → Type 0) → List ℕ → Type 0
HoldsOfImage limits P bytes = (i : Image) × IsTextWithin limits bytes i × P i

-- THE LINES OF A PART of an image, with its data words in hexadecimal or not: of all of it, of a region, of the object at an
-- address, or its numbers in short
abbrev pub IsPartText : Part → Bool → Image → List ℕ → Type 0
IsPartText part.Whole hex i text = text ≡ text_of (image_lines_in hex i)
IsPartText (part.Region r) hex i text = (r < i.heap.geometry.n) × (text ≡ text_of (region_lines_in hex i r))
IsPartText (part.Object a) hex i text = Contains (objects i.heap) (object_at i.heap a) × (text ≡ line_text (object_line_in hex i.heap.words (object_at i.heap a)))
IsPartText part.Summary hex i text = IsSummary i text

-- THE TEXT THAT `print` REPLIES to bytes
abbrev pub IsPrinted : Limits → Part → Bool → List ℕ → List ℕ → Type 0
IsPrinted limits p hex bytes text = HoldsOfImage limits (λ i. IsPartText p hex i text) bytes

-- bytes hold the graph that lines of objects by name say in plain words
abbrev pub IsGraphMade : List ℕ → List ℕ → Type 0
IsGraphMade lines bytes = (plain : List ℕ) × IsPlainText lines plain × ((g : NamedGraph) × SaysGraph plain g × CarryGraph g bytes)

-- what the lines of an image tell, short or in full, once all are read
abbrev pub TellInAll : List ℕ → Content → Type 0
TellInAll lines c = (told : Content) × TellsAll None (lines_in lines) (Some told) × Closes told c

-- bytes are made of the lines of an image, short or in full: each word of them has a meaning, and if they tell an image, the bytes are its text.
-- Whatever they tell agrees: the bytes have its numbers, and beside a line `covered` no card is told
pub record IsImageMade (lines bytes : List ℕ) : Type 0 where
  pub known : HasMeaning ImageHeading ImageLine lines
  pub tells : (i : Image) → TellsImage lines i → IsTextIn Two bytes i
  pub counted : (c : Content) → TellInAll lines c → c.covered ≡ false → CountsFit (file_with c) → IsMadeOf c bytes
  pub alone : (c : Content) → TellInAll lines c → c.covered ≡ true → NoneRemembered c

-- THE BYTES THAT `make` REPLIES to lines: those of an image, which is made of lines of objects by name, or of others
pub record IsMade (lines bytes : List ℕ) : Type 0 where
  pub image : IsImageTextWithin Wide bytes
  pub made : (AreGraphLines (parts_of lines) × IsGraphMade lines bytes) ⊎ ((AreGraphLines (parts_of lines) → ⊥) × IsImageMade lines bytes)

-- the lines of what keeps the object at an address
abbrev pub IsReasonText : ℕ → Image → List ℕ → Type 0
IsReasonText a i text = (why : _) × IsReason i a why × (text ≡ text_of (reason_lines i a why))

-- THE TEXT THAT `why` REPLIES to bytes, with the names of a file or without
abbrev pub IsWhyText : {Z : Type 0} → Limits → ℕ → Option (String Z) → Option (List ℕ) → List ℕ → List ℕ → Type 0
IsWhyText limits a names left bytes text = HoldsOfImage limits (λ i. MayBeNamed names left i.heap (IsReasonText a i) text) bytes

-- the form that is asked for: the new addresses alone, or a line for each fact
abbrev pub form_of : Bool → Form
form_of true = form.Map
form_of false = form.Steps

-- the choice is this budget, or these regions if there is none
abbrev pub AsksFor : Option ℕ → List ℕ → Choice → Type 0
AsksFor budget set (Budget b) = budget ≡ Some b
AsksFor budget set (Given list) = (budget ≡ None) × (list.items ≡ set)

-- how an explanation ends: with status 0, or with that of the fault for which the pause is refused; there is no map then
abbrev pub EndsWith : Option Fault → Form → ℕ → Type 0
EndsWith None f status = status ≡ 0
EndsWith (Some e) form.Steps status = status ≡ status_of e
EndsWith (Some e) form.Map status = ⊥

-- the status and the lines of a pause's explanation
abbrev pub IsPauseText : Cost → Choice → Form → Image → ℕ → List ℕ → Type 0
IsPauseText cost choice f i status lines = (refused : Option Fault) × IsExplained cost choice f i lines refused × EndsWith refused f status

-- the same, with the names of a file or without
abbrev pub IsExplanation : {Z : Type 0} → Cost → Choice → Form → Option (String Z) → Option (List ℕ) → Image → ℕ → List ℕ → Type 0
IsExplanation cost choice f names left i status text = MayBeNamed names left i.heap (IsPauseText cost choice f i status) text

-- THE STATUS AND THE TEXT THAT `explain` REPLIES to bytes: those of the explanation of a pause of the image that they are
abbrev pub IsExplainText : {Z : Type 0} → Limits → Cost → Choice → Form → Option (String Z) → Option (List ℕ) → List ℕ → ℕ → List ℕ → Type 0
IsExplainText limits cost choice f names left bytes status text = HoldsOfImage limits (λ i. IsExplanation cost choice f names left i status text) bytes
