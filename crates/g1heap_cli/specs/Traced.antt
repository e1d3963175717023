-- What g1heap replies to a trace. It reads it line by line, and comments count for nothing.
use Rattle.std.specs.Prelude.{◌≡◌, ◌⊎◌, ◌≤◌, ◌+◌, ℕ, zero, suc, Bool, true, false, not, ◌&&◌, ◌==◌, List, [], ◌∷◌, ◌++◌, length, take, filter, decimal, Option, Some, None}
use Rattle.std.specs.List.{AllByRecursion}
use Rattle.g1_words.specs.declared.fault.Fault.{Fault}
use Rattle.g1_words.specs.Geometry.{Geometry}
use Rattle.g1_image.specs.Image.{Image, IsTextIn}
use Rattle.g1_image.specs.declared.cursor.Version.TheVariants.{Two}
use Rattle.g1_choose.specs.declared.parameters.Cost.{Cost}
use Rattle.g1_pause.specs.declared.settings.Choice.TheVariants.{Budget}
use Rattle.g1_explain.specs.declared.form.Form.TheVariants as form
use Rattle.g1_explain.specs.Explained.{IsExplained}
use Rattle.g1_command.specs.Lines.{HasNoEnd}
use Rattle.g1_trace.specs.declared.command.Command.{Command}
use Rattle.g1_trace.specs.declared.command.Command.TheVariants.{Pause}
use Rattle.g1_trace.specs.declared.command.Reply.{Reply as ReplyOf}
use Rattle.g1_trace.specs.TraceText.{ended, IsText}
use Rattle.g1_trace.specs.Mutator.{IsStep}
use Rattle.g1_trace.specs.Run.{IsRun, empty_image}
use Rattle.g1_trace.specs.Running.{IsHeapSize}
use Rattle.g1_trace.specs.Telling.{reply_line, reply_lines}
use Rattle.g1heap_request.specs.declared.options.Trace.{Trace}
use Rattle.g1heap_request.specs.declared.options.ImageAfter.{ImageAfter}
use Rattle.g1heap_request.specs.declared.output.Output.{Output}
use Rattle.g1heap_request.specs.declared.output.Output.TheVariants as output
use Rattle.g1heap_cli.specs.Leaving.{Reply}

-- a line counts, except if it is empty or begins with a number sign
abbrev pub counts : List ℕ → Bool
counts [] = false
counts (first ∷ rest) = not (first == 35)

-- the lines without the comments
abbrev pub without_comments : List (List ℕ) → List (List ℕ)
without_comments lines = filter counts lines

-- commands with these replies lead from an image to another
abbrev pub Leads : Cost → Image → List Command → List ReplyOf → Image → Type 0
Leads cost i [] [] j = i ≡ j
Leads cost i [] (r ∷ rs) j = ⊥
Leads cost i (c ∷ cs) [] j = ⊥
Leads cost i (c ∷ cs) (r ∷ rs) j = (k : Image) × IsStep cost i c r k × Leads cost k cs rs j

-- the number of a command before its reply, if replies have numbers
abbrev pub number_text : Bool → ℕ → List ℕ
number_text false n = []
number_text true n = decimal n ++ 32 ∷ []

-- the lines of replies, each behind the number of its command and a space, from the command n on
abbrev pub numbered_lines : ℕ → List ReplyOf → List ℕ
numbered_lines n [] = []
numbered_lines n (r ∷ rs) = ((decimal n ++ 32 ∷ []) ++ reply_line r) ++ numbered_lines (n + 1) rs

-- the lines of replies, with the numbers of the commands or without
abbrev pub told_lines : Bool → List ReplyOf → List ℕ
told_lines false replies = reply_lines replies
told_lines true replies = numbered_lines 1 replies

-- the lines that explain a command: those of its pause of the image before it, if it is one
abbrev pub IsExplanationOf : Cost → Image → Command → List ℕ → Type 0
IsExplanationOf cost i (Pause b) lines = (refused : Option Fault) × IsExplained cost (Budget b) form.Steps i lines refused
IsExplanationOf cost i c lines = lines ≡ []

-- commands with these replies lead from an image to another, and the text has each reply behind the lines that explain its command,
-- with the numbers of the commands, from n on, or without
abbrev pub LeadsTold : Cost → Bool → ℕ → Image → List Command → List ReplyOf → Image → List ℕ → Type 0
LeadsTold cost numbered n i [] [] j text = (i ≡ j) × (text ≡ [])
LeadsTold cost numbered n i [] (r ∷ rs) j text = ⊥
LeadsTold cost numbered n i (c ∷ cs) [] j text = ⊥
LeadsTold cost numbered n i (c ∷ cs) (r ∷ rs) j text =
    (k : Image) × (lines : List ℕ) × (rest : List ℕ) × IsStep cost i c r k × IsExplanationOf cost i c lines × LeadsTold cost numbered (n + 1) k cs rs j rest
    × (text ≡ (lines ++ (number_text numbered n ++ reply_line r)) ++ rest)

-- what is told of commands: their replies, or each behind what explains it
abbrev pub Tells : Bool → Cost → Bool → Image → List Command → List ReplyOf → Image → List ℕ → Type 0
Tells false cost numbered i commands replies j text = text ≡ told_lines numbered replies
Tells true cost numbered i commands replies j text = LeadsTold cost numbered 1 i commands replies j text

-- the command whose image is asked for, and that whose image goes to standard output; 0 for none
abbrev pub asked_command : Option ImageAfter → ℕ
asked_command None = 0
asked_command (Some after) = after.command

abbrev pub if_standard : Output → ℕ → ℕ
if_standard (output.File name) n = 0
if_standard output.Standard n = n
if_standard output.Default n = n

abbrev pub sent_command : Option ImageAfter → ℕ
sent_command None = 0
sent_command (Some after) = if_standard after.output after.command

-- each line is answered at once: if that is asked for, and no image goes to standard output
abbrev pub is_live : Trace → Bool
is_live trace = trace.live && (sent_command trace.image == 0)

-- THE LINES ARE THOSE OF A TRACE: without comments they are the text of these sizes and commands, and the replies are those
-- of their run
pub record AreLinesOf (cost : Cost) (lines : List (List ℕ)) (g : Geometry) (roots : ℕ) (commands : List Command) (replies : List ReplyOf) : Type 0 where
  pub text : IsText (ended (without_comments lines)) g roots commands
  pub limits : IsHeapSize g roots
  pub run : IsRun cost g roots commands replies

-- the text tells the replies to the commands of these lines, which are at least so many, and explains their pauses if that is asked for
pub record TellsReplies (trace : Trace) (least : ℕ) (lines : List (List ℕ)) (text : List ℕ) : Type 0 where
  pub sizes : Geometry
  pub roots : ℕ
  pub commands : List Command
  pub replies : List ReplyOf
  pub trace_lines : AreLinesOf trace.cost lines sizes roots commands replies
  pub enough : least ≤ length commands
  pub image : Image
  pub leads : Leads trace.cost (empty_image sizes roots) commands replies image
  pub told : Tells trace.explain trace.cost trace.numbered (empty_image sizes roots) commands replies image text

-- the text is that of the image after the first n commands of these lines
pub record IsImageAfter (cost : Cost) (n : ℕ) (lines : List (List ℕ)) (text : List ℕ) : Type 0 where
  pub sizes : Geometry
  pub roots : ℕ
  pub commands : List Command
  pub replies : List ReplyOf
  pub trace_lines : AreLinesOf cost lines sizes roots commands replies
  pub enough : n ≤ length commands
  pub image : Image
  pub leads : Leads cost (empty_image sizes roots) (take n commands) (take n replies) image
  pub is_text : IsTextIn Two text image

-- what goes to standard output by all lines of a trace: their replies, or the image that is asked for there
abbrev pub IsTraced : Trace → ℕ → List (List ℕ) → List ℕ → Type 0
IsTraced trace zero lines text = TellsReplies trace (asked_command trace.image) lines text
IsTraced trace (suc n) lines text = IsImageAfter trace.cost (suc n) lines text

-- what goes there by the first lines: nothing before the line with the sizes, and then their replies
abbrev pub IsTracedSoFar : Trace → List (List ℕ) → List ℕ → Type 0
IsTracedSoFar trace lines text = ((without_comments lines ≡ []) × (text ≡ [])) ⊎ TellsReplies trace 0 lines text

-- bytes are these lines, each with its end, and a rest
pub record BeginsWithLines (lines : List (List ℕ)) (rest bytes : List ℕ) : Type 0 where
  pub split : bytes ≡ ended lines ++ rest
  pub whole : AllByRecursion HasNoEnd lines

-- THE REPLY TO A TRACE, by what is known of its bytes: with status 0 the text for all its lines; with another status, if each line
-- is answered at once, that for its first lines
abbrev pub RepliesToTrace : Trace → ((List ℕ → Type 0) → Type 0) → Reply
RepliesToTrace trace Of zero text = Of (λ bytes. (lines : List (List ℕ)) × BeginsWithLines lines [] bytes × IsTraced trace (sent_command trace.image) lines text)
RepliesToTrace trace Of (suc status) text =
    (is_live trace ≡ true) × Of (λ bytes. (lines : List (List ℕ)) × (rest : List ℕ) × BeginsWithLines lines rest bytes × IsTracedSoFar trace lines text)
