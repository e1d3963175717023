-- What g1pause replies to a request and to the bytes of its input.
use Rattle.std.specs.Prelude.{◌≡◌, ℕ, List, Result, Ok, Err}
use Rattle.g1_words.specs.declared.limits.Limits.TheVariants.{Specified}
use Rattle.g1_words.specs.declared.fault.Fault.{Fault}
use Rattle.g1_words.specs.declared.fault.Fault.TheVariants as fault
use Rattle.g1_choose.specs.declared.parameters.Cost.{Cost}
use Rattle.g1_trace.specs.TraceText.{IsFirstBadLine}
use Rattle.g1_trace.specs.Telling.{IsTold, IsOutsideLimits}
use Rattle.g1_answers.specs.Numbers.{RefusesNumbers}
use Rattle.g1_answers.specs.Replies.{Settled}
use Rattle.g1_answers.specs.Questions.{IsReply}
use Rattle.g1_answers.specs.Images.{IsNewImage}
use Rattle.g1pause_cli.specs.declared.options.Replay.{Replay}
use Rattle.g1pause_cli.specs.declared.options.Request.{Request}
use Rattle.g1pause_cli.specs.declared.options.Request.TheVariants.{Help, Answer, Write, Run}

-- the transcript of a trace's replies, or the first line that is not of its form, or that a number of the first line is outside
-- the limits
pub data IsTranscript (cost : Cost) (bytes : List ℕ) : Result (List ℕ) Fault → Type 0 where
  bad_line : {n : ℕ} → IsFirstBadLine bytes n → IsTranscript cost bytes (Err (fault.Line n))
  outside : IsOutsideLimits bytes → IsTranscript cost bytes (Err fault.Geometry)
  told : {text : List ℕ} → IsTold cost bytes text → IsTranscript cost bytes (Ok text)

-- the reply to a trace
abbrev pub IsReplayed : Replay → List ℕ → Result (List ℕ) Fault → Type 0
IsReplayed replay bytes r = Settled (RefusesNumbers replay.sharing replay.cost) (IsTranscript replay.cost bytes) r

-- THE REPLY TO A REQUEST
abbrev pub IsReplyTo : Request → List ℕ → Result (List ℕ) Fault → Type 0
IsReplyTo (Help text) bytes r = r ≡ Ok text.bytes.items
IsReplyTo (Answer question) bytes r = IsReply Specified question bytes r
IsReplyTo (Write wanted) bytes r = IsNewImage Specified wanted bytes r
IsReplyTo (Run replay) bytes r = IsReplayed replay bytes r
