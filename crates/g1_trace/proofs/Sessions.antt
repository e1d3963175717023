-- Why a session doesn't do a line, and the pause that a line asks for.
use Rattle.std.proofs.Common.{◌≡◌, ◌⊎◌, inl, inr, ℕ, zero, suc, ◌^◌, ◌<◌, List, [], ◌∷◌, Some, sym, subst, arith}
use Rattle.g1_words.specs.Geometry.{Geometry}
use Rattle.g1_words.specs.declared.fault.Fault.{Fault}
use Rattle.g1_words.specs.declared.fault.Fault.TheVariants.{Memory, Geometry as OutOfRange}
use Rattle.g1_image.specs.Image.{Image}
use Rattle.g1_choose.specs.declared.parameters.Cost.{Cost}
use Rattle.g1_pause.specs.Steps.{AreStepsOf}
use Rattle.g1_pause.specs.declared.settings.Choice.{Choice}
use Rattle.g1_pause.specs.declared.settings.Choice.TheVariants.{Budget}
use Rattle.g1_pause.specs.declared.steps.Steps.{Steps}
use Rattle.g1_trace.specs.Mutator.{IsStep}
use Rattle.g1_trace.specs.declared.command.Command.{Command}
use Rattle.g1_trace.specs.declared.command.Command.TheVariants.{Pause}
use Rattle.g1_trace.specs.declared.session.Session.{Session}
use Rattle.g1_trace.specs.declared.session.Session.TheVariants.{Begun, Open}
use Rattle.g1_trace.specs.declared.command.Reply.{Reply as ReplyOf}
use Rattle.g1_trace.specs.declared.session.Taken.TheVariants.{Reply}
use Rattle.g1_trace.specs.declared.session.Wrong.TheVariants.{Fault as Refused}
use Rattle.g1_trace.specs.TraceText.{heap_line, command_line, numbers_of, AllFit, IsCommandLine}
use Rattle.g1_trace.specs.Running.{IsHeapSize}
use Rattle.g1_trace.specs.Session.{AreStepsFor, AsksPause, IsDone, IsReason, command, image_of, one_more}

-- sizes that make no heap
pub refused_sizes : (line : List ℕ) (g : Geometry) (roots : ℕ) (e : Fault) → AllFit (g.w ∷ g.k ∷ g.n ∷ roots ∷ []) → line ≡ heap_line g.w g.k g.n roots
    → (e ≡ Memory) ⊎ ((e ≡ OutOfRange) × (IsHeapSize g roots → ⊥)) → IsReason Begun line (Refused e)
refused_sizes line g roots e fit is (inl memory) = subst (λ f. IsReason Begun line (Refused f)) (sym memory) tt
refused_sizes line g roots e fit is (inr out) = subst (λ f. IsReason Begun line (Refused f)) (sym out.0) (g, roots, fit, is, out.1)

-- a command for which there was no memory
pub refused_command : (i : Image) (n : ℕ) (c : Command) (e : Fault) → e ≡ Memory → IsReason (Open i n) (command_line c) (Refused e)
refused_command i n c e memory = subst (λ f. IsReason (Open i n) (command_line c) (Refused f)) (sym memory) tt

pause_fits : (b : ℕ) → b < 2 ^ 64 → AllFit (numbers_of (Pause b))
pause_fits b small zero d inside = small
pause_fits b small (suc k) d inside = absurd (omega (arith, inside))

-- a line that is no command's asks for no pause
pub no_command : (s : Session) (line : List ℕ) → (IsCommandLine line → ⊥) → (b : ℕ) → AsksPause s line b → ⊥
no_command Begun line none b asks = asks
no_command (Open i n) line none b asks = none (Pause b, pause_fits b asks.0, asks.1)

-- the steps of a session's heap are those of the heap
pub steps_here : (cost : Cost) (choice : Choice) (s : Session) (i : Image) (n : ℕ) (steps : Steps) → s ≡ Open i n → AreStepsFor cost choice s steps
    → AreStepsOf cost choice i steps
steps_here cost choice s i n steps is taken =
    let there : image_of (Open i n) ≡ Some taken.0 = subst (λ x. image_of x ≡ Some taken.0) is taken.1 in
    let same : taken.0 ≡ i = cc in
    subst (λ x. AreStepsOf cost choice x steps) same taken.2

-- a session without a heap has no steps
pub no_heap : (cost : Cost) (choice : Choice) (s : Session) (steps : Steps) → s ≡ Begun → AreStepsFor cost choice s steps → ⊥
no_heap cost choice s steps is taken =
    let there : image_of Begun ≡ Some taken.0 = subst (λ x. image_of x ≡ Some taken.0) is taken.1 in cc

-- a step by the command of a line is what the line gets
pub command_done : (cost : Cost) (s : Session) (line : List ℕ) (c : Command) (i j : Image) (n m : ℕ) (r : ReplyOf) → s ≡ Open i n → m ≡ one_more n
    → AllFit (numbers_of c) → line ≡ command_line c → IsStep cost i c r j → IsDone cost s line (Reply r) (Open j m)
command_done cost s line c i j n m r is counted fit text step =
    let made : IsDone cost (Open i n) line (Reply r) (Open j (one_more n)) = command c fit text step in
    subst (λ x. IsDone cost x line (Reply r) (Open j m)) (sym is) (subst (λ k. IsDone cost (Open i n) line (Reply r) (Open j k)) (sym counted) made)

-- a pause that was made by its steps is what the line that asks for it gets
pub pause_done : (cost : Cost) (choice : Choice) (s : Session) (i j : Image) (n m : ℕ) (r : ReplyOf) → s ≡ Open i n → m ≡ one_more n
    → ((b : ℕ) → choice ≡ Budget b → IsStep cost i (Pause b) r j)
    → (line : List ℕ) (b : ℕ) → AsksPause s line b → choice ≡ Budget b → IsDone cost s line (Reply r) (Open j m)
pause_done cost choice s i j n m r is counted step line b asks asked =
    let here : AsksPause (Open i n) line b = subst (λ x. AsksPause x line b) is asks in
    command_done cost s line (Pause b) i j n m r is counted (pause_fits b here.0) here.1 (step b asked)
