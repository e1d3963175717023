-- Every command has a step, every trace within the limits a run, and any bytes an answer.
use Rattle.std.proofs.Common.{◌≡◌, ℕ, ◌+◌, ◌≤◌, inl, inr, List, [], ◌∷◌, Result, Ok, Err, refl}
use Rattle.std.specs.Prelude.{Option, Some, None, All, slice_set}
use Rattle.std.specs.List.{AllByRecursion}
use Rattle.std.proofs.lemmas.List.Elements.{All-head, All-tail}
use Rattle.g1_words.specs.declared.fault.Fault.{Fault}
use Rattle.g1_words.specs.Geometry.{Geometry, IsWithinLimits, most_roots}
use Rattle.g1_image.specs.Image.{Image}
use Rattle.g1_image.specs.Cards.{IsTracked}
use Rattle.g1_image.proofs.Decided.{Decided, decided_as, decided_both, decided_le}
use Rattle.g1_image.proofs.ToldFiles.{decided_limits}
use Rattle.g1_choose.specs.declared.parameters.Cost.{Cost}
use Rattle.g1_pause.specs.declared.settings.Choice.TheVariants.{Budget}
use Rattle.g1_pause.specs.Answer.{IsEvacuated}
use Rattle.g1_pause.proofs.Always.{evacuation_exists}
use Rattle.g1_trace.specs.declared.command.Command.{Command}
use Rattle.g1_trace.specs.declared.command.Command.TheVariants.{New, Get, Put, Set, Say, Same, Copy, Drop, Pause}
use Rattle.g1_trace.specs.declared.command.Reply.{Reply}
use Rattle.g1_trace.specs.declared.command.Reply.TheVariants.{Full, Room}
use Rattle.g1_trace.specs.Commands.{Effect, Nothing, SetRoot, SetSlot, SetValue, MakeNew, MakePause, answer_of}
use Rattle.g1_trace.specs.Mutator.{heap_view, heap_with, with_heap, with_roots, with_words, slot_address, value_address, logged, place_for, IsEffect, IsStep}
use Rattle.g1_trace.specs.Run.{Replies, empty_image}
use Rattle.g1_trace.specs.Running.{IsHeapSize}
use Rattle.g1_trace.specs.TraceText.{AllFit, numbers_of, IsText}
use Rattle.g1_trace.specs.Telling.{reply_lines, IsTold}
use Rattle.g1_trace.specs.Laws.{WritesWord, StepExists, RunExists, AlwaysTold}
use Rattle.g1_trace.proofs.Numerals.{fit_head, fit_rest}
use Rattle.g1_trace.proofs.Deciding.{text_or_bad_line}
use Rattle.g1_trace.proofs.StepsKept.{step_keeps, start_tracked, whole_traces}

-- what an effect comes to
abbrev Outcome : Cost → Image → Effect → Reply → Type 0
Outcome cost i e said = (reply : Reply) × (j : Image) × IsEffect cost i e said reply j

new_exists : (cost : Cost) (i : Image) (root refs words : ℕ) (said : Reply) (place : Option ℕ) → place_for i.heap (1 + refs + words) ≡ place → Outcome cost i (MakeNew root refs words) said
new_exists cost i root refs words said None e = (Full, i, inl (e, refl, refl))
new_exists cost i root refs words said (Some r) e = (said, with_heap i (heap_with i.heap r (1 + refs + words) refs root), inr (r, e, refl, refl))

pause_exists : (cost : Cost) (i : Image) (b : ℕ) (said : Reply) (x : Result Image Fault) → IsEvacuated cost (Budget b) i x → Outcome cost i (MakePause b) said
pause_exists cost i b said (Ok j) e = (said, j, inl (e, refl))
pause_exists cost i b said (Err f) e = (Room, i, inr (f, e, refl, refl))

effect_exists : (cost : Cost) (i : Image) → IsTracked i → (e : Effect) (said : Reply) → Outcome cost i e said
effect_exists cost i tracked Nothing said = (said, i, (refl, refl))
effect_exists cost i tracked (SetRoot r x) said = (said, with_roots i (slice_set i.heap.roots r x), (refl, refl))
effect_exists cost i tracked (SetSlot a p x) said = (said, with_words i (slice_set i.heap.words (slot_address a p) x) (logged i (slot_address a p) x), (refl, refl))
effect_exists cost i tracked (SetValue a p x) said = (said, with_words i (slice_set i.heap.words (value_address i.heap a p) x) i.log, (refl, refl))
effect_exists cost i tracked (MakeNew root refs words) said = new_exists cost i root refs words said (place_for i.heap (1 + refs + words)) refl
effect_exists cost i tracked (MakePause b) said = let x = evacuation_exists cost i tracked (Budget b) in pause_exists cost i b said x.0 x.1

pub step_exists : StepExists
step_exists cost i c tracked = effect_exists cost i tracked (answer_of (heap_view i.heap) c).effect (answer_of (heap_view i.heap) c).reply

replies_exist : (cost : Cost) (i : Image) (commands : List Command) → AllByRecursion WritesWord commands → IsTracked i → (replies : List Reply) × Replies (IsStep cost) i commands replies
replies_exist cost i [] fits tracked = ([], tt)
replies_exist cost i (c ∷ cs) fits tracked =
    let s = step_exists cost i c tracked in
    let rest = replies_exist cost s.1 cs fits.1 (step_keeps cost i c s.0 s.1 fits.0 tracked s.2) in
    (s.0 ∷ rest.0, (s.1, s.2, rest.1))

pub run_exists : RunExists
run_exists cost g roots commands limits few fits =
    let r = replies_exist cost (empty_image g roots) commands fits (start_tracked g roots limits.bounds few) in
    (r.0, record { plain = whole_traces cost g roots commands r.0 limits few fits r.1; heap = r.1 })

-- ---- any bytes

decided_size : (g : Geometry) (roots : ℕ) → Decided (IsHeapSize g roots)
decided_size g roots =
    decided_as (IsWithinLimits g.w g.k g.n × (roots ≤ most_roots)) (IsHeapSize g roots) (λ p. record { sizes = p.0; roots = p.1 }) (λ s. (s.sizes, s.roots))
    (decided_both (IsWithinLimits g.w g.k g.n) (roots ≤ most_roots) (decided_limits g.w g.k g.n) (decided_le roots most_roots))

pub writes : (c : Command) → AllFit (numbers_of c) → WritesWord c
writes (New r refs words) f = tt
writes (Get r q m) f = tt
writes (Put r m q) f = tt
writes (Set r m x) f = fit_head x [] (fit_rest m (x ∷ []) (fit_rest r (m ∷ x ∷ []) f))
writes (Say r m) f = tt
writes (Same r q) f = tt
writes (Copy r q) f = tt
writes (Drop r) f = tt
writes (Pause b) f = tt

pub all_write : (commands : List Command) → All (λ c. AllFit (numbers_of c)) commands → AllByRecursion WritesWord commands
all_write [] f = tt
all_write (c ∷ cs) f = (writes c (All-head (λ c. AllFit (numbers_of c)) c cs f), all_write cs (All-tail (λ c. AllFit (numbers_of c)) c cs f))

told_of : (cost : Cost) (bytes : List ℕ) (g : Geometry) (roots : ℕ) (commands : List Command) → IsText bytes g roots commands → IsHeapSize g roots → (answer : List ℕ) × IsTold cost bytes answer
told_of cost bytes g roots commands text limits =
    let r = run_exists cost g roots commands limits.sizes limits.roots (all_write commands text.later) in
    (reply_lines r.0, record { sizes = g; roots = roots; commands = commands; replies = r.0; text = text; limits = limits; run = r.1; told = refl })

pub always_told : AlwaysTold
always_told cost bytes = elim (text_or_bad_line bytes) [
  | inl t ↦ (elim (decided_size t.0 t.1) [
    | inl limits ↦ inl (told_of cost bytes t.0 t.1 t.2 t.3 limits)
    | inr outside ↦ inr (inr (record { sizes = t.0; roots = t.1; commands = t.2; text = t.3; outside = outside }))
  ])
  | inr bad ↦ inr (inl bad)
]
