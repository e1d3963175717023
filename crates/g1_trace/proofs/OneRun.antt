-- A command has one reply and one image after, and so has a whole run.
use Rattle.std.proofs.Common.{◌≡◌, ℕ, ◌+◌, inl, inr, arith, List, [], ◌∷◌, Some, None, Result, Ok, Err, refl, sym, ◌∙◌, ap, subst}
use Rattle.g1_words.specs.declared.fault.Fault.{Fault}
use Rattle.g1_image.specs.Image.{Image}
use Rattle.g1_choose.specs.declared.parameters.Cost.{Cost}
use Rattle.g1_pause.specs.declared.settings.Choice.TheVariants.{Budget}
use Rattle.g1_words.specs.Survivors.{Survivors, seeds, children}
use Rattle.g1_words.specs.Layout.{need}
use Rattle.g1_words.proofs.Unique.{breadth_first_unique}
use Rattle.g1_after.specs.Paused.{Paused}
use Rattle.g1_after.proofs.PausedLaws.{one_image_after}
use Rattle.g1_pause.specs.Answer.{IsSetFor, IsEvacuated, bad_set, no_room, done}
use Rattle.g1_pause.proofs.OneAnswer.{set_unique}
use Rattle.g1_trace.specs.declared.command.Command.{Command}
use Rattle.g1_trace.specs.declared.command.Reply.{Reply}
use Rattle.g1_trace.specs.Commands.{Effect, Nothing, SetRoot, SetSlot, SetValue, MakeNew, MakePause, answer_of}
use Rattle.g1_trace.specs.Mutator.{heap_view, heap_with, with_heap, IsEffect, IsStep}
use Rattle.g1_trace.specs.Run.{Replies, empty_image}
use Rattle.g1_trace.specs.Laws.{OneStep, OneRun}

-- two outcomes that are both images, the same one, or both refusals
abbrev Agree : Result Image Fault → Result Image Fault → Type 0
Agree (Ok j) (Ok k) = j ≡ k
Agree (Err e) (Err f) = Unit {0}
Agree _ _ = ⊥

-- two sets for one budget have the same survivors
same_survivors : (cost : Cost) (i : Image) (b : ℕ) (s t l m : List ℕ) → IsSetFor cost i (Budget b) s → IsSetFor cost i (Budget b) t → Survivors i.heap s l → Survivors i.heap t m → l ≡ m
same_survivors cost i b s t l m x y p q =
    let e : t ≡ s = set_unique cost i (Budget b) t s y x in
    breadth_first_unique (seeds i.heap s) (children i.heap s) l m p (subst (λ u. Survivors i.heap u m) e q)

-- a pause by a budget gives an image, always the same, or is refused
bought_once : (cost : Cost) (i : Image) (b : ℕ) (x y : Result Image Fault) → IsEvacuated cost (Budget b) i x → IsEvacuated cost (Budget b) i y → Agree x y
bought_once cost i b x y (bad_set bad) z = absurd bad
bought_once cost i b x y (no_room s l p q lt) (bad_set bad) = absurd bad
bought_once cost i b x y (no_room s l p q lt) (no_room t m g v lt') = tt
bought_once cost i b x y (no_room s l p q lt) (done t m g v le mv) =
    let e : need i.heap l ≡ need i.heap m = ap (need i.heap) (same_survivors cost i b s t l m p g q v) in absurd (omega arith)
bought_once cost i b x y (done s l p q le mv) (bad_set bad) = absurd bad
bought_once cost i b x y (done s l p q le mv) (no_room t m g v lt) =
    let e : need i.heap l ≡ need i.heap m = ap (need i.heap) (same_survivors cost i b s t l m p g q v) in absurd (omega arith)
bought_once cost i b x y (done s l {j = j} p q le mv) (done t m {j = k} g v le' mv') =
    one_image_after i s j k (l, q, mv) (subst (λ u. Paused i u k) (set_unique cost i (Budget b) t s g p) (m, v, mv'))

effect_once : (cost : Cost) (i : Image) (e : Effect) (said reply told : Reply) (j k : Image) → IsEffect cost i e said reply j → IsEffect cost i e said told k → (reply ≡ told) × (j ≡ k)
effect_once cost i Nothing said reply told j k (p, a) (q, b) = (p ∙ sym q, a ∙ sym b)
effect_once cost i (SetRoot r x) said reply told j k (p, a) (q, b) = (p ∙ sym q, a ∙ sym b)
effect_once cost i (SetSlot m n x) said reply told j k (p, a) (q, b) = (p ∙ sym q, a ∙ sym b)
effect_once cost i (SetValue m n x) said reply told j k (p, a) (q, b) = (p ∙ sym q, a ∙ sym b)
effect_once cost i (MakeNew root refs words) said reply told j k (inl (p, q, a)) (inl (s, t, b)) = (q ∙ sym t, a ∙ sym b)
effect_once cost i (MakeNew root refs words) said reply told j k (inl (p, q, a)) (inr (r, s, t, b)) = let clash : None ≡ Some r = sym p ∙ s in cc
effect_once cost i (MakeNew root refs words) said reply told j k (inr (r, s, t, b)) (inl (p, q, a)) = let clash : None ≡ Some r = sym p ∙ s in cc
effect_once cost i (MakeNew root refs words) said reply told j k (inr (r, p, q, a)) (inr (u, s, t, b)) =
    let places : Some r ≡ Some u = sym p ∙ s in
    let same : r ≡ u = cc in
    (q ∙ sym t, a ∙ ap (λ x. with_heap i (heap_with i.heap x (1 + refs + words) refs root)) same ∙ sym b)
effect_once cost i (MakePause b) said reply told j k (inl (x, p)) (inl (y, q)) = (p ∙ sym q, bought_once cost i b (Ok j) (Ok k) x y)
effect_once cost i (MakePause b) said reply told j k (inl (x, p)) (inr (f, y, q, e)) = absurd (bought_once cost i b (Ok j) (Err f) x y)
effect_once cost i (MakePause b) said reply told j k (inr (f, y, q, e)) (inl (x, p)) = absurd (bought_once cost i b (Ok k) (Err f) x y)
effect_once cost i (MakePause b) said reply told j k (inr (f, x, p, a)) (inr (g, y, q, e)) = (p ∙ sym q, a ∙ sym e)

pub one_step : OneStep
one_step cost i c reply told j k s t = effect_once cost i (answer_of (heap_view i.heap) c).effect (answer_of (heap_view i.heap) c).reply reply told j k s t

replies_once : (cost : Cost) (i : Image) (commands : List Command) (replies told : List Reply) → Replies (IsStep cost) i commands replies → Replies (IsStep cost) i commands told → replies ≡ told
replies_once cost i [] [] [] x y = refl
replies_once cost i [] [] (t ∷ ts) x y = absurd y
replies_once cost i [] (r ∷ rs) ts x y = absurd x
replies_once cost i (c ∷ cs) [] ts x y = absurd x
replies_once cost i (c ∷ cs) (r ∷ rs) [] x y = absurd y
replies_once cost i (c ∷ cs) (r ∷ rs) (t ∷ ts) (j, s, x) (k, u, y) =
    let both = one_step cost i c r t j k s u in
    let rest : rs ≡ ts = replies_once cost j cs rs ts x (subst (λ z. Replies (IsStep cost) z cs ts) (sym both.1) y) in
    λ q. both.0 q ∷ rest q

pub one_run : OneRun
one_run cost g roots commands replies told x y = replies_once cost (empty_image g roots) commands replies told x.heap y.heap
