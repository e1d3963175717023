use Rattle.std.proofs.Common.{◌≡◌, sym, ◌∙◌, ap, subst}
use Rattle.g1_words.specs.Heap.{Heap}
use Rattle.g1_image.specs.Image.{Image, IsImage}
use Rattle.g1_trace.specs.Commands.{Answer, answer_of}
use Rattle.g1_trace.specs.Mutator.{heap_view}
use Rattle.g1_trace.specs.Views.{EffectFits, ForPause}
use Rattle.g1_trace.proofs.Views.{answer_fits, answer_goes_on}
use Rattle.g1_trace.proofs.mutator.Mutator.write.Goals as goal

pub write_effect-requires-clause-before : goal.write_effect-requires-clause-before
write_effect-requires-clause-before c = record { image = subst IsImage c.image.ensures.same c.heap.ensures.valid; covered = c.image.ensures.covered }

pub write_effect-requires-clause-fits : goal.write_effect-requires-clause-fits
write_effect-requires-clause-fits c =
    let h : Heap = c.self.inside.tracked.heap in
    let told : c.answer-told.result ≡ answer_of (heap_view h) c.args.command.now =
    c.answer-told.ensures ∙ ap (λ (x : Heap). answer_of (heap_view x) c.args.command.now) (c.heap.ensures.same ∙ ap (λ (i : Image). i.heap) c.image.ensures.same) in
    subst (λ (a : Answer). EffectFits (heap_view h) a.effect) (sym told) (answer_fits (heap_view h) c.args.command.now)

pub write_effect-requires-clause-no_pause : goal.write_effect-requires-clause-no_pause
write_effect-requires-clause-no_pause c =
    let h : Heap = c.self.inside.tracked.heap in
    let told : c.answer-told.result ≡ answer_of (heap_view h) c.args.command.now =
    c.answer-told.ensures ∙ ap (λ (x : Heap). answer_of (heap_view x) c.args.command.now) (c.heap.ensures.same ∙ ap (λ (i : Image). i.heap) c.image.ensures.same) in
    subst (λ (a : Answer). ForPause a.effect ⊥) (sym told) (answer_goes_on (heap_view h) c.args.command.now c.requires.no_pause)
