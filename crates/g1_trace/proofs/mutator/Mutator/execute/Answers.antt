use Rattle.std.proofs.Common.{◌≡◌, sym, ◌∙◌, ap, subst}
use Rattle.std.specs.Prelude.{IfOk}
use Rattle.std.proofs.lemmas.Result.{IfErr-weaker}
use Rattle.g1_words.specs.Heap.{Heap}
use Rattle.g1_image.specs.Image.{Image, IsImage}
use Rattle.g1_image.specs.Cards.{Covered}
use Rattle.g1_trace.specs.declared.command.Reply.TheVariants.{Ok as Done}
use Rattle.g1_trace.specs.Commands.{Answer, answer_of}
use Rattle.g1_trace.specs.Mutator.{heap_view, IsEffect}
use Rattle.g1_trace.specs.Views.{EffectFits, ForPause}
use Rattle.g1_trace.proofs.Views.{answer_fits, answer_pauses}
use Rattle.g1_trace.proofs.mutator.Mutator.execute.Goals as goal

pub carry_out-tracked-requires-clause-fits : goal.carry_out-tracked-requires-clause-fits
carry_out-tracked-requires-clause-fits g c κs within =
    let h : Heap = c.self.inside.tracked.heap in
    let told : c.answer-told.result ≡ answer_of (heap_view h) c.args.command.now =
    c.answer-told.ensures ∙ ap (λ (x : Heap). answer_of (heap_view x) c.args.command.now) (c.heap.ensures.same ∙ ap (λ (i : Image). i.heap) c.image.ensures.same) in
    subst (λ (a : Answer). EffectFits (heap_view h) a.effect) (sym told) (answer_fits (heap_view h) c.args.command.now)

pub carry_out-tracked-requires-clause-paused : goal.carry_out-tracked-requires-clause-paused
carry_out-tracked-requires-clause-paused g c κs within =
    let h : Heap = c.self.inside.tracked.heap in
    let told : c.answer-told.result ≡ answer_of (heap_view h) c.args.command.now =
    c.answer-told.ensures ∙ ap (λ (x : Heap). answer_of (heap_view x) c.args.command.now) (c.heap.ensures.same ∙ ap (λ (i : Image). i.heap) c.image.ensures.same) in
    subst (λ (a : Answer). ForPause a.effect (a.reply ≡ Done)) (sym told) (answer_pauses (heap_view h) c.args.command.now)

pub carry_out-tracked-requires-clause-before : goal.carry_out-tracked-requires-clause-before
carry_out-tracked-requires-clause-before g c κs within = record { image = subst IsImage c.image.ensures.same c.heap.ensures.valid; covered = c.image.ensures.covered }

pub returns-clause-tracked : goal.returns-clause-tracked
returns-clause-tracked g c =
    let same : c.self.inside.tracked ≡ c.args.self = c.self.view_is in
    record { image = subst IsImage (c.image.ensures.same ∙ same) c.heap.ensures.valid; covered = subst Covered same c.image.ensures.covered }

pub returns-clause-replied : goal.returns-clause-replied
returns-clause-replied g c =
    let i : Image = c.args.self in
    let same : c.self.inside.tracked ≡ i = c.self.view_is in
    let told : c.answer-told.result ≡ answer_of (heap_view i.heap) c.args.command.now =
    c.answer-told.ensures ∙ ap (λ (x : Heap). answer_of (heap_view x) c.args.command.now) (c.heap.ensures.same ∙ ap (λ (x : Image). x.heap) (c.image.ensures.same ∙ same)) in
    let done : IfOk c.carry_out-tracked.result.1 (λ r. IsEffect c.args.collector.now.cost i c.answer-told.result.effect c.answer-told.result.reply r c.carry_out-tracked.result.0) =
    subst (λ (x : Image). IfOk c.carry_out-tracked.result.1 (λ r. IsEffect c.args.collector.now.cost x c.answer-told.result.effect c.answer-told.result.reply r
    c.carry_out-tracked.result.0)) same c.carry_out-tracked.ensures.done in
    subst (λ (a : Answer). IfOk c.carry_out-tracked.result.1 (λ r. IsEffect c.args.collector.now.cost i a.effect a.reply r c.carry_out-tracked.result.0)) told done

pub returns-clause-same : goal.returns-clause-same
returns-clause-same g c =
    IfErr-weaker c.carry_out-tracked.result.1 (λ e. c.carry_out-tracked.result.0 ≡ c.self.inside.tracked) (λ e. c.carry_out-tracked.result.0
    ≡ c.args.self) (λ e same. same ∙ c.self.view_is) c.carry_out-tracked.ensures.same

pub returns-clause-memory : goal.returns-clause-memory
returns-clause-memory g c = c.carry_out-tracked.ensures.memory
