use Rattle.std.proofs.Common.{◌≡◌, ◌+◌, set, sym, ◌∙◌, ap, subst, arith}
use Rattle.g1_words.specs.Header.{header}
use Rattle.g1_words.specs.Heap.{Heap}
use Rattle.g1_words.specs.declared.object.Object.{Object}
use Rattle.g1_image.specs.Image.{Image}
use Rattle.g1_image.specs.Cards.{IsTracked}
use Rattle.g1_trace.specs.Mutator.{value_address, with_words}
use Rattle.g1_trace.proofs.Carrying.{value_inside, value_small, value_kept}
use Rattle.g1_trace.proofs.mutator.set_data.Goals as goal

pub overflow_add-object-3 : goal.overflow_add-object-3
overflow_add-object-3 c =
    let i : Image = c.args.tracked.now in
    let words = c.words.ensures.same ∙ ap (λ (h : Heap). h.words) (c.heap.ensures.same ∙ ap (λ (x : Image). x.heap) c.image.ensures.same) in
    let at : c.args.object + 1 + c.header-refs.result.refs + c.args.word ≡ value_address i.heap c.args.object c.args.word =
    ap (λ (o : Object). c.args.object + 1 + o.refs + c.args.word) (c.header-refs.ensures.value ∙ ap (λ ws. header ws c.args.object) words) in
    omega (arith, at, value_inside i c.requires.before c.args.object c.args.word c.args.value c.requires.fits, value_small i c.requires.before c.args.object c.args.word c.args.value c.requires.fits)

pub set_value-requires-clause-at : goal.set_value-requires-clause-at
set_value-requires-clause-at c =
    let i : Image = c.args.tracked.now in
    let words = c.words.ensures.same ∙ ap (λ (h : Heap). h.words) (c.heap.ensures.same ∙ ap (λ (x : Image). x.heap) c.image.ensures.same) in
    let at : c.args.object + 1 + c.header-refs.result.refs + c.args.word ≡ value_address i.heap c.args.object c.args.word =
    ap (λ (o : Object). c.args.object + 1 + o.refs + c.args.word) (c.header-refs.ensures.value ∙ ap (λ ws. header ws c.args.object) words) in
    omega (arith, at, value_inside i c.requires.before c.args.object c.args.word c.args.value c.requires.fits)

pub set_value-requires-clause-kept : goal.set_value-requires-clause-kept
set_value-requires-clause-kept c =
    let i : Image = c.args.tracked.now in
    let words = c.words.ensures.same ∙ ap (λ (h : Heap). h.words) (c.heap.ensures.same ∙ ap (λ (x : Image). x.heap) c.image.ensures.same) in
    let at : c.args.object + 1 + c.header-refs.result.refs + c.args.word ≡ value_address i.heap c.args.object c.args.word =
    ap (λ (o : Object). c.args.object + 1 + o.refs + c.args.word) (c.header-refs.ensures.value ∙ ap (λ ws. header ws c.args.object) words) in
    subst (λ p. IsTracked (with_words i (set i.heap.words p c.args.value) i.log)) (sym at) (value_kept i c.requires.before c.args.object c.args.word c.args.value c.requires.fits c.ranges.value.fits)

pub overflow_add-object : goal.overflow_add-object
overflow_add-object c =
    let i : Image = c.args.tracked.now in
    let words = c.words.ensures.same ∙ ap (λ (h : Heap). h.words) (c.heap.ensures.same ∙ ap (λ (x : Image). x.heap) c.image.ensures.same) in
    let at : c.args.object + 1 + c.header-refs.result.refs + c.args.word ≡ value_address i.heap c.args.object c.args.word =
    ap (λ (o : Object). c.args.object + 1 + o.refs + c.args.word) (c.header-refs.ensures.value ∙ ap (λ ws. header ws c.args.object) words) in
    omega (arith, at, value_inside i c.requires.before c.args.object c.args.word c.args.value c.requires.fits, value_small i c.requires.before c.args.object c.args.word c.args.value c.requires.fits)

pub overflow_add-object-2 : goal.overflow_add-object-2
overflow_add-object-2 c =
    let i : Image = c.args.tracked.now in
    let words = c.words.ensures.same ∙ ap (λ (h : Heap). h.words) (c.heap.ensures.same ∙ ap (λ (x : Image). x.heap) c.image.ensures.same) in
    let at : c.args.object + 1 + c.header-refs.result.refs + c.args.word ≡ value_address i.heap c.args.object c.args.word =
    ap (λ (o : Object). c.args.object + 1 + o.refs + c.args.word) (c.header-refs.ensures.value ∙ ap (λ ws. header ws c.args.object) words) in
    omega (arith, at, value_inside i c.requires.before c.args.object c.args.word c.args.value c.requires.fits, value_small i c.requires.before c.args.object c.args.word c.args.value c.requires.fits)

pub returns : goal.returns
returns c =
    let i : Image = c.args.tracked.now in
    let words = c.words.ensures.same ∙ ap (λ (h : Heap). h.words) (c.heap.ensures.same ∙ ap (λ (x : Image). x.heap) c.image.ensures.same) in
    let at : c.args.object + 1 + c.header-refs.result.refs + c.args.word ≡ value_address i.heap c.args.object c.args.word =
    ap (λ (o : Object). c.args.object + 1 + o.refs + c.args.word) (c.header-refs.ensures.value ∙ ap (λ ws. header ws c.args.object) words) in
    c.set_value.ensures ∙ ap (λ p. with_words i (set i.heap.words p c.args.value) i.log) at
