use Rattle.std.proofs.Common.{◌++◌, ◌+◌, ◌≤◌, ◌∙◌, sym, subst, ap, arith, flat_map, string_bytes}
use Rattle.g1_words.specs.Heap.{object_at}
use Rattle.g1_words.specs.declared.object.Object.{Object}
use Rattle.g1_text.specs.Lines.{line_text, object_line}
use Rattle.g1_words.proofs.LaidObjects.{object_laid}
use Rattle.g1_text.proofs.Printed.{one_more, object_there, objects_text, take_all}
use Rattle.g1_text.proofs.printing.push_objects.Goals as goal

pub object-requires : goal.object-requires
object-requires c = object_there c.args.heap.now c.args.region c.words-words.ensures.valid c.requires.region c.args.starts.now c.loop-start.start-index c.loop-start-test.true c.requires.starts

pub returns : goal.returns
returns c =
    let h = c.args.heap.now in
    let starts = c.args.starts.now in
    c.loop-start.invariant
    ∙ ap (λ xs. string_bytes c.args.text.now ++ flat_map (λ a. line_text (object_line h.words (object_at h a))) xs) (take_all c.loop-start.start-index starts (omega (arith, c.loop-start-test.false)))
    ∙ ap (λ xs. string_bytes c.args.text.now ++ xs) (objects_text h c.args.region c.words-words.ensures.valid c.requires.region (object_line h.words) starts c.requires.starts)

pub push_object-requires-clause-laid : goal.push_object-requires-clause-laid
push_object-requires-clause-laid c =
    let h = c.args.heap.now in
    let there = object_there h c.args.region c.words-words.ensures.valid c.requires.region c.args.starts.now c.loop-start.start-index c.loop-start-test.true c.requires.starts in
    let laid = object_laid h c.words-words.result.now.laid _ c.words-words.ensures.valid c.words-words.ensures.laid there in
    subst (λ (o : Object). o.at + o.size ≤ c.words-words.result.now.laid) (sym c.object.ensures.value) laid.1

pub loop-start-preserved : goal.loop-start-preserved
loop-start-preserved c =
    let h = c.args.heap.now in
    let now = string_bytes c.loop-start.text in
    one_more (λ a. line_text (object_line h.words (object_at h a))) (string_bytes c.args.text.now) now (string_bytes c.push_object.new.text) c.args.starts.now
    c.loop-start.start-index 0 c.loop-start-test.true c.loop-start.invariant
    (c.in_ok-push_object.ensures ∙ (λ t. now ++ line_text (object_line (c.words-words.ensures.same t) (c.object.ensures.value t))))
