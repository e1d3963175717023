use Rattle.std.proofs.Common.{◌≡◌, ◌∙◌, ap, arith, get_or}
use Rattle.std.proofs.lemmas.List.Sums.{sum_by_more_le}
use Rattle.g1_words.specs.Header.{header}
use Rattle.g1_words.specs.Heap.{object_at}
use Rattle.g1_words.specs.declared.object.Object.{Object}
use Rattle.g1judge.proofs.Reached.{words_fit}
use Rattle.g1judge.proofs.counting.words.Goals as goal
use Rattle.g1judge.proofs.counting.words.Goals.{After-header-words}

-- the size that was read is the object's
size_read : (c : After-header-words) → c.header-words.result.size ≡ (object_at c.args.heap.now (get_or c.args.renamed.now c.loop-address.address-index 0)).size
size_read c = ap (λ (o : Object). o.size) (c.header-words.ensures.value ∙ ap (λ ws. header ws (get_or c.args.renamed.now c.loop-address.address-index 0)) c.words-all.ensures.same)

pub overflow_add-words : goal.overflow_add-words
overflow_add-words c =
    let h = c.args.heap.now in
    let more = sum_by_more_le (λ a. (object_at h a).size) c.args.renamed.now c.loop-address.address-index 0 c.loop-address-test.true in
    let few = words_fit h c.requires.0 c.args.renamed.now c.requires.1 c.words-all.ensures.valid c.requires.2 in
    omega (arith, more, few, c.loop-address.invariant, size_read (goal.at.overflow_add-words c).After-header-words)
