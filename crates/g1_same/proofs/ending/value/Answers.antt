use Rattle.std.proofs.Common.{◌≡◌, ◌+◌, ◌-◌, ◌%◌, ◌^◌, ap, sym, ◌∙◌, arith, slice_index}
use Rattle.g1_words.specs.declared.object.Object.{Object}
use Rattle.g1_words.specs.Heap.{word, object_at}
use Rattle.g1_same.specs.Ends.{data_word}
use Rattle.g1_same.proofs.ending.value.Goals as goal

pub returns : goal.returns
returns c =
    let h = c.args.heap.now in
    let r = c.requires in
    let x = c.args.reference in
    let at : x - 1 ≡ r.address = omega (arith, r.is) in
    let refs : c.header-object.result.refs ≡ (object_at h r.address).refs =
    ap (λ (q : Object). q.refs) c.header-object.ensures.value ∙ ap (λ ws. slice_index ws (x - 1) % 2 ^ 32) c.words-words.ensures.same ∙ ap (λ n. word h n % 2 ^ 32) at in
    let here : x + c.header-object.result.refs + c.args.number ≡ r.address + 1 + (object_at h r.address).refs + c.args.number = omega (arith, refs, r.is) in
    c.at.ensures ∙ ap (λ ws. slice_index ws (x + c.header-object.result.refs + c.args.number)) c.words-words.ensures.same ∙ ap (λ n. word h n) here ∙ ap (λ y. data_word h y c.args.number) (sym r.is)
