use Rattle.std.proofs.Common.{◌++◌, ◌∷◌, ◌∙◌, ◌≡◌, ap, string_bytes}
use Rattle.std.specs.Prelude.{decimal, codes}
use Rattle.g1_words.specs.declared.object.Object.{Object}
use Rattle.g1_words.specs.Header.{header}
use Rattle.g1_words.specs.Heap.{Heap, object_at}
use Rattle.g1_explain.specs.Lines.{finder_words}
use Rattle.g1_explain.proofs.Texts.{object_then}
use Rattle.g1_explain.proofs.finders.push_survivor.Goals as goal

pub returns : goal.returns
returns c =
    let h : Heap = c.args.heap.now in
    let old = string_bytes c.args.text.now in
    let same : c.header.result ≡ object_at h c.args.at = c.header.ensures.value ∙ ap (λ ws. header ws c.args.at) c.words.ensures.same in
    object_then old (string_bytes c.push_object.new.text) (string_bytes c.push_found.new.text) (codes "survivor") (object_at h c.args.at) (codes "by" ∷ finder_words c.args.finder)
    (c.in_ok-push_object.ensures ∙ ap (λ (o : Object). old ++ (codes "survivor" ++ 32 ∷ (decimal o.at ++ 32 ∷ (decimal o.size ++ 47 ∷ decimal o.refs)))) same) c.in_ok-push_found.ensures
