use Rattle.std.proofs.Common.{◌≡◌, ◌+◌, List, [], ◌∷◌, map, ap, ◌∙◌}
use Rattle.g1_words.specs.Heap.{kind, start, end, objects_in}
use Rattle.g1_words.specs.Valid.{Tiles}
use Rattle.g1_words.specs.declared.object.Object.{Object}
use Rattle.g1_words.specs.declared.region.Kind.TheVariants.{Ordinary, HumongousFirst}
use Rattle.g1_words.proofs.Listed.{IfOk-then, listed_by, ordinary_listed}
use Rattle.g1_words.proofs.object.objects_in.Goals as goal

pub returns-in-Ordinary-clause-ok : goal.returns-in-Ordinary-clause-ok
returns-in-Ordinary-clause-ok c =
    let h = c.args.heap.now in
    let r = c.args.region in
    let words = c.words.result.now.items in
    let from = c.start-start.result in
    let to = c.start-start.result + c.from.result in
    let is : kind h r ≡ Ordinary = cc in
    let at : c.start-start.result ≡ start h r = cc in
    let until : c.start-start.result + c.from.result ≡ end h r = cc in
    IfOk-then (λ v. (os : List Object) × Tiles words from os to × (v.items ≡ map (λ o. o.at) os)) (λ v. v.items ≡ map (λ o. o.at) (objects_in h r)) c.starts_between.result
    (λ v. ordinary_listed h r v.items words from to is c.words.ensures.same at until) c.starts_between.ensures.ok

pub returns-in_ok-vec-in-HumongousFirst-clause-ok : goal.returns-in_ok-vec-in-HumongousFirst-clause-ok
returns-in_ok-vec-in-HumongousFirst-clause-ok c =
    let h = c.args.heap.now in
    let r = c.args.region in
    let is : kind h r ≡ HumongousFirst = cc in
    let at : c.start-start.result ≡ start h r = cc in
    listed_by h r HumongousFirst c.in_ok-vec-in-HumongousFirst.field-0.items is (c.in_ok-vec-in-HumongousFirst.ensures.items ∙ ap (λ a. a ∷ []) at)
