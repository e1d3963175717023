use Rattle.std.proofs.Common.{◌≡◌, ◌+◌, ◌*◌, ◌∙◌, ap, arith}
use Rattle.std.proofs.lemmas.Bool.{leb-true, le-leb}
use Rattle.g1_words.specs.declared.region.Region.{Region}
use Rattle.g1_words.specs.Heap.{start, top}
use Rattle.g1_kept.proofs.linking.is_behind_top.Goals as goal

pub returns : goal.returns
returns c =
    let from : c.start.result ≡ start c.args.before.now c.args.number = c.start.ensures.value ∙ ap (λ g. c.args.number * g.w) c.geometry.ensures.same in
    let used : c.from.result ≡ top c.args.before.now c.args.number = c.from.ensures ∙ ap (λ (q : Region). q.top) c.region.ensures in (
      λ e. let le = leb-true (c.start.result + c.from.result) c.args.b e in omega (arith, le, from, used),
      λ le. le-leb (c.start.result + c.from.result) c.args.b (omega (arith, le, from, used)),
    )
