use Rattle.std.proofs.Common.{◌≡◌, map, rules, subst}
use Rattle.g1heap_request.specs.Words.{IsReadOf}
use Rattle.g1heap_request.proofs.Read.{read_tied}
use Rattle.g1heap_request.proofs.options.parse.Goals as goal

pub returns : goal.returns
returns c =
    let words = map (λ w. w.bytes.items) c.args.words.now in
    let tied = map (λ w. w.bytes.items) c.in_ok-words.words.items in
    let same : map (λ w. w.bytes.items) c.as_slice.result.now ≡ tied = search rules in
    read_tied words tied c.in_ok-words.ensures c.read.result (subst (λ ts. IsReadOf ts c.read.result) same c.read.ensures)
