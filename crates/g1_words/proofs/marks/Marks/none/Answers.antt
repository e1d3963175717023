use Rattle.std.proofs.Common.{rules, arith, ◌≡◌, ◌+◌, ◌/◌, ap, ◌∙◌, replicate}
use Rattle.g1_words.specs.Marks.{marks_of}
use Rattle.g1_words.proofs.Bits.{marks_of-none}
use Rattle.g1_words.proofs.marks.Marks.none.Goals as goal

pub returns : goal.returns
returns c =
    let words : c.in_ok-vec.field-0.items ≡ replicate (c.args.count / 64 + 1) 0 = search rules in
    ap (marks_of c.args.count) words ∙ marks_of-none c.args.count (c.args.count / 64 + 1) (omega arith)
