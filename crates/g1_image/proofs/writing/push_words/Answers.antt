use Rattle.std.proofs.Common.{rules, ◌≡◌, ◌+◌, ◌*◌, ◌++◌, length, ap, ◌∙◌}
use Rattle.g1_image.proofs.Words.{tail_grown, words_text-is}
use Rattle.g1_image.proofs.writing.push_words.Goals as goal

pub returns : goal.returns
returns c =
    let xs = c.args.xs.now in
    let n = 8 * length xs in
    let s = c.len-start.result in
    let old = c.args.out.now.items in
    let dst = c.write_u64_into.new.dst in
    let start : s ≡ length old = search rules in
    let len : c.resize.new.self.len ≡ s + n = search rules in
    let whole : length c.deref_mut.result.now ≡ s + n = search rules in
    let many : length dst ≡ n = search rules in
    tail_grown s n c.args.out.now.len c.resize.new.self.len old c.resize.new.self.items c.deref_mut.result.now dst c.len-start.ensures start
    c.in_ok-resize.ensures.items c.deref_mut.ensures.value whole len many
    ∙ ap (λ l. old ++ l) (c.write_u64_into.ensures ∙ words_text-is xs)
