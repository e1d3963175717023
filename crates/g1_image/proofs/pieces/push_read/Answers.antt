use Rattle.std.proofs.Common.{rules, ◌≡◌, ◌*◌, length, take, sym, ◌∙◌}
use Rattle.g1_image.specs.Text.{words_of}
use Rattle.g1_image.proofs.Words.{read_words-is, words_of-take}
use Rattle.g1_image.proofs.pieces.push_read.Goals as goal

pub returns : goal.returns
returns c =
    let n = c.args.count in
    let dst = c.read_u64_into.new.dst in
    let many : length dst ≡ n = search rules in
    let is : dst ≡ words_of n c.args.bytes.now =
    read_words-is n (take (8 * n) c.args.bytes.now) dst many c.read_u64_into.ensures ∙ words_of-take n c.args.bytes.now in
    rw (sym is) c.in_ok-extend_from_slice.ensures.items
