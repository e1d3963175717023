use Rattle.std.proofs.Common.{rules, ◌≡◌, ◌≤◌, ◌+◌, ◌-◌, ◌*◌, List, ℕ, ◌++◌, length, take, ap, ◌∙◌}
use Rattle.std.specs.Vec.{with_items}
use Rattle.std.proofs.lemmas.List.{with_items_is, places}
use borrow.Rule.Slice.PartMut.{post_of}
use Rattle.g1_image.proofs.Words.{words_text-is}
use Rattle.g1_image.proofs.Sent.{put_behind}
use Rattle.g1_image.proofs.behind.Behind.put.Goals as goal

pub returns : goal.returns
returns c =
    let b = c.args.self.now in
    let xs = c.args.words.now in
    let n = 8 * length xs in
    let d = c.deref_mut.result.now in
    let dst = c.write_u64_into.new.dst in
    let post = post_of b.end (b.end + n - b.end) d in
    let all : List ℕ = take b.end d ++ (dst ++ post) in
    let within : b.end ≤ length d = search (rules, places) in
    let many : length dst ≡ n = search rules in
    let is : (with_items b.room (take b.end d ++ (dst ++ post))).items ≡ take b.end d ++ (dst ++ post) = with_items_is b.room (take b.end d ++ (dst ++ post)) (search (rules, places)) in
    ap (take (b.end + n)) is ∙ put_behind b.end n d dst post within many
    ∙ ap (λ l. take b.end l ++ dst) c.deref_mut.ensures.value ∙ ap (λ l. take b.end b.room.items ++ l) (c.write_u64_into.ensures ∙ words_text-is xs)
