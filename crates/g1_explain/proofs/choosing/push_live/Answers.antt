use Rattle.std.proofs.Common.{Vec, Global, ℕ, ◌≡◌, ◌<◌, ◌++◌, ◌∙◌, [], get_or, arith, ap, sym, map, string_bytes, length}
use Rattle.std.specs.Prelude.{min, slice_index, slice_index_or}
use Rattle.g1_words.specs.Heap.{free_region}
use Rattle.g1_text.specs.Lines.{text_of}
use Rattle.g1_explain.specs.Choosing.{live_lines_of}
use Rattle.g1_text.proofs.Printed.{one_number_more, lines_end}
use Rattle.g1_explain.proofs.Candidates.{get_items}
use Rattle.g1_explain.proofs.choosing.push_live.Goals as goal

pub loop-number-preserved : goal.loop-number-preserved
loop-number-preserved c =
    let n : ℕ = c.loop-number.number in
    let now = string_bytes c.loop-number.text in
    let here : n < length c.args.remembered.now = omega (arith, c.loop-number-test.true, c.min.ensures, c.min-count.ensures) in
    let items : length (get_or (map (λ s. s.items) c.args.remembered.now) n []) ≡ length c.index-remembered-number.result.items =
    ap length (get_items c.args.remembered.now n c.index-remembered-number.result here) ∙ ap (λ (v : Vec ℕ Global). length v.items) (sym c.index-remembered-number.is) in
    let many : c.len.result ≡ length (get_or (map (λ s. s.items) c.args.remembered.now) n []) = omega (arith, c.len.ensures, items) in
    one_number_more (λ r. text_of (live_lines_of r (slice_index_or c.args.regions.now r free_region) (slice_index c.args.live.now r) (length (slice_index_or (map (λ s. s.items) c.args.remembered.now) r [])))) (string_bytes c.args.text.now) now
    (string_bytes c.push_live_line.new.text) n c.loop-number.invariant
    (c.in_ok-push_live_line.ensures ∙ ap (λ k. now ++ text_of (live_lines_of n (slice_index_or c.args.regions.now n free_region) (slice_index c.args.live.now n) k)) many)

pub returns : goal.returns
returns c =
    lines_end (λ r. live_lines_of r (slice_index_or c.args.regions.now r free_region) (slice_index c.args.live.now r) (length (slice_index_or (map (λ s. s.items) c.args.remembered.now) r []))) (string_bytes c.args.text.now) (string_bytes c.loop-number.text) c.loop-number.number
    (min (min (length c.args.regions.now) (length c.args.live.now)) (length c.args.remembered.now)) (omega (arith, c.loop-number-test.false, c.loop-number.auto.number-end)) c.loop-number.invariant
