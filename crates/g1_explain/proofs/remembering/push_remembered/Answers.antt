use Rattle.std.proofs.Common.{◌≡◌, ◌<◌, ℕ, ◌++◌, [], List, length, map, get_or, arith, ◌∙◌, string_bytes}
use Rattle.std.specs.Prelude.{min, slice_index_or}
use Rattle.g1_text.specs.Lines.{text_of}
use Rattle.g1_text.proofs.Printed.{one_number_more, lines_end}
use Rattle.g1_explain.proofs.Gained.{set_at, rises_there, sets_many}
use Rattle.g1_explain.specs.Remembered.{set_changes}
use Rattle.g1_explain.proofs.remembering.push_remembered.Goals as goal

pub loop-region-preserved : goal.loop-region-preserved
loop-region-preserved c = λ rise also.
    let n : ℕ = c.loop-region.region in
    let before : List (List ℕ) = map (λ s. s.items) c.args.refined.now in
    let after : List (List ℕ) = map (λ s. s.items) c.args.after.now in
    let in_before : n < length c.args.refined.now = omega (arith, c.loop-region-test.true, c.min-region-end.ensures) in
    let in_after : n < length c.args.after.now = omega (arith, c.loop-region-test.true, c.min-region-end.ensures) in
    let old : c.deref.result.now ≡ get_or before n [] = set_at c.args.refined.now n c.index-refined-region.result c.deref.result.now in_before c.index-refined-region.is c.deref.ensures.value in
    let new : c.deref-in-loop-region.result.now ≡ get_or after n [] = set_at c.args.after.now n c.index-after-region.result c.deref-in-loop-region.result.now in_after c.index-after-region.is c.deref-in-loop-region.ensures.value in
    one_number_more (λ r. text_of (set_changes r (slice_index_or before r []) (slice_index_or after r []))) (string_bytes c.args.text.now) (string_bytes c.loop-region.text)
    (string_bytes c.push_set_changes.new.text) n (c.loop-region.invariant rise also)
    (c.in_ok-push_set_changes.ensures (rises_there c.args.refined.now n c.deref.result.now rise old) (rises_there c.args.after.now n c.deref-in-loop-region.result.now also new)
    ∙ (λ i. string_bytes c.loop-region.text ++ text_of (set_changes n (old i) (new i))))

pub returns : goal.returns
returns c = λ rise also.
    let end : c.loop-region.region ≡ min (length c.args.refined.now) (length c.args.after.now) = omega (arith, c.loop-region-test.false, c.loop-region.auto.region-end, c.min-region-end.ensures) in
    let before : List (List ℕ) = map (λ s. s.items) c.args.refined.now in
    let after : List (List ℕ) = map (λ s. s.items) c.args.after.now in
    lines_end (λ r. set_changes r (slice_index_or before r []) (slice_index_or after r [])) (string_bytes c.args.text.now) (string_bytes c.loop-region.text) c.loop-region.region
    (min (length before) (length after)) (sets_many c.args.refined.now c.args.after.now c.loop-region.region end) (c.loop-region.invariant rise also)
