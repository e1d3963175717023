use Rattle.std.proofs.Common.{◌≡◌, ◌≤◌, ◌+◌, ◌-◌, ◌++◌, [], ◌∷◌, length, replicate, append_assoc, ◌∙◌, ap, arith}
use Rattle.std.proofs.lemmas.List.{replicate_more}
use Rattle.g1_words.specs.Heap.{free_region}
use Rattle.g1_text.specs.Drafts.{content}
use Rattle.g1_text.proofs.draft.Draft.fill_up_to.Goals as goal

pub loop-preserved : goal.loop-preserved
loop-preserved c =
    let s = content c.args.self.now in
    let n = length s.regions in
    let past : n ≤ c.loop.counter = omega (arith, c.len-counter.ensures, c.loop.auto.counter) in
    let kept = c.loop.invariant.free in
    let more = append_assoc s.regions (replicate (c.loop.counter - n) free_region) (free_region ∷ []) ∙ ap (λ l. s.regions ++ l) (replicate_more (c.loop.counter - n) free_region) in
    let count : c.loop.counter - n + 1 ≡ c.loop.counter + 1 - n = omega (arith, past) in
    record {
      lines = c.in_ok-add_empty.ensures.lines ∙ c.loop.invariant.lines;
      same = λ le. absurd (omega (arith, le, past, c.loop-test.true));
      free = c.in_ok-add_empty.ensures.says ∙ (λ i. record (kept i) { regions = (kept i).regions ++ free_region ∷ [] }) ∙ (λ i. record s { regions = (more ∙ ap (λ m. s.regions ++ replicate m free_region) count) i });
    }
