use Rattle.std.proofs.Common.{◌≡◌, ◌<◌, ℕ, [], length, map, get_or, sym, ◌∙◌, ap, arith, Vec, Global}
use Rattle.std.proofs.lemmas.Bool.Decides.{nat_tests}
use Rattle.std.proofs.lemmas.List.{length-map}
use Rattle.g1_text.specs.Drafts.{content, numbers}
use Rattle.g1_text.specs.Late.{IsWrongSet}
use Rattle.g1_text.proofs.SetLines.{set_at}
use Rattle.g1_text.proofs.covering.check_empty.Goals as goal

pub returns-then-not-is_empty-clause-beside : goal.returns-then-not-is_empty-clause-beside
returns-then-not-is_empty-clause-beside c =
    let sets = c.args.draft.now.remembered.items in
    let k = c.loop-region.region in
    let set = c.set-item.result in
    let same = c.deref-set-items.ensures.value in
    let all = ap length same in
    let count = length-map sets (λ (v : Vec ℕ Global). v.items) in
    let lt : k < length sets = omega (arith, all, c.loop-region-test.true) in
    let full : 0 < length set.items = grind (arith, nat_tests, c.if-not-is_empty.ensures, set.ok.0) in
    let there : (get_or sets k set).items ≡ set.items = ap (λ xs. (get_or xs k set).items) (sym same) ∙ ap (λ (v : Vec ℕ Global). v.items) (sym c.set-item.is) in
    let above : (q : ℕ) → q < k → get_or (map (λ (v : Vec ℕ Global). v.items) sets) q [] ≡ [] =
    λ q less. set_at sets q set (omega (arith, less, lt)) ∙ ap (λ xs. (get_or xs q set).items) (sym same) ∙ c.loop-region.invariant q set less in
    let wrong : IsWrongSet (numbers c.args.draft.now) (content c.args.draft.now) c.set_line.result = record {
      region = k;
      first = record {
        within = omega (arith, count, lt);
        breach = λ none. let empty = ap length (sym there ∙ sym (set_at sets k set lt) ∙ none) in omega (arith, empty, full);
        before = above;
      };
      line = c.set_line.ensures;
    } in
    wrong
