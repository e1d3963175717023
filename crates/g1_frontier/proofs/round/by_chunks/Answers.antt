use Rattle.std.proofs.Common.{◌≡◌, ◌++◌, ◌∙◌, ℕ, List, Vec, Global, sym, subst, map, IsPermutation}
use Rattle.std.specs.List.{flat_map}
use Rattle.std.proofs.lemmas.List.Folds.{flat_map-map}
use Rattle.g1_frontier.specs.Offering.{in_span}
use Rattle.g1_frontier.specs.Round.{IsByRank}
use Rattle.g1_frontier.proofs.round.by_chunks.Goals as goal

pub returns-clause-same : goal.returns-clause-same
returns-clause-same c =
    let lists = c.args.kept.lists.items in
    let rooms : List (List (ℕ × ℕ)) = map (λ (v : Vec (ℕ × ℕ) Global). v.items) lists in
    let spans = c.args.kept.spans.items in
    let all : c.push_spans.new.kept.items ≡ flat_map (in_span rooms) spans =
    c.in_ok-push_spans.ensures ∙ (λ i. c.empty_room-all.ensures i ++ flat_map (in_span (map (λ (v : Vec (ℕ × ℕ) Global). v.items) (c.as_slice.ensures.value i))) (c.as_slice-2.ensures.value i)) in
    subst (IsPermutation (flat_map (λ (v : Vec (ℕ × ℕ) Global). v.items) lists)) (sym all)
    (subst (λ l. IsPermutation l (flat_map (in_span rooms) spans)) (flat_map-map (λ (l : List (ℕ × ℕ)). l) (λ (v : Vec (ℕ × ℕ) Global). v.items) lists) c.requires.spans.same)

pub returns-clause-in_order : goal.returns-clause-in_order
returns-clause-in_order c =
    let rooms : List (List (ℕ × ℕ)) = map (λ (v : Vec (ℕ × ℕ) Global). v.items) c.args.kept.lists.items in
    let all : c.push_spans.new.kept.items ≡ flat_map (in_span rooms) c.args.kept.spans.items =
    c.in_ok-push_spans.ensures ∙ (λ i. c.empty_room-all.ensures i ++ flat_map (in_span (map (λ (v : Vec (ℕ × ℕ) Global). v.items) (c.as_slice.ensures.value i))) (c.as_slice-2.ensures.value i)) in
    subst IsByRank (sym all) c.requires.spans.in_order
