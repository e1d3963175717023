use Rattle.std.proofs.Common.{◌≡◌, ◌<◌, ◌∙◌, ℕ, List, Vec, Global, ap, sym, subst, map, All, AllPairs, IsPermutation, ◌++◌}
use Rattle.std.specs.List.Sorted.{IsSortedBy}
use Rattle.std.specs.Ordering.{partial_lt}
use Rattle.itertools.specs.KMerge.{joined_lists}
use Rattle.std.specs.Vec.Iter.{into_iter_items}
use Rattle.g1_frontier.proofs.Merges.{pair_cmp, pairs_ordered, risen_from_sorted, drained, sources, all_given, all_sorted}
use Rattle.g1_frontier.proofs.round.merge.Goals as goal

pub returns-clause-same : goal.returns-clause-same
returns-clause-same c =
    let run = c.in_ok-merged.ensures.runs tt in
    let src = c.in_ok-pairs.ensures.items in
    let listed : src.0.items ≡ c.args.lists.items = (c.into_iter.ensures.runs src.0 src.0.seen).4 src.2 ∙ ap into_iter_items src.1 ∙ c.into_iter.ensures.rest in
    let all = src.3 (map (λ v. v.items) src.0.items) (sources _ (λ v r g. (g.0, g.1)) src.0.items) run.0.items run.0.whole (drained run.0 c.in_ok-pairs.pairs run.1) in
    all_given c.in_ok-merged.merged.items c.args.lists.items run.0.items all.0
    (subst (λ (l : List (Vec (ℕ × ℕ) Global)). IsPermutation (joined_lists (map (λ (v : Vec (ℕ × ℕ) Global). v.items) l)) (run.0.items ++ all.0)) listed all.1) (all.2 run.2) run.3.0

pub returns-clause-in_order : goal.returns-clause-in_order
returns-clause-in_order c =
    let run = c.in_ok-merged.ensures.runs tt in
    let src = c.in_ok-pairs.ensures.in_order in
    let listed : src.0.items ≡ c.args.lists.items = (c.into_iter.ensures.runs src.0 src.0.seen).4 src.2 ∙ ap into_iter_items src.1 ∙ c.into_iter.ensures.rest in
    let sorted = src.3 pairs_ordered (map (λ v. v.items) src.0.items) (sources _ (λ v r g. (g.0, g.1)) src.0.items)
    (all_sorted src.0.items (subst (All (λ (v : Vec (ℕ × ℕ) Global). AllPairs (λ q r. q.0 < r.0) v.items)) (sym listed) c.requires.rise)) run.0.items
    run.0.whole (drained run.0 c.in_ok-pairs.pairs run.1) in
    risen_from_sorted c.in_ok-merged.merged.items (subst (IsSortedBy (partial_lt pair_cmp)) (sym run.3.0) sorted)
