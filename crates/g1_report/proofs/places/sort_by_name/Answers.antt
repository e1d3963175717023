use Rattle.std.proofs.Common.{rules, ◌≡◌}
use Rattle.std.specs.Ordering.{nat_cmp}
use Rattle.std.specs.Cmp.Lexicographic.{slice_cmp}
use Rattle.std.proofs.lemmas.List.Sorted.{answers_always}
use Rattle.g1_report.proofs.Sorting.{on_sorted}
use Rattle.g1_report.proofs.places.sort_by_name.Goals as goal

pub returns : goal.returns
returns g c =
    on_sorted _ _ (λ e. e.0) (λ n. n.now) (slice_cmp nat_cmp) c.args.list.now.items c.sort_by_key.new.self.items c.sort_by_key.result
    (answers_always _ (λ a r. r ≡ a.0.now.0) _ (λ f a r f' k. search rules)) c.sort_by_key.ensures.permutation c.sort_by_key.ensures.sorted c.sort_by_key.ensures.stable
