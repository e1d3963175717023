use Rattle.std.proofs.Common.{◌≡◌, ◌<◌, ◌∙◌, ℕ, ap, sym, subst, length, filter, All}
use Rattle.std.proofs.lemmas.Result.{IfOk-weaker}
use Rattle.std.specs.List.{range_with_len}
use Rattle.std.specs.List.Sorted.{IsStrictlyIncreasing}
use Rattle.g1_words.specs.Lists.{has}
use Rattle.g1_rem.specs.Starts.{card_count}
use Rattle.g1_rem.proofs.Dirty.{listed_rising, listed_same, listed_inside}
use Rattle.g1_rem.proofs.refining.dirty_cards.Goals as goal

pub returns-clause-rising : goal.returns-clause-rising
returns-clause-rising c =
    let log = c.args.image.now.log in
    let n = length c.in_ok-dirty.dirty in
    IfOk-weaker c.marked_cards.result (λ v. v.items ≡ filter (has log) (range_with_len 0 n)) (λ v. IsStrictlyIncreasing v.items)
    (λ v e. subst IsStrictlyIncreasing (sym e) (listed_rising log n)) c.marked_cards.ensures

pub returns-clause-same : goal.returns-clause-same
returns-clause-same c =
    let i = c.args.image.now in
    let marks = c.in_ok-dirty.dirty in
    IfOk-weaker c.marked_cards.result (λ v. v.items ≡ filter (has i.log) (range_with_len 0 (length marks))) (λ v. (x : ℕ) → has v.items x ≡ has i.log x)
    (λ v e x. ap (λ l. has l x) e ∙ listed_same i marks x c.in_ok-dirty.ensures) c.marked_cards.ensures

pub returns-clause-inside : goal.returns-clause-inside
returns-clause-inside c =
    let i = c.args.image.now in
    let n = length c.in_ok-dirty.dirty in
    IfOk-weaker c.marked_cards.result (λ v. v.items ≡ filter (has i.log) (range_with_len 0 n)) (λ v. All (λ x. x < card_count i.heap) v.items)
    (λ v e. subst (All (λ x. x < card_count i.heap)) (sym e) (listed_inside i n c.requires)) c.marked_cards.ensures
