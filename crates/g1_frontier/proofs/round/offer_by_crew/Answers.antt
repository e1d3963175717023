use Rattle.std.proofs.Common.{◌∙◌, ◌≤◌, ◌^◌, length, ℕ, List, Vec, Global, ap, sym, subst, map, IsPermutation, All}
use Rattle.std.specs.List.{flat_map}
use Rattle.std.proofs.lemmas.List.Folds.{flat_map-map}
use Rattle.g1_frontier.specs.Numbers.{BeginsIn}
use Rattle.g1_claim.specs.declared.rule.Offer.{Offer}
use Rattle.g1_frontier.specs.Items.{all_pairs, items_of}
use Rattle.g1_claim.specs.Claims.{IsSettled}
use Rattle.g1_frontier.specs.Round.{winners}
use Rattle.g1_frontier.proofs.Claimed.{lists_rise, all_begin, adds, merged_from, merged_few, round_won}
use Rattle.g1_frontier.specs.Scope.{place_in, all_pairs_in}
use Rattle.g1_words.proofs.Lists.{all_from_in}
use Rattle.g1_frontier.proofs.round.offer_by_crew.Goals as goal

pub by_rank-requires-clause-rise : goal.by_rank-requires-clause-rise
by_rank-requires-clause-rise g c = lists_rise c.in_ok-seat.kept.lists.items c.in_ok-seat.ensures.ok.rise

pub by_rank-requires-clause-spans : goal.by_rank-requires-clause-spans
by_rank-requires-clause-spans g c = c.in_ok-seat.ensures.spans

pub look_again-requires-clause-inside : goal.look_again-requires-clause-inside
look_again-requires-clause-inside g c κs within =
    let h = c.args.scope.now.heap.now in
    let window : List ℕ = c.args.scope.now.window.now in
    let ps : List (ℕ × ℕ) = all_pairs h window (items_of c.args.sought) in
    let lists = map (λ (v : Vec (ℕ × ℕ) Global). v.items) c.in_ok-seat.kept.lists.items in
    let perm : IsPermutation (flat_map (λ (l : List (ℕ × ℕ)). l) lists) c.in_ok-kept.kept.items =
    subst (λ l. IsPermutation l c.in_ok-kept.kept.items) (sym (flat_map-map (λ (l : List (ℕ × ℕ)). l) (λ (v : Vec (ℕ × ℕ) Global). v.items) c.in_ok-seat.kept.lists.items)) c.in_ok-kept.ensures.same in
    subst (All (λ q. BeginsIn h window q.1)) (sym c.as_slice.ensures.value)
    (all_from_in (λ q. BeginsIn h window q.1) c.in_ok-kept.kept.items
    (λ q i. all_begin h window (items_of c.args.sought) q c.requires.places.scope.valid c.requires.items (merged_from c.args.claims.now (place_in c.args.scope.now) ps c.args.seat c.in_ok-seat.seat lists
    c.in_ok-seat.ensures.ok c.in_ok-kept.kept.items perm q i)))

pub returns-clause-ok : goal.returns-clause-ok
returns-clause-ok g c =
    let ps : List (ℕ × ℕ) = all_pairs_in c.args.scope.now (items_of c.args.sought) in
    let lists = map (λ (v : Vec (ℕ × ℕ) Global). v.items) c.in_ok-seat.kept.lists.items in
    let perm : IsPermutation (flat_map (λ (l : List (ℕ × ℕ)). l) lists) c.in_ok-kept.kept.items =
    subst (λ l. IsPermutation l c.in_ok-kept.kept.items) (sym (flat_map-map (λ (l : List (ℕ × ℕ)). l) (λ (v : Vec (ℕ × ℕ) Global). v.items) c.in_ok-seat.kept.lists.items)) c.in_ok-kept.ensures.same in
    let same = c.in_ok-seat-2.ensures.seat.2 in record {
      table = c.in_ok-seat-2.ensures.seat.0;
      whole = c.in_ok-seat-2.ensures.seat.1;
      offers = adds c.args.claims.now (place_in c.args.scope.now) ps c.args.seat c.in_ok-seat.seat lists c.in_ok-seat.ensures.ok c.in_ok-seat-2.seat.hand.offers same;
      won = c.in_ok-seat-2.ensures.won
          ∙ ap (winners (place_in c.args.scope.now) c.in_ok-seat.seat.hand.offers) c.as_slice.ensures.value
          ∙ round_won c.args.claims.now (place_in c.args.scope.now) ps c.args.seat c.in_ok-seat.seat lists c.in_ok-seat.ensures.ok c.in_ok-kept.kept.items perm
          c.requires.rise c.requires.above c.in_ok-kept.ensures.in_order
          ∙ ap (λ (os : List Offer). winners (place_in c.args.scope.now) os ps) (sym same);
      settled = subst IsSettled (sym same) c.in_ok-seat.ensures.ok.settled;
    }

pub look_again-requires-clause-few : goal.look_again-requires-clause-few
look_again-requires-clause-few g c κs within =
    let ps : List (ℕ × ℕ) = all_pairs_in c.args.scope.now (items_of c.args.sought) in
    let lists = map (λ (v : Vec (ℕ × ℕ) Global). v.items) c.in_ok-seat.kept.lists.items in
    let perm : IsPermutation (flat_map (λ (l : List (ℕ × ℕ)). l) lists) c.in_ok-kept.kept.items =
    subst (λ l. IsPermutation l c.in_ok-kept.kept.items) (sym (flat_map-map (λ (l : List (ℕ × ℕ)). l) (λ (v : Vec (ℕ × ℕ) Global). v.items) c.in_ok-seat.kept.lists.items)) c.in_ok-kept.ensures.same in
    subst (λ l. length l ≤ 2 ^ 32) (sym c.as_slice.ensures.value)
    (merged_few c.args.claims.now (place_in c.args.scope.now) ps c.args.seat c.in_ok-seat.seat lists c.in_ok-seat.ensures.ok c.in_ok-kept.kept.items perm
    c.requires.rise c.requires.ranks c.in_ok-kept.ensures.in_order)

pub look_again-requires-clause-seat : goal.look_again-requires-clause-seat
look_again-requires-clause-seat g c κs within = (c.in_ok-seat.ensures.ok.seat, c.in_ok-seat.ensures.ok.whole)
