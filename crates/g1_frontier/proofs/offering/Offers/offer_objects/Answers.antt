use Rattle.std.proofs.Common.{ℕ, List, ◌-◌, ◌<◌, ◌^◌, ◌∙◌, take, drop, sym, arith, subst, Contains}
use Rattle.std.proofs.lemmas.List.Elements.{All-take, All-drop}
use Rattle.std.proofs.lemmas.List.{take_all}
use Rattle.std.specs.List.{All}
use Rattle.g1_words.specs.Heap.{objects, object_at}
use Rattle.g1_words.proofs.Indices.{taken_in}
use Rattle.g1_frontier.specs.declared.item.Item.{Item}
use Rattle.g1_frontier.specs.Items.{IsItem, AreRanks, items_at}
use Rattle.g1_frontier.specs.Offering.{HasTried}
use Rattle.g1_frontier.specs.Scope.{place_in, pairs_in, all_pairs_in}
use Rattle.g1_frontier.proofs.Offerings.{tried_none, tried_next}
use Rattle.g1_frontier.proofs.Scopes.{Contains-drop, all_some}
use Rattle.g1_frontier.proofs.Soughts.{items_length, items_objects, items_part, paired_part}
use Rattle.g1_frontier.proofs.offering.Offers.offer_objects.Goals as goal

pub loop-from-init : goal.loop-from-init
loop-from-init c = record { tried = tried_none (place_in c.args.self.now.scope.now) c.args.holder.now; within = omega arith }

pub read_headers-requires : goal.read_headers-requires
read_headers-requires c =
    let h = c.args.self.now.scope.now.heap.now in
    let named : ℕ → Type 0 = λ a. Contains (objects h) (object_at h a) in
    All-take named (c.min-to.result - c.loop-from.from) (drop c.loop-from.from c.args.addresses.now)
    (All-drop named c.loop-from.from c.args.addresses.now (items_objects h c.args.addresses.now c.args.bases.now c.requires.paired c.requires.items))

pub offer_headers-requires-clause-places : goal.offer_headers-requires-clause-places
offer_headers-requires-clause-places c = c.requires.places

pub offer_headers-requires-clause-seat : goal.offer_headers-requires-clause-seat
offer_headers-requires-clause-seat c = c.loop-from.invariant.tried.table ∙ c.requires.seat

pub offer_headers-requires-clause-items : goal.offer_headers-requires-clause-items
offer_headers-requires-clause-items c =
    let h = c.args.self.now.scope.now.heap.now in
    let xs : List Item = items_at c.args.addresses.now c.args.bases.now in
    let n : ℕ = c.min-to.result - c.loop-from.from in
    subst (All (IsItem h)) (sym (items_part n c.loop-from.from c.args.addresses.now c.args.bases.now))
    (All-take (IsItem h) n (drop c.loop-from.from xs) (All-drop (IsItem h) c.loop-from.from xs c.requires.items))

pub offer_headers-requires-clause-ahead : goal.offer_headers-requires-clause-ahead
offer_headers-requires-clause-ahead c = c.as_slice.ensures.value ∙ c.in_ok-read_headers.ensures

pub offer_headers-requires-clause-paired : goal.offer_headers-requires-clause-paired
offer_headers-requires-clause-paired c = paired_part (c.min-to.result - c.loop-from.from) c.loop-from.from c.args.addresses.now c.args.bases.now c.requires.paired

pub offer_headers-requires-clause-ranks : goal.offer_headers-requires-clause-ranks
offer_headers-requires-clause-ranks c =
    let s = c.args.self.now.scope.now in
    let xs : List Item = items_at c.args.addresses.now c.args.bases.now in
    let n : ℕ = c.min-to.result - c.loop-from.from in
    subst (λ l. AreRanks (all_pairs_in s l)) (sym (items_part n c.loop-from.from c.args.addresses.now c.args.bases.now))
    (all_some (λ q. q.0 < 2 ^ 32) (pairs_in s) xs (take n (drop c.loop-from.from xs)) (λ x i. Contains-drop c.loop-from.from xs x (taken_in n (drop c.loop-from.from xs) x i)) c.requires.ranks)

pub loop-from-preserved : goal.loop-from-preserved
loop-from-preserved c =
    let s = c.args.self.now.scope.now in
    let inv = c.loop-from.invariant in
    let n : ℕ = c.min-to.result - c.loop-from.from in record {
      tried = tried_next (place_in s) (pairs_in s) (items_at c.args.addresses.now c.args.bases.now) c.loop-from.from c.min-to.result (omega (arith, c.min-to.ensures, inv.within))
          c.args.holder.now c.loop-from.holder c.offer_headers.new.holder inv.tried
          (subst (λ l. HasTried (place_in s) (all_pairs_in s l) c.loop-from.holder c.offer_headers.new.holder) (items_part n c.loop-from.from c.args.addresses.now c.args.bases.now) c.in_ok-offer_headers.ensures);
      within = omega (arith, c.min-to.ensures);
    }

pub loop-from-smaller : goal.loop-from-smaller
loop-from-smaller c = omega (arith, c.min-to.ensures, c.loop-from-test.true)

pub returns : goal.returns
returns c =
    let s = c.args.self.now.scope.now in
    let xs : List Item = items_at c.args.addresses.now c.args.bases.now in
    let long = items_length c.args.addresses.now c.args.bases.now c.requires.paired in
    subst (λ l. HasTried (place_in s) (all_pairs_in s l) c.args.holder.now c.loop-from.holder) (take_all c.loop-from.from xs (omega (arith, long, c.loop-from-test.false))) c.loop-from.invariant.tried
