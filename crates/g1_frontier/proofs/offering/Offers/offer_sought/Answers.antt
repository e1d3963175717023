use Rattle.std.proofs.Common.{sym, subst, OnOk}
use Rattle.std.specs.List.{All}
use Rattle.g1_frontier.specs.Items.{IsItem, AreRanks, items_of, ArePaired}
use Rattle.g1_frontier.specs.Offering.{HasTried}
use Rattle.g1_frontier.specs.Scope.{place_in, all_pairs_in}
use Rattle.g1_frontier.proofs.offering.Offers.offer_sought.Goals as goal

pub returns-in-Items : goal.returns-in-Items
returns-in-Items c =
    let s = c.args.self.now.scope.now in
    subst (λ x. OnOk c.offer_items.result (HasTried (place_in s) (all_pairs_in s (items_of x)) c.args.holder.now c.offer_items.new.holder)) (sym c.in-Items.is) c.offer_items.ensures

pub returns-in-Objects : goal.returns-in-Objects
returns-in-Objects c =
    let s = c.args.self.now.scope.now in
    subst (λ x. OnOk c.offer_objects.result (HasTried (place_in s) (all_pairs_in s (items_of x)) c.args.holder.now c.offer_objects.new.holder)) (sym c.in-Objects.is) c.offer_objects.ensures

pub offer_items-requires-clause-items : goal.offer_items-requires-clause-items
offer_items-requires-clause-items c = subst (λ x. All (IsItem c.args.self.now.scope.now.heap.now) (items_of x)) c.in-Items.is c.requires.items

pub offer_items-requires-clause-ranks : goal.offer_items-requires-clause-ranks
offer_items-requires-clause-ranks c = subst (λ x. AreRanks (all_pairs_in c.args.self.now.scope.now (items_of x))) c.in-Items.is c.requires.ranks

pub offer_objects-requires-clause-items : goal.offer_objects-requires-clause-items
offer_objects-requires-clause-items c = subst (λ x. All (IsItem c.args.self.now.scope.now.heap.now) (items_of x)) c.in-Objects.is c.requires.items

pub offer_objects-requires-clause-ranks : goal.offer_objects-requires-clause-ranks
offer_objects-requires-clause-ranks c = subst (λ x. AreRanks (all_pairs_in c.args.self.now.scope.now (items_of x))) c.in-Objects.is c.requires.ranks

pub offer_objects-requires-clause-paired : goal.offer_objects-requires-clause-paired
offer_objects-requires-clause-paired c = subst (λ x. ArePaired x) c.in-Objects.is c.requires.paired
