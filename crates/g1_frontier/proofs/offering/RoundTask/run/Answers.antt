use Rattle.std.proofs.Common.{ℕ, List, ◌<◌, ◌*◌, ◌^◌, ◌∙◌, take, drop, sym, subst}
use Rattle.std.specs.List.{All}
use Rattle.std.proofs.lemmas.List.Elements.{All-take, All-drop}
use Rattle.g1_frontier.specs.declared.item.Item.{Item}
use Rattle.g1_frontier.specs.Items.{IsItem, AreRanks, items_of}
use Rattle.g1_frontier.specs.Offering.{HasTried}
use Rattle.g1_frontier.specs.Scope.{place_in, pairs_in, all_pairs_in}
use Rattle.g1_frontier.proofs.Scopes.{Contains-drop, all_some}
use Rattle.g1_words.proofs.Indices.{taken_in}
use Rattle.g1_frontier.proofs.offering.RoundTask.run.Goals as goal

pub offer_sought-requires-clause-items : goal.offer_sought-requires-clause-items
offer_sought-requires-clause-items c =
    let h = c.args.self.now.offers.scope.now.heap.now in
    let xs : List Item = items_of c.args.self.now.sought in
    let size : ℕ = c.args.self.now.chunk in
    let n : ℕ = c.args.chunk * size in
    subst (All (IsItem h)) (sym c.part-sought.ensures.items) (All-take (IsItem h) size (drop n xs) (All-drop (IsItem h) n xs c.requires.2))

pub offer_sought-requires-clause-ranks : goal.offer_sought-requires-clause-ranks
offer_sought-requires-clause-ranks c =
    let s = c.args.self.now.offers.scope.now in
    let xs : List Item = items_of c.args.self.now.sought in
    let size : ℕ = c.args.self.now.chunk in
    let n : ℕ = c.args.chunk * size in
    subst (λ l. AreRanks (all_pairs_in s l)) (sym c.part-sought.ensures.items)
    (all_some (λ q. q.0 < 2 ^ 32) (pairs_in s) xs (take size (drop n xs)) (λ x i. Contains-drop n xs x (taken_in size (drop n xs) x i)) c.requires.4)

pub returns : goal.returns
returns c =
    let s = c.args.self.now.offers.scope.now in
    let tried = c.in_ok-offer_sought.ensures in record {
      ok = (
        subst (λ l. HasTried (place_in s) (all_pairs_in s l) c.args.state.now c.offer_sought.new.holder) c.part-sought.ensures.items tried,
        record { worker = tried.number; from = c.len-from.ensures; to = c.len.ensures },
      );
      err = tt;
      keeps = λ other apart before. (before.0, tried.table ∙ before.1, before.2, before.3, before.4, before.5, before.6, before.7, before.8);
    }
