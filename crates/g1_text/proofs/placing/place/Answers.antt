use Rattle.std.proofs.Common.{◌≡◌, false, true, not, [], ◌++◌, length, map, replicate, sym, ◌∙◌, ap, subst, arith}
use Rattle.std.specs.Prelude.{All}
use Rattle.std.proofs.lemmas.List.{length-replicate}
use Rattle.std.proofs.lemmas.List.Elements.{All-nil, All-replicate}
use Rattle.g1_text.specs.Drafts.{content}
use Rattle.g1_text.specs.Laid.{is_large, placed, IsLaid, IsAddress, ArePassed}
use Rattle.g1_text.proofs.Laying.{laid_none}
use Rattle.g1_text.proofs.Rooms.{both_passed}
use Rattle.g1_text.proofs.placing.place.Goals as goal

pub place_each-requires : goal.place_each-requires
place_each-requires c =
    let n = length c.args.entries.now in
    ap length (c.in_ok-add_zeros.ensures ∙ ap (λ l. l ++ replicate n 0) c.new-addresses.ensures.items) ∙ length-replicate n 0

pub returns : goal.returns
returns c = λ g bounds begun.
    let entries = c.args.entries.now in
    let none = c.new.ensures.items in
    let ats = c.add_zeros.new.content.items in
    let made : ats ≡ replicate (length entries) 0 = c.in_ok-add_zeros.ensures ∙ ap (λ l. l ++ replicate (length entries) 0) c.new-addresses.ensures.items in
    let zeros : All IsAddress ats = subst (All IsAddress) (sym made) (All-replicate IsAddress (length entries) 0 (omega arith)) in
    let nothing : All (λ k. is_large g entries k ≡ not false) c.new.result.items = subst (All (λ k. is_large g entries k ≡ not false)) (sym none) (All-nil (λ k. is_large g entries k ≡ not false)) in
    let empty : IsLaid g (map (placed entries ats) c.new.result.items) (content c.args.draft.now) = subst (λ l. IsLaid g (map (placed entries ats) l) (content c.args.draft.now)) (sym none) ([], laid_none g, begun) in
    let first = c.in_ok-place_each.ensures.passed g bounds nothing zeros empty in
    let order = c.place_each.new.places.order.items in
    let passed : ArePassed g entries false (length entries) [] order = subst (λ l. ArePassed g entries false (length entries) l order) none first.0 in
    let others : All (λ k. is_large g entries k ≡ not true) order = subst (All (λ k. is_large g entries k ≡ not true)) (sym passed.order) (λ k d lt. (passed.places k d lt).1) in
    let second = c.in_ok-place_each-2.ensures.passed g bounds others first.1 first.2 in
    record {
      bounds = bounds;
      count = c.in_ok-place_each-2.ensures.count;
      small = second.1;
      ordered = both_passed g entries order c.place_each-2.new.places.order.items passed second.0;
      laid = c.in_ok-close.ensures.laid g (map (placed entries c.place_each-2.new.places.addresses.items) c.place_each-2.new.places.order.items) second.2;
    }
