use Rattle.std.proofs.Common.{◌≡◌, ◌<◌, ◌++◌, [], ◌∙◌, List, ℕ, length, get_or, map, arith, ap, sym, length-set}
use Rattle.std.specs.Prelude.{slice_index_or}
use Rattle.std.proofs.lemmas.List.{get_or-map, length-map, map-set}
use Rattle.g1_copy.proofs.LinkingParts.{appended_done, appended_rest}
use Rattle.g1_copy.proofs.copied_cards.append_each.Goals as goal

pub loop-r-preserved : goal.loop-r-preserved
loop-r-preserved c =
    let r = c.loop-r.r in
    let old : List (List ℕ) = map (λ s. s.items) c.loop-r.lists in
    let initial : List (List ℕ) = map (λ s. s.items) c.args.lists.now in
    let more : List (List ℕ) = map (λ s. s.items) c.args.more.now in
    let long : c.loop-r.r < length c.loop-r.lists = omega (arith, c.loop-r-test.true, c.loop-r.invariant.same, c.requires.same) in
    let lt : c.loop-r.r < length (map (λ s. s.items) c.loop-r.lists) = omega (arith, long, length-map c.loop-r.lists (λ s. s.items)) in
    let here : (slice_index_or c.loop-r.lists c.loop-r.r c.index-lists-r.result).items ≡ get_or (map (λ s. s.items) c.loop-r.lists) c.loop-r.r [] =
    sym (get_or-map (λ s. s.items) c.loop-r.lists r c.index-lists-r.result [] long) in
    let there : c.deref.result.now ≡ get_or (map (λ s. s.items) c.args.more.now) c.loop-r.r [] =
    c.deref.ensures.value ∙ ap (λ v. v.items) c.index-more-r.is ∙ sym (get_or-map (λ s. s.items) c.args.more.now r c.index-more-r.result [] c.loop-r-test.true) in
    let was : c.index-lists-r.result.items ≡ (slice_index_or c.loop-r.lists c.loop-r.r c.index-lists-r.result).items = ap (λ v. v.items) c.index-lists-r.is in
    let pushed = c.in_ok-extend_from_slice.ensures.items in
    let item : c.extend_from_slice.new.self.items ≡ get_or (map (λ s. s.items) c.loop-r.lists) c.loop-r.r [] ++ get_or (map (λ s. s.items) c.args.more.now) c.loop-r.r [] = cc in
    let is = map-set (λ s. s.items) c.loop-r.lists r c.extend_from_slice.new.self in
    record {
      same = length-set c.loop-r.lists r c.extend_from_slice.new.self ∙ c.loop-r.invariant.same;
      done = λ k less. ap (λ xs. get_or xs k []) is ∙ appended_done old initial more r c.extend_from_slice.new.self.items lt item c.loop-r.invariant.done c.loop-r.invariant.rest k less;
      rest = λ k le. ap (λ xs. get_or xs k []) is ∙ appended_rest old initial more r c.extend_from_slice.new.self.items lt item c.loop-r.invariant.done c.loop-r.invariant.rest k le;
    }
