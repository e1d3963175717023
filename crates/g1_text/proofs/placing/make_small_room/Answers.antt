use Rattle.std.proofs.Common.{◌≡◌, ◌<◌, ◌≤◌, ◌+◌, ◌*◌, ◌++◌, [], ◌∷◌, false, length, length-append, sym, ◌∙◌, ap, subst, arith}
use Rattle.std.specs.Prelude.{All}
use Rattle.g1_words.specs.declared.object.Object.{Object}
use Rattle.g1_words.specs.declared.region.Region.{Region}
use Rattle.g1_words.specs.declared.region.Kind.TheVariants.{Ordinary}
use Rattle.g1_text.specs.Content.{Content}
use Rattle.g1_text.specs.Drafts.{content}
use Rattle.g1_text.specs.Laid.{AreLaid, laid_content}
use Rattle.g1_text.proofs.Laying.{laid_empty}
use Rattle.g1_text.proofs.Rooms.{on_ok_true, if_err_false, small_address, space_taken, room_taken, small_taken, last_top}
use Rattle.g1_text.proofs.placing.make_small_room.Goals as goal

pub returns-then-is_ok : goal.returns-then-is_ok
returns-then-is_ok c = λ g os refs bounds laid small.
    let s = content c.args.draft.now in
    let few : length s.regions ≤ c.args.draft.now.geometry.n = subst (λ (x : Content). length x.regions ≤ x.geometry.n) (sym laid.2) laid.1.count in
    let takes = on_ok_true c.take_room.result (sym c.is_ok.ensures.value ∙ c.if-is_ok.true) (c.take_room.ensures.taken few (subst (λ (x : Content). All (λ q. q.top ≤ x.geometry.w) x.regions) (sym laid.2) laid.1.tops)) in
    let below = takes.0 in
    let q = takes.1 in
    let e : s ≡ laid_content g (below ++ q ∷ []) 0 = laid.2 ∙ ap (λ rs. laid_content g rs 0) (sym (ap (λ (x : Content). x.regions) laid.2) ∙ takes.2) in
    let there : AreLaid g (below ++ q ∷ []) 0 os = subst (λ rs. AreLaid g rs 0 os) (sym (ap (λ (x : Content). x.regions) laid.2) ∙ takes.2) laid.1 in
    let width : c.args.draft.now.geometry.w ≡ g.w = ap (λ (x : Content). x.geometry.w) e in
    let number : c.args.draft.now.geometry.n ≡ g.n = ap (λ (x : Content). x.geometry.n) e in
    let count = length-append below (q ∷ []) in
    let lt : length below < g.n = omega (arith, count, there.count) in
    let top = last_top g below q os there in
    let at = c.next_address-at.ensures below q takes.2 (omega (arith, lt, number)) (omega (arith, top, width)) ∙ ap (λ w. length below * w + q.top) width in
    let o : Object = record { at = c.next_address-at.result; size = c.args.size; refs = refs } in (
      small_address g (length below) q.top c.next_address-at.result bounds lt top at,
      small_taken g os below q o (content c.take_room.new.self) there small at (space_taken g below q c.args.size s (content c.take_room.new.self) e takes) (room_taken g below q c.args.size s (content c.take_room.new.self) e takes),
    )

pub returns : goal.returns
returns c = λ g os refs bounds laid small.
    let s = content c.args.draft.now in
    let q : Region = record { kind = Ordinary; top = 0; pinned = false } in
    let same = if_err_false c.take_room.result (sym c.is_ok.ensures.value ∙ c.if-is_ok.false) c.take_room.ensures.kept ∙ laid.2 in
    let rs = laid.0 in
    let begun = c.in_ok-begin_region.ensures in
    let d = content c.begin_region.new.draft in
    let e : d ≡ laid_content g (rs ++ q ∷ []) 0 = begun.1 ∙ (λ i. record (same i) { regions = (same i).regions ++ q ∷ [] }) in
    let lt : length rs < g.n = subst (λ (x : Content). length x.regions < x.geometry.n) same begun.0 in
    let there : AreLaid g (rs ++ q ∷ []) 0 os = laid_empty g os rs Ordinary laid.1 lt (omega arith) in
    let width = ap (λ (x : Content). x.geometry.w) e in
    let number = ap (λ (x : Content). x.geometry.n) e in
    let at = c.next_address-at-2.ensures rs q (ap (λ (x : Content). x.regions) e) (omega (arith, lt, number)) (omega arith) ∙ ap (λ w. length rs * w + 0) width in
    let count = ap (λ (x : Content). length x.regions) e ∙ length-append rs (q ∷ []) in
    let takes = c.in_ok-take_room.ensures.taken (omega (arith, count, lt, number)) (subst (λ (x : Content). All (λ q. q.top ≤ x.geometry.w) x.regions) (sym e) there.tops) in
    let o : Object = record { at = c.next_address-at-2.result; size = c.args.size; refs = refs } in
    let after = content c.take_room-2.new.self in (
      small_address g (length rs) 0 c.next_address-at-2.result bounds lt (omega arith) at,
      small_taken g os rs q o after there small at (space_taken g rs q c.args.size d after e takes) (room_taken g rs q c.args.size d after e takes),
    )
