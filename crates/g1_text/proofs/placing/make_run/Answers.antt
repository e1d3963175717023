use Rattle.std.proofs.Common.{◌≡◌, ◌<◌, ◌≤◌, ◌+◌, ◌-◌, ◌*◌, ◌++◌, [], ◌∷◌, false, length, length-append, min, sym, ◌∙◌, ap, subst, arith}
use Rattle.std.specs.Prelude.{All}
use Rattle.std.proofs.lemmas.List.Elements.{All-push}
use Rattle.g1_words.specs.declared.object.Object.{Object}
use Rattle.g1_words.specs.declared.region.Region.{Region}
use Rattle.g1_words.specs.declared.region.Kind.TheVariants.{HumongousFirst}
use Rattle.g1_text.specs.Content.{Content}
use Rattle.g1_text.specs.Drafts.{content}
use Rattle.g1_text.specs.Laid.{AreLaid, laid_content}
use Rattle.g1_text.proofs.Laying.{laid_run}
use Rattle.g1_text.proofs.Rooms.{small_address, space_taken, room_taken}
use Rattle.g1_text.proofs.placing.make_run.Goals as goal

pub returns : goal.returns
returns c = λ g os refs bounds laid large.
    let q : Region = record { kind = HumongousFirst; top = 0; pinned = false } in
    let rs = laid.0 in
    let begun = c.in_ok-begin_region.ensures in
    let d = content c.begin_region.new.draft in
    let e : d ≡ laid_content g (rs ++ q ∷ []) 0 = begun.1 ∙ (λ i. record (laid.2 i) { regions = (laid.2 i).regions ++ q ∷ [] }) in
    let lt : length rs < g.n = subst (λ (x : Content). length x.regions < x.geometry.n) laid.2 begun.0 in
    let width = ap (λ (x : Content). x.geometry.w) e in
    let number = ap (λ (x : Content). x.geometry.n) e in
    let at : c.next_address-at.result ≡ length rs * g.w + 0 = c.next_address-at.ensures rs q (ap (λ (x : Content). x.regions) e) (omega (arith, lt, number)) (omega arith) ∙ ap (λ w. length rs * w + 0) width in
    let count = ap (λ (x : Content). length x.regions) e ∙ length-append rs (q ∷ []) in
    let takes = c.in_ok-take_room.ensures.taken (omega (arith, count, lt, number)) (subst (λ (x : Content). All (λ q. q.top ≤ x.geometry.w) x.regions) (sym e) (All-push (λ (x : Region). x.top ≤ g.w) rs q laid.1.tops (omega arith))) in
    let o : Object = record { at = c.next_address-at.result; size = c.args.size; refs = refs } in
    let after = content c.take_room.new.self in
    let space = space_taken g rs q c.args.size d after e takes in
    let there : AreLaid g (rs ++ record q { top = min g.w c.args.size } ∷ []) (c.args.size - g.w) (os ++ o ∷ []) = laid_run g os rs o laid.1 lt (omega (arith, at)) space.2 in (
      small_address g (length rs) 0 c.next_address-at.result bounds lt (omega arith) at,
      c.in_ok-close_run.ensures.laid g (os ++ o ∷ []) (rs ++ record q { top = min g.w c.args.size } ∷ []) (c.args.size - g.w) bounds there (room_taken g rs q c.args.size d after e takes),
    )
