use Rattle.std.proofs.Common.{◌≡◌, ◌≢◌, ◌<◌, ◌+◌, ◌*◌, ◌∙◌, ℕ, refl, sym, ap, subst}
use Rattle.g1_words.specs.Heap.{Heap, kind, start, end, objects_in, object_at}
use Rattle.g1_words.specs.Kind.{MayHoldCards}
use Rattle.g1_words.specs.Valid.{Tiles, IsValid}
use Rattle.g1_words.specs.declared.region.Kind.{Kind}
use Rattle.g1_words.specs.declared.region.Kind.TheVariants.{Free, Ordinary, HumongousFirst, Continuation}
use Rattle.g1_rem.proofs.Filled.{ordinary_fills, humongous_fills}
use Rattle.g1_rem.proofs.rows.objects_end.Goals as goal

-- the objects of a region that may hold cards end where the row from its start on ends
ended : (h : Heap) (r : ℕ) → IsValid h → r < h.geometry.n → (k : Kind) → kind h r ≡ k → MayHoldCards k → (x : ℕ)
    → (kind h r ≡ Ordinary → x ≡ end h r) → (kind h r ≢ Ordinary → x ≡ start h r + (object_at h (start h r)).size) → Tiles h.words (start h r) (objects_in h r) x
ended h r valid there Ordinary is holds x ordinary alone = subst (λ x. Tiles h.words (start h r) (objects_in h r) x) (sym (ordinary is)) (ordinary_fills h r valid there is)
ended h r valid there HumongousFirst is holds x ordinary alone =
    let other : kind h r ≢ Ordinary = λ same. cc in
    subst (λ x. Tiles h.words (start h r) (objects_in h r) x) (sym (alone other)) (humongous_fills h r valid there is)
ended h r valid there Free is holds x ordinary alone = absurd holds
ended h r valid there Continuation is holds x ordinary alone = absurd holds

pub returns-then-may_hold_cards : goal.returns-then-may_hold_cards
returns-then-may_hold_cards c =
    let h = c.args.heap.now in
    let r = c.args.region in
    let begin : c.start-start.result ≡ start h r = c.start-start.ensures.value ∙ ap (λ g. c.args.region * g.w) c.geometry.ensures.same in
    ended h r c.geometry.ensures.valid c.requires (kind h r) refl (subst (λ q. MayHoldCards q.kind) c.region.ensures (c.may_hold_cards.ensures.0 c.if-may_hold_cards.true)) c.row_end.result c.row_end.ensures.ordinary (subst (λ a. kind h r ≢ Ordinary → c.row_end.result ≡ a + (object_at h a).size) begin c.row_end.ensures.alone)
