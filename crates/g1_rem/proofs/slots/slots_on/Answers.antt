use Rattle.std.proofs.Common.{arith, ap, sym, subst, refl, ◌≡◌, ◌≢◌, ◌+◌, ◌/◌, ◌*◌, ◌∙◌, length, slice_index_or, ℕ}
use Rattle.std.specs.Prelude.{Some, None}
use Rattle.g1_words.specs.Heap.{Heap, kind, object_at, end}
use Rattle.g1_words.specs.declared.region.Kind.{Kind}
use Rattle.g1_words.specs.declared.region.Kind.TheVariants.{Free, Ordinary, HumongousFirst, Continuation}
use Rattle.g1_words.specs.Valid.{IsValid, Tiles}
use Rattle.g1_words.specs.Walk.{Reaches}
use Rattle.g1_rem.specs.Starts.{IsOver}
use Rattle.g1_rem.proofs.Card.{none_on, over_at, RowOn, ordinary_row_on, alone_row_on}
use Rattle.g1_rem.proofs.slots.slots_on.Goals as goal

pub returns-in-None-clause-items : goal.returns-in-None-clause-items
returns-in-None-clause-items c =
    let h = c.args.heap.now in
    let valid = c.geometry-geometry.ensures.valid in
    let over : IsOver c.args.heap.now (c.args.card * c.args.heap.now.geometry.k) None =
    over_at h (c.args.card * h.geometry.k) (c.args.card * h.geometry.k) (slice_index_or c.args.starts.now c.args.card None) None refl
    (sym c.in-None.ensures) (c.requires.starts.each c.args.card (omega (arith, c.requires.card, c.requires.starts.one_each))) in
    c.new.ensures.items ∙ none_on h valid c.args.card (c.args.card * h.geometry.k) (c.args.card * h.geometry.k + h.geometry.k) refl refl over

-- the slots on a card are in the row from the object over its first word on
ends : (h : Heap) (card lo hi a r x : ℕ) → IsValid h → lo ≡ card * h.geometry.k → hi ≡ lo + h.geometry.k → IsOver h lo (Some a) → r ≡ a / h.geometry.w
    → (kind h r ≡ Ordinary → x ≡ end h r) → (kind h r ≢ Ordinary → x ≡ a + (object_at h a).size) → (k : Kind) → kind h r ≡ k → RowOn h card lo hi a x
ends h card lo hi a r x valid e f over number ordinary alone Ordinary is =
    subst (λ x. RowOn h card lo hi a x) (sym (ordinary is ∙ ap (end h) number))
    (ordinary_row_on h card lo hi a valid e f over (ap (kind h) (sym number) ∙ is))
ends h card lo hi a r x valid e f over number ordinary alone Free is =
    let other : kind h r ≢ Ordinary = λ same. cc in
    subst (λ x. RowOn h card lo hi a x) (sym (alone other)) (alone_row_on h card lo hi a valid e f over (λ same. other (ap (kind h) number ∙ same)))
ends h card lo hi a r x valid e f over number ordinary alone HumongousFirst is =
    let other : kind h r ≢ Ordinary = λ same. cc in
    subst (λ x. RowOn h card lo hi a x) (sym (alone other)) (alone_row_on h card lo hi a valid e f over (λ same. other (ap (kind h) number ∙ same)))
ends h card lo hi a r x valid e f over number ordinary alone Continuation is =
    let other : kind h r ≢ Ordinary = λ same. cc in
    subst (λ x. RowOn h card lo hi a x) (sym (alone other)) (alone_row_on h card lo hi a valid e f over (λ same. other (ap (kind h) number ∙ same)))

row : (c : goal.After-card_words) → RowOn c.args.heap.now c.args.card (c.card_start-lo.result) (c.card_start-lo.result + c.card_words.result) c.from-at.result c.row_end-end.result
row c =
    let h = c.args.heap.now in
    let a : ℕ = c.from-at.result in
    let lo : ℕ = c.card_start-lo.result in
    let valid = c.geometry-geometry.ensures.valid in
    let k2 : c.card_words.result ≡ c.args.heap.now.geometry.k = c.card_words.ensures.value ∙ ap (λ g. g.k) c.geometry-geometry.ensures.same in
    let number : c.region_of-number.result ≡ c.from-at.result / c.args.heap.now.geometry.w = c.region_of-number.ensures ∙ ap (λ g. c.from-at.result / g.w) c.geometry-geometry.ensures.same in
    let e : c.card_start-lo.result ≡ c.args.card * c.args.heap.now.geometry.k = c.card_start-lo.ensures.value ∙ ap (λ g. c.args.card * g.k) c.geometry-geometry.ensures.same in
    let f : c.card_start-lo.result + c.card_words.result ≡ c.card_start-lo.result + c.args.heap.now.geometry.k = ap (λ x. c.card_start-lo.result + x) k2 in
    let same : slice_index_or c.args.starts.now c.args.card None ≡ Some c.from-at.result = sym c.in-Some.ensures ∙ ap (λ x. Some x) (sym c.from-at.ensures) in
    let over : IsOver c.args.heap.now (c.card_start-lo.result) (Some c.from-at.result) =
    over_at h (c.args.card * h.geometry.k) (c.card_start-lo.result) (slice_index_or c.args.starts.now c.args.card None) (Some a) (sym e) same
    (c.requires.starts.each c.args.card (omega (arith, c.requires.card, c.requires.starts.one_each))) in
    ends h c.args.card lo (lo + c.card_words.result) a c.region_of-number.result c.row_end-end.result valid e f over number c.row_end-end.ensures.ordinary c.row_end-end.ensures.alone (kind h c.region_of-number.result) refl

pub slots_between-requires-clause-filled : goal.slots_between-requires-clause-filled
slots_between-requires-clause-filled c =
    subst (λ l. Reaches l c.from-at.result c.row_end-end.result) (sym c.words.ensures.same) (row c).filled

pub slots_between-requires-clause-in_words : goal.slots_between-requires-clause-in_words
slots_between-requires-clause-in_words c = let w = ap length c.words.ensures.same in omega (arith, (row c).in_words, w)

pub returns-in-Some-clause-items : goal.returns-in-Some-clause-items
returns-in-Some-clause-items c =
    let r = row c.before in
    c.slots_between.ensures.items r.filled.0 (subst (λ l. Tiles l c.from-at.result r.filled.0 c.row_end-end.result) (sym c.words.ensures.same) r.filled.1)
    ∙ r.all r.filled.0 r.filled.1

pub slots_between-requires-clause-small : goal.slots_between-requires-clause-small
slots_between-requires-clause-small c =
    let valid = c.geometry-geometry.ensures.valid in
    omega (arith, (row c).in_words, valid.word_count, valid.limits.words_most)
